-- What is kept of each variable, an access at a time.
use Rattle.shb_stamps.proofs.Words.{AreOpen, AreScreened, Event, IsScreened, Latest, cases_eq, common_steps, get_or-map, is_unknown, length-set, set, variable_at}
use Rattle.std.proofs.Common.{◌≡◌, ◌≢◌, ℕ, ◌+◌, ◌<◌, ◌⊎◌, inl, inr, Bool, true, List, Some, length, get_or, arith, ap, sym, ◌∙◌, get_or-set_same, get_or-set_other}
use Rattle.std.specs.Prelude.{map}
use Rattle.shb_stamps.proofs.Screening.{screened_later}

pub table_other : (trace : List Event) (n size : ℕ) (table : List Latest) → ((x : ℕ) → variable_at trace n ≢ Some x) → AreScreened trace n size table → AreScreened trace (n + 1) size table
table_other trace n size table other h = grind (arith, common_steps, screened_later)

pub table_access : (trace : List Event) (n size x : ℕ) (next : Latest) (table : List Latest) → x < size → variable_at trace n ≡ Some x → IsScreened trace x (n + 1) next → AreScreened trace n size table → AreScreened trace (n + 1) size (set table x next)
table_access trace n size x next table within access screened h = record {
  as_many = length-set table x next ∙ h.as_many;
  each = λ y d lt. go y d lt (cases_eq y x);
}
  where
    go : (y : ℕ) (d : Latest) → y < size → (y ≡ x) ⊎ (y ≢ x) → IsScreened trace y (n + 1) (get_or (set table x next) y d)
    go y d lt (inl e) = rw e (rw (get_or-set_same table x next d (let long = h.as_many in omega (arith, long, within))) screened)
    go y d lt (inr ne) = rw (get_or-set_other table x y next d ne) (screened_later trace y n (get_or table y d) (λ of_n. ne (let s : Some y ≡ Some x = sym of_n ∙ access in cc)) (h.each y d lt))

-- the flags
pub flags_open : (trace : List Event) (size : ℕ) (table : List Latest) (flags : List Bool) → ((k x : ℕ) → variable_at trace k ≡ Some x → (k < length trace) × (x < size)) → flags ≡ map (λ (latest : Latest). is_unknown latest.write) table → AreScreened trace (length trace) size table → AreOpen trace flags
flags_open trace size table flags within is h x shut i j of_j race =
    let range = within j x of_j in
    let d : Latest = record { write = record { time = 0; thread = 0 }; read = record { time = 0; thread = 0 } } in
    let flag = ap (λ (bs : List Bool). get_or bs x true) is ∙ get_or-map (λ (latest : Latest). is_unknown latest.write) table x d true (let long = h.as_many in let low = range.1 in omega (arith, long, low)) in
    (h.each x d range.1 (sym flag ∙ shut)).free i j range.0 of_j race
