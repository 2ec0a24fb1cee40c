-- Accesses of a variable, and who makes them, an event at a time.
use Rattle.shb_links.proofs.Words.{AreOwners, Event, HasShared, IsOpWithin, IsOwner, IsShared, IsSole, IsWithin, Op, Owner, Sizes, cases_eq, cases_lt, common_steps, get_or-map, get_or_past, is_several, length-map, length-set, op_at, op_is, set, slice_get_within, thread_at, variable_of}
use Rattle.std.proofs.Common.{◌≡◌, ◌≢◌, ℕ, ◌+◌, ◌<◌, ◌≤◌, ◌⊎◌, inl, inr, Bool, true, false, List, Option, Some, None, length, get_or, refl, arith, subst, ap, sym, ◌∙◌, get_or-set_same, get_or-set_other}
use Rattle.std.specs.Prelude.{◌↔◌, IsTrue, map, option_and_then}
use Rattle.shb_lines.specs.events.Race.{variable_at}
use Rattle.shb_lines.proofs.events.Reach.{event_at_access}
use Rattle.shb_links.specs.declared.sharing.Owner.TheVariants.{Nobody, One, Several}

-- the variable of an event whose operation is known
pub variable_known : (trace : List Event) (k : ℕ) (op : Op) → op_at trace k ≡ Some op → variable_at trace k ≡ variable_of op
variable_known trace k op does = ap (λ (o : Option _). option_and_then variable_of o) does

pub apart : (x : ℕ) → Some x ≡ None → ⊥
apart x h = let f : ⊥ = cc in f

-- an access and its variable are in range
sized : (sizes : Sizes) (op : Op) (x : ℕ) → IsOpWithin sizes op → variable_of op ≡ Some x → x < sizes.variables
sized sizes op x h also = grind (arith, common_steps)

pub variable_sized : (trace : List Event) (sizes : Sizes) (k x : ℕ) → IsWithin trace sizes → variable_at trace k ≡ Some x → (k < length trace) × (x < sizes.variables)
variable_sized trace sizes k x within access = grind (arith, common_steps, event_at_access, slice_get_within, sized, variable_known, op_is)

-- one event more, which doesn't access x
sole_more : (trace : List Event) (x n t : ℕ) → (variable_at trace n ≡ Some x → thread_at trace n ≡ Some t) → IsSole trace x n t → IsSole trace x (n + 1) t
sole_more trace x n t own is = grind (arith, common_steps, cases_lt)

owner_other : (trace : List Event) (x n : ℕ) (owner : Owner) → variable_at trace n ≢ Some x → IsOwner trace x n owner → IsOwner trace x (n + 1) owner
owner_other trace x n owner h also = grind (arith, common_steps, cases_lt, sole_more)

pub owners_access : (trace : List Event) (n size x : ℕ) (owner : Owner) (owners : List Owner) → x < size → variable_at trace n ≡ Some x → IsOwner trace x (n + 1) owner → AreOwners trace n size owners → AreOwners trace (n + 1) size (set owners x owner)
owners_access trace n size x owner owners within access is h = record {
  as_many = length-set owners x owner ∙ h.as_many;
  each = λ y d lt. go y d lt (cases_eq y x);
}
  where
    go : (y : ℕ) (d : Owner) → y < size → (y ≡ x) ⊎ (y ≢ x) → IsOwner trace y (n + 1) (get_or (set owners x owner) y d)
    go y d lt (inl e) = rw e (rw (get_or-set_same owners x owner d (let long = h.as_many in omega (arith, long, within))) is)
    go y d lt (inr ne) = rw (get_or-set_other owners x y owner d ne) (owner_other trace y n (get_or owners y d) (λ of_n. ne (let s : Some y ≡ Some x = sym of_n ∙ access in cc)) (h.each y d lt))

-- the flags of the whole trace
pub shared_flags : (trace : List Event) (sizes : Sizes) (owners : List Owner) (flags : List Bool) → IsWithin trace sizes → flags ≡ map is_several owners → AreOwners trace (length trace) sizes.variables owners → HasShared trace flags
shared_flags trace sizes owners flags within is h = record { each = λ x. go x (cases_lt x sizes.variables) }
  where
    flag_of : (x : ℕ) → x < sizes.variables → get_or flags x false ≡ is_several (get_or owners x Nobody)
    flag_of x lt = ap (λ (bs : List Bool). get_or bs x false) is ∙ get_or-map is_several owners x Nobody false (let long = h.as_many in omega (arith, long, lt))

    in_range : (x k : ℕ) → variable_at trace k ≡ Some x → k < length trace
    in_range x k of_k = (variable_sized trace sizes k x within of_k).0

    not_shared : (x t : ℕ) → IsSole trace x (length trace) t → ¬ IsShared trace x
    not_shared x t sole shared = shared.other_thread (sole.all shared.first (in_range x shared.first shared.first_accesses) shared.first_accesses ∙ sym (sole.all shared.second (in_range x shared.second shared.second_accesses) shared.second_accesses))

    several : (x : ℕ) (owner : Owner) → IsOwner trace x (length trace) owner → (is_several owner ≡ true → IsShared trace x) × (IsShared trace x → is_several owner ≡ true)
    several x Nobody none = ((λ f. absurd (let g : ⊥ = cc in g)), (λ shared. absurd (none shared.first (in_range x shared.first shared.first_accesses) shared.first_accesses)))
    several x (One t) sole = ((λ f. absurd (let g : ⊥ = cc in g)), (λ shared. absurd (not_shared x t sole shared)))
    several x Several shared = ((λ f. shared), (λ s. refl))

    go : (x : ℕ) → (x < sizes.variables) ⊎ (sizes.variables ≤ x) → IsTrue (get_or flags x false) ↔ IsShared trace x
    go x (inl lt) = rw (flag_of x lt) (several x (get_or owners x Nobody) (h.each x Nobody lt))
    go x (inr le) = (
      (λ on. absurd (let past = get_or_past flags x false (let long = ap length is in let many = h.as_many in let size = length-map owners is_several in omega (arith, long, many, size, le)) in let f : ⊥ = cc in f)),
      (λ shared. absurd (let low = (variable_sized trace sizes shared.first x within shared.first_accesses).1 in omega (arith, low, le))),
    )

-- whether a variable is shared, by links of the trace
pub shared_same : (trace seen : List Event) (x : ℕ) (answer : Bool) → seen ≡ trace → (IsTrue answer ↔ IsShared seen x) → IsTrue answer ↔ IsShared trace x
shared_same trace seen x answer same is = subst (λ (tr : List Event). IsTrue answer ↔ IsShared tr x) same is
