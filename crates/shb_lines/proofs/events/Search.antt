-- The latest number below a bound that passes a test, and tests of events by position.
use Rattle.std.proofs.Common.{◌≡◌, ◌≢◌, ℕ, zero, suc, ◌<◌, ◌≤◌, ◌⊎◌, inl, inr, Bool, true, false, List, Option, Some, None, refl, arith, ap}
use Rattle.std.specs.Prelude.{◌==◌}
use Rattle.std.proofs.lemmas.Bool.{cases_Bool, cases_lt, eqb-true, eq-eqb}
use Rattle.shb_lines.specs.declared.event.Event.{Event}
use Rattle.shb_lines.specs.declared.event.Op.{Op}
use Rattle.shb_lines.specs.declared.event.Op.TheVariants.{Write}
use Rattle.shb_lines.specs.events.Events.{thread_at, op_at}
use Rattle.shb_lines.specs.events.Tests.{writes_variable}
use Rattle.shb_lines.specs.events.Reach.{of_thread, writes_at}

pub record IsLatest (f : ℕ → Bool) (n k : ℕ) : Type 0 where
  pub below : k < n
  pub passing : f k ≡ true
  pub last : (m : ℕ) → k < m → m < n → f m ≡ false

pub latest_below : (f : ℕ → Bool) (n : ℕ) → ((k : ℕ) × IsLatest f n k) ⊎ ((m : ℕ) → m < n → f m ≡ false)
latest_below f zero = inr (λ m lt. absurd (omega arith))
latest_below f (suc n) = go (cases_Bool (f n)) (latest_below f n)
  where
    none : f n ≡ false → ((m : ℕ) → m < n → f m ≡ false) → (m : ℕ) → m < suc n → (m < n) ⊎ (n ≤ m) → f m ≡ false
    none fails all m lt (inl h) = all m h
    none fails all m lt (inr h) = let e : m ≡ n = omega arith in rw e fails

    go : (f n ≡ true) ⊎ (f n ≡ false) → ((k : ℕ) × IsLatest f n k) ⊎ ((m : ℕ) → m < n → f m ≡ false) → ((k : ℕ) × IsLatest f (suc n) k) ⊎ ((m : ℕ) → m < suc n → f m ≡ false)
    go (inl passes) rest = inl (n, record { below = omega arith; passing = passes; last = λ m low high. absurd (omega arith) })
    go (inr fails) (inl found) =
        inl (
          found.0,
          record {
            below = (let b = found.1.below in omega arith);
            passing = found.1.passing;
            last = λ m low high. elim (cases_lt m n) [ inl h ↦ found.1.last m low h | inr h ↦ (let e : m ≡ n = omega arith in rw e fails) ];
          },
        )
    go (inr fails) (inr all) = inr (λ m lt. none fails all m lt (cases_lt m n))

some_is : (t : ℕ) (o : Option ℕ) → (elim o [ Some u ↦ u == t | None ↦ false ]) ≡ true → o ≡ Some t
some_is t (Some u) h = ap (λ n. Some n) (eqb-true u t h)
some_is t None h = absurd (let f : ⊥ = cc in f)

pub of_thread_true : (trace : List Event) (t k : ℕ) → of_thread trace t k ≡ true → thread_at trace k ≡ Some t
unfolding of_thread
of_thread_true trace t k h = some_is t (thread_at trace k) h

pub of_thread_at : (trace : List Event) (t k : ℕ) → thread_at trace k ≡ Some t → of_thread trace t k ≡ true
unfolding of_thread
of_thread_at trace t k h = rw (h, of_thread) (eq-eqb t t refl)

pub of_thread_false : (trace : List Event) (t k : ℕ) → of_thread trace t k ≡ false → thread_at trace k ≢ Some t
of_thread_false trace t k h is = let yes_it = of_thread_at trace t k is in (let f : ⊥ = cc in f)

write_is : (x : ℕ) (op : Op) → writes_variable op x ≡ true → op ≡ Write x
write_is x (Write y) h = ap (λ n. Write n) (eqb-true y x h)
write_is x _ h = absurd (let f : ⊥ = cc in f)

some_write : (x : ℕ) (o : Option Op) → (elim o [ Some op ↦ writes_variable op x | None ↦ false ]) ≡ true → o ≡ Some (Write x)
some_write x (Some op) h = ap (λ p. Some p) (write_is x op h)
some_write x None h = absurd (let f : ⊥ = cc in f)

pub writes_at_true : (trace : List Event) (x k : ℕ) → writes_at trace x k ≡ true → op_at trace k ≡ Some (Write x)
unfolding writes_at
writes_at_true trace x k h = some_write x (op_at trace k) h

pub writes_at_is : (trace : List Event) (x k : ℕ) → op_at trace k ≡ Some (Write x) → writes_at trace x k ≡ true
unfolding writes_at
writes_at_is trace x k h = rw (h, writes_at) (eq-eqb x x refl)

pub writes_at_false : (trace : List Event) (x k : ℕ) → writes_at trace x k ≡ false → op_at trace k ≢ Some (Write x)
writes_at_false trace x k h is = let it = writes_at_is trace x k is in (let f : ⊥ = cc in f)
