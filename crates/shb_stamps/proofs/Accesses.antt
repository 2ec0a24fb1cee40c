-- How many accesses there are before a position: one position more, and variable by variable.
use Rattle.shb_stamps.proofs.Words.{Contains-get_or, Event, IsNumberedByAccess, append-nil, cases_Bool, cases_lt, common_steps, eq-eqb, eqb-true, event_at_access, latest_below, length-append, numbers_listed, slice_get_within, variable_at}
use Rattle.std.proofs.Math.Nat.{le-max_left, le-max_right, max-le}
use Rattle.std.specs.Option.{option_map_or}
use Rattle.shb_lines.specs.events.Reach.{numbers_where}
use Rattle.shb_stamps.specs.Accesses.{accesses_at, variables_before, variables_in}
use Rattle.std.proofs.Common.{◌≡◌, ℕ, zero, suc, ◌+◌, ◌<◌, ◌≤◌, inl, inr, Bool, true, false, List, [], ◌∷◌, ◌++◌, Option, Some, None, length, refl, arith, ap, add-one, ◌≢◌, get_or}
use Rattle.std.specs.Prelude.{cond, ◌==◌, max, All}

pub key_no : (a b : ℕ) → a ≢ b → (a == b) ≡ false
key_no a b ne = elim (cases_Bool (a == b)) [ inl h ↦ absurd (ne (eqb-true a b h)) | inr h ↦ h ]

some_is : (x : ℕ) (o : Option ℕ) → (elim o [ Some y ↦ y == x | None ↦ false ]) ≡ true → o ≡ Some x
some_is x o h = grind (arith, common_steps, eqb-true)

pub access_from_test : (trace : List Event) (x k : ℕ) → accesses_at trace x k ≡ true → variable_at trace k ≡ Some x
unfolding accesses_at
access_from_test trace x k h = some_is x (variable_at trace k) h

pub test_from_access : (trace : List Event) (x k : ℕ) → variable_at trace k ≡ Some x → accesses_at trace x k ≡ true
unfolding accesses_at
test_from_access trace x k h = rw (h, accesses_at) (eq-eqb x x refl)

pub accessed_within : (trace : List Event) (k x : ℕ) → variable_at trace k ≡ Some x → k < length trace
accessed_within trace k x h = let e = event_at_access trace k x h in slice_get_within trace k e.0 e.1

-- the numbers below one more
pub numbers_more_yes : (f : ℕ → Bool) (k : ℕ) → f k ≡ true → numbers_where f (k + 1) ≡ numbers_where f k ++ k ∷ []
unfolding numbers_where
numbers_more_yes f k h = rw (add-one, h) refl

pub numbers_more_no : (f : ℕ → Bool) (k : ℕ) → f k ≡ false → numbers_where f (k + 1) ≡ numbers_where f k
unfolding numbers_where
numbers_more_no f k h = rw (add-one, h) (append-nil (numbers_where f k))

-- no more numbers below n pass than there are
pub numbers_few : (f : ℕ → Bool) (n : ℕ) → length (numbers_where f n) ≤ n
unfolding numbers_where
numbers_few f zero = omega arith
numbers_few f (suc n) = rw length-append (go (f n) (numbers_few f n))
  where
    go : (b : Bool) → length (numbers_where f n) ≤ n → length (numbers_where f n) + length (cond b (n ∷ []) []) ≤ suc n
    go true h = omega arith
    go false h = omega arith

-- each number below n that passes is below n and passes
pub numbers_all : (P : ℕ → Type 0) (f : ℕ → Bool) (n : ℕ) → ((k : ℕ) → k < n → f k ≡ true → P k) → All P (numbers_where f n)
numbers_all P f n each = λ q d lt. let member = ((numbers_listed f n).members (get_or (numbers_where f n) q d)).0 (Contains-get_or (numbers_where f n) q d lt) in each (get_or (numbers_where f n) q d) member.0 member.1

-- the variables accessed before a position
pub variables_mono : (trace : List Event) (k n : ℕ) → k ≤ n → variables_before trace k ≤ variables_before trace n
unfolding variables_before
variables_mono trace k zero le = let e : k ≡ 0 = omega arith in rw e (omega arith)
variables_mono trace k (suc n) le = elim (cases_lt k (suc n)) [
  | inl lt ↦ (let ih = variables_mono trace k n (omega arith) in let most = le-max_left (variables_before trace n) (option_map_or (λ x. x + 1) (variable_at trace n) 0) in omega (arith, ih, most))
  | inr past ↦ (let e : k ≡ suc n = omega arith in rw e (omega arith))
]

pub variable_within : (trace : List Event) (k n x : ℕ) → k < n → variable_at trace k ≡ Some x → x < variables_before trace n
unfolding variables_before
variable_within trace k n x lt h =
    let own = ap (λ (o : Option ℕ). option_map_or (λ x. x + 1) o 0) h in
    let most = le-max_right (variables_before trace k) (option_map_or (λ x. x + 1) (variable_at trace k) 0) in
    let up = variables_mono trace (suc k) n (omega arith) in
    omega (arith, own, most, up)

-- where variables are numbered by their first access, an access of each lower variable is found before an access
pub lower_accessed : (trace : List Event) → IsNumberedByAccess trace → (k x y : ℕ) → variable_at trace k ≡ Some x → y < x → (j : ℕ) × (j < k) × (variable_at trace j ≡ Some y)
lower_accessed trace numbered k x y accessed lt = elim (latest_below (accesses_at trace y) k) [
  | inl found ↦ (found.0, found.1.below, access_from_test trace y found.0 found.1.passing)
  | inr none ↦ absurd (numbered k x y accessed lt (λ j before h. let fails = none j before in let passes = test_from_access trace y j h in (let f : ⊥ = cc in f)))
]

-- a variable is then accessed already, or the next one
pub next_variable : (trace : List Event) → IsNumberedByAccess trace → (k x : ℕ) → variable_at trace k ≡ Some x → x ≤ variables_before trace k
next_variable trace numbered k x is = elim (cases_lt (variables_before trace k) x) [
  | inl lt ↦ absurd (let there = lower_accessed trace numbered k x (variables_before trace k) is lt in let below = variable_within trace there.0 k (variables_before trace k) there.1 there.2 in omega (arith, below))
  | inr le ↦ le
]

-- so there are no more variables than events
variables_few_below : (trace : List Event) → IsNumberedByAccess trace → (k : ℕ) → variables_before trace k ≤ k
unfolding variables_before
variables_few_below trace numbered zero = omega arith
variables_few_below trace numbered (suc k) = go (variable_at trace k) refl (variables_few_below trace numbered k)
  where
    go : (o : Option ℕ) → variable_at trace k ≡ o → variables_before trace k ≤ k → max (variables_before trace k) (option_map_or (λ x. x + 1) (variable_at trace k) 0) ≤ suc k
    go None is ih = let none = ap (λ (o : Option ℕ). option_map_or (λ x. x + 1) o 0) is in max-le (omega arith) (omega (arith, none))
    go (Some x) is ih =
        let own = ap (λ (o : Option ℕ). option_map_or (λ x. x + 1) o 0) is in
        let next = next_variable trace numbered k x is in
        max-le (omega arith) (omega (arith, own, next, ih))

pub variables_few : (trace : List Event) → IsNumberedByAccess trace → variables_in trace ≤ length trace
variables_few trace numbered = variables_few_below trace numbered (length trace)
