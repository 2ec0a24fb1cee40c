-- The races of all variables are the race list.
use Rattle.std.proofs.Common.{◌≡◌, ℕ, zero, suc, ◌+◌, ◌<◌, ◌≤◌, inl, inr, Bool, true, List, [], ◌∷◌, ◌++◌, Option, Some, None, length, max, refl, arith, ap, sym, subst, ◌∙◌, append-nil}
use Rattle.std.specs.Prelude.{cond, flat_map}
use Rattle.std.specs.Option.{option_map_or}
use Rattle.shb_counts.proofs.Words.{Event, IsNumberedByAccess, IsRaceList, IsWithin, Sizes, access_from_test, accesses_at, all_is_race_list, cases_Bool, cases_lt, event_at_access, flat_map-append, numbers_more_yes, race_list_unique, slice_get_within, variable_at, variable_sized, variable_within, variables_in}
use Rattle.shb_lines.specs.events.Reach.{numbers_where}
use Rattle.shb_stamps.specs.Accesses.{races_with, variables_before}
use Rattle.shb_stamps.proofs.Listing.{races_on}

abbrev pub races_below : List Event → ℕ → List (ℕ × ℕ)
races_below trace to = flat_map (races_on trace) (numbers_where (λ k. true) to)

pub accessed_within : (trace : List Event) (x j : ℕ) → variable_at trace j ≡ Some x → j < length trace
accessed_within trace x j h = let e = event_at_access trace j x h in slice_get_within trace j e.0 e.1

pub quiet_numbers : (f : ℕ → Bool) (n : ℕ) → ((k : ℕ) → f k ≡ true → ⊥) → numbers_where f n ≡ []
unfolding numbers_where
quiet_numbers f zero fails = refl
quiet_numbers f (suc n) fails = elim (cases_Bool (f n)) [
  | inl passing ↦ absurd (fails n passing)
  | inr shut ↦ ap (λ (b : Bool). numbers_where f n ++ cond b (n ∷ []) []) shut ∙ (append-nil (numbers_where f n) ∙ quiet_numbers f n fails)
]

-- one variable more
pub below_next : (trace : List Event) (x : ℕ) → races_below trace (x + 1) ≡ races_below trace x ++ races_on trace x
below_next trace x = ap (λ (ks : List ℕ). flat_map (races_on trace) ks) (numbers_more_yes (λ k. true) x refl)
    ∙ (flat_map-append (races_on trace) (numbers_where (λ k. true) x) (x ∷ []) ∙ ap (λ (l : List (ℕ × ℕ)). races_below trace x ++ l) (append-nil (races_on trace x)))

-- ---- the races of all variables

-- no greater variable is accessed
none_past : (trace : List Event) (x : ℕ) → variables_in trace ≤ x → races_on trace x ≡ []
none_past trace x le = ap (λ (ks : List ℕ). flat_map (races_with trace) ks) (quiet_numbers (accesses_at trace x) (length trace) shut)
  where
    shut : (k : ℕ) → accesses_at trace x k ≡ true → ⊥
    shut k passes =
        let access = access_from_test trace x k passes in
        let low = variable_within trace k (length trace) x (accessed_within trace x k access) access in
        omega (arith, low, le)

nothing_more : (trace : List Event) (n : ℕ) → variables_in trace ≤ n → races_below trace n ≡ races_below trace (variables_in trace)
nothing_more trace zero le = ap (races_below trace) (let e : 0 ≡ variables_in trace = omega (arith, le) in e)
nothing_more trace (suc n) le = elim (cases_lt n (variables_in trace)) [
  | inl lt ↦ ap (races_below trace) (let e : suc n ≡ variables_in trace = omega (arith, le, lt) in e)
  | inr ge ↦ ap (races_below trace) (let e : suc n ≡ n + 1 = omega arith in e) ∙ (below_next trace n
      ∙ (ap (λ (l : List (ℕ × ℕ)). races_below trace n ++ l) (none_past trace n ge) ∙ (append-nil (races_below trace n) ∙ nothing_more trace n ge)))
]

-- one more than the greatest number is not above the count
variables_few : (trace : List Event) (sizes : Sizes) → IsWithin trace sizes → (n : ℕ) → variables_before trace n ≤ sizes.variables
unfolding variables_before
variables_few trace sizes within zero = omega arith
variables_few trace sizes within (suc n) = max_few (variables_few trace sizes within n) (own (variable_at trace n) refl)
  where
    own : (o : Option ℕ) → variable_at trace n ≡ o → option_map_or (λ x. x + 1) (variable_at trace n) 0 ≤ sizes.variables
    own None is = rw is (omega arith)
    own (Some x) is = let low = (variable_sized trace sizes n x within is).1 in rw is (omega (arith, low))

    max_few : {a b c : ℕ} → a ≤ c → b ≤ c → max a b ≤ c
    max_few p q = omega (arith, p, q)

-- the races of all variables are the race list
pub below_is_list : (trace : List Event) (sizes : Sizes) → IsWithin trace sizes → IsNumberedByAccess trace → IsRaceList trace (races_below trace sizes.variables)
below_is_list trace sizes within numbered = subst (IsRaceList trace) (sym (nothing_more trace sizes.variables (variables_few trace sizes within (length trace)))) (all_is_race_list trace numbered)

pub list_is_below : (trace : List Event) (sizes : Sizes) (listed : List (ℕ × ℕ)) → IsWithin trace sizes → IsNumberedByAccess trace → IsRaceList trace listed → listed ≡ races_below trace sizes.variables
list_is_below trace sizes listed within numbered are = race_list_unique trace listed (races_below trace sizes.variables) are (below_is_list trace sizes within numbered)
