-- Numbers of locations, one event more.
use Rattle.shb_counts.proofs.Words.{AreNumbered, IsNumbered, TraceData, accesses_open, bytes_eq, cases_Bool, cases_lt, common_steps, get_or_append_left, get_or_push, length_push, location_at, number_stays}
use Rattle.std.proofs.Common.{◌≡◌, ℕ, ◌+◌, ◌<◌, ◌≤◌, inl, inr, Bool, true, List, [], ◌∷◌, ◌++◌, Some, length, get_or, slice_get, arith, ap, subst, ◌∙◌}
use Rattle.indexmap.specs.IndexSet.{insert_key}

pub one_more_location : (locations : List (List ℕ)) (text : List ℕ) → length (insert_key bytes_eq locations text) ≤ length locations + 1
one_more_location locations text = grind (arith, common_steps, length_push)

-- one location more at most
pub few_more : (trace : TraceData) (flags : List Bool) (e number : ℕ) (locations wider : List (List ℕ)) → IsNumbered trace flags e locations wider number → length wider ≤ length locations + 1
few_more trace flags e number locations wider h = elim (cases_Bool (accesses_open flags trace.events e)) [
  | inl is ↦ (let more = one_more_location locations (location_at trace e) in let long = ap length (h.known is) in omega (arith, more, long))
  | inr isnt ↦ (let long = ap length (h.same isnt) in omega (arith, long))
]

-- the next event has the number of its location
module _ (trace : TraceData) (flags : List Bool) (e number : ℕ) (numbers new_numbers : List ℕ) (locations wider : List (List ℕ)) (h : AreNumbered trace flags e numbers locations) (next : IsNumbered trace flags e locations wider number)
    (pushed : new_numbers ≡ numbers ++ number ∷ []) where
  before : (k : ℕ) → k < e → get_or new_numbers k 0 ≡ get_or numbers k 0
  before k low = ap (λ (ns : List ℕ). get_or ns k 0) pushed ∙ get_or_append_left numbers (number ∷ []) 0 k (let long = h.as_many in omega (arith, long, low))

  last : get_or new_numbers e 0 ≡ number
  last = ap (λ (ns : List ℕ). get_or ns e 0) pushed ∙ get_or_push numbers number 0 e h.as_many

  stays : (k n : ℕ) → slice_get locations n ≡ Some (location_at trace k) → slice_get wider n ≡ Some (location_at trace k)
  stays k n at = elim (cases_Bool (accesses_open flags trace.events e)) [
    | inl is ↦ ap (λ (ls : List (List ℕ)). slice_get ls n) (next.known is) ∙ number_stays locations (location_at trace e) (location_at trace k) n at
    | inr isnt ↦ ap (λ (ls : List (List ℕ)). slice_get ls n) (next.same isnt) ∙ at
  ]

  there : (k : ℕ) → k < e + 1 → accesses_open flags trace.events k ≡ true → slice_get wider (get_or new_numbers k 0) ≡ Some (location_at trace k)
  there k below is = elim (cases_lt k e) [
    | inl low ↦ ap (slice_get wider) (before k low) ∙ stays k (get_or numbers k 0) (h.located k low is)
    | inr history ↦ (
        let here : e ≡ k = omega (arith, below, history) in
        subst (λ j. slice_get wider (get_or new_numbers j 0) ≡ Some (location_at trace j)) here
        (ap (slice_get wider) last ∙ next.located (ap (accesses_open flags trace.events) here ∙ is)))
  ]

  pub next_numbered : AreNumbered trace flags (e + 1) new_numbers wider
  next_numbered = record {
    as_many = ap length pushed ∙ (length_push numbers number ∙ ap (λ (n : ℕ). n + 1) h.as_many);
    few = (let more = few_more trace flags e number locations wider next in let few = h.few in omega (arith, more, few));
    located = there;
  }
