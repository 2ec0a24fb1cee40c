-- Sums in a table: what one more sum does to them.
use Rattle.std.proofs.Common.{◌≡◌, ℕ, suc, ◌+◌, ◌<◌, ◌≤◌, ◌⊎◌, inl, inr, List, [], ◌∷◌, ◌++◌, Some, All, get_or, length, map, set, take, drop, refl, arith, ap, sym, subst, ◌∙◌, IsPermutation}
use Rattle.std.proofs.lemmas.Grind.{common_steps}
use Rattle.std.proofs.lemmas.List.{map-append, set-get_or, set_split}
use Rattle.std.proofs.lemmas.List.Elements.{All-push, All-set}
use Rattle.std.proofs.lemmas.Option.{get_or_from_slice_get, slice_get_within}
use Rattle.shb_lines.specs.declared.event.Event.{Event}
use Rattle.shb_lines.specs.declared.event.Pair.{Pair}
use Rattle.shb_lines.specs.events.Race.{variable_at}
use Rattle.shb_counts.specs.Numbered.{key_in, number_in}
use Rattle.shb_counts.specs.PlaceSums.{AreSums}
use Rattle.shb_counts.specs.Sums.{AreSumsOf, IsNotAfter, IsPlaceSum, sum_of}
use Rattle.shb_counts.specs.SumTables.{HasJoined, HasRace, IsNoLater}
use Rattle.shb_counts.specs.declared.sums.PlaceSum.{PlaceSum}
use Rattle.shb_counts.proofs.CountedTurns.{sum_added_after, sum_added_before}
use Rattle.shb_counts.proofs.SumLemmas.{one_sum, races_permuted, sums_append}

pub not_after_self : (trace : List Event) (p : Pair) → IsNotAfter trace p p
not_after_self trace p x y of_x of_y = let same : x ≡ y = cc in inr (same, inr (refl, omega arith))

pub one_pair : (trace : List Event) (numbers : List ℕ) (p : Pair) → AreSums (key_in numbers) (IsNotAfter trace) (p ∷ []) ((p, 1) ∷ [])
one_pair trace numbers p = one_sum (key_in numbers) (IsNotAfter trace) p (not_after_self trace p)

-- the same pairs in another order
pub same_pairs : (trace : List Event) (numbers : List ℕ) (pairs others : List Pair) (sums : List PlaceSum) → IsPermutation pairs others → AreSumsOf trace numbers pairs sums → AreSumsOf trace numbers others sums
same_pairs trace numbers pairs others sums p h = record { each = h.each; are_sums = races_permuted (key_in numbers) (IsNotAfter trace) pairs others (map sum_of sums) p h.are_sums }

-- ---- a sum more

abbrev pair_sum : ℕ → ℕ → ℕ → Pair × ℕ
pair_sum earlier later count = (record { first = earlier; second = later }, count)

same_sum : (e f l m c d : ℕ) → e ≡ f → l ≡ m → c ≡ d → pair_sum e l c ≡ pair_sum f m d
same_sum e f l m c d first second count = ap (λ (n : ℕ). pair_sum n l c) first ∙ (ap (λ (n : ℕ). pair_sum f n c) second ∙ ap (λ (n : ℕ). pair_sum f m n) count)

then_before : (y z al ae bl be rl re : ℕ) → (al < bl) ⊎ ((al ≡ bl) × (ae ≤ be)) → (y < z) ⊎ ((y ≡ z) × ((bl < rl) ⊎ ((bl ≡ rl) × (be ≤ re)))) → (y < z) ⊎ ((y ≡ z) × ((al < rl) ⊎ ((al ≡ rl) × (ae ≤ re))))
then_before y z al ae bl be rl re low more = grind (arith, common_steps)

module _ (trace : List Event) (numbers : List ℕ) where
  pub sum_pushed : (pairs more : List Pair) (sums : List PlaceSum) (sum : PlaceSum) → AreSumsOf trace numbers pairs sums → IsPlaceSum trace numbers sum → AreSums (key_in numbers) (IsNotAfter trace) more (sum_of sum ∷ [])
      → AreSumsOf trace numbers (pairs ++ more) (sums ++ sum ∷ [])
  sum_pushed pairs more sums sum h is m = record {
    each = All-push (IsPlaceSum trace numbers) sums sum h.each is;
    are_sums = subst (λ (l : List (Pair × ℕ)). AreSums (key_in numbers) (IsNotAfter trace) (pairs ++ more) l) (sym (map-append sum_of sums (sum ∷ [])))
        (sums_append (key_in numbers) (IsNotAfter trace) pairs more (map sum_of sums) (sum_of sum ∷ []) h.are_sums m);
  }

  -- what doesn't stand before a sum of this variable doesn't stand before one that is no later
  no_later_then : (x : ℕ) (a b : PlaceSum) → variable_at trace a.later ≡ Some x → variable_at trace b.later ≡ Some x → IsNoLater a b → (race : Pair) → IsNotAfter trace (sum_of b).0 race → IsNotAfter trace (sum_of a).0 race
  no_later_then x a b of_a of_b low race h y z of_y of_z =
      let same : x ≡ y = cc in
      then_before y z a.later a.earlier b.later b.earlier race.second race.first low (h y z (of_b ∙ ap (λ (n : ℕ). Some n) same) of_z)

  -- a sum that has the race of one of two of its place is of that place
  joined_is : (of other sum : PlaceSum) → IsPlaceSum trace numbers of → HasRace of other sum → sum.first ≡ of.first → sum.second ≡ of.second → sum.variable ≡ of.variable → IsPlaceSum trace numbers sum
  joined_is of other sum is race first second variable = record {
    first = ap (number_in numbers) race.earlier ∙ (is.first ∙ sym first);
    second = ap (number_in numbers) race.later ∙ (is.second ∙ sym second);
    variable = ap (variable_at trace) race.later ∙ (is.variable ∙ ap (λ (n : ℕ). Some n) (sym variable));
  }

  module _ (pairs more : List Pair) (sums new : List PlaceSum) (sum : PlaceSum) (h : AreSumsOf trace numbers pairs sums) (is : IsPlaceSum trace numbers sum) (m : AreSums (key_in numbers) (IsNotAfter trace) more (sum_of sum ∷ [])) (j : HasJoined sum sums new) where
    within : j.slot < length sums
    within = slice_get_within sums j.slot j.known j.there

    read : get_or sums j.slot j.known ≡ j.known
    read = get_or_from_slice_get sums j.slot j.known j.known j.there

    known_is : IsPlaceSum trace numbers j.known
    known_is = subst (IsPlaceSum trace numbers) read (h.each j.slot j.known within)

    both_is : IsPlaceSum trace numbers j.sum
    both_is = elim j.is.race [
      | inl race ↦ joined_is j.known sum j.sum known_is race (sym j.is.place.first) (sym j.is.place.second) (sym j.is.place.variable)
      | inr race ↦ joined_is sum j.known j.sum is race (sym j.is.place.first ∙ j.is.alike.first) (sym j.is.place.second ∙ j.is.alike.second) (sym j.is.place.variable ∙ j.is.alike.variable)
    ]

    same_key : key_in numbers (sum_of j.known).0 ≡ key_in numbers (sum_of sum).0
    same_key = ap (λ (n : ℕ). (n, number_in numbers j.known.later)) (known_is.first ∙ (j.is.alike.first ∙ sym is.first)) ∙ ap (λ (n : ℕ). (number_in numbers sum.earlier, n)) (known_is.second ∙ (j.is.alike.second ∙ sym is.second))

    abbrev front : List (Pair × ℕ)
    front = map sum_of (take j.slot sums)

    abbrev rest : List (Pair × ℕ)
    rest = map sum_of (drop (suc j.slot) sums)

    split : (s : PlaceSum) → map sum_of (set sums j.slot s) ≡ front ++ sum_of s ∷ rest
    split s = ap (map sum_of) (set_split sums j.slot s within) ∙ map-append sum_of (take j.slot sums) (s ∷ drop (suc j.slot) sums)

    table : AreSums (key_in numbers) (IsNotAfter trace) pairs (front ++ sum_of j.known ∷ rest)
    table = subst (AreSums (key_in numbers) (IsNotAfter trace) pairs) (sym (ap (map sum_of) (ap (set sums j.slot) (sym read) ∙ set-get_or sums j.slot j.known)) ∙ split j.known) h.are_sums

    joined_sums : AreSums (key_in numbers) (IsNotAfter trace) (pairs ++ more) (front ++ sum_of j.sum ∷ rest)
    joined_sums = elim j.is.race [
      | inl race ↦ subst (λ (s : Pair × ℕ). AreSums (key_in numbers) (IsNotAfter trace) (pairs ++ more) (front ++ s ∷ rest))
          (same_sum j.known.earlier j.sum.earlier j.known.later j.sum.later (j.known.count + sum.count) j.sum.count (sym race.earlier) (sym race.later) (sym j.is.count))
          (sum_added_after (key_in numbers) (IsNotAfter trace) pairs more front rest (sum_of j.known) (sum_of sum) table m same_key
          (λ other c. no_later_then j.known.variable j.known sum known_is.variable (is.variable ∙ ap (λ (n : ℕ). Some n) (sym j.is.alike.variable)) race.least other))
      | inr race ↦ subst (λ (s : Pair × ℕ). AreSums (key_in numbers) (IsNotAfter trace) (pairs ++ more) (front ++ s ∷ rest))
          (same_sum sum.earlier j.sum.earlier sum.later j.sum.later (sum.count + j.known.count) j.sum.count (sym race.earlier) (sym race.later) (let count = j.is.count in omega (arith, count)))
          (sum_added_before (key_in numbers) (IsNotAfter trace) pairs more front rest (sum_of j.known) (sum_of sum) table m same_key
          (λ other c. no_later_then j.known.variable sum j.known (is.variable ∙ ap (λ (n : ℕ). Some n) (sym j.is.alike.variable)) known_is.variable race.least other))
    ]

    pub sum_joined : AreSumsOf trace numbers (pairs ++ more) new
    sum_joined = record {
      each = subst (All (IsPlaceSum trace numbers)) (sym j.rest) (All-set (IsPlaceSum trace numbers) sums j.slot j.sum both_is h.each);
      are_sums = subst (AreSums (key_in numbers) (IsNotAfter trace) (pairs ++ more)) (sym (ap (map sum_of) j.rest ∙ split j.sum)) joined_sums;
    }
