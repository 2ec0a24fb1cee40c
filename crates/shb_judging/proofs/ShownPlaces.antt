-- One place more is as the report shows it; the pair of a good block.
use Rattle.std.proofs.Common.{◌≡◌, ℕ, ◌+◌, ◌<◌, List, [], ◌∷◌, ◌++◌, length, map, take, get_or, Some, option_map, sym, ap, ◌∙◌}
use Rattle.std.specs.Prelude.{slice_get}
use Rattle.shb_judging.proofs.Words.{Place, PlaceCount, PlaceEntry, TraceData, map_push, place_in_text, places_at, shown_place, shown_places, slice_get-get_or, slice_get-map, take-map, take_more}

-- a list of values of a list
module _ {A B : Type 0} (f : A → B) (xs : List A) (q : ℕ) (d : A) (within : q < length xs) where
  next_mapped : take (q + 1) (map f xs) ≡ take q (map f xs) ++ f (get_or xs q d) ∷ []
  next_mapped = take-map f (q + 1) xs ∙ ap (map f) (take_more xs q d within) ∙ map_push f (take q xs) (get_or xs q d) ∙ ap (λ front. front ++ f (get_or xs q d) ∷ []) (sym (take-map f q xs))

  at_mapped : slice_get (map f xs) q ≡ Some (f (get_or xs q d))
  at_mapped = slice_get-map f xs q ∙ ap (option_map f) (slice_get-get_or xs q d within)

one_of_some : {A : Type 0} (a b : A) → Some a ≡ Some b → a ≡ b
one_of_some a b same = cc

module _ (trace : TraceData) (text : List ℕ) (entries : List PlaceEntry) (counts : List PlaceCount) (listed : List Place) (listed_is : listed ≡ places_at text entries)
    (q : ℕ) (e : PlaceEntry) (d : PlaceCount) (low : q < length entries) (within : q < length counts) where
  -- one place more is as it is shown
  pub place_more : place_in_text text (get_or entries q e) ≡ shown_place trace (get_or counts q d) → take q listed ≡ take q (shown_places trace counts) → take (q + 1) listed ≡ take (q + 1) (shown_places trace counts)
  place_more same before =
      ap (take (q + 1)) listed_is ∙ next_mapped (place_in_text text) entries q e low ∙ ap (λ front. front ++ place_in_text text (get_or entries q e) ∷ []) (ap (take q) (sym listed_is) ∙ before)
      ∙ ap (λ p. take q (shown_places trace counts) ++ p ∷ []) same ∙ sym (next_mapped (shown_place trace) counts q d within)

  -- where all are, each is
  pub each_place : listed ≡ shown_places trace counts → place_in_text text (get_or entries q e) ≡ shown_place trace (get_or counts q d)
  each_place same = one_of_some _ _ (sym (at_mapped (place_in_text text) entries q e low) ∙ ap (λ (l : List Place). slice_get l q) (sym listed_is ∙ same) ∙ at_mapped (shown_place trace) counts q d within)
