-- The lines of places, one place after another.
use Rattle.shb_format.proofs.Words.{Place, PlaceCount, TraceData, common_steps, decimal, labelled_line, length-map, lines_text, map-append, place_bytes, place_line, place_lines, place_text, places_bytes, section_bytes, shown_place, shown_places, take_more}
use Rattle.std.proofs.Common.{◌≡◌, ℕ, ◌+◌, ◌<◌, List, [], ◌∷◌, ◌++◌, length, get_or, take, drop, codes, sym, ap, ◌∙◌, arith, append_assoc, take-append-drop, length-take}
use Rattle.shb_format.proofs.LineLemmas.{lines_text-append, place_lines-append}

-- a line after its label
one_labelled : (label text rest : List ℕ) → labelled_line label text ++ rest ≡ (label ++ text) ++ (10 ∷ rest)
one_labelled label text rest = append_assoc label (text ++ codes "\n") rest ∙ ap (λ t. label ++ t) (append_assoc text (codes "\n") rest) ∙ sym (append_assoc label text (10 ∷ rest))

last_labelled : (label text : List ℕ) → labelled_line label text ≡ (label ++ text) ++ (10 ∷ [])
last_labelled label text = sym (append_assoc label text (codes "\n"))

-- the three lines of a place
pub place_pieces : (number count : ℕ) (first second : List ℕ) → (place_line number count ++ codes "\n") ++ (labelled_line (codes "at ") first ++ labelled_line (codes "and ") second) ≡ place_text number count first second
place_pieces number count first second = grind (arith, common_steps, append_assoc, codes, one_labelled, last_labelled)

-- those of a place of a trace
pub place_is : (trace : TraceData) (number : ℕ) (counted : PlaceCount) (first second : List ℕ) → first ≡ (shown_place trace counted).first → second ≡ (shown_place trace counted).second
    → place_text number counted.count first second ≡ place_bytes trace number counted
place_is trace number counted first second e f = ap (λ l. place_text number counted.count l second) e ∙ ap (place_text number counted.count (shown_place trace counted).first) f

-- the lines of some places and of others
bytes-append : (number : ℕ) (places more : List Place) → lines_text (place_lines number (places ++ more)) ≡ lines_text (place_lines number places) ++ lines_text (place_lines (number + length places) more)
bytes-append number places more = ap lines_text (place_lines-append number places more) ∙ lines_text-append (place_lines number places) (place_lines (number + length places) more)

module _ (trace : TraceData) (counts : List PlaceCount) (k : ℕ) (d : PlaceCount) (within : k < length counts) where
  count_before : 1 + length (shown_places trace (take k counts)) ≡ k + 1
  count_before = omega (arith, length-map (take k counts) (shown_place trace), length-take k counts)

  pub places-next : places_bytes trace (take k counts) ++ place_bytes trace (k + 1) (get_or counts k d) ≡ places_bytes trace (take (k + 1) counts)
  places-next =
      let before = shown_places trace (take k counts) in
      let last = shown_place trace (get_or counts k d) in
      ap (λ n. lines_text (place_lines 1 before) ++ lines_text (place_lines n (last ∷ []))) (sym count_before)
      ∙ sym (bytes-append 1 before (last ∷ []))
      ∙ ap (λ p. lines_text (place_lines 1 p)) (sym (map-append (shown_place trace) (take k counts) (get_or counts k d ∷ [])) ∙ ap (shown_places trace) (sym (take_more counts k d within)))

  count_up_to : 1 + length (shown_places trace (take (k + 1) counts)) ≡ k + 1 + 1
  count_up_to = omega (arith, length-map (take (k + 1) counts) (shown_place trace), length-take (k + 1) counts)

  pub places-split : places_bytes trace (take k counts) ++ (place_bytes trace (k + 1) (get_or counts k d) ++ lines_text (place_lines (k + 1 + 1) (shown_places trace (drop (k + 1) counts)))) ≡ places_bytes trace counts
  places-split =
      let after = shown_places trace (drop (k + 1) counts) in
      let up_to = shown_places trace (take (k + 1) counts) in
      sym (append_assoc (places_bytes trace (take k counts)) (place_bytes trace (k + 1) (get_or counts k d)) (lines_text (place_lines (k + 1 + 1) after)))
      ∙ ap (λ l. l ++ lines_text (place_lines (k + 1 + 1) after)) places-next
      ∙ ap (λ n. lines_text (place_lines 1 up_to) ++ lines_text (place_lines n after)) (sym count_up_to)
      ∙ sym (bytes-append 1 up_to after)
      ∙ ap (λ p. lines_text (place_lines 1 p)) (sym (map-append (shown_place trace) (take (k + 1) counts) (drop (k + 1) counts)) ∙ ap (shown_places trace) (take-append-drop (k + 1) counts))

-- the count of the places, as it was put together, and their lines
pub section_is : (trace : TraceData) (counts : List PlaceCount) (n : ℕ) (empty counted held : List ℕ) → n ≡ length counts → empty ≡ [] → counted ≡ empty ++ (codes "places " ++ decimal n) → held ≡ counted ++ 10 ∷ []
    → held ++ places_bytes trace counts ≡ section_bytes trace counts
section_is trace counts n empty counted held same e f h = grind (arith, common_steps, length-map, codes, append_assoc)
