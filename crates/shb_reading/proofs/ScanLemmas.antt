-- The parts of a report, one after another.
use Rattle.std.proofs.Common.{◌≡◌, ℕ, ◌+◌, ◌-◌, ◌*◌, ◌^◌, ◌<◌, ◌≤◌, Bool, true, false, List, [], ◌∷◌, ◌++◌, length, codes, refl, sym, ap, subst, ◌∙◌, arith, append_assoc, append-nil, length-append, length-drop}
use Rattle.shb_reading.proofs.Words.{AllByRecursion, AreShown, Block, Counts, CountsForm, Form, IsBadAt, IsPlaceIn, IsScanned, IsShown, IsTextOf, KeepsFirst, Passes, Place, PlaceEntry, Places, Position, Races, ReadsBlocks, ReadsPlaces, ReadsSection, TakesBlocks, TakesLine, Version, block_forms, block_lines, blocks_at, bytes_from, counts_line, each-take, is_some, joined, length-map, lines_text, place_lines, places_at, places_form, places_line, places_section, races_line, section_at, take_all, version_line}
use Rattle.shb_lines.specs.text.Limits.{most_bytes}
use Rattle.shb_reading.specs.declared.parts.Parts.{Parts}
use Rattle.shb_reading.proofs.Machine.{bad_after}
use Rattle.shb_reading.proofs.Passing.{passes_by}

-- the version decides which forms follow

pub passes_version : (forms : List Form) (text : List ℕ) (old new : Position) (with_places : Bool) → TakesLine text old new (version_line with_places) → Passes text old new (Version ∷ forms) (CountsForm ∷ (Races with_places ∷ forms))
passes_version forms text old new with_places taken = passes_by Version (CountsForm ∷ (Races with_places ∷ [])) forms text old new _ taken (with_places, refl, refl)

pub passes_race_count : (forms : List Form) (text : List ℕ) (old new : Position) (with_places : Bool) (n : ℕ) → TakesLine text old new (races_line n) → IsShown n
    → Passes text old new (Races with_places ∷ forms) (places_form with_places ++ (block_forms 1 n ++ forms))
passes_race_count forms text old new true n taken shown = passes_by (Races true) (Places ∷ block_forms 1 n) forms text old new _ taken (n, shown, refl, refl)
passes_race_count forms text old new false n taken shown = passes_by (Races false) (block_forms 1 n) forms text old new _ taken (n, shown, refl, refl)

-- the places, or none

length-place_lines : (number : ℕ) (places : List Place) → length (place_lines number places) ≡ 3 * length places
length-place_lines number [] = refl
length-place_lines number (p ∷ places) = omega (arith, length-place_lines (number + 1) places)

pub length-block_lines : (number : ℕ) (blocks : List Block) → length (block_lines number blocks) ≡ 4 * length blocks
length-block_lines number [] = refl
length-block_lines number (b ∷ blocks) = omega (arith, length-block_lines (number + 1) blocks)

section_of : (text : List ℕ) (old mid new : Position) (with_places : Bool) (count : ℕ) (entries : List PlaceEntry) → with_places ≡ true → TakesLine text old mid (places_line count) → IsShown count → ReadsPlaces text mid new count entries
    → ReadsSection text old new with_places entries
section_of text old mid new false count entries e taken shown h = absurd (cc)
section_of text old mid new true count entries e taken shown h =
    let places = places_at text entries in
    let counted : length places ≡ count = length-map entries _ ∙ h.count_is in
    let first : bytes_from text old ≡ lines_text (places_line count ∷ []) ++ bytes_from text mid = taken.begins.bytes_are ∙ sym (append_assoc (places_line count) (10 ∷ []) (bytes_from text mid)) in record {
      in_grammar = record { each = h.in_grammar; few = subst IsShown (sym counted) shown };
      few = subst IsShown (sym h.count_is) shown;
      bytes = joined (places_line count ∷ []) (place_lines 1 places) _ _ _ first h.bytes ∙ ap (λ n. lines_text (places_line n ∷ place_lines 1 places) ++ bytes_from text new) (sym counted);
      entries_in = h.entries_in;
      lines = omega (arith, taken.counted, h.lines, length-place_lines 1 places, counted);
    }

pub section_read : (most : ℕ) (text : List ℕ) (old mid new : Position) (with_places : Bool) (count : ℕ) (kept : List PlaceEntry) → with_places ≡ true → TakesLine text old mid (places_line count) → IsShown count
    → KeepsFirst most (ReadsPlaces text mid new count) kept → KeepsFirst most (ReadsSection text old new with_places) kept
section_read most text old mid new with_places count kept e taken shown h =
    record { all = h.all; holds = section_of text old mid new with_places count h.all e taken shown h.holds; kept_is = h.kept_is }

-- where as many are kept as can be shown, all are
pub whole_section : (text : List ℕ) (old new : Position) (with_places : Bool) (kept : List PlaceEntry) → KeepsFirst (2 ^ 64 - 1) (ReadsSection text old new with_places) kept → ReadsSection text old new with_places kept
whole_section text old new with_places kept h =
    let few = h.holds.few in
    subst (ReadsSection text old new with_places) (sym (h.kept_is ∙ take_all (2 ^ 64 - 1) h.all (omega (arith, few)))) h.holds

-- the entries that are kept lie in the text
pub kept_in : (most : ℕ) (text : List ℕ) (old new : Position) (with_places : Bool) (kept : List PlaceEntry) → KeepsFirst most (ReadsSection text old new with_places) kept → AllByRecursion (IsPlaceIn text) kept
kept_in most text old new with_places kept h = subst (AllByRecursion (IsPlaceIn text)) (sym h.kept_is) (each-take (IsPlaceIn text) most h.all h.holds.entries_in)

pub with_section : (text : List ℕ) (old : Position) (with_places : Bool) (forms : List Form) (n : ℕ) → with_places ≡ true → IsBadAt text old (Places ∷ forms) n → IsBadAt text old (places_form with_places ++ forms) n
with_section text old true forms n e b = b
with_section text old false forms n e b = absurd (cc)

-- bytes after the last line

pub bad_tail : (text : List ℕ) (at : Position) → at.start < length text → IsBadAt text at [] (at.lines + 1)
bad_tail text at more = bad_after at.lines (bytes_from text at) (omega (arith, length-drop at.start text))

-- the whole

version_is : (text : List ℕ) (with_places : Bool) (entries : List PlaceEntry) → version_line with_places ≡ version_line (is_some (section_at text with_places entries))
version_is text true entries = refl
version_is text false entries = refl

pub whole_text : (text : List ℕ) (a b c : Position) (with_places : Bool) (counts : Counts) (entries : List PlaceEntry) (blocks : List Block) (races lines : ℕ)
    → AreShown counts → IsShown races
    → text ≡ lines_text (version_line with_places ∷ (counts_line counts ∷ (races_line races ∷ []))) ++ bytes_from text a → a.lines ≡ 3
    → ReadsSection text a b with_places entries → TakesBlocks text b c races blocks
    → bytes_from text c ≡ lines_text (codes "end" ∷ []) → lines ≡ c.lines + 1
    → IsTextOf text (record { counts = counts; places = section_at text with_places entries; blocks = blocks }) lines
whole_text text a b c with_places counts entries blocks races lines shown_counts shown head third section taken tail last =
    let section_lines = places_section (section_at text with_places entries) in
    let end : List (List ℕ) = codes "end" ∷ [] in
    let counted : length blocks ≡ races = taken.count_is in
    let from_c : bytes_from text c ≡ lines_text end ++ [] = tail ∙ sym (append-nil (lines_text end)) in
    let from_b = joined (block_lines 1 blocks) end _ _ _ taken.bytes from_c in
    let from_a = joined section_lines (block_lines 1 blocks ++ end) _ _ _ section.bytes from_b in
    let whole = joined (version_line with_places ∷ (counts_line counts ∷ (races_line races ∷ []))) (section_lines ++ (block_lines 1 blocks ++ end)) _ _ _ head from_a in
    let first = version_is text with_places entries in record {
      in_grammar = record { counts = shown_counts; places = section.in_grammar; blocks = taken.in_grammar; few = subst IsShown (sym counted) shown };
      text_is = whole ∙ append-nil _
          ∙ ap (λ v. lines_text (v ∷ (counts_line counts ∷ (races_line races ∷ (section_lines ++ (block_lines 1 blocks ++ end)))))) first
          ∙ ap (λ n. lines_text (version_line (is_some (section_at text with_places entries)) ∷ (counts_line counts ∷ (races_line n ∷ (section_lines ++ (block_lines 1 blocks ++ end)))))) (sym counted);
      lines_are = omega (arith, last, taken.lines, section.lines, third, counted, length-block_lines 1 blocks, length-append section_lines (block_lines 1 blocks ++ end), length-append (block_lines 1 blocks) end);
    }

pub scanned : (text : List ℕ) (a b c : Position) (parts : Parts) (races lines : ℕ)
    → length text ≤ most_bytes → AreShown parts.counts → IsShown races
    → text ≡ lines_text (version_line parts.with_places ∷ (counts_line parts.counts ∷ (races_line races ∷ []))) ++ bytes_from text a → a.lines ≡ 3
    → ReadsSection text a b parts.with_places parts.places.items → ReadsBlocks text b c races parts.numbers.items parts.races.items
    → bytes_from text c ≡ lines_text (codes "end" ∷ []) → lines ≡ c.lines + 1 → IsScanned text parts lines
scanned text a b c parts races lines short counts shown head third section blocks tail last = record {
  parts_in = record { short = short; places = section.entries_in; races = blocks.entries_in };
  whole = whole_text text a b c parts.with_places parts.counts parts.places.items (blocks_at text parts.numbers.items parts.races.items) races lines counts shown head third section blocks.taken tail last;
}
