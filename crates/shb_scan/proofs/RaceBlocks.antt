-- The blocks of races, one after another, and the report that they are a part of.
use Rattle.std.proofs.Common.{◌≡◌, ℕ, ◌+◌, ◌<◌, List, [], ◌∷◌, ◌++◌, None, false, length, map, get_or, take, drop, refl, sym, ap, ◌∙◌, arith, append_assoc, append-nil, take-append-drop, length-take}
use Rattle.shb_scan.proofs.Words.{AreBlocks, Counts, FoundRace, HasSchedule, IsReportOn, ShownRace, TraceData, alone, block_bytes, blocks_from, blocks_of, counts_of, ends_of, head_bytes, length-map, listing_bytes, map-append, take_more}
use Rattle.std.proofs.lemmas.List.Elements.{All-map}

-- the blocks of pairs, of which the first has this number
abbrev pub blocks_at : TraceData → ℕ → List (ℕ × ℕ) → List ℕ
blocks_at trace number pairs = blocks_from trace number (map alone pairs)

blocks_at-append : (trace : TraceData) (number : ℕ) (pairs more : List (ℕ × ℕ)) → blocks_at trace number (pairs ++ more) ≡ blocks_at trace number pairs ++ blocks_at trace (number + length pairs) more
blocks_at-append trace number [] more = ap (λ n. blocks_at trace n more) {x = number} {y = number + 0} (omega arith)
blocks_at-append trace number (pair ∷ pairs) more =
    let count : number + 1 + length pairs ≡ number + length (pair ∷ pairs) = omega arith in
    ap (λ l. block_bytes trace number pair None ++ l) (blocks_at-append trace (number + 1) pairs more ∙ ap (λ n. blocks_at trace (number + 1) pairs ++ blocks_at trace n more) count)
    ∙ sym (append_assoc (block_bytes trace number pair None) (blocks_at trace (number + 1) pairs) (blocks_at trace (number + length (pair ∷ pairs)) more))

-- the blocks of races, numbered from 1
abbrev pub race_blocks : TraceData → List FoundRace → List ℕ
race_blocks trace races = blocks_of trace (map ends_of races)

module _ (trace : TraceData) (races : List FoundRace) (k : ℕ) (d : FoundRace) (within : k < length races) where
  count_before : 1 + length (map ends_of (take k races)) ≡ k + 1
  count_before = omega (arith, length-map (take k races) ends_of, length-take k races)

  -- the block of one race more
  pub blocks-next : race_blocks trace (take k races) ++ block_bytes trace (k + 1) (ends_of (get_or races k d)) None ≡ race_blocks trace (take (k + 1) races)
  blocks-next =
      let before : List (ℕ × ℕ) = map ends_of (take k races) in
      let last : ℕ × ℕ = ends_of (get_or races k d) in
      ap (λ l. blocks_at trace 1 before ++ l) (sym (append-nil (block_bytes trace (k + 1) last None)))
      ∙ ap (λ n. blocks_at trace 1 before ++ blocks_at trace n (last ∷ [])) (sym count_before)
      ∙ sym (blocks_at-append trace 1 before (last ∷ []))
      ∙ ap (blocks_at trace 1) (sym (map-append ends_of (take k races) (get_or races k d ∷ [])) ∙ ap (map ends_of) (sym (take_more races k d within)))

  count_up_to : 1 + length (map ends_of (take (k + 1) races)) ≡ k + 1 + 1
  count_up_to = omega (arith, length-map (take (k + 1) races) ends_of, length-take (k + 1) races)

  -- the blocks of the first races, of the next one, and of those after it
  pub blocks-split : race_blocks trace (take k races) ++ (block_bytes trace (k + 1) (ends_of (get_or races k d)) None ++ blocks_at trace (k + 1 + 1) (map ends_of (drop (k + 1) races))) ≡ race_blocks trace races
  blocks-split =
      let after : List (ℕ × ℕ) = map ends_of (drop (k + 1) races) in
      let up_to : List (ℕ × ℕ) = map ends_of (take (k + 1) races) in
      sym (append_assoc (race_blocks trace (take k races)) (block_bytes trace (k + 1) (ends_of (get_or races k d)) None) (blocks_at trace (k + 1 + 1) after))
      ∙ ap (λ l. l ++ blocks_at trace (k + 1 + 1) after) blocks-next
      ∙ ap (λ n. blocks_at trace 1 up_to ++ blocks_at trace n after) (sym count_up_to)
      ∙ sym (blocks_at-append trace 1 up_to after)
      ∙ ap (blocks_at trace 1) (sym (map-append ends_of (take (k + 1) races) (drop (k + 1) races)) ∙ ap (map ends_of) (take-append-drop (k + 1) races))

-- the head, by the counts of the trace and the number of its races
pub head_is : (trace : TraceData) (races : List FoundRace) (counts : Counts) → counts ≡ counts_of trace → head_bytes counts (length races) ≡ head_bytes (counts_of trace) (length (map ends_of races))
head_is trace races counts same = ap (λ c. head_bytes c (length races)) same ∙ ap (head_bytes (counts_of trace)) (sym (length-map races ends_of))

-- the text with these races is the report on them
pairs_of : (pairs : List (ℕ × ℕ)) → map (λ (race : ShownRace). race.pair) (map alone pairs) ≡ pairs
pairs_of [] = refl
pairs_of (pair ∷ pairs) = ap (λ l. pair ∷ l) (pairs_of pairs)

are_blocks : (trace : TraceData) (pairs : List (ℕ × ℕ)) → AreBlocks false trace pairs (blocks_of trace pairs)
are_blocks trace pairs = record {
  shown = map alone pairs;
  races_are = pairs_of pairs;
  schedules_are = All-map (HasSchedule false trace) alone pairs (λ k d lt. refl);
  bytes_are = refl;
}

pub reported : (Lists : TraceData → List (ℕ × ℕ) → Type 0) (trace : TraceData) (pairs : List (ℕ × ℕ)) → Lists trace pairs → IsReportOn Lists false trace (listing_bytes trace pairs)
reported Lists trace pairs lists = record { races = pairs; blocks = blocks_of trace pairs; races_are = lists; blocks_are = are_blocks trace pairs; bytes_are = refl }
