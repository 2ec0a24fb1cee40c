-- The bytes that the writer puts together are the text of a report.
use Rattle.shb_format.proofs.Words.{All-head, All-tail, AllRaces, HasSchedule, IsPrintedSchedule, IsRaceList, IsReportOn, ShownRace, TraceData, block_bytes, block_lines, block_of, blocks_from, common_steps, counts_in, length-map, lines_text, pair_of, places_of_pairs, places_section, report_text, section_bytes, shown_places, written_report}
use Rattle.std.proofs.Common.{◌≡◌, ℕ, ◌+◌, true, List, [], ◌∷◌, ◌++◌, map, codes, Option, None, Some, refl, sym, ap, subst, ◌∙◌, append_assoc, arith}
use Rattle.std.specs.Prelude.{All, IsSomeAnd}
use Rattle.shb_format.proofs.LineLemmas.{lines_text-append}

abbrev section_lines : TraceData → List (ℕ × ℕ) → List (List ℕ)
section_lines trace races = places_section (Some (shown_places trace (counts_in (places_of_pairs trace (map pair_of races)))))

abbrev section_of : TraceData → List (ℕ × ℕ) → List ℕ
section_of trace races = section_bytes trace (counts_in (places_of_pairs trace (map pair_of races)))

block_is : (trace : TraceData) (number : ℕ) (race : ShownRace) (schedule : List ℕ) → race.schedule ≡ Some schedule → block_bytes trace number race.pair race.schedule ≡ lines_text (block_lines number (block_of trace race ∷ []))
block_is trace number race schedule is = grind (arith, common_steps, Option)

-- blocks, one after another
blocks_are : (trace : TraceData) (number : ℕ) (shown : List ShownRace) → All (HasSchedule true trace) shown → blocks_from trace number shown ≡ lines_text (block_lines number (map (block_of trace) shown))
blocks_are trace number [] h = refl
blocks_are trace number (race ∷ shown) h =
    let later = blocks_are trace (number + 1) shown (All-tail (HasSchedule true trace) race shown h) in
    let first = has race (All-head (HasSchedule true trace) race shown h) in
    ap (λ b. b ++ blocks_from trace (number + 1) shown) (block_is trace number race first.0 first.1)
    ∙ ap (λ b. lines_text (block_lines number (block_of trace race ∷ [])) ++ b) later
    ∙ sym (lines_text-append (block_lines number (block_of trace race ∷ [])) (block_lines (number + 1) (map (block_of trace) shown)))
  where
    has : (race : ShownRace) → HasSchedule true trace race → (schedule : List ℕ) × (race.schedule ≡ Some schedule)
    has race h = by race.schedule h
      where
        by : (schedule : Option (List ℕ)) → IsSomeAnd schedule (λ s. IsPrintedSchedule trace.events s race.pair.0 race.pair.1) → (s : List ℕ) × (schedule ≡ Some s)
        by None h = absurd h
        by (Some s) h = (s, refl)

-- the whole
pub written_is : (Lists : TraceData → List (ℕ × ℕ) → Type 0) (trace : TraceData) (bytes : List ℕ) (h : IsReportOn Lists true trace bytes) → bytes ≡ report_text (written_report trace h.blocks_are.shown)
written_is Lists trace bytes h = grind (arith, common_steps, blocks_are, map, codes, length-map, lines_text-append, append_assoc)

pub written_law : (trace : TraceData) (bytes : List ℕ) → IsReportOn AllRaces true trace bytes
    → (shown : List ShownRace) × IsRaceList trace.events (map (λ race. race.pair) shown) × All (HasSchedule true trace) shown × (bytes ≡ report_text (written_report trace shown))
written_law trace bytes h = (h.blocks_are.shown, subst (IsRaceList trace.events) (sym h.blocks_are.races_are) h.races_are, h.blocks_are.schedules_are, written_is AllRaces trace bytes h)
