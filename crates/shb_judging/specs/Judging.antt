-- What the parts of a judgement find.
use Rattle.std.specs.Prelude.{◌≡◌, ◌+◌, ℕ, All, List, length, map, take, Option, Some, None, Result, Ok, Err}
use Rattle.std.specs.List.{AllByRecursion}
use Rattle.shb_lines.specs.text.TraceData.{TraceData}
use Rattle.shb_lines.specs.declared.event.Pair.{Pair}
use Rattle.shb_judging.specs.declared.judged.JudgedBlocks.{JudgedBlocks}
use Rattle.shb_reading.specs.declared.position.Position.{Position}
use Rattle.shb_judging.specs.declared.verdict.RaceFault.{RaceFault}
use Rattle.shb_judging.specs.declared.verdict.Verdict.{Verdict}
use Rattle.shb_format.specs.declared.counts.Counts.{Counts}
use Rattle.shb_reading.specs.Parts.{IsTextOf, TakesBlocks}
use Rattle.shb_format.specs.Places.{IsPairOf}
use Rattle.shb_format.specs.Value.{Block, Place, ReportValue}
use Rattle.shb_judging.specs.Verdicts.{HasGoodPair, IsFirstBadBlock, IsGoodBlock, IsLowestFault, IsVerdict, pair_in, positions_of}

-- the positions that are kept of a schedule: the first ones, at most one more than the trace has events
abbrev pub first_positions : TraceData → List ℕ → List ℕ
first_positions trace numbers = take (length trace.events + 1) (positions_of trace numbers)

-- all blocks are good, and these are their pairs; or these are as many as stand before the first that is bad, and this is its lowest fault
abbrev pub AreFound : TraceData → List Block → List Pair → Option RaceFault → Type 0
AreFound trace blocks pairs None = AllByRecursion (IsGoodBlock trace) blocks × (pairs ≡ map pair_in blocks)
AreFound trace blocks pairs (Some why) = IsFirstBadBlock trace blocks (length pairs + 1) why

-- what is known of these blocks once they were judged
pub record AreJudged (trace : TraceData) (blocks : List Block) (judged : JudgedBlocks) : Type 0 where
  pub pairs_in : All (IsPairOf trace) judged.pairs.items
  pub found : AreFound trace blocks judged.pairs.items judged.bad

-- this is the verdict on each report with these counts, these places and blocks that were judged so
abbrev pub IsVerdictOnJudged : TraceData → Counts → Option (List Place) → JudgedBlocks → Verdict → Type 0
IsVerdictOnJudged trace counts places judged verdict =
    (report : ReportValue) → report.counts ≡ counts → report.places ≡ places → AreJudged trace report.blocks judged → IsVerdict trace report verdict

-- these blocks stand between the positions, so many, and were judged so
pub record JudgesBlocks (trace : TraceData) (text : List ℕ) (old new : Position) (count : ℕ) (judged : JudgedBlocks) : Type 0 where
  pub blocks : List Block
  pub taken : TakesBlocks text old new count blocks
  pub are_judged : AreJudged trace blocks judged

-- the text is that of a report, and this is its verdict
pub record IsJudgedText (trace : TraceData) (text : List ℕ) (lines : ℕ) (verdict : Verdict) : Type 0 where
  pub report : ReportValue
  pub text_is : IsTextOf text report lines
  pub verdict_is : IsVerdict trace report verdict
