-- Each listed pair of a good report is a race.
use Rattle.std.proofs.Common.{◌-◌, List, [], ◌∷◌, arith}
use Rattle.shb_judging.proofs.Words.{AllByRecursion, Block, IsGoodBlock, IsGoodReport, Race, ReportValue, TraceData}
use Rattle.shb_lines.proofs.events.Unschedulable.{race_of_schedule}

-- the block has a schedule of its pair, and a conflicting pair with a schedule is a race
race_in : (trace : TraceData) (block : Block) → IsGoodBlock trace block → Race trace.events (block.first - 1) (block.second - 1)
race_in trace block good =
    let pair = good.pair in
    race_of_schedule trace.events good.events (block.first - 1) (block.second - 1) pair.conflict (omega (arith, pair.first_counts, pair.earlier)) good.schedule

races_in : (trace : TraceData) (blocks : List Block) → AllByRecursion (IsGoodBlock trace) blocks
    → AllByRecursion (λ block. Race trace.events (block.first - 1) (block.second - 1)) blocks
races_in trace [] good = tt
races_in trace (block ∷ blocks) good = (race_in trace block good.0, races_in trace blocks good.1)

pub good_lists_races : (trace : TraceData) (report : ReportValue) → IsGoodReport trace report
    → AllByRecursion (λ block. Race trace.events (block.first - 1) (block.second - 1)) report.blocks
good_lists_races trace report good = races_in trace report.blocks good.blocks
