-- The cover is the one of the run, or a new one.
use Rattle.std.proofs.Common.{subst, sym}
use Rattle.shb_counts.specs.Runs.{MayCover}
use Rattle.shb_counts.proofs.runs.RunSums.add_cover.Goals as goal

pub add-requires : goal.add-requires
add-requires c =
    let r = c.requires in
    (r.0, c.args.entries.now, r.1, c.in_ok-cover.ensures r.0 r.1 (subst (MayCover r.0 c.args.entries.now r.1) (sym c.take.ensures.value) r.2), r.3, r.4)

pub returns-clause-cover : goal.returns-clause-cover
returns-clause-cover c trace events may are low =
    c.add.ensures trace c.args.entries.now events (c.in_ok-cover.ensures trace events (subst (MayCover trace c.args.entries.now events) (sym c.take.ensures.value) may)) are low
