-- One access more, by its races or by its windows.
use Rattle.std.proofs.Common.{◌++◌, flat_map, refl}
use Rattle.shb_counts.specs.Covers.{racing_pairs}
use Rattle.shb_counts.proofs.RunLemmas.{covered_low, one_covered, one_direct}
use Rattle.shb_counts.proofs.runs.RunSums.add.Goals as goal

pub returns-then-few : goal.returns-then-few
returns-then-few c trace numbers pairs events has are low each at =
    one_direct trace numbers c.args.entries.now pairs events c.args.self.now has c.args.access.event _ refl
    (c.in_ok-add_windows.ensures trace numbers (pairs ++ flat_map (racing_pairs trace c.args.entries.now) has.direct) has.summed each at are)

pub add_cover-requires : goal.add_cover-requires
add_cover-requires c =
    let r = c.requires in
    (r.0, r.4.covered, r.4.cover, r.5, covered_low r.0 r.1 c.args.entries.now r.2 r.3 c.args.self.now r.4 c.args.access.event r.6)

pub returns : goal.returns
returns c trace numbers pairs events has are low each at =
    one_covered trace numbers c.args.entries.now pairs events c.args.self.now has c.args.access.event c.add_cover.new.self c.in_ok-add_cover.ensures.table
    (c.in_ok-add_cover.ensures.cover trace has.covered has.cover are (covered_low trace numbers c.args.entries.now pairs events c.args.self.now has c.args.access.event low))
