-- What is in the cover is added, in another order.
use Rattle.std.proofs.Common.{◌++◌, ◌∙◌, flat_map, refl, sym}
use Rattle.shb_counts.specs.Covers.{racing_pairs}
use Rattle.shb_counts.proofs.RunLemmas.{all_counted, covered_at, none_covered, some_covered}
use Rattle.shb_counts.proofs.runs.RunSums.finish.Goals as goal

pub returns-in-None : goal.returns-in-None
returns-in-None c trace numbers pairs events has each at =
    none_covered trace numbers c.args.entries.now pairs events c.args.self.now has _ (sym c.take.ensures.value ∙ c.in-None.is) c.take.ensures.after refl

pub returns-in_ok-count-in-Some : goal.returns-in_ok-count-in-Some
returns-in_ok-count-in-Some c trace numbers pairs events has each at =
    let entries = c.args.entries.now in
    let self = c.args.self.now in
    all_counted trace numbers entries pairs events self has _ c.take.ensures.after
    (c.in_ok-count-in-Some.ensures trace numbers has.covered (pairs ++ flat_map (racing_pairs trace entries) has.direct) (some_covered trace numbers entries pairs events self has c.in-Some.cover (sym c.take.ensures.value ∙ c.in-Some.is))
    each (covered_at trace numbers entries pairs events self has c.args.access at) has.summed)
