use Rattle.std.proofs.Common.{ap, ◌++◌, List, ℕ, ◌∙◌}
use Rattle.shb_counts.proofs.JobLemmas.{counted_more}
use Rattle.shb_counts.specs.declared.sums.PlaceSum.{PlaceSum}
use Rattle.shb_counts.proofs.runs.Counted.add.Goals as goal

pub returns : goal.returns
returns c trace numbers list rest first second =
    counted_more trace numbers list rest c.args.self.now c.args.more.now _ (c.in_ok-extend_from_slice.ensures.items ∙ ap (λ (l : List ℕ). c.args.self.now.races.items ++ l) c.as_slice.ensures.value) (c.in_ok-extend_from_slice-2.ensures.items ∙ ap (λ (l : List PlaceSum). c.args.self.now.sums.items ++ l) c.as_slice-2.ensures.value) first second
