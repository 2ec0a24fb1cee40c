use Rattle.std.proofs.Common.{rules}
use Rattle.shb_nearest.proofs.Words.{is_newest_kept}
use Rattle.shb_nearest.proofs.GroupLemmas.{retained_passing}
use Rattle.shb_nearest.proofs.groups.forget.Goals as goal

pub returns : goal.returns
returns c = retained_passing _ (is_newest_kept c.args.classes.now.newest.entries c.args.variable c.args.thread c.args.writes) _ (λ x b g y k. search rules) _ _ c.retain.ensures.filtered
