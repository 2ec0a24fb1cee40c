use Rattle.std.proofs.Common.{subst}
use Rattle.shb_nearest.proofs.Words.{IsDone, Sites, of_group}
use Rattle.shb_nearest.proofs.groups.Groups.is_done.Goals as goal

pub returns-in-Some : goal.returns-in-Some
returns-in-Some c is = (c.in-Some.sites, c.in-Some.is, subst (λ (s : Sites). IsDone s.all.items (of_group s c.args.at) c.args.second c.args.since) c.deref.ensures (c.group_is_done.ensures is))
