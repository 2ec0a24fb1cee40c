use Rattle.std.proofs.Common.{subst}
use Rattle.shb_nearest.proofs.Words.{IsDone, Sites}
use Rattle.shb_nearest.proofs.groups.Groups.are_done.Goals as goal

pub returns-in-Some-clause-writes : goal.returns-in-Some-clause-writes
returns-in-Some-clause-writes c is = (c.in-Some.sites, c.in-Some.is, subst (λ (s : Sites). IsDone s.all.items s.writes c.args.second c.args.since) c.deref.ensures (c.are_done.ensures.writes is))

pub returns-in-Some-clause-reads : goal.returns-in-Some-clause-reads
returns-in-Some-clause-reads c is writes = (c.in-Some.sites, c.in-Some.is, subst (λ (s : Sites). IsDone s.all.items s.reads c.args.second c.args.since) c.deref.ensures (c.are_done.ensures.reads is writes))
