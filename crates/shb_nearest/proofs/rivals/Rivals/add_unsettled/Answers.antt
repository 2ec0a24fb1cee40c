use Rattle.shb_nearest.proofs.Words.{access_of}
use Rattle.shb_nearest.proofs.AddedLemmas.{added_settled}
use Rattle.shb_nearest.proofs.rivals.Rivals.add_unsettled.Goals as goal

pub returns-then-settled : goal.returns-then-settled
returns-then-settled c = added_settled c.args.groups.now c.args.second c.args.self.now.found.items (access_of c.args.thread c.args.writes c.args.kept) (c.is_settled-settled.ensures c.if-settled.true)
