use Rattle.std.proofs.Common.{List, arith, subst, sym}
use Rattle.shb_nearest.proofs.Words.{Entry, HasPut}
use Rattle.shb_nearest.proofs.Chains.{put_behind}
use Rattle.shb_nearest.proofs.log.put.Goals as goal

pub returns-clause-put : goal.returns-clause-put
returns-clause-put c few =
    let old = c.args.entries.now.items in
    subst (λ (l : List Entry). HasPut old l c.args.newest c.args.late c.min.result) (sym c.in_ok-push.ensures.items)
    (put_behind old c.args.newest c.args.late c.min.result (let least = c.min.ensures in let long = c.len.ensures in let more = c.in_ok-push.ensures.len in let same = c.args.entries.now.ok in let whole = c.push.new.self.ok in omega (arith, least, long, more, same, whole, few)))
