use Rattle.std.proofs.Common.{arith}
use Rattle.shb_nearest.proofs.Members.{read_at}
use Rattle.shb_nearest.proofs.SiteLemmas.{all_done, old_more}
use Rattle.shb_nearest.proofs.sites.Sites.is_done.Goals as goal

pub returns-in_default-first_not_in : goal.returns-in_default-first_not_in
returns-in_default-first_not_in c is =
    let all = c.args.self.now.all.items in
    let own = c.in-Some.own.now in
    let few = c.if-len.false in
    let len = c.len.ensures in
    all_done all c.args.numbers.now c.args.second c.args.since c.loop.from c.args.self.now.own own (read_at all c.deref.result.now c.args.self.now.own own c.deref.ensures.value c.in-Some.ensures.lookup.3.0 c.in-Some.ensures.lookup.1)
    c.if-own-second.false (omega (arith, few, len)) c.in_default-first_not_in.ensures c.loop.invariant

pub loop-preserved : goal.loop-preserved
loop-preserved c =
    let number = c.in-Some-first_not_in.number in
    let least = c.in-Some-first_not_in.ensures in
    old_more c.args.self.now.all.items c.args.numbers.now c.in-Some.own.now.paired c.args.since c.loop.from number (c.is_old-old.ensures c.if-not-old.false) least.least c.loop.invariant
