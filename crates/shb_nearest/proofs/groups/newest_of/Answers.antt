use Rattle.std.proofs.Common.{List, arith, refl, subst}
use Rattle.shb_nearest.proofs.Words.{HasLast, KeptAccess, access_of, class_of, slice_get-get_or, take_all}
use Rattle.shb_nearest.proofs.GroupLemmas.{last_more}
use Rattle.shb_nearest.proofs.groups.newest_of.Goals as goal

pub loop-access-preserved : goal.loop-access-preserved
loop-access-preserved c rising = last_more (λ (a : KeptAccess). a.event) (λ (a : KeptAccess). class_of c.args.variable (access_of c.args.thread c.args.writes a)) c.loop-access.newest.newest.entries c.put.new.self.newest.entries c.args.kept.now c.loop-access.access-index _ _ refl rising
    (slice_get-get_or c.args.kept.now c.loop-access.access-index _ (let low = c.loop-access-test.true in omega (arith, low))) c.in_ok-put.ensures.updates (c.loop-access.invariant rising)

pub returns : goal.returns
returns c rising = subst (λ (l : List KeptAccess). HasLast c.loop-access.newest.newest.entries c.args.variable c.args.thread c.args.writes l) (take_all c.loop-access.access-index c.args.kept.now (let done = c.loop-access-test.false in omega (arith, done))) (c.loop-access.invariant rising)
