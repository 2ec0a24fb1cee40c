use Rattle.std.proofs.Common.{arith, inr, refl}
use Rattle.shb_nearest.proofs.GroupLemmas.{kept_all, kept_some}
use Rattle.shb_nearest.proofs.groups.Group.keep.Goals as goal

pub returns-then-len-self-clause-kept : goal.returns-then-len-self-clause-kept
returns-then-len-self-clause-kept c = kept_all c.args.access c.args.self.now _ refl refl c.in_ok-push.ensures.ok

pub returns-clause-kept : goal.returns-clause-kept
returns-clause-kept c = kept_some c.args.access c.args.self.now _ refl refl c.push.new.self.items c.as_slice.result.now c.in_ok-newest.newest.newest.entries c.args.variable c.in_ok-push.ensures.ok c.as_slice.ensures c.in_ok-newest.ensures c.forget.ensures

pub returns-clause-most : goal.returns-clause-most
returns-clause-most c = inr (let longest = c.max-self.ensures in let twice = c.saturating_mul.ensures in let long = c.len-2.ensures.value in omega (arith, longest, twice, long))
