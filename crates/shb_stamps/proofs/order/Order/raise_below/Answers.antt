use Rattle.std.proofs.Common.{ℕ, ◌∙◌, ap, arith, refl}
use Rattle.std.specs.Prelude.{max}
use Rattle.shb_stamps.proofs.Words.{get_or_read}
use Rattle.shb_stamps.proofs.RaisedCounts.{counts_done, counts_more, counts_start}
use Rattle.shb_stamps.proofs.order.Order.raise_below.Goals as goal

pub loop-t-init : goal.loop-t-init
loop-t-init g c = counts_start _ _ _

pub loop-t-preserved : goal.loop-t-preserved
loop-t-preserved g c = counts_more _ _ c.args.counts.now.items c.loop-t.counts.items _ c.loop-t.t c.below_pred-below.result c.max.result c.loop-t.invariant
    (let test = c.loop-t-test.true in let size = c.len-t-end.ensures in omega (arith, test, size)) c.below_pred-below.ensures
    (c.max.ensures ∙ ap (λ (n : ℕ). max n c.below_pred-below.result) (get_or_read c.loop-t.counts.items c.loop-t.t c.index.result.now (let test = c.loop-t-test.true in let size = c.len-t-end.ensures in let long = c.loop-t.invariant.long in omega (arith, test, size, long)) c.index.ensures 0)) refl

pub returns : goal.returns
returns g c = counts_done _ _ c.args.counts.now.items c.loop-t.counts.items c.loop-t.t (let test = c.loop-t-test.false in let size = c.len-t-end.ensures in omega (arith, test, size)) c.loop-t.invariant
