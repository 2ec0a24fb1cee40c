use Rattle.std.proofs.Common.{◌∙◌, ap, arith, subst, sym}
use Rattle.std.specs.FinSet as fin
use Rattle.shb_numbers.specs.Numbers.{HasNone, IsLeast, Numbers, has_key}
use Rattle.shb_numbers.proofs.FarLemmas.{least_near, none_near, passed_near}
use Rattle.shb_numbers.proofs.large_set.near_not_in.Goals as goal

pub returns-in_default : goal.returns-in_default
returns-in_default c =
    subst (λ (s : Numbers). HasNone (fin.difference c.args.near.now s) c.args.from c.args.end) c.other.view_is
    (none_near c.args.near.now c.other.inside.near c.other.inside.far.items c.args.from c.loop-at.at c.args.end c.loop-at.invariant.passed c.in_default.ensures)

pub returns-then-not-far : goal.returns-then-not-far
returns-then-not-far c =
    subst (λ (s : Numbers). IsLeast (fin.difference c.args.near.now s) c.args.from c.args.end c.in-Some.k) c.other.view_is
    (least_near c.args.near.now c.other.inside.near c.other.inside.far.items c.args.from c.loop-at.at c.args.end c.loop-at.invariant.passed c.in-Some.k c.in-Some.ensures
    c.loop-at.invariant.start (ap (λ l. has_key l c.in-Some.k) (sym c.as_slice.ensures.value) ∙ sym c.has-far.ensures ∙ c.if-not-far.true))

pub loop-at-preserved : goal.loop-at-preserved
loop-at-preserved c = record {
  start = omega (arith, c.in-Some.ensures.low, c.loop-at.invariant.start);
  passed = passed_near c.args.near.now c.other.inside.near c.other.inside.far.items c.args.from c.loop-at.at c.args.end c.loop-at.invariant.passed c.in-Some.k c.in-Some.ensures (ap (λ l. has_key l c.in-Some.k) (sym c.as_slice.ensures.value) ∙ sym c.has-far.ensures ∙ c.if-not-far.false);
}
