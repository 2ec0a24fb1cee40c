use Rattle.std.proofs.Common.{◌∙◌, arith, refl, sym}
use Rattle.std.specs.Prelude.{slice_index}
use Rattle.shb_numbers.proofs.FarLemmas.{in_far, in_near, in_neither, least_far, none_far, passed_far, passed_first}
use Rattle.shb_numbers.proofs.large_set.far_not_in.Goals as goal
use Rattle.shb_numbers.proofs.large_set.far_not_in.Goals.{then-not-found+else-not-near, else-not-found}

pub loop-at-init : goal.loop-at-init
loop-at-init c = record {
  start = c.index_from-at.ensures.from;
  passed = passed_first c.args.far.now c.requires.rising c.args.other.now c.args.from c.index_from-at.result c.index_from-at.ensures.below;
  behind = λ k none. absurd (omega (arith, none));
}

pub returns-then-number-end : goal.returns-then-number-end
returns-then-number-end c =
    none_far c.args.far.now c.requires.rising c.args.other.now c.args.from c.loop-at.at c.loop-at.invariant.passed c.args.end (λ inside. c.if-number-end.true)

pub returns-then-not-near : goal.returns-then-not-near
returns-then-not-near c =
    least_far c.args.far.now c.requires.rising c.args.other.now c.args.from c.loop-at.at c.loop-at.invariant.passed c.args.end (slice_index c.args.far.now c.loop-at.at)
    c.loop-at-test.true refl (c.loop-at.invariant.start c.loop-at-test.true) c.if-number-end.false
    (in_neither c.other.inside.near c.other.inside.far.items c.as_slice-there.result.now c.args.other.now (slice_index c.args.far.now c.loop-at.at) c.other.view_is c.as_slice-there.ensures.value
    (sym c.contains-near.ensures ∙ c.if-not-near.true) (sym c.is_at-found.ensures ∙ c.if-not-found.true))

pub loop-at-preserved : goal.loop-at-preserved
loop-at-preserved c =
    let number = slice_index c.args.far.now c.loop-at.at in
    let inside = c.loop-at-test.true in
    record {
      start = λ next. (let low = c.loop-at.invariant.start inside in let more = c.requires.rising c.loop-at.at next in omega (arith, low, more));
      passed = passed_far c.args.far.now c.requires.rising c.args.other.now c.args.from c.loop-at.at c.loop-at.invariant.passed inside
          (elim c.if-not-found.branch [
            | then-not-found+else-not-near w ↦
                in_near c.other.inside.near c.other.inside.far.items c.as_slice-there.result.now c.args.other.now number c.other.view_is c.as_slice-there.ensures.value
                (sym w.contains-near.ensures ∙ w.if-not-near.false)
            | else-not-found w ↦
                in_far c.other.inside.near c.other.inside.far.items c.as_slice-there.result.now c.args.other.now number c.other.view_is c.as_slice-there.ensures.value
                (sym c.is_at-found.ensures ∙ w.if-not-found.false)
          ]);
      behind = λ k below next. (let less = c.index_from-passed.ensures.below k below in let more = c.requires.rising c.loop-at.at next in omega (arith, less, more));
    }

pub returns : goal.returns
returns c =
    none_far c.args.far.now c.requires.rising c.args.other.now c.args.from c.loop-at.at c.loop-at.invariant.passed c.args.end
    (λ inside. absurd (omega (arith, inside, c.loop-at-test.false)))
