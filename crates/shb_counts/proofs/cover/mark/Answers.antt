use Rattle.std.proofs.Common.{arith, refl}
use Rattle.shb_counts.proofs.CoverLemmas.{below_more, filled_more, marked_all, marked_more, marked_none, runs_more}
use Rattle.shb_counts.proofs.cover.mark.Goals as goal

pub loop-at-init : goal.loop-at-init
loop-at-init c = record {
  low = omega arith;
  marked = marked_none c.args.window.end c.args.later c.args.first.now;
  below = λ j lt. refl;
  filled = λ j low high. absurd (omega (arith, low, high));
  runs = c.requires.runs;
}

pub loop-at-preserved : goal.loop-at-preserved
loop-at-preserved c =
    let start = c.args.window.start in
    let end = c.args.window.end in
    let i = c.loop-at.invariant in
    let step = c.step_back-at.ensures in
    record {
      low = (let back = step.back in let low = i.low in omega (arith, back, low));
      marked = marked_more start end c.args.later c.loop-at.at c.step_back-at.result c.args.first.now c.loop-at.first c.step_back-at.new.first i.marked i.low step;
      below = below_more start end c.args.later c.loop-at.at c.step_back-at.result c.args.first.now c.loop-at.first c.step_back-at.new.first i.marked i.low step c.loop-at-test.true i.below;
      filled = filled_more start end c.args.later c.loop-at.at c.step_back-at.result c.args.first.now c.loop-at.first c.step_back-at.new.first i.marked i.low step i.filled;
      runs = runs_more c.step_back-at.result c.loop-at.at c.args.later c.loop-at.first c.step_back-at.new.first c.args.runs.now step.marked i.runs;
    }

pub returns-clause-marked : goal.returns-clause-marked
returns-clause-marked c = marked_all c.args.window.start c.args.window.end c.args.later c.loop-at.at c.args.first.now c.loop-at.first c.loop-at.invariant.marked (omega (arith, c.loop-at-test.false)) c.loop-at.invariant.below
