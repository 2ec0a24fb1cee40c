use Rattle.std.proofs.Common.{List, arith, subst}
use Rattle.std.proofs.lemmas.List.{take_all}
use Rattle.shb_fan.specs.declared.step.Step.{Step}
use Rattle.shb_fan.specs.Machine.{Runs, start}
use Rattle.shb_fan.proofs.MachineFacts.{facts_hold}
use Rattle.shb_fan.proofs.Starts.{refused_here, run_on}
use Rattle.shb_fan.proofs.machine.replay.Goals as goal

pub returns-then-not-branch : goal.returns-then-not-branch
returns-then-not-branch c = refused_here c.args.actors c.args.pieces c.args.steps.now c.loop-at.at _ c.loop-at.fan c.advance.new.fan c.in_ok-advance.field-0 c.loop-at-test.true c.loop-at.invariant c.if-not-branch.true c.in_ok-advance.ensures.ok

pub loop-at-preserved : goal.loop-at-preserved
loop-at-preserved c = run_on c.args.actors c.args.pieces c.args.steps.now c.loop-at.at _ c.loop-at.fan c.advance.new.fan c.in_ok-advance.field-0 c.loop-at-test.true c.loop-at.invariant c.if-not-branch.false c.in_ok-advance.ensures.ok

pub returns : goal.returns
returns c =
    let whole = take_all c.loop-at.at c.args.steps.now (omega (arith, c.loop-at-test.false)) in
    let runs = subst (λ (xs : List Step). Runs (start c.args.actors c.args.pieces) xs c.loop-at.fan) whole c.loop-at.invariant in
    (runs, facts_hold c.args.actors c.args.pieces c.args.steps.now c.loop-at.fan runs)
