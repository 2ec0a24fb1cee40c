use Rattle.std.proofs.Common.{◌<◌, length, get_or, refl, arith, subst, sym}
use Rattle.std.proofs.lemmas.Option.{slice_get-get_or, slice_get_within}
use Rattle.shb_lines.proofs.events.Events.{same_op, same_thread}
use Rattle.shb_discipline.proofs.Steps.{front_few, front_more, no_event}
use Rattle.shb_discipline.specs.State.{IsStateAfter}
use Rattle.shb_discipline.proofs.Faultless.{disciplined_more, may_come}
use Rattle.shb_discipline.proofs.checking.first_fault.Goals as goal

pub returns-in-Some : goal.returns-in-Some
returns-in-Some c = record {
  position = c.loop-e.e;
  event = c.event-line.result;
  at = c.event-line.ensures;
  line_is = refl;
  lowest = c.in-Some.ensures _ c.event-line.result (same_thread _ _ _ _ c.event-line.ensures c.thread-thread.ensures) (same_op _ _ _ _ c.event-line.ensures c.op-op.ensures) c.loop-e.invariant.state;
  earlier = c.loop-e.invariant.disciplined;
}

pub loop-e-preserved : goal.loop-e-preserved
loop-e-preserved c =
    let events = c.args.events.now in
    let e = c.loop-e.e in
    let lt : e < length events = omega (arith, c.loop-e-test.true, c.len-e-end.ensures) in
    let event = get_or events e no_event in
    let at = slice_get-get_or events e no_event lt in
    let of_thread = same_thread _ _ _ _ at c.thread-thread.ensures in
    let of_op = same_op _ _ _ _ at c.op-op.ensures in
    let may = may_come _ event (c.in_default.ensures _ event of_thread of_op c.loop-e.invariant.state) in
    record {
      state = subst (λ past. IsStateAfter past c.note.new.self) (sym (front_more events e event at))
          (c.in_ok-note.ensures _ event of_thread of_op (front_few events e lt c.requires.few) may c.loop-e.invariant.state);
      disciplined = disciplined_more events e no_event lt c.loop-e.invariant.disciplined may;
    }

pub returns : goal.returns
returns c = λ k e at. c.loop-e.invariant.disciplined k e (let lt = slice_get_within c.args.events.now k e at in omega (arith, lt)) at
