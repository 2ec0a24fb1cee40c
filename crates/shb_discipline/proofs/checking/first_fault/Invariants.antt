use Rattle.std.proofs.Common.{take}
use Rattle.shb_lines.proofs.events.Locks.{DisciplinedBelow}
use Rattle.shb_discipline.specs.State.{IsStateAfter}
use Rattle.shb_discipline.proofs.checking.first_fault.Given as goal

abbrev pub invariant-loop-e : goal.invariant-loop-e
invariant-loop-e l = record {
  state : IsStateAfter (take l.e l.events) l.state;
  disciplined : DisciplinedBelow l.events l.e;
}
