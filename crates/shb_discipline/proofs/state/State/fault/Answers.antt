use Rattle.std.proofs.Common.{count_by, subst}
use Rattle.shb_lines.specs.events.Discipline.{is_join}
use Rattle.shb_discipline.specs.State.{Tells}
use Rattle.shb_discipline.proofs.state.State.fault.Goals as goal

pub returns-else-is_joined : goal.returns-else-is_joined
returns-else-is_joined c = λ past e of_thread of_op state.
    c.operation_fault.ensures past e of_thread of_op (subst (λ flag. Tells flag (count_by (is_join c.args.thread) past)) c.if-is_joined.false (c.is_joined.ensures past state)) state
