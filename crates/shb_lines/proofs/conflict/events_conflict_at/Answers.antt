-- The test of the operations and the threads at these positions.
use Rattle.std.proofs.Common.{sym, ◌∙◌}
use Rattle.shb_lines.proofs.events.ConflictTests.{conflict_from_parts, parts_from_conflict}
use Rattle.shb_lines.proofs.conflict.events_conflict_at.Goals as goal

pub returns-then-operations_conflict : goal.returns-then-operations_conflict
returns-then-operations_conflict c =
    ((λ h. conflict_from_parts _ _ _ _ _ _ _ c.op.ensures c.op-2.ensures c.thread.ensures c.thread-then-operations_conflict.ensures (sym c.operations_conflict.ensures ∙ c.if-operations_conflict.true) h), (λ conflict. (parts_from_conflict _ _ _ _ _ _ _ c.op.ensures c.op-2.ensures c.thread.ensures c.thread-then-operations_conflict.ensures conflict).1))
