use Rattle.std.proofs.Common.{refl, subst, sym}
use Rattle.shb_stamps.proofs.Words.{IsSource}
use Rattle.shb_stamps.proofs.ClockSteps.{acquire_source, join_source, no_source, read_source}
use Rattle.shb_stamps.proofs.clocks.Clocks.source.Goals as goal

pub returns-in-Acquire-clause-source : goal.returns-in-Acquire-clause-source
returns-in-Acquire-clause-source c = λ trace n thread time all next old. subst (IsSource trace c.args.self.now.rows.list n) (sym c.lock_stamp.ensures) (acquire_source trace n thread time c.args.joined c.args.op next all c.args.self.now.rows.list c.args.self.now.current.items c.args.self.now.locks.items c.args.self.now.variables.items old c.in-Acquire.lock c.in-Acquire.is)

pub returns-in-Read-clause-source : goal.returns-in-Read-clause-source
returns-in-Read-clause-source c = λ trace n thread time all next old. subst (IsSource trace c.args.self.now.rows.list n) (sym c.write_stamp.ensures) (read_source trace n thread time c.args.joined c.args.op next all c.args.self.now.rows.list c.args.self.now.current.items c.args.self.now.locks.items c.args.self.now.variables.items old c.in-Read.variable c.in-Read.is)

pub returns-in-Join-clause-source : goal.returns-in-Join-clause-source
returns-in-Join-clause-source c = λ trace n thread time all next old. join_source trace n thread time c.args.joined c.args.op next all c.args.self.now.rows.list c.args.self.now.current.items c.args.self.now.locks.items c.args.self.now.variables.items old c.in-Join.child c.in-Join.is _ c.row_number-row.ensures refl refl

pub returns-in_default-clause-source : goal.returns-in_default-clause-source
returns-in_default-clause-source c = λ trace n thread time all next old. subst (IsSource trace c.args.self.now.rows.list n) (sym c.empty.ensures) (no_source trace n thread time c.args.joined c.args.op next all c.args.self.now.rows.list c.args.self.now.current.items c.args.self.now.locks.items c.args.self.now.variables.items old c.in_default.not-Acquire c.in_default.not-Join c.in_default.not-Read)
