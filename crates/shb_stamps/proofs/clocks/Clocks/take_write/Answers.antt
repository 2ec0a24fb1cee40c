use Rattle.std.proofs.Common.{refl}
use Rattle.shb_stamps.proofs.ClockSteps.{taken_write}
use Rattle.shb_stamps.proofs.clocks.Clocks.take_write.Goals as goal

pub returns : goal.returns
returns c = λ trace n joined all next kept old. taken_write trace n c.args.thread c.args.time joined _ next all c.args.self.now.rows.list c.args.self.now.current.items c.args.self.now.locks.items c.args.self.now.variables.items old c.args.variable c.row_number-row.result refl kept c.row_number-row.ensures _ c.empty.ensures _ c.in_ok-put.ensures
