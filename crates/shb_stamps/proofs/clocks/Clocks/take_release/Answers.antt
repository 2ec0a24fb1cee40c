use Rattle.std.proofs.Common.{refl}
use Rattle.shb_stamps.proofs.ClockSteps.{taken_release}
use Rattle.shb_stamps.proofs.clocks.Clocks.take_release.Goals as goal

pub returns : goal.returns
returns c = λ trace n joined all next old. taken_release trace n c.args.thread c.args.time joined _ next all c.args.self.now.rows.list c.args.self.now.current.items c.args.self.now.locks.items c.args.self.now.variables.items old c.args.lock c.row_number-row.result refl c.row_number-row.ensures _ c.empty.ensures _ c.in_ok-put.ensures
