use Rattle.shb_stamps.proofs.ClockSteps.{taken_other, taken_read}
use Rattle.shb_stamps.proofs.clocks.Clocks.learn.Goals as goal

pub returns-in_ok-rename : goal.returns-in_ok-rename
returns-in_ok-rename c = λ trace n all next old. taken_read trace n c.args.thread c.args.time c.args.joined c.args.op next all c.args.self.now.rows.list c.args.self.now.current.items c.args.self.now.locks.items c.args.self.now.variables.items old c.row_number-before.result c.source-source.result c.in_ok-after.after c.row_after.new.rows.list c.put.new.items.items c.row_number-before.ensures (c.source-source.ensures.source trace n c.args.thread c.args.time all next old) c.in_ok-after.ensures c.in_ok-put.ensures c.in-Read.variable c.in-Read.is (c.source-source.ensures.write c.in-Read.variable c.in-Read.is) _ c.in_ok-rename.ensures.kept c.in_ok-rename.ensures.named

pub returns-in_default : goal.returns-in_default
returns-in_default c = λ trace n all next old. taken_other trace n c.args.thread c.args.time c.args.joined c.args.op next all c.args.self.now.rows.list c.args.self.now.current.items c.args.self.now.locks.items c.args.self.now.variables.items old c.row_number-before.result c.source-source.result c.in_ok-after.after c.row_after.new.rows.list c.put.new.items.items c.row_number-before.ensures (c.source-source.ensures.source trace n c.args.thread c.args.time all next old) c.in_ok-after.ensures c.in_ok-put.ensures c.requires.no_fork c.requires.no_release c.requires.no_write
