use Rattle.std.proofs.Common.{length, arith, ◌<◌, ◌^◌}
use Rattle.shb_stamps.proofs.ClockSteps.{clocks_moved}
use Rattle.shb_stamps.proofs.clocks.Clocks.compact.Goals as goal

pub returns-clause-before : goal.returns-clause-before
returns-clause-before c = λ trace n all low old.
    let few : length c.args.self.now.rows.list < 2 ^ 32 = (let f = old.few in omega (arith, f, low)) in
    clocks_moved trace n all c.args.self.now.rows.list c.compact.new.rows.list c.args.self.now.current.items c.compact.new.current.items c.args.self.now.locks.items c.compact.new.locks.items c.args.self.now.variables.items c.compact.new.variables.items
    (c.in_ok-compact.ensures old.some few) old
