use Rattle.shb_stamps.proofs.ClockSteps.{clocks_none}
use Rattle.shb_stamps.proofs.clocks.Clocks.new.Goals as goal

pub returns-clause-before : goal.returns-clause-before
returns-clause-before c = λ trace all. clocks_none trace all _ _ _ _ _ _ _ c.in_ok-new.ensures c.in_ok-zeros.ensures c.in_ok-no_stamps.ensures c.in_ok-no_stamps-2.ensures
