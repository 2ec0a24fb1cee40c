use Rattle.std.proofs.Common.{◌++◌, ◌∷◌, [], List, ℕ, ap, refl, ◌∙◌}
use Rattle.shb_stamps.proofs.ClockSteps.{taken_fork}
use Rattle.shb_stamps.proofs.clocks.Clocks.take_fork.Goals as goal

pub returns : goal.returns
returns c = λ trace n joined all next old. taken_fork trace n c.args.thread c.args.time joined _ next all c.args.self.now.rows.list c.args.self.now.current.items c.args.self.now.locks.items c.args.self.now.variables.items old c.args.child c.row_number-own.result refl c.row_number-own.ensures _ _ refl c.in_ok-set_clock.ensures _ (c.in_ok-forked.ensures.rows ∙ ap (λ (row : List ℕ). c.args.self.now.rows.list ++ row ∷ []) c.as_slice.ensures.value) _ c.in_ok-forked.ensures.number _ c.in_ok-put.ensures
