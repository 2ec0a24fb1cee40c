use Rattle.std.proofs.Common.{[], ◌∷◌, ◌++◌, sym}
use Rattle.shb_nearest.proofs.StepLemmas.{next_access, next_op}
use Rattle.shb_nearest.proofs.TableLemmas.{tables_skip}
use Rattle.shb_nearest.proofs.search.take_event.Goals as goal

pub returns-in_ok-take-in-Some : goal.returns-in_ok-take-in-Some
returns-in_ok-take-in-Some c past e spots next are =
    c.in_ok-take-in-Some.ensures past e spots next.room (next_access past e spots c.args.clocks.now c.args.op c.args.access next c.in-Some.variable (sym c.in-Some.ensures)) are

pub returns-in-None : goal.returns-in-None
returns-in-None c past e spots next are =
    tables_skip (past ++ e ∷ []) spots c.args.access.event c.args.by_variable c.args.tables.now c.args.op (next_op past e spots c.args.clocks.now c.args.op c.args.access next) (sym c.in-None.ensures) are
