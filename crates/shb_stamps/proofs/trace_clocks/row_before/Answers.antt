use Rattle.std.proofs.Common.{ap, false, ◌∙◌, get_or, ℕ}
use Rattle.shb_stamps.proofs.ClockSteps.{row_at}
use Rattle.shb_stamps.proofs.Fronts.{thread_same}
use Rattle.shb_stamps.proofs.trace_clocks.row_before.Goals as goal

pub returns : goal.returns
returns c = λ t of_t. row_at c.args.linked.now.events.now c.args.linked.now.meets c.args.e t false c.args.clocks.now.rows.list c.args.clocks.now.current.items c.args.clocks.now.locks.items c.args.clocks.now.variables.items of_t c.requires.before c.row_number.result
    (c.row_number.ensures ∙ ap (λ (u : ℕ). get_or c.args.clocks.now.current.items u 0) (thread_same c.args.linked.now.events.now c.args.e c.thread.result t c.thread.ensures of_t))
