use Rattle.std.proofs.Common.{get_or, arith, refl, sym, ◌∙◌}
use Rattle.shb_stamps.proofs.Words.{thread_below_pred}
use Rattle.shb_stamps.proofs.ClockSteps.{row_at}
use Rattle.shb_stamps.proofs.Locals.{time_at}
use Rattle.shb_stamps.proofs.Screening.{past_where}
use Rattle.shb_stamps.proofs.screen.is_past.Goals as goal

pub returns-then-epoch-eq0 : goal.returns-then-epoch-eq0
returns-then-epoch-eq0 c = λ trace n all disciplined before of_n is. past_where trace n c.args.epoch (sym c.is_unknown-lost.ensures ∙ c.if-lost.false) (λ m lt own. absurd (let time = time_at trace c.args.epoch.thread m own.thread_is in let same = own.time_is in let none = c.if-epoch-eq0.true in omega (arith, time, same, none)))

pub returns-then-epoch-thread : goal.returns-then-epoch-thread
returns-then-epoch-thread c = λ trace n all disciplined before of_n is. past_where trace n c.args.epoch (sym c.is_unknown-lost.ensures ∙ c.if-lost.false) (λ m lt own. thread_below_pred trace c.args.epoch.thread m n lt own.thread_is (rw c.if-epoch-thread.true of_n))

pub returns-then-epoch-below : goal.returns-then-epoch-below
returns-then-epoch-below c = λ trace n all disciplined before of_n is.
    let clocks = c.args.clocks.now in
    let row = row_at trace disciplined n c.args.thread all clocks.rows.list clocks.current.items clocks.locks.items clocks.variables.items of_n before (get_or clocks.current.items c.args.thread 0) refl in
    past_where trace n c.args.epoch (sym c.is_unknown-lost.ensures ∙ c.if-lost.false)
    (λ m lt own. (row.front.exact c.args.epoch.thread m own.thread_is c.if-epoch-thread.false).0 (let known = c.known_of-below.ensures in let same = own.time_is in let le = c.if-epoch-below.true in omega (arith, known, same, le)))
