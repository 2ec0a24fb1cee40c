-- The counts are read one after another.
use Rattle.std.proofs.Common.{refl}
use Rattle.shb_reading.proofs.Peeling.{counts_locks, counts_threads, counts_variables}
use Rattle.shb_reading.proofs.grammar.counts_in.Goals as goal

pub returns-in_err-threads : goal.returns-in_err-threads
returns-in_err-threads c = rw c.from_residual-in_err-threads.ensures (λ counts shown e.
    let threads = counts_threads c.args.line.now c.in_ok-events.events c.in_ok-events.after_events.now counts c.in_ok-events.ensures.0 c.in_ok-events.ensures.1 shown e in
    c.in_err-threads.ensures counts.threads _ shown.threads (record { text_is = threads; ends = refl }))

pub returns-in_err-locks : goal.returns-in_err-locks
returns-in_err-locks c = rw c.from_residual-in_err-locks.ensures (λ counts shown e.
    let threads = counts_threads c.args.line.now c.in_ok-events.events c.in_ok-events.after_events.now counts c.in_ok-events.ensures.0 c.in_ok-events.ensures.1 shown e in
    let locks = counts_locks c.in_ok-events.after_events.now c.in_ok-threads.threads c.in_ok-threads.after_threads.now counts c.in_ok-threads.ensures.0 c.in_ok-threads.ensures.1 shown threads in
    c.in_err-locks.ensures counts.locks _ shown.locks (record { text_is = locks; ends = refl }))

pub returns-in_err-variables : goal.returns-in_err-variables
returns-in_err-variables c = rw c.from_residual-in_err-variables.ensures (λ counts shown e.
    let threads = counts_threads c.args.line.now c.in_ok-events.events c.in_ok-events.after_events.now counts c.in_ok-events.ensures.0 c.in_ok-events.ensures.1 shown e in
    let locks = counts_locks c.in_ok-events.after_events.now c.in_ok-threads.threads c.in_ok-threads.after_threads.now counts c.in_ok-threads.ensures.0 c.in_ok-threads.ensures.1 shown threads in
    let variables = counts_variables c.in_ok-threads.after_threads.now c.in_ok-locks.locks c.in_ok-locks.after_locks.now counts c.in_ok-locks.ensures.0 c.in_ok-locks.ensures.1 shown locks in
    c.in_err-variables.ensures counts.variables shown.variables variables)
