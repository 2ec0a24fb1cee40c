use Rattle.std.proofs.Common.{List, ℕ, subst}
use Rattle.shb_write.proofs.Words.{AppendsPrefix-front, Writes, Writes-err, Writes-then}
use Rattle.shb_write.proofs.Reports.{front_is}
use Rattle.shb_write.proofs.report.write_front.Goals as goal

pub returns-in_err-head-clause-written : goal.returns-in_err-head-clause-written
returns-in_err-head-clause-written g c listed counted are =
    subst (λ (bytes : List ℕ). Writes (g.K.Sink.taken c.args.sink.now) (g.K.Sink.taken c.head.new.sink) c.from_residual.result bytes)
    (front_is c.args.trace.now listed _ _ counted are)
    (Writes-err _ _ _ _ _ c.from_residual.ensures.1 (AppendsPrefix-front _ _ _ _ (rw c.counts_of-counts.ensures at c.in_err-head.ensures.written)))

pub returns-clause-written : goal.returns-clause-written
returns-clause-written g c listed counted are =
    subst (λ (bytes : List ℕ). Writes (g.K.Sink.taken c.args.sink.now) (g.K.Sink.taken c.place_lines.new.sink) c.place_lines.result bytes)
    (front_is c.args.trace.now listed _ _ counted are)
    (Writes-then _ _ _ _ _ _ (rw c.counts_of-counts.ensures at c.in_ok-head.ensures.written) c.place_lines.ensures.written)
