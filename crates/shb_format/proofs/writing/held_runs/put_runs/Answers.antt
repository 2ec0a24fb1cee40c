use Rattle.shb_format.proofs.Words.{AppendsPrefix, Run, common_steps, event_numbers, positions_in, run_positions}
use Rattle.std.proofs.Common.{◌++◌, ◌+◌, get_or, take, drop, subst, arith}
use Rattle.shb_format.proofs.writing.HeldLemmas.{HoldsBack-then, PutsPrefix-front, PutsPrefix-after, Puts-err}
use Rattle.shb_format.proofs.writing.RunTexts.{runs-next, runs-split}
use Rattle.shb_format.proofs.writing.held_runs.put_runs.Goals as goal

abbrev none : Run
none = record { first = 0; len = 0 }

pub returns-in_err-put_run-clause-put : goal.returns-in_err-put_run-clause-put
returns-in_err-put_run-clause-put g c =
    let held = c.args.held.now in
    let runs = c.args.runs.now in
    let k = c.loop-run.run-index in
    let numbers = event_numbers (run_positions (get_or runs k none)) in
    let rest = event_numbers (positions_in (drop (k + 1) runs)) in
    let front = PutsPrefix-front _ _ c.loop-run.held numbers rest c.in_err-put_run.ensures.put in
    let after = PutsPrefix-after _ _ _ held _ (event_numbers (positions_in (take k runs))) (numbers ++ rest) c.loop-run.invariant.held front in
    Puts-err _ _ _ _ held _ (event_numbers (positions_in runs)) c.from_residual.ensures.1
    (subst (λ l. AppendsPrefix (g.S.Sink.taken c.args.sink.now) (g.S.Sink.taken c.put_run.new.sink) (held ++ l)) (runs-split runs k none c.loop-run-test.true) after)

pub loop-run-preserved : goal.loop-run-preserved
loop-run-preserved g c = grind (arith, common_steps, HoldsBack-then, c.loop-run.invariant.held, c.in_ok-put_run.ensures.put, runs-next, c.loop-run-test.true)
