use Rattle.std.proofs.Common.{rules, ◌++◌, ◌+◌, ◌-◌, subst, refl}
use Rattle.shb_format.proofs.Words.{AppendsPrefix, HoldsBack, event_number, event_numbers, range_with_len}
use Rattle.shb_format.proofs.writing.HeldLemmas.{HoldsBack-then, PutsPrefix-front, PutsPrefix-after, Puts-err}
use Rattle.shb_format.proofs.writing.RunTexts.{numbers-next, numbers-split}
use Rattle.shb_format.proofs.writing.held_runs.put_run_numbers.Goals as goal

pub returns-in_err-put_event-clause-put : goal.returns-in_err-put_event-clause-put
returns-in_err-put_event-clause-put g c =
    let held = c.args.held.now in
    let run = c.args.run in
    let k = c.loop-k.k in
    let number = event_number (run.first + k) in
    let rest = event_numbers (range_with_len (run.first + k + 1) (run.len - (k + 1))) in
    let front = PutsPrefix-front _ _ c.loop-k.held number rest c.in_err-put_event.ensures.put in
    let after = PutsPrefix-after _ _ _ held _ (event_numbers (range_with_len run.first k)) (number ++ rest) c.loop-k.invariant.held front in
    Puts-err _ _ _ _ held _ (event_numbers (range_with_len run.first run.len)) c.from_residual.ensures.1
    (subst (λ l. AppendsPrefix (g.S.Sink.taken c.args.sink.now) (g.S.Sink.taken c.put_event.new.sink) (held ++ l)) (numbers-split run.first k (run.first + k) run.len refl c.loop-k-test.true) after)

pub loop-k-preserved : goal.loop-k-preserved
loop-k-preserved g c =
    let held = c.args.held.now in
    let run = c.args.run in
    let k = c.loop-k.k in
    let number = event_number (run.first + k) in
    let more = HoldsBack-then _ _ _ held _ _ (event_numbers (range_with_len run.first k)) number c.loop-k.invariant.held c.in_ok-put_event.ensures.put in record {
      held = subst (λ l. HoldsBack (g.S.Sink.taken c.args.sink.now) (g.S.Sink.taken c.put_event.new.sink) c.put_event.new.held (held ++ l)) (numbers-next run.first k (run.first + k) refl) more;
      counted = search rules;
    }
