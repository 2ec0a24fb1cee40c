use Rattle.shb_format.proofs.Words.{AppendsPrefix, common_steps, event_number, event_numbers}
use Rattle.std.proofs.Common.{◌++◌, ◌+◌, get_or, take, drop, subst, arith}
use Rattle.shb_format.proofs.writing.HeldLemmas.{HoldsBack-then, PutsPrefix-front, PutsPrefix-after, Puts-err, texts-next, texts-split}
use Rattle.shb_format.proofs.writing.held.put_events.Goals as goal

pub returns-in_err-put_event-clause-put : goal.returns-in_err-put_event-clause-put
returns-in_err-put_event-clause-put g c =
    let held = c.args.held.now in
    let events = c.args.events.now in
    let k = c.loop-event.event-index in
    let number = event_number (get_or events k 0) in
    let rest = event_numbers (drop (k + 1) events) in
    let front = PutsPrefix-front _ _ c.loop-event.held number rest c.in_err-put_event.ensures.put in
    let after = PutsPrefix-after _ _ _ held _ (event_numbers (take k events)) (number ++ rest) c.loop-event.invariant.held front in
    Puts-err _ _ _ _ held _ (event_numbers events) c.from_residual.ensures.1
    (subst (λ l. AppendsPrefix (g.S.Sink.taken c.args.sink.now) (g.S.Sink.taken c.put_event.new.sink) (held ++ l)) (texts-split event_number events k 0 c.loop-event-test.true) after)

pub loop-event-preserved : goal.loop-event-preserved
loop-event-preserved g c = grind (arith, common_steps, HoldsBack-then, c.loop-event.invariant.held, c.in_ok-put_event.ensures.put, texts-next, c.loop-event-test.true)
