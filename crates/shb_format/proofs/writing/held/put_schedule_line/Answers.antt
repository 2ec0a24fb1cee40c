use Rattle.std.proofs.Common.{◌++◌, length, codes}
use Rattle.shb_format.proofs.Words.{event_numbers, schedule_start}
use Rattle.shb_format.proofs.writing.HeldLemmas.{PutsPrefix-front, PutsPrefix-after, Puts-as, Puts-then, Puts-err}
use Rattle.shb_format.proofs.writing.BlockText.{schedule_is}
use Rattle.shb_format.proofs.writing.held.put_schedule_line.Goals as goal

pub returns-in_err-put_schedule_start-clause-put : goal.returns-in_err-put_schedule_start-clause-put
returns-in_err-put_schedule_start-clause-put g c =
    let held = c.args.held.now in
    let events = c.args.events.now in
    let start = schedule_start (length events) in
    let rest = event_numbers events ++ codes "\n" in
    Puts-as _ _ _ held _ (start ++ rest) _ (schedule_is events)
    (Puts-err _ _ _ _ held _ (start ++ rest) c.from_residual.ensures.1 (PutsPrefix-front _ _ held start rest c.in_err-put_schedule_start.ensures.put))

pub returns-in_err-put_events-clause-put : goal.returns-in_err-put_events-clause-put
returns-in_err-put_events-clause-put g c =
    let held = c.args.held.now in
    let events = c.args.events.now in
    let start = schedule_start (length events) in
    let rest = event_numbers events ++ codes "\n" in
    let front = PutsPrefix-front _ _ c.put_schedule_start.new.held (event_numbers events) (codes "\n") c.in_err-put_events.ensures.put in
    Puts-as _ _ _ held _ (start ++ rest) _ (schedule_is events)
    (Puts-err _ _ _ _ held _ (start ++ rest) c.from_residual-in_err-put_events.ensures.1
    (PutsPrefix-after _ _ _ held _ start rest c.in_ok-put_schedule_start.ensures.put front))

pub returns-clause-put : goal.returns-clause-put
returns-clause-put g c =
    let events = c.args.events.now in
    let last = Puts-then _ _ _ _ c.put_schedule_start.new.held _ _ (event_numbers events) (codes "\n") c.in_ok-put_events.ensures.put c.put_bytes.ensures.put in
    Puts-as _ _ _ c.args.held.now _ _ _ (schedule_is events)
    (Puts-then _ _ _ _ c.args.held.now _ _ (schedule_start (length events)) (event_numbers events ++ codes "\n") c.in_ok-put_schedule_start.ensures.put last)
