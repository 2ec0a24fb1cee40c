use Rattle.std.proofs.Common.{◌++◌, subst}
use Rattle.shb_format.proofs.Words.{HoldsBack-end, Writes, Writes-both, Writes-err, event_lines, lines_text, option_map, schedule_lines}
use Rattle.shb_format.proofs.writing.BlockText.{block_is}
use Rattle.shb_format.proofs.writing.HeldLemmas.{HoldsBack-then, PutsPrefix-front, PutsPrefix-after}
use Rattle.shb_format.proofs.writing.writer.block.Goals as goal

pub returns-in_err-put_event_lines-clause-written : goal.returns-in_err-put_event_lines-clause-written
returns-in_err-put_event_lines-clause-written g c =
    let held = c.push_race_line.new.text in
    let line = rw c.new-held.ensures at c.push_race_line.ensures in
    let lines = event_lines c.args.trace.now (c.args.pair.first, c.args.pair.second) in
    let schedule = lines_text (schedule_lines (option_map (λ s. s.now) c.args.schedule)) in
    subst (λ bytes. Writes (g.S.Sink.taken c.args.sink.now) (g.S.Sink.taken c.put_event_lines.new.sink) c.from_residual.result bytes) (block_is c.args.trace.now c.args.number (c.args.pair.first, c.args.pair.second) (option_map (λ s. s.now) c.args.schedule) held line)
    (Writes-err _ _ _ _ (held ++ (lines ++ schedule)) c.from_residual.ensures.1 (PutsPrefix-front _ _ held lines schedule c.in_err-put_event_lines.ensures.put))

pub returns-in_err-put_schedule-clause-written : goal.returns-in_err-put_schedule-clause-written
returns-in_err-put_schedule-clause-written g c =
    let held = c.push_race_line.new.text in
    let line = rw c.new-held.ensures at c.push_race_line.ensures in
    let lines = event_lines c.args.trace.now (c.args.pair.first, c.args.pair.second) in
    let schedule = lines_text (schedule_lines (option_map (λ s. s.now) c.args.schedule)) in
    subst (λ bytes. Writes (g.S.Sink.taken c.args.sink.now) (g.S.Sink.taken c.put_schedule.new.sink) c.from_residual-in_err-put_schedule.result bytes) (block_is c.args.trace.now c.args.number (c.args.pair.first, c.args.pair.second) (option_map (λ s. s.now) c.args.schedule) held line)
    (Writes-err _ _ _ _ (held ++ (lines ++ schedule)) c.from_residual-in_err-put_schedule.ensures.1 (PutsPrefix-after _ _ _ held _ lines schedule c.in_ok-put_event_lines.ensures.put c.in_err-put_schedule.ensures.put))

pub returns-clause-written : goal.returns-clause-written
returns-clause-written g c =
    let held = c.push_race_line.new.text in
    let line = rw c.new-held.ensures at c.push_race_line.ensures in
    let lines = event_lines c.args.trace.now (c.args.pair.first, c.args.pair.second) in
    let schedule = lines_text (schedule_lines (option_map (λ s. s.now) c.args.schedule)) in
    let all = HoldsBack-then _ _ _ held _ _ lines schedule c.in_ok-put_event_lines.ensures.put c.in_ok-put_schedule.ensures.put in
    let sent = subst (λ bytes. Writes (g.S.Sink.taken c.put_schedule.new.sink) (g.S.Sink.taken c.write_all.new.sink) c.write_all.result bytes) c.as_slice.ensures (Writes-both _ _ _ _ c.write_all.ensures.ok c.write_all.ensures.err) in
    subst (λ bytes. Writes (g.S.Sink.taken c.args.sink.now) (g.S.Sink.taken c.write_all.new.sink) c.write_all.result bytes) (block_is c.args.trace.now c.args.number (c.args.pair.first, c.args.pair.second) (option_map (λ s. s.now) c.args.schedule) held line)
    (HoldsBack-end _ _ _ _ _ _ all sent)
