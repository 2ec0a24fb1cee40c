-- The events are those of the race, with the lines that the trace has.
use Rattle.std.proofs.Common.{None, subst}
use Rattle.shb_scan.proofs.Words.{Writes, block_bytes}
use Rattle.shb_scan.proofs.writing.write_race.Goals as goal

pub returns-clause-written : goal.returns-clause-written
returns-clause-written g c trace h =
    let race = c.args.race in
    subst (λ n. Writes (g.S.Sink.taken c.args.sink.now) (g.S.Sink.taken c.access_block.new.sink) c.access_block.result (block_bytes trace c.args.number (n, race.second.event) None)) c.access_text-first.ensures.event
    (subst (λ n. Writes (g.S.Sink.taken c.args.sink.now) (g.S.Sink.taken c.access_block.new.sink) c.access_block.result (block_bytes trace c.args.number (c.access_text-first.result.event, n) None)) c.access_text-second.ensures.event
    (c.access_block.ensures.written trace (c.access_text-first.ensures.line trace h.first) (c.access_text-second.ensures.line trace h.second)))
