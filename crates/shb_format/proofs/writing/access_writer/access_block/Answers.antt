use Rattle.std.proofs.Common.{◌++◌, subst}
use Rattle.shb_format.proofs.Words.{HoldsBack-end, Writes, Writes-both, Writes-err}
use Rattle.shb_format.proofs.writing.AccessPieces.{access_block_is, access_lines}
use Rattle.shb_format.proofs.writing.access_writer.access_block.Goals as goal

pub returns-in_err-put_accesses-clause-written : goal.returns-in_err-put_accesses-clause-written
returns-in_err-put_accesses-clause-written g c trace of_first of_second =
    let held = c.push_race_line.new.text in
    let line = rw c.new-held.ensures at c.push_race_line.ensures in
    subst (λ bytes. Writes (g.S.Sink.taken c.args.sink.now) (g.S.Sink.taken c.put_accesses.new.sink) c.from_residual.result bytes) (access_block_is trace c.args.number c.args.first.now c.args.second.now held of_first of_second line)
    (Writes-err _ _ _ _ (held ++ access_lines c.args.first.now c.args.second.now) c.from_residual.ensures.1 c.in_err-put_accesses.ensures.put)

pub returns-clause-written : goal.returns-clause-written
returns-clause-written g c trace of_first of_second =
    let held = c.push_race_line.new.text in
    let line = rw c.new-held.ensures at c.push_race_line.ensures in
    let sent = subst (λ bytes. Writes (g.S.Sink.taken c.put_accesses.new.sink) (g.S.Sink.taken c.write_all.new.sink) c.write_all.result bytes) c.as_slice.ensures (Writes-both _ _ _ _ c.write_all.ensures.ok c.write_all.ensures.err) in
    subst (λ bytes. Writes (g.S.Sink.taken c.args.sink.now) (g.S.Sink.taken c.write_all.new.sink) c.write_all.result bytes) (access_block_is trace c.args.number c.args.first.now c.args.second.now held of_first of_second line)
    (HoldsBack-end _ _ _ _ _ _ c.in_ok-put_accesses.ensures.put sent)
