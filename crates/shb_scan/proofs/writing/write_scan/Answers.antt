-- The head, the places, the blocks and the tail.
use Rattle.std.proofs.Common.{◌++◌, append_assoc, length, map, subst, sym}
use Rattle.shb_scan.proofs.Words.{Appends, AppendsPrefix, AppendsPrefix-after, AppendsPrefix-front, Writes, Writes-err, Writes-then, counts_of, ends_of, head_bytes, pair_of, places_in, section_bytes, tail_bytes}
use Rattle.shb_format.specs.Places.{counts_in}
use Rattle.shb_scan.proofs.RaceBlocks.{head_is, race_blocks}
use Rattle.shb_scan.proofs.writing.write_scan.Goals as goal

pub returns-in_err-head-clause-written : goal.returns-in_err-head-clause-written
returns-in_err-head-clause-written g c trace counts made keyed =
    let front = head_bytes (counts_of trace) (length (map ends_of c.args.races.now)) in
    let first = head_is trace c.args.races.now c.args.counts.now counts in
    let section = section_bytes trace (counts_in (places_in trace c.args.races.now)) in
    let rest = race_blocks trace c.args.races.now ++ tail_bytes in
    Writes-err _ _ _ _ _ c.from_residual.ensures.1
    (subst (AppendsPrefix (g.S.Sink.taken c.args.sink.now) (g.S.Sink.taken c.head.new.sink)) (sym (append_assoc front section rest))
    (AppendsPrefix-front _ _ _ (section ++ rest) (subst (AppendsPrefix (g.S.Sink.taken c.args.sink.now) (g.S.Sink.taken c.head.new.sink)) first c.in_err-head.ensures.written)))

pub returns-in_err-named_place_lines-clause-written : goal.returns-in_err-named_place_lines-clause-written
returns-in_err-named_place_lines-clause-written g c trace counts made keyed =
    let front = head_bytes (counts_of trace) (length (map ends_of c.args.races.now)) in
    let first = head_is trace c.args.races.now c.args.counts.now counts in
    let section = section_bytes trace (counts_in (places_in trace c.args.races.now)) in
    let rest = race_blocks trace c.args.races.now ++ tail_bytes in
    Writes-err _ _ _ _ _ c.from_residual-in_err-named_place_lines.ensures.1
    (subst (AppendsPrefix (g.S.Sink.taken c.args.sink.now) (g.S.Sink.taken c.named_place_lines.new.sink)) (sym (append_assoc front section rest))
    (AppendsPrefix-after _ _ _ _ (section ++ rest) (subst (Appends (g.S.Sink.taken c.args.sink.now) (g.S.Sink.taken c.head.new.sink)) first c.in_ok-head.ensures.written)
    (AppendsPrefix-front _ _ section rest (c.in_err-named_place_lines.ensures.written trace (map pair_of (map ends_of c.args.races.now)) keyed))))

pub returns-in_err-write_races-clause-written : goal.returns-in_err-write_races-clause-written
returns-in_err-write_races-clause-written g c trace counts made keyed =
    let front = head_bytes (counts_of trace) (length (map ends_of c.args.races.now)) in
    let first = head_is trace c.args.races.now c.args.counts.now counts in
    let section = section_bytes trace (counts_in (places_in trace c.args.races.now)) in
    let blocks = race_blocks trace c.args.races.now in
    Writes-err _ _ _ _ _ c.from_residual-in_err-write_races.ensures.1
    (subst (AppendsPrefix (g.S.Sink.taken c.args.sink.now) (g.S.Sink.taken c.write_races.new.sink)) (sym (append_assoc front section (blocks ++ tail_bytes)))
    (AppendsPrefix-after _ _ _ _ (section ++ (blocks ++ tail_bytes)) (subst (Appends (g.S.Sink.taken c.args.sink.now) (g.S.Sink.taken c.head.new.sink)) first c.in_ok-head.ensures.written)
    (AppendsPrefix-after _ _ _ section (blocks ++ tail_bytes) (c.in_ok-named_place_lines.ensures.written trace (map pair_of (map ends_of c.args.races.now)) keyed)
    (AppendsPrefix-front _ _ blocks tail_bytes (c.in_err-write_races.ensures.written trace made)))))

pub returns-clause-written : goal.returns-clause-written
returns-clause-written g c trace counts made keyed =
    let front = head_bytes (counts_of trace) (length (map ends_of c.args.races.now)) in
    let first = head_is trace c.args.races.now c.args.counts.now counts in
    let section = section_bytes trace (counts_in (places_in trace c.args.races.now)) in
    let blocks = race_blocks trace c.args.races.now in
    subst (λ bytes. Writes (g.S.Sink.taken c.args.sink.now) (g.S.Sink.taken c.tail.new.sink) c.tail.result bytes) (sym (append_assoc front section (blocks ++ tail_bytes)))
    (Writes-then _ _ _ _ _ _ (subst (Appends (g.S.Sink.taken c.args.sink.now) (g.S.Sink.taken c.head.new.sink)) first c.in_ok-head.ensures.written)
    (Writes-then _ _ _ _ _ _ (c.in_ok-named_place_lines.ensures.written trace (map pair_of (map ends_of c.args.races.now)) keyed)
    (Writes-then _ _ _ _ _ _ (c.in_ok-write_races.ensures.written trace made) c.tail.ensures.written)))
