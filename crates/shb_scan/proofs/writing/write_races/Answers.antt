-- Each block is written after those before it.
use Rattle.std.proofs.Common.{rules, ◌+◌, List, None, drop, false, get_or, map, subst, take}
use Rattle.shb_scan.proofs.Words.{Appends, Appends-trans, AppendsPrefix, AppendsPrefix-after, AppendsPrefix-front, FoundAccess, FoundRace, Writes-err, block_bytes, ends_of}
use Rattle.shb_scan.proofs.RaceBlocks.{blocks-next, blocks-split, blocks_at, race_blocks}
use Rattle.shb_scan.proofs.writing.write_races.Goals as goal

-- what stands past the end of a list of races
past : FoundRace
past =
    let access : FoundAccess = record { event = 0; thread = 0; writes = false; spot = record { location = 0; barred = false } } in
    record { variable = 0; first = access; second = access }

pub returns-in_err-write_race-clause-written : goal.returns-in_err-write_race-clause-written
unfolding past
returns-in_err-write_race-clause-written g c trace h =
    let races : List FoundRace = c.args.races.now in
    let k = c.loop-k.k in
    let block = block_bytes trace (k + 1) (ends_of (get_or races k past)) None in
    let rest = blocks_at trace (k + 1 + 1) (map ends_of (drop (k + 1) races)) in
    Writes-err _ _ _ _ _ c.from_residual.ensures.1
    (subst (AppendsPrefix (g.S.Sink.taken c.args.sink.now) (g.S.Sink.taken c.write_race.new.sink)) (blocks-split trace races k past c.loop-k-test.true)
    (AppendsPrefix-after _ _ _ (race_blocks trace (take k races)) _ (c.loop-k.invariant.written trace h)
    (AppendsPrefix-front _ _ block rest (c.in_err-write_race.ensures.written trace (h k past c.loop-k-test.true)))))

pub loop-k-preserved : goal.loop-k-preserved
unfolding past
loop-k-preserved g c =
    let races : List FoundRace = c.args.races.now in
    let k = c.loop-k.k in record {
      written = λ trace h.
          subst (Appends (g.S.Sink.taken c.args.sink.now) (g.S.Sink.taken c.write_race.new.sink)) (blocks-next trace races k past c.loop-k-test.true)
          (Appends-trans _ _ _ (race_blocks trace (take k races)) _ (c.loop-k.invariant.written trace h) (c.in_ok-write_race.ensures.written trace (h k past c.loop-k-test.true)));
      counted = search rules;
    }
