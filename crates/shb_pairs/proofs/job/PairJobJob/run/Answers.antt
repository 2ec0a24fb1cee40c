use Rattle.std.proofs.Common.{arith}
use Rattle.shb_pairs.proofs.PieceRaces.{piece_access, piece_more, piece_whole}
use Rattle.shb_pairs.proofs.job.PairJobJob.run.Goals as goal

pub add_races-requires-clause-in_range : goal.add_races-requires-clause-in_range
add_races-requires-clause-in_range g c = (piece_access _ _ _ _ c.piece-piece.result.variable c.loop-index.index _ _ c.self.view_is c.self.invariant.0 c.self.invariant.2 c.piece-piece.ensures.listed c.piece-piece.ensures.within c.loop-index-test.true c.of-accesses.ensures.exact).in_range

pub add_races-requires-clause-asked : goal.add_races-requires-clause-asked
add_races-requires-clause-asked g c = (piece_access _ _ _ _ c.piece-piece.result.variable c.loop-index.index _ _ c.self.view_is c.self.invariant.0 c.self.invariant.2 c.piece-piece.ensures.listed c.piece-piece.ensures.within c.loop-index-test.true c.of-accesses.ensures.exact).asked

pub add_races-requires-clause-earlier : goal.add_races-requires-clause-earlier
add_races-requires-clause-earlier g c =
    let access = piece_access _ _ _ _ c.piece-piece.result.variable c.loop-index.index _ _ c.self.view_is c.self.invariant.0 c.self.invariant.2 c.piece-piece.ensures.listed c.piece-piece.ensures.within c.loop-index-test.true c.of-accesses.ensures.exact in
    (c.piece-piece.result.variable, access.variable, access.earlier)

pub loop-index-preserved : goal.loop-index-preserved
loop-index-preserved g c =
    let low = c.loop-index.invariant.low in
    let lt = c.loop-index-test.true in
    record {
      low = omega (arith, low);
      high = omega (arith, lt);
      found = piece_more _ _ _ c.piece-piece.result.variable _ _ _ _ _ _ c.self.view_is c.self.invariant.0 c.piece-piece.ensures.listed c.piece-piece.ensures.within low lt c.of-accesses.ensures.exact c.loop-index.invariant.found c.in_ok-add_races.ensures;
    }

pub returns : goal.returns
returns g c =
    let high = c.loop-index.invariant.high in
    let past = c.loop-index-test.false in
    piece_whole _ _ c.piece-piece.result.variable _ _ _ _ _ _ c.self.view_is c.piece-piece.ensures.listed c.of-accesses.ensures.exact (omega (arith, high, past)) c.loop-index.invariant.found c.piece-piece.ensures.races
