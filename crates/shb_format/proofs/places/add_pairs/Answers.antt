-- Each pair is counted in its turn.
use Rattle.std.proofs.Common.{◌-◌, ◌^◌, arith, List}
use Rattle.shb_format.proofs.Words.{Pair}
use Rattle.shb_format.proofs.KeyedLemmas.{few_so_far, next_keyed}
use Rattle.shb_format.proofs.PlaceLemmas.{located}
use Rattle.shb_format.proofs.places.add_pairs.Goals as goal

pub add-requires : goal.add-requires
add-requires c =
    few_so_far c.args.trace.now c.args.pairs.now c.loop-pair.pair-index (2 ^ 64 - 1) c.loop-pair.locations (c.in_ok-first.first, c.in_ok-second.second) c.loop-pair.table (omega (arith, c.loop-pair-test.true)) c.loop-pair.invariant.keyed

pub loop-pair-preserved : goal.loop-pair-preserved
loop-pair-preserved c =
    let pairs : List Pair = c.args.pairs.now in
    let d : Pair = record { first = 0; second = 0 } in
    let next = next_keyed c.args.trace.now pairs c.loop-pair.pair-index d c.loop-pair.locations c.number_of.new.self c.number_of-in-loop-pair.new.self c.location.result.now c.location-in-loop-pair.result.now c.in_ok-first.first c.in_ok-second.second
    c.loop-pair.table c.add.new.self c.loop-pair-test.true c.in_ok-first.ensures.known c.in_ok-first.ensures.number c.in_ok-second.ensures.known c.in_ok-second.ensures.number (located _ _ c.location.ensures) (located _ _ c.location-in-loop-pair.ensures)
    c.loop-pair.invariant.differ c.loop-pair.invariant.keyed c.in_ok-add.ensures in
    record { differ = next.0; keyed = next.1 }
