-- Each race is counted in its turn.
use Rattle.shb_scan.proofs.Words.{AreKeyed, FoundAccess, FoundRace, Keyed, Pair, ends_of, pair_of, places_after, take_all}
use Rattle.std.proofs.Common.{◌+◌, ◌-◌, ◌^◌, List, [], false, arith, get_or, subst, sym}
use Rattle.shb_scan.proofs.CountedPlaces.{AreFew, few_counted, few_more, key_of, many_pairs, one_race_more, pairs_of}
use Rattle.shb_scan.proofs.reading.places_of.Goals as goal

-- what stands past the end of a list of races
past : FoundRace
past =
    let access : FoundAccess = record { event = 0; thread = 0; writes = false; spot = record { location = 0; barred = false } } in
    record { variable = 0; first = access; second = access }

pub add-requires : goal.add-requires
unfolding past
add-requires g c = few_counted c.loop-race.race-index (2 ^ 64 - 1) (key_of (get_or c.args.races.now c.loop-race.race-index past)) c.loop-race.places (omega (arith, c.loop-race-test.true)) c.loop-race.invariant.few

pub loop-race-init : goal.loop-race-init
loop-race-init g c = record {
  few = subst (AreFew 0) (sym c.in_ok-places.ensures) tt;
  keyed = λ trace locations differ located. subst (λ (l : List Keyed). AreKeyed locations l []) (sym c.in_ok-places.ensures) tt;
}

pub loop-race-preserved : goal.loop-race-preserved
unfolding past
loop-race-preserved g c =
    let races : List FoundRace = c.args.races.now in
    let k = c.loop-race.race-index in
    let race : FoundRace = get_or races k past in record {
      few = subst (AreFew (k + 1)) (sym c.in_ok-add.ensures) (few_more k (key_of race) (pair_of (ends_of race)) c.loop-race.places c.loop-race.invariant.few);
      keyed = λ trace locations differ located.
          one_race_more trace locations races k past c.loop-race.places c.add.new.self c.loop-race-test.true differ (located k past c.loop-race-test.true) (c.loop-race.invariant.keyed trace locations differ located) c.in_ok-add.ensures;
    }

pub returns : goal.returns
returns g c = λ trace locations differ located.
    let races : List FoundRace = c.args.races.now in
    let past = c.loop-race-test.false in
    subst (λ (l : List Pair). AreKeyed locations c.loop-race.places (places_after trace [] l)) (take_all c.loop-race.race-index (pairs_of races) (omega (arith, past, many_pairs races)))
    (c.loop-race.invariant.keyed trace locations differ located)
