use Rattle.std.proofs.Common.{arith, get_or, refl, subst, sym}
use Rattle.std.proofs.lemmas.Option.{slice_get-get_or}
use Rattle.shb_counts.specs.declared.sums.PlaceSum.{PlaceSum}
use Rattle.shb_counts.proofs.JoinLemmas.{IsJoined, all_joined, next_joined, stretch_few}
use Rattle.shb_counts.proofs.places.first_races.Goals as goal

pub count_of-requires : goal.count_of-requires
count_of-requires c =
    let few = c.requires.few in
    let joined = c.loop-start.invariant.kept few.0 few.1 few.2 few.3 in
    let none : PlaceSum = record { first = 0; second = 0; variable = 0; later = 0; earlier = 0; count = 0 } in
    let low = stretch_few few.0 few.1 few.2 c.args.sums.now few.3 c.requires.in_order c.loop-start.start c.place_end-end.result c.place_end-end.ensures c.loop-start.races.items joined (get_or c.args.sums.now c.loop-start.start none) (slice_get-get_or c.args.sums.now c.loop-start.start none c.loop-start-test.true) in
    omega (arith, low, few.4)

pub loop-start-preserved : goal.loop-start-preserved
loop-start-preserved c = record {
  within = c.place_end-end.ensures.within;
  kept = λ trace numbers pairs sums. (
      let none : PlaceSum = record { first = 0; second = 0; variable = 0; later = 0; earlier = 0; count = 0 } in
      subst (IsJoined trace numbers pairs c.args.sums.now c.place_end-end.result) (sym c.in_ok-push.ensures.items)
      (next_joined trace numbers pairs c.args.sums.now sums c.requires.in_order c.loop-start.start c.place_end-end.result c.place_end-end.ensures c.loop-start.races.items (c.loop-start.invariant.kept trace numbers pairs sums)
      (get_or c.args.sums.now c.loop-start.start none) (slice_get-get_or c.args.sums.now c.loop-start.start none c.loop-start-test.true) _ refl refl refl c.count_of.ensures));
}

pub returns : goal.returns
returns c trace numbers pairs sums = all_joined trace numbers pairs c.args.sums.now c.loop-start.start c.loop-start.races.items c.loop-start-test.false (c.loop-start.invariant.kept trace numbers pairs sums)
