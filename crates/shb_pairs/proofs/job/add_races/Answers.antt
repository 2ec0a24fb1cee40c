use Rattle.std.proofs.Common.{◌++◌, ℕ, List, Vec, Global, get_or, map, take, ap, ◌∙◌}
use Rattle.shb_pairs.proofs.Words.{ends, reflect_race, take_all}
use Rattle.shb_stamps.specs.Accesses.{races_with}
use Rattle.shb_pairs.proofs.Comparing.{earlier_below, not_racing, pairs_with, racing, racing_all, racing_more, racing_same}
use Rattle.shb_pairs.proofs.job.add_races.Goals as goal
use Rattle.shb_pairs.proofs.job.add_races.Goals.{then-racing+in_ok-push, else-racing}

pub is_race-racing-requires-clause-earlier : goal.is_race-racing-requires-clause-earlier
is_race-racing-requires-clause-earlier g c = earlier_below c.args.ordered.now.disciplined.now.events.now c.requires.earlier.0 c.args.second c.args.earlier.now c.loop-first.first-index 0 c.requires.earlier.2 c.loop-first-test.true

pub loop-first-preserved : goal.loop-first-preserved
loop-first-preserved g c = elim c.if-racing.branch [
  | then-racing+in_ok-push w ↦
      racing_more c.args.ordered.now.disciplined.now.events.now c.args.second c.loop-first.first-index 0 c.args.earlier.now _ c.loop-first.races.items _ c.loop-first-test.true
      ((reflect_race c.args.ordered.now.disciplined.now.events.now (get_or c.args.earlier.now c.loop-first.first-index 0) c.args.second).1 (c.is_race-racing.ensures.race.0 w.if-racing.true))
      c.loop-first.invariant
      (ap (λ (v : Vec _ Global). v.items) w.races-is ∙ w.in_ok-push.ensures.items)
  | else-racing w ↦
      racing_same c.args.ordered.now.disciplined.now.events.now c.args.second c.loop-first.first-index 0 c.args.earlier.now _ c.loop-first.races.items _ c.loop-first-test.true
      (not_racing c.args.ordered.now.disciplined.now.events.now (get_or c.args.earlier.now c.loop-first.first-index 0) c.args.second (λ race. let yes = c.is_race-racing.ensures.race.1 race in let no = w.if-racing.false in (let f : ⊥ = cc in f)))
      c.loop-first.invariant
      (ap (λ (v : Vec _ Global). v.items) w.races-is)
]

pub returns : goal.returns
unfolding races_with
returns g c =
    let whole = ap (racing c.args.ordered.now.disciplined.now.events.now c.args.second) (take_all c.loop-first.first-index c.args.earlier.now c.loop-first-test.false) in
    let all = racing_all c.args.ordered.now.disciplined.now.events.now c.requires.earlier.0 c.args.second c.args.earlier.now c.requires.earlier.1 c.requires.earlier.2 in
    ◌∙◌ {b = map ends c.args.races.now.items ++ pairs_with c.args.second (racing c.args.ordered.now.disciplined.now.events.now c.args.second (take c.loop-first.first-index c.args.earlier.now))} c.loop-first.invariant (ap (λ (ks : List ℕ). map ends c.args.races.now.items ++ pairs_with c.args.second ks) (whole ∙ all))
