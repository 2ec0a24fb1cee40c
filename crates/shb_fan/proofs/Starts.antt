-- The machine at its start, and one step more of a list of steps.
use Rattle.std.proofs.Common.{◌≡◌, ℕ, ◌+◌, ◌<◌, ◌≤◌, ◌^◌, Bool, true, false, List, [], ◌∷◌, ◌++◌, length, take, get_or, sym, ap, arith, subst, sum_by}
use Rattle.std.proofs.lemmas.List.{take_more}
use Rattle.std.proofs.lemmas.Option.{slice_get-get_or}
use Rattle.std.proofs.lemmas.List.Sums.{sum_by-cons}
use Rattle.shb_fan.specs.declared.step.Step.{Step}
use Rattle.shb_fan.specs.Numbers.{weight}
use Rattle.shb_fan.specs.Machine.{ActorState, State, Allowed, HasAdvanced, IsInBounds, Runs, after, start}
use Rattle.shb_fan.specs.Turns.{IsRefusedAt}
use Rattle.shb_fan.proofs.Counts.{weight-most}

-- no more actors are spent than there are
pub spent_few : (actors : List ActorState) → sum_by (λ (x : ActorState). weight x.spent) actors ≤ length actors
spent_few [] = omega arith
spent_few (a ∷ actors) =
    let here = sum_by-cons (λ (b : ActorState). weight b.spent) a actors in
    let one = weight-most a.spent in
    let rest = spent_few actors in
    omega (arith, here, one, rest)

pub next_small : (s : State) → IsInBounds s → s.next + 1 < 2 ^ 64
next_small s h =
    let few = spent_few s.actors in
    let low = h.next_low in
    let pieces = h.few_pieces in
    let actors = h.few_actors in
    omega (arith, few, low, pieces, actors)

-- one step more
pub first_more : (xs : List Step) (s t : State) (x : Step) → Runs s xs t → Allowed t x → Runs s (xs ++ x ∷ []) (after t x)
first_more [] s t x same allowed = (subst (λ (u : State). Allowed u x) same allowed, ap (λ (u : State). after u x) same)
first_more (y ∷ xs) s t x h allowed = (h.0, first_more xs (after s y) t x h.1 allowed)

-- what the answer to a step says of the list
pub refused_here : (actors pieces : ℕ) (steps : List Step) (at : ℕ) (d : Step) (s t : State) (b : Bool) → at < length steps → Runs (start actors pieces) (take at steps) s → b ≡ false → HasAdvanced s (get_or steps at d) b t → IsRefusedAt actors pieces steps at
refused_here actors pieces steps at d s t b lt runs refused h = record {
  state = s;
  step = get_or steps at d;
  runs = runs;
  there = slice_get-get_or steps at d lt;
  refused = (h.1 refused).0;
}

pub run_on : (actors pieces : ℕ) (steps : List Step) (at : ℕ) (d : Step) (s t : State) (b : Bool) → at < length steps → Runs (start actors pieces) (take at steps) s → b ≡ true → HasAdvanced s (get_or steps at d) b t → Runs (start actors pieces) (take (at + 1) steps) t
run_on actors pieces steps at d s t b lt runs passed h =
    let step = h.0 passed in
    subst (λ (u : State). Runs (start actors pieces) (take (at + 1) steps) u) (sym step.1)
    (subst (λ (xs : List Step). Runs (start actors pieces) xs (after s (get_or steps at d))) (sym (take_more steps at d lt)) (first_more (take at steps) (start actors pieces) s (get_or steps at d) runs step.0))
