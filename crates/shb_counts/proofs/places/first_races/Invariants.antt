use Rattle.std.proofs.Common.{◌-◌, ◌≤◌, ℕ, List, length}
use Rattle.shb_lines.specs.declared.event.Event.{Event}
use Rattle.shb_lines.specs.declared.event.Pair.{Pair}
use Rattle.shb_counts.specs.Sums.{AreSumsOf}
use Rattle.shb_counts.proofs.JoinLemmas.{IsJoined}
use Rattle.shb_counts.proofs.places.first_races.Given as goal

abbrev pub invariant-loop-start : goal.invariant-loop-start
invariant-loop-start l = record {
  within : l.start ≤ length l.sums;
  kept : (trace : List Event) (numbers : List ℕ) (pairs : List Pair) → AreSumsOf trace numbers pairs l.sums → IsJoined trace numbers pairs l.sums l.start l.races.items;
}

abbrev pub decreases-loop-start : goal.decreases-loop-start
decreases-loop-start l = length l.sums - l.start
