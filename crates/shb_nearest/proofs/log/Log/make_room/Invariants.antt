-- The accesses of the variables before the index are in the new log.
use Rattle.std.proofs.Common.{◌≡◌, ◌≤◌, ℕ, List, length}
use Rattle.shb_nearest.proofs.Words.{AreVariables, Event, Groups, Spot}
use Rattle.shb_nearest.proofs.Chains.{AreMoved}
use Rattle.shb_nearest.proofs.log.Log.make_room.Given as goal

abbrev pub invariant-loop-known : goal.invariant-loop-known
invariant-loop-known l = (length l.moved.items ≡ l.known-index) × (l.self.entries.items ≡ l.fn.self.entries.items)
    × ((trace : List Event) (spots : List Spot) (n : ℕ) (groups : List Groups) → AreVariables trace spots n l.fn.self.entries.items groups l.fn.variables.items → length l.entries.items ≤ 4294967295 → AreMoved trace spots n l.entries.items groups l.moved.items)
