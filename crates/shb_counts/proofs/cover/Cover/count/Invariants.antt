use Rattle.std.proofs.Common.{◌≡◌, ◌+◌, ◌^◌, ◌≤◌, ◌++◌, ℕ, All, List, flat_map, sum, take}
use Rattle.shb_counts.proofs.Words.{Event, Pair}
use Rattle.shb_counts.specs.Accesses.{IsEntry}
use Rattle.shb_counts.specs.Covers.{HasCovered, IsAt, pairs_at}
use Rattle.shb_counts.specs.Sums.{AreSumsOf}
use Rattle.shb_counts.proofs.cover.Cover.count.Given as goal

abbrev pub invariant-loop-k : goal.invariant-loop-k
invariant-loop-k l = record {
  running : l.covering + sum (take l.k l.self.ends.items) ≡ sum (take l.k l.self.starts.items);
  few : l.covering ≤ 2 ^ 32;
  sums : (trace : List Event) (numbers : List ℕ) (events : List ℕ) (pairs : List Pair) → HasCovered trace l.entries events l.self → All (IsEntry trace numbers) l.entries
      → All (IsAt trace numbers l.access) events → AreSumsOf trace numbers pairs l.fn.table.sums.items → AreSumsOf trace numbers (pairs ++ flat_map (pairs_at trace events) (take l.k l.entries)) l.table.sums.items;
}
