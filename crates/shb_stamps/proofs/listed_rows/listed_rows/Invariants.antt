use Rattle.std.proofs.Common.{ℕ, false, ◌<◌, ◌≤◌, length, get_or}
use Rattle.shb_stamps.proofs.Words.{AreListedRows, IsBefore}
use Rattle.shb_stamps.proofs.listed_rows.listed_rows.Given as goal

abbrev pub invariant-loop-at : goal.invariant-loop-at
invariant-loop-at l = record {
  before : IsBefore l.linked.events.now l.next false l.clocks;
  passed : (i : ℕ) → l.at ≤ i → i < length l.events → l.next ≤ get_or l.events i 0;
  kept : AreListedRows l.linked.events.now l.events l.at l.kept;
}
