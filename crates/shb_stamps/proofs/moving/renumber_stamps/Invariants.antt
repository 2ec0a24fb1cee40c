use Rattle.shb_stamps.proofs.Words.{IsMovedStamp, IsNewNumber, empty_stamp}
use Rattle.shb_stamps.proofs.MovedLemmas.{PartAlike}
use Rattle.shb_stamps.proofs.moving.renumber_stamps.Given as goal

abbrev pub invariant-loop-x : goal.invariant-loop-x
invariant-loop-x l = PartAlike empty_stamp (IsMovedStamp (IsNewNumber l.moved)) l.initial.stamps.items l.stamps.items l.x
