use Rattle.shb_stamps.proofs.Words.{IsNewNumber}
use Rattle.shb_stamps.proofs.MovedLemmas.{PartAlike}
use Rattle.shb_stamps.proofs.moving.renumber.Given as goal

abbrev pub invariant-loop-x : goal.invariant-loop-x
invariant-loop-x l = PartAlike 0 (IsNewNumber l.moved) l.initial.numbers.items l.numbers.items l.x
