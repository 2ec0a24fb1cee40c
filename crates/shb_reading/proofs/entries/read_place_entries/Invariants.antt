use Rattle.std.proofs.Common.{◌≤◌, ◌+◌, ◌-◌, ◌++◌, List}
use Rattle.shb_reading.proofs.Words.{Form, IsAt, KeepsFirst, Passes, ReadsPlaces, place_forms}
use Rattle.shb_reading.proofs.entries.read_place_entries.Given as goal

abbrev pub invariant-loop-number : goal.invariant-loop-number
invariant-loop-number l = record {
  within : l.number ≤ l.count;
  at : IsAt l.text l.at;
  read : KeepsFirst l.most (ReadsPlaces l.text l.fn.at l.at l.number) l.places.items;
  passes : (forms : List Form) → Passes l.text l.fn.at l.at (place_forms 1 l.count ++ forms) (place_forms (l.number + 1) (l.count - l.number) ++ forms);
}

abbrev pub decreases-loop-number : goal.decreases-loop-number
decreases-loop-number l = l.count - l.number
