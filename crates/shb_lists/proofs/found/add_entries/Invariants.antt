use Rattle.std.proofs.Common.{◌≡◌, ◌++◌, map, take}
use Rattle.shb_lists.proofs.found.add_entries.Given as goal

abbrev pub invariant-loop-entry : goal.invariant-loop-entry
invariant-loop-entry l = l.found.items ≡ l.fn.found.items ++ map (λ entry. entry.event) (take l.entry-index l.entries)
