-- The counts so far and those left are all of them.
use Rattle.std.proofs.Common.{◌≡◌, ◌++◌, map}
use Rattle.shb_format.proofs.places.place_counts.Given as goal

abbrev pub invariant-loop-counted : goal.invariant-loop-counted
invariant-loop-counted l = l.counts.items ++ l.counted-iterator ≡ map (λ e. e.1) l.fn.table.entries
