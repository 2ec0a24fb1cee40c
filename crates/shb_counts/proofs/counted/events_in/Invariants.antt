use Rattle.std.proofs.Common.{◌≡◌, map, take}
use Rattle.shb_counts.proofs.counted.events_in.Given as goal

abbrev pub invariant-loop-access : goal.invariant-loop-access
invariant-loop-access l = l.events.items ≡ map (λ access. access.event) (take l.access-index l.list)
