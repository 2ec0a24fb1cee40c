use Rattle.std.proofs.Common.{◌≡◌, map, take}
use Rattle.shb_lists.specs.Found.{event_of}
use Rattle.shb_lists.proofs.list.events_in.Given as goal

abbrev pub invariant-loop-access : goal.invariant-loop-access
invariant-loop-access l = l.events.items ≡ map event_of (take l.access-index l.list)
