-- The kept accesses so far came to the rivals, but for those whose place is known.
use Rattle.std.proofs.Common.{map, take}
use Rattle.shb_nearest.proofs.Words.{HasAdded, access_of}
use Rattle.shb_nearest.proofs.rivals.Rivals.add_all.Given as goal

abbrev pub invariant-loop-access : goal.invariant-loop-access
invariant-loop-access l = HasAdded l.groups l.second l.fn.self.found.items l.self.found.items (map (access_of l.thread l.writes) (take l.access-index l.kept))
