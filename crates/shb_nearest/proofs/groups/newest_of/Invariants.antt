-- The table has the last at each location of those so far.
use Rattle.std.proofs.Common.{take}
use Rattle.std.specs.Prelude.{AllPairs}
use Rattle.shb_nearest.proofs.Words.{HasLast, IsEarlier}
use Rattle.shb_nearest.proofs.groups.newest_of.Given as goal

abbrev pub invariant-loop-access : goal.invariant-loop-access
invariant-loop-access l = AllPairs IsEarlier l.kept → HasLast l.newest.newest.entries l.variable l.thread l.writes (take l.access-index l.kept)
