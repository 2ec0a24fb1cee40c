-- The rivals so far were offered.
use Rattle.std.proofs.Common.{◌≡◌, take}
use Rattle.shb_nearest.proofs.Words.{offered_all}
use Rattle.shb_nearest.proofs.places.Places.offer_all.Given as goal

abbrev pub invariant-loop-first : goal.invariant-loop-first
invariant-loop-first l = l.self.races.entries ≡ offered_all l.by_variable l.variable l.second l.fn.self.races.entries (take l.first-index l.rivals)
