-- The groups so far were met.
use Rattle.std.proofs.Common.{ℕ, ◌+◌, List, [], ◌∷◌, ◌++◌, take}
use Rattle.shb_nearest.proofs.Words.{AreGroups, AreMarked, AreMet, Event, IsNextAccess, Spot}
use Rattle.shb_nearest.proofs.rivals.rivals_among.Given as goal

abbrev pub invariant-loop-at : goal.invariant-loop-at
invariant-loop-at l = (past : List Event) (e : Event) (spots : List Spot) (x : ℕ) → IsNextAccess past e spots x l.clocks l.access → AreMarked l.groups → AreGroups (past ++ e ∷ []) spots x (l.access.event + 1) (l.access.event + 1) l.groups.each.items
    → AreMet (past ++ e ∷ []) spots x l.groups l.access l.since (take l.at l.groups.each.items) l.rivals.found.items
