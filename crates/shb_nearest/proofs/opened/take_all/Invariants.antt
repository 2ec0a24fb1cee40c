-- The groups and the table of classes have the accesses before the index.
use Rattle.std.proofs.Common.{◌≡◌, ℕ, Bool, List}
use Rattle.shb_nearest.proofs.Words.{AreClasses, AreGroups, AreLate, Event, HaveSites, PlaceEntry, Spot}
use Rattle.shb_nearest.proofs.LateLemmas.{HasTaken}
use Rattle.shb_nearest.proofs.opened.take_all.Given as goal

abbrev pub invariant-loop-late : goal.invariant-loop-late
invariant-loop-late l = ((trace : List Event) (spots : List Spot) (n m : ℕ) → AreGroups trace spots l.variable m n l.fn.groups.each.items → AreLate trace spots l.variable n m l.waiting
    → HasTaken trace spots l.variable n l.late-index l.waiting l.groups.each.items × (AreClasses trace spots n l.fn.classes.newest.entries → AreClasses trace spots n l.classes.newest.entries))
    × ((by_variable : Bool) (entries : List PlaceEntry) → HaveSites by_variable l.variable entries l.fn.groups → HaveSites by_variable l.variable entries l.groups)
    × (l.groups.variable ≡ l.fn.groups.variable)
