-- What the groups so far keep is noted.
use Rattle.std.proofs.Common.{◌≡◌, ◌<◌, ℕ, Bool, List, Some}
use Rattle.std.specs.Prelude.{slice_get}
use Rattle.shb_nearest.proofs.Words.{AreNoted, ArePaired, Group, PlaceEntry}
use Rattle.shb_nearest.proofs.sites.Sites.note_all.Given as goal

abbrev pub invariant-loop-at : goal.invariant-loop-at
invariant-loop-at l = record {
  noted : (at : ℕ) (g : Group) → at < l.at → slice_get l.groups at ≡ Some g → AreNoted l.self at g.writes g.kept.items;
  paired : (by_variable : Bool) (x : ℕ) (entries : List PlaceEntry) → ArePaired by_variable x entries l.fn.self.all.items → ArePaired by_variable x entries l.self.all.items;
}
