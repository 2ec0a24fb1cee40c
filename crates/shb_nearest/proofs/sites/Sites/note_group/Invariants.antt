-- The kept accesses so far are noted.
use Rattle.std.proofs.Common.{ℕ, Bool, List, take}
use Rattle.shb_nearest.proofs.Words.{AreNoted, ArePaired, IsAfter, PlaceEntry}
use Rattle.shb_nearest.proofs.sites.Sites.note_group.Given as goal

abbrev pub invariant-loop-access : goal.invariant-loop-access
invariant-loop-access l = record {
  after : IsAfter l.fn.self l.self;
  noted : AreNoted l.self l.at l.group.writes (take l.access-index l.group.kept.items);
  paired : (by_variable : Bool) (x : ℕ) (entries : List PlaceEntry) → ArePaired by_variable x entries l.fn.self.all.items → ArePaired by_variable x entries l.self.all.items;
}
