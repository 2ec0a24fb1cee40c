-- What was noted still is, and where the places are known, those of paired sites are.
use Rattle.std.proofs.Common.{ℕ, Bool, List}
use Rattle.std.specs.Prelude.{All}
use Rattle.shb_nearest.proofs.Words.{ArePaired, FoundAccess, IsAfter, IsKnown, PlaceEntry, place_at}
use Rattle.shb_nearest.proofs.sites.Sites.learn.Given as goal

abbrev pub invariant-loop-first : goal.invariant-loop-first
invariant-loop-first l = record {
  after : IsAfter l.fn.self l.self;
  paired : (by_variable : Bool) (x : ℕ) (entries : List PlaceEntry) → All (λ (a : FoundAccess). IsKnown entries (place_at by_variable x a.spot.location l.second)) l.rivals → ArePaired by_variable x entries l.fn.self.all.items → ArePaired by_variable x entries l.self.all.items;
}
