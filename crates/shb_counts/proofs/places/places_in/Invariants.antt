use Rattle.std.proofs.Common.{◌≡◌, map, take}
use Rattle.shb_counts.specs.Joined.{place_of}
use Rattle.shb_counts.proofs.places.places_in.Given as goal

abbrev pub invariant-loop-race : goal.invariant-loop-race
invariant-loop-race l = l.counts.items ≡ map place_of (take l.race-index l.races)
