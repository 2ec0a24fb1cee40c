use Rattle.std.proofs.Common.{◌≡◌, map, take}
use Rattle.shb_lists.specs.Found.{access_in}
use Rattle.shb_lists.proofs.by_event.with_races.Given as goal

abbrev pub invariant-loop-k : goal.invariant-loop-k
invariant-loop-k l = (map access_in l.listed.items ≡ take l.k l.list) × (map (λ access. access.races) l.listed.items ≡ take l.k l.races)
