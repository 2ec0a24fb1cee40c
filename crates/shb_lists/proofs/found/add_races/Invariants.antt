use Rattle.std.proofs.Common.{◌≡◌, ◌++◌, map, take}
use Rattle.shb_lists.specs.Listed.{race_of}
use Rattle.shb_lists.proofs.found.add_races.Given as goal

abbrev pub invariant-loop-first : goal.invariant-loop-first
invariant-loop-first l = l.races.items ≡ l.fn.races.items ++ map (λ i. race_of l.variable l.second i) (take l.first-index l.firsts)
