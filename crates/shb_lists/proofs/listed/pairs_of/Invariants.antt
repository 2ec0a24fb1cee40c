use Rattle.std.proofs.Common.{◌≡◌, map, take}
use Rattle.shb_lines.specs.events.Race.{ends}
use Rattle.shb_lists.specs.Listed.{pair_in, race_in}
use Rattle.shb_lists.proofs.listed.pairs_of.Given as goal

abbrev pub invariant-loop-race : goal.invariant-loop-race
invariant-loop-race l = (l.pairs.items ≡ map race_in (take l.race-index l.races)) × (map ends l.pairs.items ≡ map pair_in (take l.race-index l.races))
