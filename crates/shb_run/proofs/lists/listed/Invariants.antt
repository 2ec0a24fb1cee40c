use Rattle.std.proofs.Common.{◌≡◌, map, take}
use Rattle.shb_run.proofs.Words.{ends, pair_in}
use Rattle.shb_run.proofs.lists.listed.Given as goal

abbrev pub invariant-loop-pair : goal.invariant-loop-pair
invariant-loop-pair l = map pair_in l.races.items ≡ map ends (take l.pair-index l.pairs)
