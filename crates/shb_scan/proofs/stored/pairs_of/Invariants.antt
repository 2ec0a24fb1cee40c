use Rattle.std.proofs.Common.{◌≡◌, map, take}
use Rattle.shb_scan.proofs.Words.{ends, ends_of}
use Rattle.shb_scan.proofs.stored.pairs_of.Given as goal

abbrev pub invariant-loop-race : goal.invariant-loop-race
invariant-loop-race l = map ends l.pairs.items ≡ map ends_of (take l.race-index l.races)
