use Rattle.std.proofs.Common.{◌≡◌, ◌++◌}
use Rattle.std.specs.Prelude.{map, take}
use Rattle.shb_pairs.proofs.Words.{ends}
use Rattle.shb_pairs.proofs.Comparing.{pairs_with, racing}
use Rattle.shb_pairs.proofs.job.add_races.Given as goal

abbrev pub invariant-loop-first : goal.invariant-loop-first
invariant-loop-first g l = map ends l.races.items ≡ map ends l.fn.races.items ++ pairs_with l.second (racing l.ordered.disciplined.now.events.now l.second (take l.first-index l.earlier))
