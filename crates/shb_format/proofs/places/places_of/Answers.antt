-- Each place's pair is one of the pairs.
use Rattle.shb_format.proofs.Words.{common_steps, places_of_pairs}
use Rattle.std.proofs.Common.{◌∙◌, All, arith}
use Rattle.shb_format.proofs.KeyedLemmas.{keyed_counts}
use Rattle.shb_format.proofs.PlaceLemmas.{places_in_range}
use Rattle.shb_format.proofs.places.places_of.Goals as goal

pub returns-clause-places : goal.returns-clause-places
returns-clause-places g c = c.in_ok-places.ensures ∙ keyed_counts c.add_pairs.new.locations c.add_pairs.new.table (places_of_pairs c.args.trace.now c.args.pairs.now) c.in_ok-add_pairs.ensures

pub returns-clause-in_range : goal.returns-clause-in_range
returns-clause-in_range g c = grind (arith, common_steps, All, c.in_ok-places.ensures, keyed_counts, c.in_ok-add_pairs.ensures, places_in_range, c.requires)
