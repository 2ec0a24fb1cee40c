use Rattle.std.proofs.Common.{◌∙◌, refl}
use Rattle.shb_numbers.proofs.FarLemmas.{search_tells}
use Rattle.shb_numbers.proofs.large_set.has.Goals as goal

pub returns : goal.returns
returns c = c.is_ok.ensures.value ∙ search_tells c.args.numbers.now c.args.number c.requires.rising c.binary_search.result c.binary_search.ensures.position
