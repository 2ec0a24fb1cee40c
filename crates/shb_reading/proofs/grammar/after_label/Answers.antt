-- What std says of the prefix, as an equation.
use Rattle.shb_reading.proofs.Words.{Decides-eqb}
use Rattle.std.proofs.lemmas.Slice.Eq.{strip_prefix_is}
use Rattle.shb_reading.proofs.grammar.after_label.Goals as goal

pub returns : goal.returns
returns c = strip_prefix_is Decides-eqb _ _ _ c.strip_prefix.ensures.cases
