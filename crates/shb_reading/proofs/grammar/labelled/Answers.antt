-- The number stands after the label.
use Rattle.shb_reading.proofs.Digits.{labelled_by}
use Rattle.shb_reading.proofs.grammar.labelled.Goals as goal

pub returns : goal.returns
returns c = labelled_by c.args.label.now c.args.text.now c.in_ok-rest.rest.now c.number.result c.in_ok-rest.ensures c.number.ensures
