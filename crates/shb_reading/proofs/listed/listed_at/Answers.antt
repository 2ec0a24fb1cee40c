use Rattle.std.proofs.Common.{ap, ◌∙◌}
use Rattle.shb_reading.proofs.Words.{block_from}
use Rattle.shb_reading.proofs.listed.listed_at.Goals as goal

pub returns : goal.returns
returns c = c.lines_at.ensures c.numbers_in.result.now ∙ ap (block_from c.args.text.now c.args.entry) c.numbers_in.ensures
