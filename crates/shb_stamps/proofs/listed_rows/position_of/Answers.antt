use Rattle.shb_stamps.proofs.ListedLemmas.{listed_found}
use Rattle.shb_stamps.proofs.listed_rows.position_of.Goals as goal

pub returns-in-Err-clause-item : goal.returns-in-Err-clause-item
returns-in-Err-clause-item c = absurd (listed_found c.args.numbers.now c.args.e c.in-Err.field-0 c.requires.rising c.requires.listed c.in-Err.ensures.position)
