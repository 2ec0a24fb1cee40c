use Rattle.shb_lines.proofs.events.Longer.{below_longer, below_pred_longer, race_longer}
use Rattle.shb_lines.proofs.laws.order_of_a_longer_trace.Goals as goal

pub returns-clause-below : goal.returns-clause-below
returns-clause-below c = below_longer

pub returns-clause-below_pred : goal.returns-clause-below_pred
returns-clause-below_pred c = below_pred_longer

pub returns-clause-races : goal.returns-clause-races
returns-clause-races c = race_longer
