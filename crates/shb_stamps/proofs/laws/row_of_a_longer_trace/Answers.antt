use Rattle.shb_stamps.proofs.Streams.{current_longer}
use Rattle.shb_stamps.proofs.laws.row_of_a_longer_trace.Goals as goal

pub returns : goal.returns
returns c = current_longer
