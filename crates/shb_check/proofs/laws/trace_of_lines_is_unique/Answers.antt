use Rattle.shb_check.proofs.OneTrace.{one_whole_trace}
use Rattle.shb_check.proofs.laws.trace_of_lines_is_unique.Goals as goal

pub returns : goal.returns
returns c = one_whole_trace
