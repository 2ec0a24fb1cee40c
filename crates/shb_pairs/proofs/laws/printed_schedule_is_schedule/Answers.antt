use Rattle.shb_lines.proofs.events.Schedulable.{printed_is_schedule}
use Rattle.shb_pairs.proofs.laws.printed_schedule_is_schedule.Goals as goal

pub returns : goal.returns
returns c trace s i j disciplined race printed = printed_is_schedule trace s i j disciplined race printed
