use Rattle.shb_witness.proofs.Words.{printed_is_schedule, schedule_at}
use Rattle.shb_witness.proofs.Printed.{piece_is_printed}
use Rattle.shb_witness.proofs.laws.pieces_are_schedules.Goals as goal

pub returns-clause-printed : goal.returns-clause-printed
returns-clause-printed c = piece_is_printed

pub returns-clause-schedule : goal.returns-clause-schedule
returns-clause-schedule c = λ trace races k p disciplined at race. printed_is_schedule trace (schedule_at trace races k) p.first p.second disciplined race (piece_is_printed trace races k p at)
