use Rattle.shb_pairs.proofs.Words.{increasing_equal}
use Rattle.shb_pairs.proofs.laws.printed_schedule_is_unique.Goals as goal

pub returns : goal.returns
returns c trace s other i j printed again = increasing_equal s other printed.in_order again.in_order
    (λ a. ((λ there. (again.members a).1 ((printed.members a).0 there)), (λ there. (printed.members a).1 ((again.members a).0 there))))
