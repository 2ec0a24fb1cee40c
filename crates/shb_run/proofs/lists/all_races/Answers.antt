use Rattle.std.proofs.Common.{List, subst}
use Rattle.shb_run.proofs.Words.{Event, IfOk-weaker, IsRaceList, RaceList}
use Rattle.shb_run.proofs.lists.all_races.Goals as goal

pub returns : goal.returns
returns g c =
    let trace = c.args.settled.now.disciplined.now in
    IfOk-weaker c.all.result _ _ (λ (list : RaceList) made. (made.0, subst (λ (e : List Event). IsRaceList e made.0) trace.of_trace made.1, made.2)) c.all.ensures
