use Rattle.std.proofs.Common.{◌∙◌, ℕ, List, ap, map, subst, sym}
use Rattle.shb_run.proofs.Words.{IfOk-weaker, IsScan, Pair, RaceList, ends, pair_in}
use Rattle.shb_run.specs.declared.settings.Choice.TheVariants as choices
use Rattle.shb_run.proofs.Within.{seconds_within}
use Rattle.shb_run.proofs.Reports.{races_listed}
use Rattle.shb_run.proofs.lists.nearest_list.Goals as goal

pub listed-requires : goal.listed-requires
listed-requires g c =
    let trace = c.args.settled.now.disciplined.now in
    let lists = subst (λ (l : List Pair). IsScan c.args.by_variable trace.trace.now (map ends l)) (sym c.deref.ensures.value) c.in_ok-nearest.ensures in
    seconds_within trace.trace.now trace.events.now c.deref.result.now trace.of_trace (races_listed (choices.Nearest c.args.by_variable) trace.trace.now trace.events.now (map ends c.deref.result.now) trace.of_trace lists)

pub kept-requires : goal.kept-requires
kept-requires g c =
    let trace = c.args.settled.now.disciplined.now in
    let are = c.in_ok-races.ensures ∙ ap (map ends) c.deref.ensures.value in
    let lists = subst (λ (l : List (ℕ × ℕ)). IsScan c.args.by_variable trace.trace.now l) (sym are) c.in_ok-nearest.ensures in
    races_listed (choices.Nearest c.args.by_variable) trace.trace.now trace.events.now (map pair_in c.in_ok-races.races.items) trace.of_trace lists

pub returns : goal.returns
returns g c =
    let trace = c.args.settled.now.disciplined.now in
    let are = c.in_ok-races.ensures ∙ ap (map ends) c.deref.ensures.value in
    let lists = subst (λ (l : List (ℕ × ℕ)). IsScan c.args.by_variable trace.trace.now l) (sym are) c.in_ok-nearest.ensures in
    IfOk-weaker c.kept.result _ _ (λ (list : RaceList) made. (map pair_in c.in_ok-races.races.items, lists, made)) c.kept.ensures
