use Rattle.std.proofs.Common.{List, false, ap, sym, ◌∙◌, subst, arith}
use Rattle.std.specs.Prelude.{replicate}
use Rattle.shb_orders.proofs.Words.{Event, IsPred, pred_earlier}
use Rattle.shb_orders.proofs.MarksLemmas.{row_from_marks, row_without_pred}
use Rattle.shb_orders.proofs.plain_order.row_of.Goals as goal

pub marks_below-requires : goal.marks_below-requires
marks_below-requires c =
    let pred = subst (λ (tr : List Event). IsPred tr c.in-Some.p c.args.e) c.args.linked.now.of_links c.in-Some.ensures in
    let lt = pred_earlier c.args.linked.now.events.now c.args.linked.now.meets c.in-Some.p c.args.e pred in
    let within = c.requires.in_range in
    omega (arith, lt, within)

pub returns-in_ok-marks_below-in-Some : goal.returns-in_ok-marks_below-in-Some
returns-in_ok-marks_below-in-Some c =
    let pred = subst (λ (tr : List Event). IsPred tr c.in-Some.p c.args.e) c.args.linked.now.of_links c.in-Some.ensures in
    row_from_marks c.args.linked.now.events.now c.args.linked.now.meets c.args.e c.in-Some.p _ _ pred c.in_ok-marks_below-in-Some.ensures c.new.ensures

pub returns-in_ok-unmarked-in-None : goal.returns-in_ok-unmarked-in-None
returns-in_ok-unmarked-in-None c = row_without_pred c.args.linked.now.events.now c.args.e _ _ (λ p pred. c.in-None.ensures p (subst (λ (tr : List Event). IsPred tr p c.args.e) (sym c.args.linked.now.of_links) pred)) (c.in_ok-unmarked-in-None.ensures ∙ ap (λ n. replicate n false) c.len.ensures) c.new-in-None.ensures
