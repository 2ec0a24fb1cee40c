use Rattle.std.proofs.Common.{false, ap, ◌∙◌}
use Rattle.std.specs.Prelude.{replicate}
use Rattle.shb_orders.proofs.MarksLemmas.{marks_start}
use Rattle.shb_orders.proofs.plain_order.marks_below.Goals as goal

pub loop-a-init : goal.loop-a-init
loop-a-init c = marks_start c.args.linked.now.events.now c.args.p c.in_ok-marks.marks.items c.requires.in_range (c.in_ok-marks.ensures ∙ ap (λ n. replicate n false) c.len.ensures)
