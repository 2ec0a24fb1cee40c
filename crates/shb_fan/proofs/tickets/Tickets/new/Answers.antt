use Rattle.std.proofs.Common.{◌-◌, rules, arith, ap, ◌∙◌}
use Rattle.atomic_table.specs.Table.{Me}
use Rattle.shb_fan.specs.declared.ticket_table.PassView.{PassView}
use Rattle.shb_fan.proofs.Keeps.{cuts}
use Rattle.shb_fan.proofs.Seats.{seat_fresh, one_more, cut_again, cut_off}
use Rattle.shb_fan.proofs.tickets.Tickets.new.Goals as goal

pub split_seat-seat-requires : goal.split_seat-seat-requires
split_seat-seat-requires c =
    let same = c.from.ensures in let left = c.loop.invariant.left in (
      c.loop.invariant.table,
      search rules,
      cuts _ _ _ (let e = ap (λ (m : Me (Unit {0}) PassView). m.0.parts) left in omega arith) (ap (λ (m : Me (Unit {0}) PassView). m.0.spent) left),
    )

pub loop-preserved : goal.loop-preserved
loop-preserved c =
    let left = c.loop.invariant.left in let cut = c.split_seat-seat.ensures in record {
      table = cut.0 ∙ c.loop.invariant.table;
      left = cut_again _ _ _ _ _ (omega arith) left cut.2;
      room = search rules;
      made = one_more _ _ (c.loop.counter - 1) _ _ _ (omega arith) c.in_ok-push.ensures.items c.loop.invariant.made
          (seat_fresh c.split_seat-seat.result _ _ 1 (cut.3 ∙ c.loop.invariant.table) (cut_off _ _ _ _ left cut.4));
    }

pub returns : goal.returns
returns c =
    let same = c.from.ensures in (
      search rules,
      search rules,
      one_more _ _ (c.loop.counter - 1) _ _ _ (omega arith) c.in_ok-push-2.ensures.items c.loop.invariant.made (seat_fresh c.loop.first _ _ _ c.loop.invariant.table c.loop.invariant.left),
      search rules,
    )
