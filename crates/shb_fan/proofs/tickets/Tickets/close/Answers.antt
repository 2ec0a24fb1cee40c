use Rattle.std.proofs.Common.{◌≡◌, ℕ, ◌+◌, [], ◌∷◌, rules, arith, ap, sym, ◌∙◌, length, length-append, All, sum_by, subst}
use Rattle.atomic_table.specs.Table.{Me}
use Rattle.shb_fan.specs.declared.ticket_table.PassView.{PassView}
use Rattle.shb_fan.specs.declared.ticket_table.Plan.{Plan}
use Rattle.shb_fan.specs.Numbers.{times, once_below, weight}
use Rattle.shb_fan.specs.Passes.{TicketSource, PassState}
use Rattle.shb_fan.proofs.Counts.{counted, first_counted, sum_nothing, times-append}
use Rattle.shb_fan.proofs.Keeps.{merges}
use Rattle.shb_fan.proofs.Ends.{times-shown, halted-shown, seen-shown, spent-shown, rising-shown, all_rising, none_rising, Told, closes, ours_before, each_once, stop_seen, stop_set, seen_set, all_drawn}
use Rattle.shb_fan.proofs.MachineRuns.{machine_run}
use Rattle.shb_fan.proofs.tickets.Tickets.close.Goals as goal

pub loop-pass-init : goal.loop-pass-init
loop-pass-init c = let longer = c.in-Some.ensures.items in let is = c.first.invariant in let shown = c.first.view_is in record {
  table = ap (λ (p : PassState). p.source.table) shown ∙ ap (λ (z : TicketSource). z.table) ((ours_before _ _ _ _ longer c.requires.ours).1 ∙ sym c.self.view_is);
  slots = is.slots;
  parts = search rules;
  ours = subst (λ (z : TicketSource). All (λ (p : PassState). p.source ≡ z) c.pop.new.self.items) (sym c.self.view_is) (ours_before _ _ _ _ longer c.requires.ours).0;
  rising = all_rising _ _ _ _ longer (rising-shown _ _ _ is shown) (λ h. h);
  drawn = λ x. first_counted (λ (q : PassState). times x q.drawn) _ _ _ _ longer (times-shown _ _ _ is shown x);
  halted = first_counted (λ (q : PassState). weight q.halted) _ _ _ _ longer (halted-shown _ _ _ is shown);
  seen = first_counted (λ (q : PassState). weight q.seen) _ _ _ _ longer (seen-shown _ _ _ is shown);
  spent = first_counted (λ (q : PassState). weight q.spent) _ _ _ _ longer (spent-shown _ _ _ is shown);
}

pub join_seat-requires : goal.join_seat-requires
join_seat-requires c = (
  c.loop-pass.invariant.table,
  ap (λ (p : PassState). p.source.table) c.pass.view_is ∙ ap (λ (z : TicketSource). z.table) (ours_before _ _ _ _ c.in-Some-pop.ensures.items c.loop-pass.invariant.ours).1,
  c.pass.invariant.slots,
  search rules,
  merges _ _ _ _ _,
)

pub loop-pass-preserved : goal.loop-pass-preserved
loop-pass-preserved c =
    let i = c.loop-pass.invariant in let j = c.join_seat.ensures.2 in let longer = c.in-Some-pop.ensures.items in
    let other = c.pass.inside.seat in let shown = c.pass.view_is in let is = c.pass.invariant in record {
      table = c.join_seat.ensures.0 ∙ i.table;
      slots = ap (λ (m : Me (Unit {0}) PassView). m.1) j ∙ i.slots;
      parts = (let e = ap (λ (m : Me (Unit {0}) PassView). m.0.parts) j in let one = is.one in let l = ap length longer ∙ length-append c.pop-in-loop-pass.new.self.items (c.in-Some-pop.pass ∷ []) in omega arith);
      ours = (ours_before _ _ _ _ longer i.ours).0;
      rising = all_rising _ _ _ _ longer (rising-shown _ _ _ is shown) i.rising;
      drawn = λ x. let e = ap (λ (m : Me (Unit {0}) PassView). times x m.0.drawn) j ∙ times-append x c.loop-pass.seat.me.0.drawn c.pass.inside.seat.me.0.drawn in
          ap (λ (n : ℕ). n + sum_by (λ (q : PassState). times x q.drawn) c.pop-in-loop-pass.new.self.items) e ∙ counted (λ (q : PassState). times x q.drawn) _ _ _ _ _ _ longer (i.drawn x) (times-shown _ _ _ is shown x);
      halted = ap (λ (m : Me (Unit {0}) PassView). m.0.halted + sum_by (λ (q : PassState). weight q.halted) c.pop-in-loop-pass.new.self.items) j ∙ counted (λ (q : PassState). weight q.halted) _ _ _ _ _ _ longer i.halted (halted-shown _ _ _ is shown);
      seen = ap (λ (m : Me (Unit {0}) PassView). m.0.seen + sum_by (λ (q : PassState). weight q.seen) c.pop-in-loop-pass.new.self.items) j ∙ counted (λ (q : PassState). weight q.seen) _ _ _ _ _ _ longer i.seen (seen-shown _ _ _ is shown);
      spent = ap (λ (m : Me (Unit {0}) PassView). m.0.spent + sum_by (λ (q : PassState). weight q.spent) c.pop-in-loop-pass.new.self.items) j ∙ counted (λ (q : PassState). weight q.spent) _ _ _ _ _ _ longer i.spent (spent-shown _ _ _ is shown);
    }

-- the loop has left no pass, so the seat's pass_view stands for all
left_none : (c : goal.After-drop-passes) → length c.loop-pass.passes.items ≡ 0
left_none c = let h = c.in_default-pop.ensures.cases.0 in search rules

told : (c : goal.After-drop-passes) → Told c.self.inside.plan c.loop-pass.seat.me.0 c.word-ticket.result c.word-stop.result
told c = let e = left_none c in let p = c.loop-pass.invariant.parts in
    subst (λ (q : Plan). Told q c.loop-pass.seat.me.0 c.word-ticket.result c.word-stop.result) c.self.invariant.2
    (closes c.self.inside.table.shared.key c.loop-pass.seat.id c.loop-pass.seat.me.0 _ _ c.close_with-words.ensures.values.2
    (let q : c.loop-pass.seat.me.0.parts ≡ c.self.inside.plan.passes = omega arith in q ∙ sym (ap (λ (k : Plan). k.passes) c.self.invariant.2)) _ _ c.word-ticket.ensures c.word-stop.ensures)

all_in : (c : goal.After-drop-passes) (f : PassState → ℕ) (n : ℕ) → n + sum_by f c.loop-pass.passes.items ≡ sum_by f c.args.passes.items → n ≡ sum_by f c.args.passes.items
all_in c f n h = let z = sum_nothing f c.loop-pass.passes.items (left_none c) in omega arith

pub returns-clause-rising : goal.returns-clause-rising
returns-clause-rising c = none_rising _ _ (left_none c) c.loop-pass.invariant.rising

pub returns-clause-each_once : goal.returns-clause-each_once
returns-clause-each_once c = λ x. each_once _ _ _ _ c.args.passes.items (told c) x (all_in c (λ (q : PassState). times x q.drawn) _ (c.loop-pass.invariant.drawn x)) ∙ ap (once_below x) (sym c.min.ensures)

pub returns-clause-stopped : goal.returns-clause-stopped
returns-clause-stopped c = let e = all_in c (λ (q : PassState). weight q.halted) _ c.loop-pass.invariant.halted in (stop_seen _ _ _ _ c.args.passes.items (told c) e, stop_set _ _ _ _ c.args.passes.items (told c) e)

pub returns-clause-seen : goal.returns-clause-seen
returns-clause-seen c = seen_set _ _ _ _ c.args.passes.items (told c) (all_in c (λ (q : PassState). weight q.seen) _ c.loop-pass.invariant.seen)

pub returns-clause-ended : goal.returns-clause-ended
returns-clause-ended c = λ unset some_spent. c.min.ensures ∙ (all_drawn _ _ _ _ c.args.passes.items (told c) (all_in c (λ (q : PassState). weight q.spent) _ c.loop-pass.invariant.spent) unset some_spent ∙ ap (λ (z : TicketSource). z.limit) c.self.view_is)

pub returns-clause-machine : goal.returns-clause-machine
returns-clause-machine c =
    let is = c.min.ensures in
    let same = ap (λ (z : TicketSource). z.limit) c.self.view_is in
    machine_run c.args.passes.items _ _ (returns-clause-each_once c) (returns-clause-rising c) (omega (arith, is, same)) _ (returns-clause-stopped c).0 (λ unset some_spent. returns-clause-ended c unset some_spent)
