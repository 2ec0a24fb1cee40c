use Rattle.std.proofs.Common.{rules, arith, ap, sym, ◌∙◌}
use Rattle.atomic_table.specs.Table.{Me}
use Rattle.shb_fan.specs.declared.ticket_table.PassView.{PassView}
use Rattle.shb_fan.specs.declared.ticket_table.Plan.{Plan}
use Rattle.shb_fan.specs.Numbers.{weight}
use Rattle.shb_fan.specs.Passes.{TicketSource, PassState}
use Rattle.shb_fan.proofs.Keeps.{sees, draws}
use Rattle.shb_fan.proofs.tickets.Tickets.draw.Goals as goal

pub load-stop-requires : goal.load-stop-requires
load-stop-requires c = (
  search rules,
  search rules,
  sees _ _ _ _ (let p = c.pass.invariant.one in omega arith) (c.pass.invariant.flag ∙ ap weight c.if-pass.false),
)

pub fetch_add-number-requires : goal.fetch_add-number-requires
fetch_add-number-requires c =
    let same = (c.load-stop.ensures.2.0 c.if-stopped.false).2 in let one = c.pass.invariant.one in (
      search rules,
      search rules,
      draws _ _ _ _ (let e = ap (λ (m : Me (Unit {0}) PassView). m.0.parts) same in omega arith)
          (ap (λ (m : Me (Unit {0}) PassView). m.0.spent) same ∙ (c.pass.invariant.flag ∙ ap weight c.if-pass.false))
          (ap (λ (m : Me (Unit {0}) PassView). m.0.plan.limit) same
          ∙ (ap (λ (p : PassState). p.source.limit) c.pass.view_is
          ∙ (ap (λ (z : TicketSource). z.limit) c.requires
          ∙ (sym (ap (λ (z : TicketSource). z.limit) c.self.view_is) ∙ sym (ap (λ (q : Plan). q.limit) c.self.invariant.2))))),
    )
