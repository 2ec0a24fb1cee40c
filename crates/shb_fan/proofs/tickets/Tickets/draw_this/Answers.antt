use Rattle.std.proofs.Common.{rules, arith, ap}
use Rattle.shb_fan.specs.declared.ticket_table.Plan.{Plan}
use Rattle.shb_fan.specs.Passes.{TicketSource}
use Rattle.shb_fan.proofs.Keeps.{draws_this}
use Rattle.shb_fan.proofs.Seats.{drew_pass}
use Rattle.shb_fan.proofs.tickets.Tickets.draw_this.Goals as goal

pub compare_exchange-requires : goal.compare_exchange-requires
compare_exchange-requires c =
    let shown = ap (λ (z : TicketSource). z.limit) c.self.view_is in
    let key = ap (λ (q : Plan). q.limit) c.self.invariant.2 in
    let less = c.requires.number.0 in (
      search rules,
      search rules,
      draws_this _ _ _ _ c.args.number (let one = c.pass.invariant.one in omega (arith, one)) (omega (arith, shown, key, less)),
    )

pub invariant_of-pass : goal.invariant_of-pass
invariant_of-pass c = let told = c.compare_exchange.ensures.2 in drew_pass c.pass.inside.seat c.compare_exchange.new.seat _ c.args.number _ c.pass.invariant told
