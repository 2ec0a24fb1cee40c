use Rattle.std.proofs.Common.{rules, arith, ap, sym, ◌∙◌, Some}
use Rattle.shb_fan.proofs.Rings.{places}
use Rattle.shb_fan.proofs.Values.{values-at}
use Rattle.shb_fan.proofs.shares.Ring.place.Goals as goal

pub store-requires : goal.store-requires
store-requires g c = (
  c.exchange.ensures.0 ∙ c.requires.seat.1.same_table,
  search rules,
  places _ _ _ _ _ c.args.k c.args.value _ (let e = ap (λ m. m.0.parts) c.exchange.ensures.3 in let one = c.requires.seat.1.one in omega (arith, e, one)) (ap (λ m. m.0.claimed) c.exchange.ensures.3 ∙ c.requires.claimed) (ap (λ m. m.1) c.exchange.ensures.3)
      (values-at _ _ c.args.k c.requires.piece ∙ ap Some (sym c.requires.value)),
)
