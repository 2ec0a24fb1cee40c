use Rattle.std.proofs.Common.{rules, arith, ap, sym, subst, ◌∙◌, ◌≡◌, ◌/◌, ◌*◌, ◌+◌, ◌∷◌, ◌++◌, [], ℕ, Some, IfSome}
use Rattle.shb_fan.specs.Numbers.{times}
use Rattle.shb_fan.proofs.Rings.{raises, frees}
use Rattle.shb_fan.proofs.Values.{headed, first_value, found_value}
use Rattle.shb_fan.proofs.shares.Ring.lift.Goals as goal

pub compare_exchange-requires : goal.compare_exchange-requires
compare_exchange-requires g c = let seat = c.requires.seat.1 in (seat.same_table, search rules, raises _ _ _ _ _ c.args.k (let one = seat.one in omega (arith, one)) seat.lifts_none)

pub exchange-out-requires : goal.exchange-out-requires
exchange-out-requires g c = let won = c.compare_exchange.ensures.2.0 c.if-compare_exchange-full.false in
    (c.compare_exchange.ensures.0 ∙ c.requires.seat.1.same_table, (Some won.0, headed _ _ _ (ap (λ m. m.1) won.1)))

pub store-requires : goal.store-requires
store-requires g c = let won = c.compare_exchange.ensures.2.0 c.if-compare_exchange-full.false in let piece : (4 * c.args.k + 2) / 4 ≡ c.args.k = omega arith in (
  c.exchange-out.ensures.0 ∙ (c.compare_exchange.ensures.0 ∙ c.requires.seat.1.same_table),
  search rules,
  frees _ _ _ _ _ c.args.k _ _ (ap (λ m. m.0.lifting) c.exchange-out.ensures.3 ∙ (ap (λ m. m.0.lifting) won.1 ∙ ap (λ (k : ℕ). k ∷ []) piece)) (ap (λ m. m.1) c.exchange-out.ensures.3),
)

pub returns-clause-some : goal.returns-clause-some
returns-clause-some g c = let won = c.compare_exchange.ensures.2.0 c.if-compare_exchange-full.false in let piece : (4 * c.args.k + 2) / 4 ≡ c.args.k = omega arith in
    subst (λ o. IfSome o (λ out. (g.J.Job.meaning out ≡ g.J.Job.value c.args.self.now.table.shared.key c.args.k) × (times c.args.k c.args.seat.now.place.me.0.lifted ≡ 0) × (c.store.new.seat.me.0.lifted ≡ c.args.seat.now.place.me.0.lifted ++ c.args.k ∷ []))) (sym (first_value _ _ _ _ _ _ _ c.exchange-out.ensures.2 (ap (λ m. m.1) won.1))) (
      found_value _ _ _ c.args.k _ _ c.requires.seat.1.same_values c.requires.piece piece won.2,
      ap (λ (k : ℕ). times k c.args.seat.now.place.me.0.lifted) (sym piece) ∙ won.3,
      ap (λ m. m.0.lifted) c.store.ensures.2 ∙ (ap (λ m. m.0.lifted) c.exchange-out.ensures.3 ∙ (ap (λ m. m.0.lifted) won.1 ∙ ap (λ (k : ℕ). c.args.seat.now.place.me.0.lifted ++ k ∷ []) piece)),
    )
