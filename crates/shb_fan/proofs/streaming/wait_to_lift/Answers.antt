use Rattle.std.proofs.Common.{◌≡◌, ℕ, ◌<◌, ◌∷◌, ◌++◌, [], List, All, false, rules, ap, ◌∙◌, subst}
use Rattle.shb_fan.specs.declared.crew.Worker.{Worker}
use Rattle.shb_fan.specs.Passes.{PassState}
use Rattle.shb_fan.proofs.Accounts.{drawn_at, kept_at}
use Rattle.shb_fan.proofs.streaming.wait_to_lift.Goals as goal

pub make-requires-clause-ready : goal.make-requires-clause-ready
make-requires-clause-ready g c =
    let can = c.loop.invariant.ready in
    let looked = c.stopped.ensures.seen in
    let won = c.draw_this.ensures.won (search rules) in
    let lost = c.lift-lifted.ensures in
    let old = c.loop.own in
    let new : Worker g.row.T.Denot g.row.M.Denot = record { pass = c.draw_this.new.pass; seat = c.lift-lifted.new.seat } in
    let drawn : new.pass.drawn ≡ old.pass.drawn ++ c.args.k ∷ [] = ap (λ (p : PassState). p.drawn) won.1 ∙ ap (λ (p : PassState). p.drawn ++ c.args.k ∷ []) looked in
    let halted : new.pass.halted ≡ false = ap (λ (p : PassState). p.halted) won.1 ∙ (ap (λ (p : PassState). p.halted) looked ∙ can.1.1.0) in
    let seen : new.pass.seen ≡ false = ap (λ (p : PassState). p.seen) won.1 ∙ (ap (λ (p : PassState). p.seen) looked ∙ c.if-stopped.false) in
    let source = ap (λ (p : PassState). p.source) won.1 ∙ (ap (λ (p : PassState). p.source) looked ∙ can.1.0.0.0) in
    let above : All (λ x. x < c.args.k) old.pass.drawn = subst (λ (l : List ℕ). All (λ x. x < c.args.k) l) (ap (λ (p : PassState). p.drawn) looked) won.0 in
    let owes = drawn_at old new can.1.0.1 c.args.k lost.placed drawn halted above in
    ((can.0, ((source, lost.seat, lost.claimed ∙ can.1.0.0.2), owes.0)), (halted, seen), owes.1, kept_at old new c.args.k can.1.2 lost.placed drawn)
