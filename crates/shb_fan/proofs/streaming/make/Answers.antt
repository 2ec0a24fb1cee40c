use Rattle.std.proofs.Common.{◌∷◌, ◌++◌, [], ℕ, List, ap, ◌∙◌, rules}
use Rattle.shb_fan.specs.declared.crew.Worker.{Worker}
use Rattle.shb_fan.proofs.Accounts.{placed_at, made_at}
use Rattle.shb_fan.proofs.streaming.make.Goals as goal

pub returns-clause-ready : goal.returns-clause-ready
returns-clause-ready g c =
    let can = c.requires.ready in
    let claim = c.wait_to_claim.ensures in
    let place = c.place.ensures in
    let new : Worker g.row.T.Denot g.row.M.Denot = record { pass = c.wait_to_claim.new.worker.pass; seat = c.place.new.seat } in (
      can.0.0,
      ((claim.pass.0 ∙ can.0.1.0.0, place.seat, place.claimed), placed_at c.args.worker.now new can.0.1.1 c.args.k can.2 can.1.0 claim.pass.1 claim.pass.2 (place.placed ∙ ap (λ (l : List ℕ). l ++ c.args.k ∷ []) claim.placed)),
    )

pub returns-clause-made : goal.returns-clause-made
returns-clause-made g c = λ _.
    let can = c.requires.ready in
    let claim = c.wait_to_claim.ensures in
    let place = c.place.ensures in
    let new : Worker g.row.T.Denot g.row.M.Denot = record { pass = c.wait_to_claim.new.worker.pass; seat = c.place.new.seat } in (
      (claim.pass.2 ∙ can.1.0, (claim.won (search rules)).1 ∙ can.1.1),
      made_at c.args.worker.now new c.args.k can.3 claim.pass.1 (place.placed ∙ ap (λ (l : List ℕ). l ++ c.args.k ∷ []) claim.placed),
    )
