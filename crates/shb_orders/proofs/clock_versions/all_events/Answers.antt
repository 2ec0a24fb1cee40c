use Rattle.std.proofs.Common.{◌≡◌, ◌<◌, inl, inr, ℕ, List, [], ◌∷◌, ◌++◌, arith, subst}
use Rattle.std.specs.Prelude.{Contains}
use Rattle.shb_orders.proofs.Words.{cases_lt}
use Rattle.std.proofs.lemmas.List.Elements.{All-push, Contains-append_left, Contains-push}
use Rattle.shb_orders.proofs.clock_versions.all_events.Goals as goal

pub loop-e-preserved : goal.loop-e-preserved
loop-e-preserved c =
    let k = c.loop-e.e in
    let before : List ℕ = c.loop-e.events.items in
    rw c.in_ok-push.ensures.items (record {
      within = All-push (λ x. x < c.args.count) before k c.loop-e.invariant.within (omega (arith, c.loop-e-test.true));
      each = λ x lt. elim (cases_lt x k) [
        | inl low ↦ Contains-append_left before (k ∷ []) x (c.loop-e.invariant.each x low)
        | inr high ↦ (let is : k ≡ x = omega (arith, lt, high) in subst (Contains (before ++ k ∷ [])) is (Contains-push before k))
      ];
    })
