use Rattle.std.proofs.Common.{ℕ, List, [], length, get_or, ap, sym, subst, ◌∙◌, arith}
use Rattle.shb_orders.proofs.Words.{AreLearnedTimes, Event, get_or_past, get_or_read}
use Rattle.shb_orders.proofs.clock_versions.ClockVersions.learned.Goals as goal

pub returns-in-Some : goal.returns-in-Some
returns-in-Some c =
    let times = c.self.inside.times.items in
    let size = ap length c.deref.ensures.value in
    let low = c.in-Some.ensures.lookup.3.0 in
    let is = c.in-Some.ensures.lookup.1 ∙ ap (λ (xs : List (List ℕ)). get_or xs c.args.t c.in-Some.times.now) c.deref.ensures.value in
    subst (λ (tr : List Event). AreLearnedTimes tr c.args.t c.as_slice.result.now) c.self.view_is
    (subst (AreLearnedTimes c.self.inside.rows.trace c.args.t) (sym (c.as_slice.ensures ∙ get_or_read times c.args.t c.in-Some.times.now (omega (arith, size, low)) is [])) (c.self.invariant.1 c.args.t))

pub returns-in-None : goal.returns-in-None
returns-in-None c =
    let times = c.self.inside.times.items in
    let size = ap length c.deref.ensures.value in
    let past = c.in-None.ensures.lookup.3 in
    subst (λ (tr : List Event). AreLearnedTimes tr c.args.t []) c.self.view_is
    (subst (AreLearnedTimes c.self.inside.rows.trace c.args.t) (get_or_past times c.args.t [] (omega (arith, size, past))) (c.self.invariant.1 c.args.t))
