use Rattle.std.proofs.Common.{◌≡◌, ℕ, ◌<◌, List, Some, length, subst, sym, ◌∙◌, take}
use Rattle.std.specs.Prelude.{count_by}
use Rattle.shb_stamps.proofs.Words.{Event, IsLatestBefore, Join, OfThread, is_of, op_known}
use Rattle.shb_stamps.proofs.Locals.{local_is}
use Rattle.shb_stamps.proofs.TraceSteps.{joined_last, joined_none}
use Rattle.shb_stamps.proofs.trace_clocks.joined_time.Goals as goal

pub returns-in-Some : goal.returns-in-Some
returns-in-Some c = λ t joins.
    let trace : List Event = c.args.linked.now.events.now in
    let child : ℕ = c.in-Join.child in
    let last : ℕ = c.in-Some.last in
    let here = op_known trace c.args.e _ _ c.op.ensures c.in-Join.is in
    let same : child ≡ t = (let one : Some (Join child) ≡ Some (Join t) = sym here ∙ joins in cc) in
    let latest : IsLatestBefore (OfThread trace child) (length trace) last = subst (λ (tr : List Event). IsLatestBefore (OfThread tr child) (length tr) last) c.args.linked.now.of_links c.in-Some.ensures in
    subst (λ (u : ℕ). c.local.result ≡ count_by (is_of u) (take c.args.e trace)) same
    (local_is trace c.args.linked.now.links.now last c.local.result child c.args.linked.now.of_links c.local.ensures.time latest.holds ∙ joined_last trace child c.args.e last c.args.linked.now.meets here latest)

pub returns-in-None : goal.returns-in-None
returns-in-None c = λ t joins.
    let trace : List Event = c.args.linked.now.events.now in
    let child : ℕ = c.in-Join.child in
    let here = op_known trace c.args.e _ _ c.op.ensures c.in-Join.is in
    let same : child ≡ t = (let one : Some (Join child) ≡ Some (Join t) = sym here ∙ joins in cc) in
    let none : (k : ℕ) → k < length trace → ¬ OfThread trace child k = subst (λ (tr : List Event). (k : ℕ) → k < length tr → ¬ OfThread tr child k) c.args.linked.now.of_links c.in-None.ensures in
    subst (λ (u : ℕ). 0 ≡ count_by (is_of u) (take c.args.e trace)) same (joined_none trace child c.args.e none)
