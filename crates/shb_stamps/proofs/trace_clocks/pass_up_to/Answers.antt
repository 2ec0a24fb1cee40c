use Rattle.std.proofs.Common.{◌≡◌, ℕ, false, arith, subst}
use Rattle.shb_stamps.proofs.Words.{IsBefore}
use Rattle.shb_stamps.proofs.trace_clocks.pass_up_to.Goals as goal

pub returns : goal.returns
returns c =
    let past = c.loop-e-test.false in
    let within = c.loop-e.auto.e-end in
    let same : c.loop-e.e ≡ c.args.end = omega (arith, past, within) in
    subst (λ (n : ℕ). IsBefore c.args.linked.now.events.now n false c.loop-e.clocks) same c.loop-e.invariant
