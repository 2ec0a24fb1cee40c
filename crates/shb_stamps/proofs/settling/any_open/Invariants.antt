use Rattle.std.proofs.Common.{◌≡◌, ◌<◌, ℕ, false}
use Rattle.shb_stamps.specs.Open.{is_open}
use Rattle.shb_stamps.proofs.settling.any_open.Given as goal

abbrev pub invariant-loop-x : goal.invariant-loop-x
invariant-loop-x l = (y : ℕ) → y < l.x → is_open l.flags y ≡ false
