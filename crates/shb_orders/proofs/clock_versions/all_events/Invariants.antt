use Rattle.std.proofs.Common.{ℕ, ◌<◌}
use Rattle.std.specs.Prelude.{All, Contains}
use Rattle.shb_orders.proofs.clock_versions.all_events.Given as goal

abbrev pub invariant-loop-e : goal.invariant-loop-e
invariant-loop-e l = record {
  within : All (λ x. x < l.count) l.events.items;
  each : (x : ℕ) → x < l.e → Contains l.events.items x;
}
