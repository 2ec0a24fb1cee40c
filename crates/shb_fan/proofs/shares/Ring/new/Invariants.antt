use Rattle.std.proofs.Common.{◌≡◌, ◌-◌, ◌+◌, ◌≤◌, [], All, length}
use Rattle.std.specs.Vec.{vec_capacity}
use Rattle.shb_fan.specs.Slots.{seat_view}
use Rattle.shb_fan.specs.Values.{values_of}
use Rattle.shb_fan.specs.Seated.{Sits, claimed_of, placed_of, lifted_of}
use Rattle.shb_fan.proofs.shares.Ring.new.Given as goal

abbrev pub invariant-loop : goal.invariant-loop
invariant-loop g l = record {
  table : l.first.table_id ≡ l.table.shared.table_id;
  left : l.first.me ≡ (seat_view (65 - (l.counter - 1)) (values_of (g.J.Job.value l.job) (g.J.Job.count l.job)) [] [] [] [], []);
  room : 65 ≤ vec_capacity l.seats;
  count : length l.seats.items + 1 ≡ l.counter;
  sit : All (λ s. Sits l.table.shared.table_id (values_of (g.J.Job.value l.job) (g.J.Job.count l.job)) s × (claimed_of s ≡ []) × (placed_of s ≡ []) × (lifted_of s ≡ [])) l.seats.items;
}
