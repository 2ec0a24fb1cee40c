use Rattle.std.proofs.Common.{◌≡◌, ℕ, ◌+◌, ◌<◌, [], length, All, sum_by}
use Rattle.shb_fan.specs.Numbers.{times}
use Rattle.shb_fan.specs.Seated.{IsSeatOf, claimed_of, placed_of, lifted_of}
use Rattle.shb_fan.proofs.shares.Ring.close.Given as goal

abbrev pub invariant-loop-seat : goal.invariant-loop-seat
invariant-loop-seat g l = record {
  table : l.whole.table_id ≡ l.table.shared.table_id;
  parts : l.whole.me.0.parts + length l.seats.items ≡ 65;
  present : 0 < l.whole.me.0.parts;
  slots : l.whole.me.1 ≡ [];
  ours : All (λ s. IsSeatOf g.J.Job.value g.J.Job.count l.fn.self s × (claimed_of s ≡ [])) l.seats.items;
  placed : (k : ℕ) → times k l.whole.me.0.placed + sum_by (λ s. times k (placed_of s)) l.seats.items ≡ sum_by (λ s. times k (placed_of s)) l.fn.seats.items;
  lifted : (k : ℕ) → times k l.whole.me.0.lifted + sum_by (λ s. times k (lifted_of s)) l.seats.items ≡ sum_by (λ s. times k (lifted_of s)) l.fn.seats.items;
}

abbrev pub decreases-loop-seat : goal.decreases-loop-seat
decreases-loop-seat g l = length l.seats.items
