use Rattle.std.proofs.Common.{◌≡◌, ℕ, ◌+◌, [], length, All, sum_by}
use Rattle.std.specs.List.Sorted.{IsStrictlyIncreasing}
use Rattle.shb_fan.specs.Numbers.{times, weight}
use Rattle.shb_fan.specs.Passes.{PassState, source_of}
use Rattle.shb_fan.proofs.tickets.Tickets.close.Given as goal

abbrev Rises : PassState → Type 0
Rises p = IsStrictlyIncreasing p.drawn

abbrev pub invariant-loop-pass : goal.invariant-loop-pass
invariant-loop-pass l = record {
  table : l.seat.table_id ≡ l.table.shared.table_id;
  slots : l.seat.me.1 ≡ [];
  parts : l.seat.me.0.parts + length l.passes.items ≡ l.plan.passes;
  ours : All (λ p. p.source ≡ source_of l.table.shared.table_id l.plan) l.passes.items;
  rising : All Rises l.passes.items → All Rises l.fn.passes.items;
  drawn : (x : ℕ) → times x l.seat.me.0.drawn + sum_by (λ (q : PassState). times x q.drawn) l.passes.items ≡ sum_by (λ (q : PassState). times x q.drawn) l.fn.passes.items;
  halted : l.seat.me.0.halted + sum_by (λ (q : PassState). weight q.halted) l.passes.items ≡ sum_by (λ (q : PassState). weight q.halted) l.fn.passes.items;
  seen : l.seat.me.0.seen + sum_by (λ (q : PassState). weight q.seen) l.passes.items ≡ sum_by (λ (q : PassState). weight q.seen) l.fn.passes.items;
  spent : l.seat.me.0.spent + sum_by (λ (q : PassState). weight q.spent) l.passes.items ≡ sum_by (λ (q : PassState). weight q.spent) l.fn.passes.items;
}

abbrev pub decreases-loop-pass : goal.decreases-loop-pass
decreases-loop-pass l = length l.passes.items
