use Rattle.std.proofs.Common.{◌∙◌, ◌+◌, ap}
use Rattle.shb_stamps.specs.Clocks.{SweepData}
use Rattle.shb_orders.proofs.RowLemmas.{rows_more}
use Rattle.shb_orders.proofs.full_clocks.full.Goals as goal

pub loop-e-preserved : goal.loop-e-preserved
loop-e-preserved c = record {
  of_trace = ap (λ (s : SweepData). s.trace) c.in_ok-pass.ensures ∙ c.loop-e.invariant.of_trace;
  next = ap (λ (s : SweepData). s.next) c.in_ok-pass.ensures ∙ ap (λ n. n + 1) c.loop-e.invariant.next;
  clocks = rw c.in_ok-push.ensures.items (rows_more _ c.loop-e.e c.loop-e.clocks.items _ c.loop-e.invariant.clocks c.in_ok-clock_before.ensures);
}
