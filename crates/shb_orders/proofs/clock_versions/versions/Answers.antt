use Rattle.std.proofs.Common.{List, [], length, ap, arith, subst, sym}
use Rattle.std.specs.Prelude.{slice_index_or}
use Rattle.shb_orders.proofs.Words.{AreLearnedTimes, Event}
use Rattle.shb_stamps.proofs.ListedLemmas.{contains_listed}
use Rattle.shb_orders.proofs.clock_versions.versions.Goals as goal

pub invariant_of-result : goal.invariant_of-result
invariant_of-result c =
    let size = c.len.ensures in
    let long = ap length c.in_ok-rows.ensures.trace in (
      (λ e lt. contains_listed c.in_ok-rows.rows.events e ((c.in_ok-rows.ensures.events e).1 (rw c.as_slice.ensures.value (c.in_ok-events.ensures.each e (omega (arith, lt, size, long)))))),
      (λ t. subst (λ (tr : List Event). AreLearnedTimes tr t (slice_index_or c.in_ok-times.times.items t [])) (sym c.in_ok-rows.ensures.trace) (c.in_ok-times.ensures t)),
    )
