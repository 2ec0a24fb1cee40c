-- An access more, and what is in the cover at the end.
use Rattle.std.proofs.Common.{◌<◌, ◌∙◌, ℕ, List, arith, false, get_or, length, subst, sym, take}
use Rattle.std.proofs.lemmas.List.Elements.{Contains-get_or}
use Rattle.shb_stamps.specs.Accesses.{races_with}
use Rattle.shb_counts.specs.Runs.{HasAdded}
use Rattle.shb_counts.specs.Windows.{AreWindows}
use Rattle.shb_counts.specs.declared.accesses.Access.{Access}
use Rattle.shb_counts.proofs.RunSteps.{entries_each, events, events_low, events_pushed, mapped_more, own_at, run_at, run_summed}
use Rattle.shb_counts.proofs.runs.count_run.Goals as goal

pub look-requires-clause-conflicting : goal.look-requires-clause-conflicting
look-requires-clause-conflicting c =
    let r = c.requires.run in
    let k = c.loop-access.access-index in
    let lt : k < length c.args.run.now = omega (arith, c.loop-access-test.true, c.loop-access.auto.access-index-end) in
    let d : Access = record { variable = 0; location = 0; writes = false; event = 0; thread = 0 } in
    rw c.loop-access.invariant.order (r.0, r.2.each k d lt, r.2.conflicting (get_or c.args.run.now k d) (Contains-get_or c.args.run.now k d lt))

pub add-requires : goal.add-requires
add-requires c =
    let r = c.requires.run in
    let ordered = c.args.finder.now.order.now in
    let k = c.loop-access.access-index in
    let lt : k < length c.args.run.now = omega (arith, c.loop-access-test.true, c.loop-access.auto.access-index-end) in
    let d : Access = record { variable = 0; location = 0; writes = false; event = 0; thread = 0 } in (
      ordered.trace,
      r.0,
      r.1,
      events (take k c.args.run.now),
      c.loop-access.invariant.added r.0 r.1 r.2 r.3,
      subst (AreWindows ordered.trace (get_or c.args.run.now k d).event c.args.entries.now) (sym c.as_slice-windows.ensures.value) (rw c.loop-access.invariant.order at c.in_ok-found.ensures.windows),
      events_low ordered r.0 c.args.entries.now c.args.run.now r.2 k d lt,
    )

pub loop-access-preserved : goal.loop-access-preserved
loop-access-preserved c =
    let ordered = c.args.finder.now.order.now in
    let entries = c.args.entries.now in
    let run = c.args.run.now in
    let k = c.loop-access.access-index in
    let lt : k < length run = omega (arith, c.loop-access-test.true, c.loop-access.auto.access-index-end) in
    let d : Access = record { variable = 0; location = 0; writes = false; event = 0; thread = 0 } in
    record {
      order = c.in_ok-found.ensures.order ∙ c.loop-access.invariant.order;
      races = mapped_more (λ (access : Access). length (races_with ordered.trace access.event)) c.args.races.now.items c.loop-access.races.items c.push.new.self.items run k _ d lt c.loop-access.invariant.races c.in_ok-push.ensures.items (rw c.loop-access.invariant.order at c.in_ok-found.ensures.count);
      added = λ numbers pairs is summed.
          subst (λ (l : List ℕ). HasAdded ordered.trace numbers entries pairs l c.add.new.self) (events_pushed run k d lt)
          (c.in_ok-add.ensures ordered.trace numbers pairs (events (take k run)) (c.loop-access.invariant.added numbers pairs is summed)
          (subst (AreWindows ordered.trace (get_or run k d).event entries) (sym c.as_slice-windows.ensures.value) (rw c.loop-access.invariant.order at c.in_ok-found.ensures.windows))
          (events_low ordered numbers entries run is k d lt) (entries_each ordered numbers entries run is k d lt) (own_at ordered numbers entries run is k d lt));
    }

pub returns-clause-sums : goal.returns-clause-sums
returns-clause-sums c numbers pairs is summed =
    let ordered = c.args.finder.now.order.now in
    let entries = c.args.entries.now in
    let run = c.args.run.now in
    let k = c.loop-access.access-index in
    let d : Access = record { variable = 0; location = 0; writes = false; event = 0; thread = 0 } in
    run_summed ordered numbers entries run is k pairs c.finish.new.self (omega (arith, c.loop-access-test.false, c.loop-access.auto.access-index-end))
    (c.in_ok-finish.ensures ordered.trace numbers pairs (events (take k run)) (c.loop-access.invariant.added numbers pairs is summed) (entries_each ordered numbers entries run is 0 d c.requires.some) (run_at ordered numbers entries run is k 0 d c.requires.some))
