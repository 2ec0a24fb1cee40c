-- One run more.
use Rattle.std.proofs.Common.{◌∙◌, Some, ap, arith, false, get_or, length, refl, sym}
use Rattle.std.proofs.lemmas.Option.{slice_get-get_or}
use Rattle.std.specs.Prelude.{slice_range}
use Rattle.shb_stamps.specs.Accesses.{races_with}
use Rattle.shb_counts.specs.Sums.{pairs_of}
use Rattle.shb_counts.specs.declared.accesses.Access.{Access}
use Rattle.shb_counts.specs.declared.accesses.Entries.{Entries}
use Rattle.shb_counts.proofs.RunSlices.{has_entries, list_counted, races_on, slice_run, sums_on, variable_there}
use Rattle.shb_counts.proofs.runs.count_races.Goals as goal

pub count_run-requires-clause-run : goal.count_run-requires-clause-run
count_run-requires-clause-run c =
    let r = c.requires in
    let ordered = c.args.order.now in
    let list = c.args.list.now in
    let start = c.loop-start.start in
    let d : Access = record { variable = 0; location = 0; writes = false; event = 0; thread = 0 } in
    let there = variable_there ordered r.0 r.1 c.args.accesses.now list r.2 start d c.loop-start-test.true in
    let entries = has_entries ordered r.0 r.1 c.args.accesses.now list r.2 start d c.index.result.now c.loop-start-test.true
    (slice_get-get_or c.args.accesses.now.by_variable.items (get_or list start d).variable c.index.result.now there ∙ ap (λ (e : Entries). Some e) (sym c.index.ensures)) in
    rw c.loop-start.invariant.order (
      r.1,
      pairs_of ordered.trace (slice_range list 0 start),
      slice_run ordered r.0 r.1 c.args.accesses.now list r.2 start c.run_end-end.result d c.against-entries.result.now c.run_end-end.ensures.more c.run_end-end.ensures.within c.run_end-end.ensures.alike
          (c.against-entries.ensures.entries ordered.trace r.1 (get_or list start d).variable entries),
      c.loop-start.invariant.sums r.0 r.1 r.2,
    )

pub loop-start-preserved : goal.loop-start-preserved
loop-start-preserved c =
    let ordered = c.args.order.now in
    let list = c.args.list.now in
    let start = c.loop-start.start in
    let more = c.run_end-end.ensures.more in
    let d : Access = record { variable = 0; location = 0; writes = false; event = 0; thread = 0 } in
    record {
      within = c.run_end-end.ensures.within;
      order = rw c.in_ok-count_run.ensures.order c.loop-start.invariant.order;
      races = races_on (λ (access : Access). length (races_with ordered.trace access.event)) list start c.run_end-end.result c.loop-start.races.items c.count_run.new.races.items (omega (arith, more)) c.loop-start.invariant.races (rw c.loop-start.invariant.order at c.in_ok-count_run.ensures.races);
      sums = λ flags numbers is.
          (let there = variable_there ordered flags numbers c.args.accesses.now list is start d c.loop-start-test.true in
          let entries = has_entries ordered flags numbers c.args.accesses.now list is start d c.index.result.now c.loop-start-test.true
          (slice_get-get_or c.args.accesses.now.by_variable.items (get_or list start d).variable c.index.result.now there ∙ ap (λ (e : Entries). Some e) (sym c.index.ensures)) in
          sums_on ordered.trace numbers list start c.run_end-end.result c.count_run.new.sums (omega (arith, more))
          ((rw c.loop-start.invariant.order at c.in_ok-count_run.ensures.sums) numbers (pairs_of ordered.trace (slice_range list 0 start))
          (slice_run ordered flags numbers c.args.accesses.now list is start c.run_end-end.result d c.against-entries.result.now c.run_end-end.ensures.more c.run_end-end.ensures.within c.run_end-end.ensures.alike
          (c.against-entries.ensures.entries ordered.trace numbers (get_or list start d).variable entries))
          (c.loop-start.invariant.sums flags numbers is)));
    }

pub returns : goal.returns
returns c flags numbers is =
    list_counted c.args.order.now.trace numbers c.args.list.now c.loop-start.start c.loop-start.sums _ c.loop-start-test.false c.loop-start.invariant.races refl (c.loop-start.invariant.sums flags numbers is)
