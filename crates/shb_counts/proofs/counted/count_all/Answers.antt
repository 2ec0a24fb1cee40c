use Rattle.std.proofs.Common.{List, arith, length, subst, sym, ◌∙◌}
use Rattle.std.specs.Prelude.{slice_range}
use Rattle.shb_counts.specs.Settled.{events_of}
use Rattle.shb_counts.specs.Sums.{IsCounted}
use Rattle.shb_counts.specs.declared.accesses.Access.{Access}
use Rattle.shb_counts.proofs.CountedLemmas.{next_counted, none_counted, whole_counted}
use Rattle.shb_counts.proofs.SliceLemmas.{slice_whole}
use Rattle.shb_counts.proofs.counted.count_all.Goals as goal

pub count_turn-requires-clause-list : goal.count_turn-requires-clause-list
count_turn-requires-clause-list g c κs within =
    let list = c.args.located.accesses.now.list.items in
    (0, length list, c.as_slice-list.ensures.value ∙ sym (slice_whole list (length list) (omega arith)))

pub loop-from-init : goal.loop-from-init
loop-from-init g c = record {
  within = omega arith;
  counted = none_counted (events_of c.args.settled.now) c.args.located.numbers.now c.as_slice-list.result.now c.new-counted.result (c.new-counted.ensures (events_of c.args.settled.now) c.args.located.numbers.now);
}

pub loop-from-preserved : goal.loop-from-preserved
loop-from-preserved g c =
    let trace = events_of c.args.settled.now in
    let numbers = c.args.located.numbers.now in
    let list = c.as_slice-list.result.now in
    let from = c.loop-from.from in
    let to = c.turn_end-to.result in
    let later = c.turn_end-to.ensures.more in
    record {
      within = c.turn_end-to.ensures.within;
      counted = next_counted trace numbers list from to c.add.new.self (omega (arith, later)) (c.in_ok-add.ensures trace numbers (slice_range list 0 from) (slice_range list from to) c.loop-from.invariant.counted c.in_ok-turn.ensures.counted);
    }

pub returns-clause-counted : goal.returns-clause-counted
returns-clause-counted g c =
    subst (λ (l : List Access). IsCounted (events_of c.args.settled.now) c.args.located.numbers.now l c.loop-from.counted) c.as_slice-list.ensures.value
    (whole_counted (events_of c.args.settled.now) c.args.located.numbers.now c.as_slice-list.result.now c.loop-from.from c.loop-from.counted c.loop-from-test.false c.loop-from.invariant.counted)

pub returns-clause-order : goal.returns-clause-order
returns-clause-order g c = tt
