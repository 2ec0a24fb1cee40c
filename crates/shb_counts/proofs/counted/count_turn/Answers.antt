use Rattle.std.proofs.Common.{length, sym, subst, All, List, ◌<◌, ◌∙◌}
use Rattle.shb_lines.specs.declared.event.Event.{Event}
use Rattle.shb_counts.specs.Settled.{events_of}
use Rattle.shb_counts.proofs.CountedLemmas.{turn_asked, turn_countable, turn_events}
use Rattle.shb_counts.proofs.counted.count_turn.Goals as goal

pub at_events-requires : goal.at_events-requires
at_events-requires g c =
    subst (λ (t : List Event). All (λ e. e < length t) c.as_slice.result.now) (sym c.new-linked.ensures.events)
    (turn_events (events_of c.args.settled.now) c.args.located.numbers.now c.args.located.accesses.now.list.items c.args.list.now c.as_slice.result.now c.requires.list.0 c.requires.list.1 c.requires.accesses.each c.requires.list.2 (c.as_slice.ensures.value ∙ c.in_ok-events.ensures))

pub counted_by_workers-requires-after_bounds : goal.counted_by_workers-requires-after_bounds
counted_by_workers-requires-after_bounds g c κs within = (
  c.args.settled.now.flags.now,
  turn_countable c.in_ok-order.order (events_of c.args.settled.now) c.args.settled.now.flags.now c.args.located.numbers.now c.args.located.accesses.now c.args.list.now
      c.requires.list.0 c.requires.list.1 c.requires.accesses c.requires.list.2
      (turn_asked c.in_ok-order.order (events_of c.args.settled.now) c.args.list.now c.as_slice.result.now
      (c.as_slice.ensures.value ∙ c.in_ok-events.ensures) (c.in_ok-order.ensures.trace ∙ c.new-linked.ensures.events) c.in_ok-order.ensures.events),
)

pub returns-clause-order : goal.returns-clause-order
returns-clause-order g c =
    turn_asked c.in_ok-order.order (events_of c.args.settled.now) c.args.list.now c.as_slice.result.now
    (c.as_slice.ensures.value ∙ c.in_ok-events.ensures) (c.in_ok-order.ensures.trace ∙ c.new-linked.ensures.events) c.in_ok-order.ensures.events
