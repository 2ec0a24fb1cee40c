use Rattle.std.proofs.Common.{◌∙◌, rules}
use Rattle.std.specs.Prelude.{slice_range}
use Rattle.shb_lists.proofs.GivenLemmas.{events_asked, events_within, known_within}
use Rattle.shb_lists.proofs.list.turn_at.Goals as goal

pub at_events-requires : goal.at_events-requires
at_events-requires c =
    let trace = c.args.settled.now.disciplined.now.events.now in
    let part = slice_range c.args.list.now c.args.from c.min-to.result in
    let known = known_within trace c.requires.known.0 c.args.list.now c.args.from c.min-to.result c.requires.known.1 in
    events_within trace c.new-linked.result.events.now c.requires.known.0 part c.in_ok-events.events.items c.as_slice.result.now c.new-linked.ensures.events c.as_slice.ensures.value c.in_ok-events.ensures known

pub returns-clause-turn : goal.returns-clause-turn
returns-clause-turn c = record {
  within = search rules;
  of_trace = c.in_ok-order.ensures.trace ∙ c.new-linked.ensures.events;
  asked = events_asked c.in_ok-order.order (slice_range c.args.list.now c.args.from c.min-to.result) c.in_ok-events.events.items c.as_slice.result.now c.as_slice.ensures.value c.in_ok-events.ensures c.in_ok-order.ensures.events;
}
