use Rattle.std.proofs.Common.{◌∙◌}
use Rattle.shb_witness.proofs.Ends.{asks_ends, ends_all, same_ends}
use Rattle.shb_witness.proofs.job.order_of_races.Goals as goal

pub at_events-requires : goal.at_events-requires
at_events-requires c = ends_all c.args.linked.events.now c.args.races.now c.as_slice.result.now c.requires.races (c.as_slice.ensures.value ∙ c.in_ok-events.ensures)

pub returns-clause-events : goal.returns-clause-events
returns-clause-events c e = same_ends c.args.races.now c.as_slice.result.now c.in_ok-order.order.events e (c.as_slice.ensures.value ∙ c.in_ok-events.ensures) (c.in_ok-order.ensures.events e)

pub returns-clause-asked : goal.returns-clause-asked
returns-clause-asked c = asks_ends c.in_ok-order.order.events c.args.races.now (λ e. (same_ends c.args.races.now c.as_slice.result.now c.in_ok-order.order.events e (c.as_slice.ensures.value ∙ c.in_ok-events.ensures) (c.in_ok-order.ensures.events e)).1)
