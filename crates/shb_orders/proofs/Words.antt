-- The words and lemmas of the crates below, and this crate's words, as its proofs say them.
pub use Rattle.shb_lines.proofs.events.Counts.{count_gap, count_more_no}
pub use Rattle.shb_lines.proofs.events.Events.{event_of_thread, thread_is}
pub use Rattle.shb_lines.proofs.events.Items.{edge_by_rule, edge_by_write, no_edge, thread_item, thread_within}
pub use Rattle.shb_lines.proofs.events.Listed.{IsListed, listed_more_no, listed_more_yes, listed_none, number_more_no, number_more_yes, number_same}
pub use Rattle.shb_lines.proofs.events.Prefix.{is_of_thread}
pub use Rattle.shb_lines.proofs.events.Schedulable.{edge_earlier, path_forward, pred_earlier}
pub use Rattle.shb_lines.specs.declared.event.Event.{Event}
pub use Rattle.shb_lines.specs.declared.event.Op.TheVariants.{Acquire, Join, Read}
pub use Rattle.shb_lines.specs.declared.event.Sizes.{Sizes}
pub use Rattle.shb_lines.specs.events.Discipline.{IsDisciplined, is_of, local_time}
pub use Rattle.shb_lines.specs.events.Events.{op_at, thread_at}
pub use Rattle.shb_lines.specs.events.Order.{IsBelowPredCount, IsNumberOf, IsPred, LastWrite, ShbBelow, ShbEdge, here, read_from, step}
pub use Rattle.shb_lines.specs.events.Sizes.{IsWithin}
pub use Rattle.shb_orders.specs.Rows.{AreEach, AreLearnedTimes, IsClockBefore, IsLearning, IsRowOf, LearnsAt, MarksFrom, acquires, first, joins, reads}
pub use Rattle.shb_stamps.proofs.Locals.{local_is, time_at, time_order, time_rises, time_within}
pub use Rattle.std.proofs.Math.ListN.{get_or-append, get_or-replicate, length-replicate, length-set, set}
pub use Rattle.std.proofs.lemmas.Bool.{cases_Bool, cases_eq, cases_lt, eq-eqb, eqb-true}
pub use Rattle.std.proofs.lemmas.Grind.{common_steps}
pub use Rattle.std.proofs.lemmas.List.{get_or_default, get_or_past, get_or_push, get_or_read, length_push, take_all}
