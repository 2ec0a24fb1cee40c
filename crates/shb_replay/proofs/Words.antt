-- The words and lemmas of the crates below, and this crate's words, as its proofs say them.
pub use Rattle.shb_discipline.proofs.Steps.{set_cases}
pub use Rattle.shb_lines.proofs.events.Counts.{count_gap, count_mono, count_more_no, count_more_yes, counted_before}
pub use Rattle.shb_lines.proofs.events.Decide.{find_last_write, fork_unique, last_write_unique, pred_unique}
pub use Rattle.shb_lines.proofs.events.Events.{event_of_op, event_of_thread, fork_allowed, fork_op, is_acquire_parts, is_join_true, is_release_parts, join_op, op_is, thread_is}
pub use Rattle.shb_lines.proofs.events.Indices.{contains_at, index_of}
pub use Rattle.shb_lines.proofs.events.Items.{op_known, op_other_at, op_within_at, thread_within}
pub use Rattle.shb_lines.proofs.events.Listed.{Decided, some_below}
pub use Rattle.shb_lines.proofs.events.Reordered.{event_at_index, length_events}
pub use Rattle.shb_lines.proofs.events.Search.{IsLatest, latest_below, of_thread_at, of_thread_false, of_thread_true, writes_at_is, writes_at_true}
pub use Rattle.shb_lines.specs.Lowest.{IsLowest}
pub use Rattle.shb_lines.specs.declared.event.Event.{Event}
pub use Rattle.shb_lines.specs.declared.event.Op.{Op}
pub use Rattle.shb_lines.specs.declared.event.Op.TheVariants.{Acquire, Fork, Join, Read, Release, Write}
pub use Rattle.shb_lines.specs.declared.event.Sizes.{Sizes}
pub use Rattle.shb_lines.specs.events.Discipline.{IsDisciplined, MayCome, MayDo, MayFork, acquires, is_acquire, is_join, is_of, is_release, only, op_is_acquire, op_is_release, other_than, releases}
pub use Rattle.shb_lines.specs.events.Events.{events_at, op_at, thread_at}
pub use Rattle.shb_lines.specs.events.Order.{BelowPred, HbBelow, HbEdge, HbRule, IsPred, LastWrite, by_fork, forked, here, in_thread, joined, lock_passed, same_thread, step}
pub use Rattle.shb_lines.specs.events.Reach.{of_thread, writes_at}
pub use Rattle.shb_lines.specs.events.Schedule.{IsCorrectReordering, IsNext, IsSchedule, KeepsHb, LastWriteIn, StandsBefore}
pub use Rattle.shb_links.proofs.Balance.{HasHolder, IsPassing, acquires_yes, balanced, disciplined_below, holder_after, others_balanced, releases_no, some_counted}
pub use Rattle.shb_links.proofs.Steps.{pred_by_fork, thread_entry, write_link}
pub use Rattle.shb_links.specs.Latest.{ForksThread, IsLatestTable, Latest, OfThread, ReleasesLock, WritesVariable}
pub use Rattle.shb_links.specs.Links.{Exactly}
pub use Rattle.shb_replay.specs.Reasons.{ForksAfterJoin, HasReason, IsBeforeInThread, IsBroken, IsFirstReason, IsForkOfFirst, IsLatestWrite, IsNotNext, IsUnbroken, StandsEarlier, number_of}
pub use Rattle.shb_replay.specs.Walks.{AreFlags, AreFlagsOnly, AreLatestWrites, AreWritesOnly, HasOrigins, HasPreds, IsAnswer, IsBetween, IsLeft, IsLowestIn, IsOrigin, IsWalked, JoinStands, Tells, TellsLack}
pub use Rattle.shb_replay.specs.declared.broken.Why.{Why}
pub use Rattle.shb_replay.specs.declared.walked.Walked.{Walked}
pub use Rattle.std.proofs.Math.ListN.{get_or-append, length-set, set}
pub use Rattle.std.proofs.lemmas.Bool.{cases_Bool, cases_eq, cases_lt, cases_order, eq-eqb, eqb-true, ne_eqb}
pub use Rattle.std.proofs.lemmas.Grind.{common_steps}
pub use Rattle.std.proofs.lemmas.List.{get_or_push, get_or_read, length_push}
pub use Rattle.std.proofs.lemmas.Option.{get_or_from_slice_get, slice_get-get_or, slice_get_cases, slice_get_read, slice_get_within}
pub use Rattle.std.specs.Bool.{then_some}
pub use Rattle.std.specs.Vec.{with_item}
