-- The words and lemmas of the crates below, and this crate's words, as its proofs say them.
pub use Rattle.shb_io.specs.declared.no_memory.NoMemory.{NoMemory}
pub use Rattle.shb_lines.proofs.events.Events.{event_of_thread, is_of_true, thread_is}
pub use Rattle.shb_lines.proofs.events.Increasing.{contains_cases, contains_head, contains_none, contains_tail, increasing_equal}
pub use Rattle.shb_lines.proofs.events.Items.{thread_item, thread_within}
pub use Rattle.shb_lines.proofs.events.Listed.{IsListed, listed_more_no, listed_more_yes, listed_none}
pub use Rattle.shb_lines.proofs.events.Prefix.{below_from_local, is_of_thread, local_from_below}
pub use Rattle.shb_lines.proofs.events.Reach.{event_at_access, numbers_listed, reflect_below_pred, reflect_or}
pub use Rattle.shb_lines.proofs.events.Schedulable.{below_pred_in_range, printed_is_schedule}
pub use Rattle.shb_lines.proofs.events.Search.{of_thread_at, of_thread_false, of_thread_true}
pub use Rattle.shb_lines.specs.declared.event.Event.{Event}
pub use Rattle.shb_lines.specs.declared.event.Pair.{Pair}
pub use Rattle.shb_lines.specs.declared.event.Sizes.{Sizes}
pub use Rattle.shb_lines.specs.events.Discipline.{IsDisciplined, is_of, local_time}
pub use Rattle.shb_lines.specs.events.Events.{thread_at}
pub use Rattle.shb_lines.specs.events.Race.{Race}
pub use Rattle.shb_lines.specs.events.Reach.{is_below_pred, of_thread}
pub use Rattle.shb_lines.specs.events.Schedule.{IsPrintedSchedule, IsSchedule}
pub use Rattle.shb_lines.specs.events.Sizes.{IsWithin}
pub use Rattle.shb_lines.specs.text.Limits.{most_events}
pub use Rattle.shb_stamps.specs.Counts.{AreRaisedCounts}
pub use Rattle.shb_witness.specs.Cuts.{AreOfThreads, AreWithinCuts, BelowEither, EndsBefore, HasCuts, IsCut, IsRest, IsWithinCuts, Reach}
pub use Rattle.shb_witness.specs.Schedules.{AreRaces, Asked, AsksEach, ends_of, schedule_at}
pub use Rattle.shb_witness.specs.ThreadEvents.{AreGrouped, AreStarts, IsWithinCut, events_before, events_of}
pub use Rattle.std.proofs.Math.ListN.{get_or-append, get_or-replicate, length-replicate}
pub use Rattle.std.proofs.lemmas.Bool.{cases_Bool, cases_lt, cases_order}
pub use Rattle.std.proofs.lemmas.List.{append-nil, append_assoc, flat_map_more, get_or-append_right, get_or-drop, get_or-set_other, get_or-set_same, get_or-take, get_or_push, get_or_read, length-append, length-drop, length-set, length-take-le, length_push, take_all, take_more}
pub use Rattle.std.proofs.lemmas.List.Elements.{All-contains, Contains-append_cases, Contains-append_left, Contains-append_right, Contains-get_or}
pub use Rattle.std.proofs.lemmas.List.FromFn.{length-range_with_len}
pub use Rattle.std.proofs.lemmas.List.Sorted.{Contains-permutation, IsPermutation-sym, searched}
pub use Rattle.std.proofs.lemmas.Option.{get_or_from_slice_get, slice_get_within}
pub use Rattle.std.specs.List.{range_with_len}
pub use Rattle.std.specs.List.Sorted.{IsStrictlyIncreasing}
