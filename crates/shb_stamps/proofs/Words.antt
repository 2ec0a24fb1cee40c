-- The words and lemmas of the crates below, and this crate's words, as its proofs say them.
pub use Rattle.shb_lines.proofs.events.Counts.{count_gap, count_mono, count_more_no, count_more_yes, counted_before}
pub use Rattle.shb_lines.proofs.events.Events.{event_of_op, event_of_thread, fork_allowed, fork_earlier, is_acquire_parts, is_fork_true, is_of_true, join_later, op_is, thread_is}
pub use Rattle.shb_lines.proofs.events.Items.{op_known}
pub use Rattle.shb_lines.proofs.events.Listed.{number_more_no, number_more_yes, number_none, number_same}
pub use Rattle.shb_lines.proofs.events.Longer.{below_longer, op_longer, race_longer, thread_longer, time_longer}
pub use Rattle.shb_lines.proofs.events.Prefix.{below_from_local, is_of_thread, local_from_below}
pub use Rattle.shb_lines.proofs.events.Reach.{event_at_access, numbers_listed, reflect_race}
pub use Rattle.shb_lines.proofs.events.Schedulable.{below_pred_earlier, fork_below_pred, path_forward, pred_earlier, thread_below_pred}
pub use Rattle.shb_lines.proofs.events.Search.{IsLatest, latest_below, of_thread_at, of_thread_true}
pub use Rattle.shb_lines.specs.Growing.{IsPut}
pub use Rattle.shb_lines.specs.declared.event.Event.{Event}
pub use Rattle.shb_lines.specs.declared.event.Op.{Op}
pub use Rattle.shb_lines.specs.declared.event.Op.TheVariants.{Acquire, Fork, Join, Read, Release, Write}
pub use Rattle.shb_lines.specs.events.Discipline.{IsDisciplined, MayDo, acquires, is_acquire, is_fork, is_of, is_release, local_time, only, releases}
pub use Rattle.shb_lines.specs.events.Events.{op_at, thread_at, variable_of}
pub use Rattle.shb_lines.specs.events.Order.{BelowPred, HbRule, IsBelowPredCount, IsNumberOf, IsPred, LastWrite, ShbBelow, ShbEdge, by_fork, forked, happens_before, here, in_thread, joined, lock_passed, read_from, same_thread, step}
pub use Rattle.shb_lines.specs.events.Race.{Conflict, FirstAccess, IsRaceList, Race, RaceBefore, variable_at}
pub use Rattle.shb_lines.specs.events.Reach.{is_race, numbers_where, of_thread}
pub use Rattle.shb_lines.specs.events.Sizes.{IsNumberedByAccess}
pub use Rattle.shb_links.proofs.Owners.{apart, variable_known, variable_sized}
pub use Rattle.shb_links.specs.Latest.{IsLatestBefore, OfThread, ReleasesLock}
pub use Rattle.shb_links.specs.Sharing.{IsShared}
pub use Rattle.shb_stamps.specs.Chunks.{AreChunks, AreInside, AreNumbers, IsInside, IsLonger, numbers_in, row_by, row_in, rows_in}
pub use Rattle.shb_stamps.specs.Clocks.{AreClocks, Covers, HasRowAfter, IsBefore, IsNext, KeepsWrite, SweepData}
pub use Rattle.shb_stamps.specs.Counts.{AreRaisedCounts, IsRaisedCount}
pub use Rattle.shb_stamps.specs.Fronts.{BelowLastWrite, BelowRelease, BelowThread, IsFrontBut, Learns, by_acquire, by_join, by_read}
pub use Rattle.shb_stamps.specs.Listed.{AreListedRows}
pub use Rattle.shb_stamps.specs.Moved.{AreAlike, AreMarked, HasCompacted, HasMarked, HasMoved, HasTaken, IsMovedRow, IsMovedStamp, IsNewNumber, MovesRow}
pub use Rattle.shb_stamps.specs.Stamps.{AreMore, IsKnown, IsLatestStamp, IsRowFor, IsSource, IsStampOf, KnowsStamp, empty_stamp, from_event, nothing_new, of_event, of_none}
pub use Rattle.shb_stamps.specs.Screen.{HasLatest, IsAccess, IsEpoch, IsMarked, IsPast, IsScreened, is_unknown}
pub use Rattle.shb_stamps.specs.Settling.{AreOpen, AreScreened}
pub use Rattle.shb_stamps.specs.declared.screen.Latest.{Latest}
pub use Rattle.shb_stamps.specs.declared.stamp.Stamp.{Stamp}
pub use Rattle.std.proofs.Math.ListN.{get_or-replicate, length-replicate, length-set, set}
pub use Rattle.std.proofs.lemmas.Bool.{cases_Bool, cases_eq, cases_lt, cases_order, eq-eqb, eqb-true, ne_eqb}
pub use Rattle.std.proofs.lemmas.Grind.{common_steps}
pub use Rattle.std.proofs.lemmas.List.{append-nil, drop-append-le, drop-drop, drop-take, drop_at, get_or-append_right, get_or-drop, get_or-map, get_or-take, get_or_append_left, get_or_past, get_or_push, get_or_read, length-append, length_push, map-append, take-append-drop, take-append-le, take-take, take_all, take_at, take_min}
pub use Rattle.std.proofs.lemmas.List.Elements.{All-append, All-contains, Contains-append_cases, Contains-append_left, Contains-append_right, Contains-get_or, at_from_Contains}
pub use Rattle.std.proofs.lemmas.List.Kept.{AllPairs-cons, AllPairs-from_increasing, Contains-dedup_nat, Contains-from_dedup}
pub use Rattle.std.proofs.lemmas.List.Sorted.{Contains-permutation, IsPermutation-sym, searched}
pub use Rattle.std.proofs.lemmas.List.Sums.{count_by-le-length, get_or-le-sum_by, sum_by-set, sum_by_push}
pub use Rattle.std.proofs.lemmas.Option.{slice_get-get_or, slice_get_cases, slice_get_within}
