-- The words and lemmas of the crates below, and this crate's words, as its proofs say them.
pub use Rattle.shb_discipline.proofs.Steps.{set_cases}
pub use Rattle.shb_lines.proofs.events.Events.{op_is, thread_is}
pub use Rattle.shb_lines.proofs.events.Increasing.{contains_cases, contains_head, contains_none, contains_tail, increasing_equal, same_in_order}
pub use Rattle.shb_lines.proofs.events.Listed.{Decided}
pub use Rattle.shb_lines.proofs.events.Reach.{event_at_access, reflect_race}
pub use Rattle.shb_lines.proofs.events.Schedulable.{below_pred_closed, thread_below_pred}
pub use Rattle.shb_lines.specs.declared.event.Event.{Event}
pub use Rattle.shb_lines.specs.declared.event.Op.{Op}
pub use Rattle.shb_lines.specs.declared.event.Op.TheVariants.{Read, Write}
pub use Rattle.shb_lines.specs.events.Discipline.{IsDisciplined, is_of, local_time}
pub use Rattle.shb_lines.specs.events.Events.{op_at, thread_at, variable_of}
pub use Rattle.shb_lines.specs.events.Order.{BelowPred, IsBelowPredCount, IsNumberOf, ShbBelow, happens_before, here, same_thread, step}
pub use Rattle.shb_lines.specs.events.Race.{Conflict, Race, variable_at}
pub use Rattle.shb_lines.specs.events.Reach.{is_race}
pub use Rattle.shb_nearest.specs.Classes.{AreClasses, HasLastOf, IsLastOf, IsNewestOf, IsOfClass, is_newest_in, newest_in, same_class}
pub use Rattle.shb_nearest.specs.Found.{IsFoundAccess, access_op, ends_of, location_in, site_in}
pub use Rattle.shb_nearest.specs.Groups.{AreGroups, HasGroupAt, HasKept, HasLast, IsAt, IsEarlier, IsGroup, IsKept, IsOfGroup, IsRun, IsSince, KeepsAccess, access_of, class_of, is_newest_kept}
pub use Rattle.shb_nearest.specs.Late.{AreAccesses, AreLate, AreWaiting, HasPut, HasWritten, HaveGroups, IsBefore, IsChain, IsEntryAt, IsInstead, IsInsteadOne, IsLate, IsLateIn, StayGroups, StayWaiting, access_in}
pub use Rattle.shb_nearest.specs.Nearest.{AreNearest, IsNearest, ListedBefore}
pub use Rattle.shb_nearest.specs.Places.{ArePlaces, IsAtPlace, IsKnown, IsNearestAt, PlaceEntry, is_nearer, offered, offered_all, place_of, race_at, race_with, same_place, variable_part}
pub use Rattle.shb_nearest.specs.Rivals.{AreMet, AreRivals, CanRace, HasAdded, HasMet, HasMetGroup, IsCovered, IsNextAccess, IsOver, NeedLook}
pub use Rattle.shb_nearest.specs.Searched.{AreMoreVariables, AreNearestRaces, AreTables, AreVariables, IsNextEvent, IsVariable}
pub use Rattle.shb_nearest.specs.Sites.{AreAllNoted, AreFew, AreMarked, AreNoted, ArePaired, HasNoted, HasSets, HasSetsOf, HasSite, HaveAllSites, HaveSites, IsAfter, IsDone, IsIn, IsNoted, IsPair, IsSettled, IsSite, of_group, of_kind, place_at}
pub use Rattle.shb_nearest.specs.declared.access.FoundAccess.{FoundAccess}
pub use Rattle.shb_nearest.specs.declared.access.FoundRace.{FoundRace}
pub use Rattle.shb_nearest.specs.declared.access.Spot.{Spot}
pub use Rattle.shb_nearest.specs.declared.classes.Class.{Class}
pub use Rattle.shb_nearest.specs.declared.groups.Group.{Group}
pub use Rattle.shb_nearest.specs.declared.groups.Groups.{Groups}
pub use Rattle.shb_nearest.specs.declared.groups.KeptAccess.{KeptAccess}
pub use Rattle.shb_nearest.specs.declared.groups.Run.{Run}
pub use Rattle.shb_nearest.specs.declared.late.Late.{Late}
pub use Rattle.shb_nearest.specs.declared.log.Accesses.{Accesses}
pub use Rattle.shb_nearest.specs.declared.log.Accesses.TheVariants.{Grouped, Waiting}
pub use Rattle.shb_nearest.specs.declared.log.Entry.{Entry}
pub use Rattle.shb_nearest.specs.declared.log.Log.{Log}
pub use Rattle.shb_nearest.specs.declared.places.Place.{Place}
pub use Rattle.shb_nearest.specs.declared.sites.Site.{Site}
pub use Rattle.shb_nearest.specs.declared.sites.Sites.{Sites}
pub use Rattle.shb_nearest.specs.declared.tables.Tables.{Tables}
pub use Rattle.shb_nearest.specs.declared.tables.Variable.{Variable}
pub use Rattle.shb_numbers.specs.Numbers.{Numbers}
pub use Rattle.shb_stamps.proofs.Screening.{screened_later, screened_longer, screened_never}
pub use Rattle.shb_stamps.proofs.Sources.{path_append, strictly_below_below}
pub use Rattle.shb_stamps.specs.Screen.{IsAccess, IsAfterAll, IsScreened}
pub use Rattle.shb_stamps.specs.declared.stream_clocks.StreamClocks.{StreamClocks}
pub use Rattle.std.proofs.Math.ListN.{get_or, length-set, set}
pub use Rattle.std.proofs.Math.Seq.{take-suc}
pub use Rattle.std.proofs.lemmas.Bool.{cases_Bool, cases_eq, cases_lt, eq-eqb, eqb-true, ltb-false, ltb-true}
pub use Rattle.std.proofs.lemmas.Bool.Decides.{Decides-and, Decides-eqb}
pub use Rattle.std.proofs.lemmas.List.{append-nil, append_assoc, drop_all, drop_more, get_or-drop, get_or-map, get_or-take, get_or_append_left, get_or_default, get_or_push, length-append, length-drop, length-map, length-take, length_push, map-append, reverse-append, reverse-reverse, set-get_or, take_all}
pub use Rattle.std.proofs.lemmas.List.Edits.{get_or-remove_above, get_or-remove_below, length-remove, remove-append_left}
pub use Rattle.std.proofs.lemmas.List.Elements.{All-contains, All-nil, All-push, All-set, All-weaker, Contains-append_cases, Contains-append_left, Contains-append_right, Contains-get_or, Contains-push, Contains-push_cases}
pub use Rattle.std.proofs.lemmas.List.Quantifiers.{all_pairs_push, all_pairs_remove}
pub use Rattle.std.proofs.lemmas.List.Sorted.{Contains-permutation, IsPermutation-sym, answers_always, ranks_by, sorted_far}
pub use Rattle.std.proofs.lemmas.Option.{get_or_from_slice_get, slice_get-get_or, slice_get_read, slice_get_within}
pub use Rattle.std.specs.Cmp.{IsEquivalence, IsTotalOrder, decided, nat_cmp_total, unsigned_tied}
pub use Rattle.std.specs.Global.{Global}
pub use Rattle.std.specs.List.{IsDistinct, remove}
pub use Rattle.std.specs.Ordering.{is_lt, nat_cmp, ordering_then}
