-- The words and lemmas of the crates below, and this crate's words, as its proofs say them.
pub use Rattle.indexmap.specs.IndexMap.{insert_entry}
pub use Rattle.shb_discipline.proofs.Steps.{set_cases}
pub use Rattle.shb_format.proofs.Blocks.{pairs_back}
pub use Rattle.shb_format.proofs.KeyedLemmas.{keyed_counts, keyed_pair, number_stays, put_last}
pub use Rattle.shb_format.specs.Keyed.{AreKeyed, Key, Keyed, counted_of, counting, with_keyed, with_more, with_new}
pub use Rattle.shb_format.specs.Places.{IsPairOf, PlaceOf, counts_in, location_at, place_at, places_after, places_of_pairs, with_one_more, with_pair}
pub use Rattle.shb_format.specs.Report.{pair_of}
pub use Rattle.shb_format.specs.declared.places.PlaceCount.{PlaceCount}
pub use Rattle.shb_lines.proofs.events.Events.{and_parts, event_of_thread, thread_is}
pub use Rattle.shb_lines.proofs.events.Increasing.{contains_cases, contains_head, contains_none, contains_tail, increasing_equal, same_in_order}
pub use Rattle.shb_lines.proofs.events.RaceLists.{race_list_unique}
pub use Rattle.shb_lines.proofs.events.Reach.{any_below_is, event_at_access, numbers_listed, reflect_race}
pub use Rattle.shb_lines.specs.declared.event.Event.{Event}
pub use Rattle.shb_lines.specs.declared.event.Op.TheVariants.{Write}
pub use Rattle.shb_lines.specs.declared.event.Pair.{Pair}
pub use Rattle.shb_lines.specs.declared.event.Sizes.{Sizes}
pub use Rattle.shb_lines.specs.events.Discipline.{IsDisciplined, local_time}
pub use Rattle.shb_lines.specs.events.Events.{op_at, thread_at, variable_of}
pub use Rattle.shb_lines.specs.events.Order.{BelowPred, IsBelowPredCount}
pub use Rattle.shb_lines.specs.events.Race.{Conflict, IsRaceList, KeyBefore, Race, ends, variable_at}
pub use Rattle.shb_lines.specs.events.Reach.{is_race, numbers_where, writes_at}
pub use Rattle.shb_lines.specs.events.Sizes.{IsNumberedByAccess, IsWithin}
pub use Rattle.shb_lines.specs.text.TraceData.{TraceData}
pub use Rattle.shb_links.proofs.Owners.{variable_known, variable_sized}
pub use Rattle.shb_counts.specs.Numbered.{AreNumbered, IsNumbered, key_in, number_in}
pub use Rattle.shb_stamps.proofs.Accesses.{access_from_test, key_no, numbers_all, numbers_few, numbers_more_no, numbers_more_yes, test_from_access, variable_within}
pub use Rattle.shb_stamps.proofs.FlatMaps.{flat_map_contains, flat_map_ordered, flat_map_parts, map_contains, map_ordered, map_parts}
pub use Rattle.shb_stamps.proofs.Fronts.{zero_entry}
pub use Rattle.shb_stamps.proofs.Listing.{access_member, all_is_race_list, all_member, all_races, numbers_below, piece_rises, race_contained, race_parts, races_on_parts}
pub use Rattle.shb_stamps.proofs.Times.{count_seen, rival_races, times_rise}
pub use Rattle.shb_stamps.specs.Accesses.{PairBefore, accesses_at, accesses_in, races_with, variables_in}
pub use Rattle.shb_stamps.specs.Open.{accesses_open, is_open}
pub use Rattle.shb_stamps.specs.Settling.{AreOpen}
pub use Rattle.std.proofs.Math.ListN.{set}
pub use Rattle.std.proofs.lemmas.Bool.{cases_Bool, cases_eq, cases_lt, cases_order, eq-eqb, eqb-true, le-ltb, lt-ltb, ne_eqb}
pub use Rattle.std.proofs.lemmas.Bool.Decides.{Decides-and, Decides-eqb, Decides-like, eqb_tells}
pub use Rattle.std.proofs.lemmas.Grind.{common_steps, get_or_default_zero}
pub use Rattle.std.proofs.lemmas.List.{append-nil, append_assoc, drop_all, get_or-map, get_or-set_other, get_or-set_same, get_or_append_left, get_or_push, length-append, length-map, length-replicate, length-set, length-take-le, length_push, map-append, map_push, take_all, take_more}
pub use Rattle.std.proofs.lemmas.List.Concat.{flat_map-append}
pub use Rattle.std.proofs.lemmas.List.Elements.{All-append, All-contains_itself, All-drop, All-map, Contains-get_or, filter-append}
pub use Rattle.std.proofs.lemmas.List.Kept.{AllPairs-from_increasing}
pub use Rattle.std.proofs.lemmas.List.Sorted.{All-permutation, Contains-permutation, IsNonDecreasingBy-from_sort, IsPermutation-map, IsPermutation-sym, ranks_by, sorted_far, sum_by-IsPermutation}
pub use Rattle.std.proofs.lemmas.List.Sums.{count_by-le-length, length-filter, sum_by-append, sum_by-cons, sum_by-set, sum_by_more}
pub use Rattle.std.proofs.lemmas.Map.Keys.{IsDistinct-IsPermutation, IsDistinct-from_apart, apart_from_distinct}
pub use Rattle.std.proofs.lemmas.Option.{IfSome_then, get_or_from_slice_get, slice_get-get_or, slice_get-map, slice_get_cases, slice_get_past, slice_get_read, slice_get_within}
pub use Rattle.std.proofs.lemmas.Result.{IfOk-weaker, on_ok_weaker}
pub use Rattle.std.specs.Bool.{Decides}
pub use Rattle.std.specs.List.{AllByRecursion, IsDistinct}
pub use Rattle.std.specs.List.Sorted.{IsNonDecreasing, IsPermutation, IsSorted}
pub use Rattle.std.specs.Map.{keys_of, lookup}
pub use Rattle.std.specs.Option.{option_map, option_map_or}
pub use Rattle.std.specs.Ordering.{is_lt, nat_cmp, ordering_then}
pub use Rattle.std.specs.Str.{bytes_eq}
