-- The words and lemmas of the crates below, and this crate's words, as its proofs say them.
pub use Rattle.indexmap.specs.IndexSet.{insert_key}
pub use Rattle.shb_format.specs.AccessText.{HasLineOf, access_kind, access_line}
pub use Rattle.shb_format.specs.Keyed.{AreKeyed, IsKeyed, Key, Keyed, counted_of, same_key, with_keyed, with_new}
pub use Rattle.shb_format.specs.Places.{IsPairOf, IsPlaceOf, PlaceOf, counts_in, location_at, place_bytes, places_after, places_bytes, places_of_pairs, section_bytes, shown_place, shown_places, with_one_more, with_pair}
pub use Rattle.shb_format.specs.Report.{AllRaces, AreBlocks, HasSchedule, IsReportOn, ShownRace, block_bytes, blocks_from, front_bytes, line_of_event, pair_of, schedule_lines, tail_bytes}
pub use Rattle.shb_format.specs.Value.{Block, Place, block_lines, lines_text, listed, place_line, place_lines, places_section, race_numbers_line, report_text}
pub use Rattle.shb_format.specs.Writing.{HasNumbers, Puts, block_of, event_lines, event_number, event_numbers, first_numbers, labelled_line, place_text, schedule_start, written_report}
pub use Rattle.shb_format.specs.declared.places.PlaceCount.{PlaceCount}
pub use Rattle.shb_io.proofs.Growth.{Appends-trans, AppendsPrefix-after, AppendsPrefix-front, HoldsBack-end, HoldsBack-push, HoldsBack-trans, Writes-both, Writes-err}
pub use Rattle.shb_io.specs.Devices.{AppendsPrefix, HoldsBack, Writes}
pub use Rattle.shb_lines.specs.declared.event.Pair.{Pair}
pub use Rattle.shb_lines.specs.declared.hashing.TextKey.{TextKey}
pub use Rattle.shb_lines.specs.events.Race.{IsRaceList, ends}
pub use Rattle.shb_lines.specs.events.Schedule.{IsPrintedSchedule}
pub use Rattle.shb_lines.specs.text.TraceData.{TraceData, barred, location_of}
pub use Rattle.shb_positions.specs.Runs.{positions_in, run_positions}
pub use Rattle.shb_positions.specs.declared.positions.Run.{Run}
pub use Rattle.std.proofs.lemmas.Fmt.{decimal_digit, decimal_step, length-decimal-le}
pub use Rattle.std.proofs.lemmas.Grind.{common_steps}
pub use Rattle.std.proofs.lemmas.List.{get_or_push, get_or_read, length-map, length_push, map-append, take_all, take_more}
pub use Rattle.std.proofs.lemmas.List.Concat.{flat_map-append}
pub use Rattle.std.proofs.lemmas.List.Elements.{All-cons, All-head, All-nil, All-tail}
pub use Rattle.std.proofs.lemmas.Option.{get_or_from_slice_get, slice_get-map, slice_get_within}
pub use Rattle.std.proofs.lemmas.Slice.Eq.{bytes_eq-Decides}
pub use Rattle.std.specs.Fmt.{decimal}
pub use Rattle.std.specs.List.{AllByRecursion, IsDistinct, list_any, range_with_len, slice_range}
pub use Rattle.std.specs.Option.{option_copied, option_map, unwrap_or}
pub use Rattle.std.specs.Str.{bytes_eq}
