-- The words and lemmas of the crates below, and this crate's words, as its proofs say them.
pub use Rattle.shb_discipline.specs.Faults.{HasNoFault, IsFirstFault}
pub use Rattle.shb_discipline.specs.State.{IsStateAfter}
pub use Rattle.shb_format.specs.Keyed.{AreKeyed, Key, Keyed, counted_of, same_key, with_keyed}
pub use Rattle.shb_format.specs.Places.{PlaceOf, location_at, places_after, section_bytes, with_one_more, with_pair}
pub use Rattle.shb_format.specs.Report.{AreBlocks, HasSchedule, IsReportOn, ShownRace, block_bytes, blocks_from, counts_of, head_bytes, line_of_event, pair_of, tail_bytes}
pub use Rattle.shb_format.specs.declared.counts.Counts.{Counts}
pub use Rattle.shb_io.proofs.Growth.{Appends-nil, Appends-trans, AppendsPrefix-after, AppendsPrefix-front, Writes-err, Writes-then}
pub use Rattle.shb_io.specs.Devices.{AppendsPrefix, CountsFailure, Writes}
pub use Rattle.shb_lines.proofs.text.NamedLines.{location_from_after, made_of_its_names}
pub use Rattle.shb_lines.proofs.text.Numbers.{IsDistinct-with_name, one_number}
pub use Rattle.shb_lines.specs.declared.event.Event.{Event}
pub use Rattle.shb_lines.specs.declared.event.Pair.{Pair}
pub use Rattle.shb_lines.specs.declared.fault.Fault.{Fault}
pub use Rattle.shb_lines.specs.declared.numbering.Numbering.{Numbering}
pub use Rattle.shb_lines.specs.declared.numbering.Step.{Step}
pub use Rattle.shb_lines.specs.declared.owned_names.OwnedNames.{OwnedNames}
pub use Rattle.shb_lines.specs.events.Discipline.{IsDisciplined, MayCome}
pub use Rattle.shb_lines.specs.events.Events.{op_at, thread_at, variable_of}
pub use Rattle.shb_lines.specs.events.Race.{Race, ends, variable_at}
pub use Rattle.shb_lines.specs.text.Lines.{Moves}
pub use Rattle.shb_lines.specs.text.Text.{LocatedEvent, lines_of, trace_of, with_name}
pub use Rattle.shb_lines.specs.text.Numbering.{IsWithin, event_of, tables_of, with_step}
pub use Rattle.shb_lines.specs.text.Numbers.{IsEventOf, IsNumber, IsOperation, Tables, events_of}
pub use Rattle.shb_lines.specs.text.Taken.{AreLinesOf, HasTaken, IsTakenNext, IsWithinAfter, fed, rest_of}
pub use Rattle.shb_lines.specs.text.TraceData.{IsTraceOf, TraceData, call_line, location_after, location_of, tables_in}
pub use Rattle.shb_nearest.specs.Found.{IsFoundAccess, IsFoundRace, access_op, ends_of, location_in, site_in}
pub use Rattle.shb_nearest.specs.Searched.{AreNearestRaces, HasRoom, HasSearched}
pub use Rattle.shb_nearest.specs.declared.access.FoundAccess.{FoundAccess}
pub use Rattle.shb_nearest.specs.declared.access.FoundRace.{FoundRace}
pub use Rattle.shb_nearest.specs.declared.access.Spot.{Spot}
pub use Rattle.shb_nearest.specs.declared.search.NearestRaces.{NearestRaces}
pub use Rattle.shb_scan.specs.FoundNames.{AreLocated, AreSpots, HasNames, HasRaceNames, IsLocated, IsMadeOf, IsRaceLocated, IsRaceMadeOf, IsSpotOf, alone, blocks_of, listing_bytes}
pub use Rattle.shb_scan.specs.Outcomes.{AreAtOnePlace, HasScan, IsScan, IsScanOutcome, most_scan_events, scan_bounds, scan_limits, site_at}
pub use Rattle.shb_scan.specs.Scans.{HasEnded, HasNoted, HasReadScan, HasScanned, HasSpot, HasTakenTo, IsFoundIn, IsNext, IsSpotIn, IsStepped, counts_in, places_in}
pub use Rattle.shb_scan.specs.declared.errors.ScanError.{ScanError}
pub use Rattle.shb_scan.specs.declared.writing.FoundScan.{FoundScan}
pub use Rattle.shb_scan.specs.declared.reading.Scan.{Scan}
pub use Rattle.shb_scan.specs.declared.writing.ScanNames.{ScanNames}
pub use Rattle.std.proofs.Math.Seq.{get_or-append_seam, take-append_seam, take-suc}
pub use Rattle.std.proofs.lemmas.Bool.{cases_Bool, cases_eq}
pub use Rattle.std.proofs.lemmas.List.{get_or_append_left, length-map, length-take-le, map-append, take-append-le, take-take, take_all, take_more}
pub use Rattle.std.proofs.lemmas.Option.{get_or_from_slice_get, slice_get-get_or, slice_get_within, unwrap_or-slice_get}
pub use Rattle.std.specs.Io.KnownBytes.{Appends, IsAtEnd}
pub use Rattle.std.specs.List.{AllByRecursion, AllZip, IsDistinct, after_first, list_any}
pub use Rattle.std.specs.Option.{option_copied, option_map_or}
pub use Rattle.std.specs.Str.{bytes_eq}
pub use Rattle.std.specs.Str.Lines.{strip_carriage_return}
