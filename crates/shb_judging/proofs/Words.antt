-- The words and lemmas of the crates below, and this crate's words, as its proofs say them.
pub use Rattle.shb_format.proofs.EachLemmas.{each_at, each_of}
pub use Rattle.shb_format.specs.Places.{IsPairOf, PlaceOf, counts_in, location_at, places_of_pairs, shown_place, shown_places, with_one_more, with_pair}
pub use Rattle.shb_format.specs.Report.{AllRaces, HasSchedule, IsReportOn, ShownRace, counts_of, line_of_event, pair_of}
pub use Rattle.shb_format.specs.Value.{Block, IsBlock, IsPlace, IsReportValue, IsRest, IsShown, Place, ReportValue, report_text}
pub use Rattle.shb_format.specs.declared.places.PlaceCount.{PlaceCount}
pub use Rattle.shb_judging.specs.Judging.{AreFound, AreJudged, IsJudgedText, IsVerdictOnJudged, JudgesBlocks, first_positions}
pub use Rattle.shb_judging.specs.Verdicts.{HasGoodPair, HasPlacesOf, HasRaceFault, IsFirstBadBlock, IsGoodBlock, IsGoodReport, IsJudged, IsLowestFault, IsNoEvent, IsVerdict, IsVerdictFor, fault_number, pair_in, position_of, positions_of, verdict_bytes}
pub use Rattle.shb_judging.specs.declared.judged.JudgedBlocks.{JudgedBlocks}
pub use Rattle.shb_judging.specs.declared.verdict.RaceFault.{RaceFault}
pub use Rattle.shb_judging.specs.declared.verdict.RaceFault.TheVariants.{Absent, FirstLine, NoConflict, Schedule, SecondLine}
pub use Rattle.shb_judging.specs.declared.verdict.Verdict.{Verdict}
pub use Rattle.shb_judging.specs.declared.verdict.Verdict.TheVariants.{BadCounts, BadLine, BadPlaces, BadRace, Good}
pub use Rattle.shb_lines.specs.declared.event.Event.{Event}
pub use Rattle.shb_lines.specs.declared.event.Pair.{Pair}
pub use Rattle.shb_lines.specs.events.Discipline.{IsDisciplined}
pub use Rattle.shb_lines.specs.events.Race.{Conflict, Race}
pub use Rattle.shb_lines.specs.events.Schedule.{IsPrintedSchedule, IsSchedule}
pub use Rattle.shb_lines.specs.text.Limits.{most_bytes}
pub use Rattle.shb_lines.specs.text.TraceData.{TraceData, location_of}
pub use Rattle.shb_reading.proofs.Bad.{bad_end, bad_long, bad_of_source, bad_short}
pub use Rattle.shb_reading.proofs.EntryLemmas.{bad_weaker, blocks_left, stop_weaker, taken_more}
pub use Rattle.shb_reading.specs.Forms.{Form, IsBadFrom, block_forms}
pub use Rattle.shb_reading.specs.Lines.{IsAt, Passes, bytes_from}
pub use Rattle.shb_reading.specs.Parts.{IsPlaceIn, block_in, block_with, place_in_text, places_at, section_at}
pub use Rattle.shb_reading.specs.declared.parts.PlaceEntry.{PlaceEntry}
pub use Rattle.shb_replay.specs.Reasons.{HasReason, IsBroken, IsFirstReason, IsLatestWrite, IsUnbroken, StandsEarlier}
pub use Rattle.shb_replay.specs.declared.broken.Why.{Why}
pub use Rattle.std.proofs.lemmas.Bool.{cases_lt, eqb-true, ne_eqb}
pub use Rattle.std.proofs.lemmas.List.{length-map, length-take, length-take-le, map_push, take-append-le, take-map, take_all, take_min, take_more}
pub use Rattle.std.proofs.lemmas.Option.{get_or_from_slice_get, slice_get-get_or, slice_get-map, slice_get_within}
pub use Rattle.std.specs.Io.KnownBytes.{Appends, Consumes, IsAtEnd}
pub use Rattle.std.specs.List.{AllByRecursion}
