-- The words and lemmas of the crates below, and this crate's words, as its proofs say them.
pub use Rattle.shb_fan.proofs.Values.{length-values}
pub use Rattle.shb_fan.specs.Values.{values_of}
pub use Rattle.shb_format.specs.Places.{IsPairOf, IsPlaceOf, counts_in, places_of_pairs, section_bytes}
pub use Rattle.shb_format.specs.Report.{AreBlocks, HasSchedule, IsReportOn, ShownRace, block_bytes, blocks_from, counts_of, front_bytes, head_bytes, pair_of, tail_bytes}
pub use Rattle.shb_format.specs.declared.places.PlaceCount.{PlaceCount}
pub use Rattle.shb_io.proofs.Growth.{Appends-nil, Appends-trans, AppendsPrefix-after, AppendsPrefix-front, AppendsPrefix-whole, Writes-err, Writes-then}
pub use Rattle.shb_io.specs.Devices.{AppendsPrefix, CountsFailure, Writes}
pub use Rattle.shb_io.specs.declared.no_memory.NoMemory.{NoMemory}
pub use Rattle.shb_lines.specs.declared.event.Event.{Event}
pub use Rattle.shb_lines.specs.declared.event.Pair.{Pair}
pub use Rattle.shb_lines.specs.events.Race.{Race, ends}
pub use Rattle.shb_lines.specs.text.TraceData.{TraceData}
pub use Rattle.shb_lists.proofs.GivenLemmas.{given_front, pairs_race, race_of_trace, same_races}
pub use Rattle.shb_lists.specs.Given.{HasGiven, IsNext, parts_left}
pub use Rattle.shb_lists.specs.Listed.{pair_in}
pub use Rattle.shb_lists.specs.declared.listed.ListedRace.{ListedRace}
pub use Rattle.shb_witness.specs.Schedules.{AreRaces, Asked, schedule_at}
pub use Rattle.shb_write.specs.Blocks.{HasScheduled, HasShown, HasStopped, HasWritten, MaySchedule, WritesBlocks, WritesFront, alone, blocks_of, scheduled, scheduled_in, shown_from, shown_in, with_schedule}
pub use Rattle.shb_write.specs.Listed.{HasListed, IsRaceOf, MayList}
pub use Rattle.shb_write.specs.Texts.{HasText, piece_text, text_of}
pub use Rattle.shb_write.specs.Written.{AppendsFront, CutsBlocksOn, CutsReportOn, HasReported, These, WritesReport, write_failed}
pub use Rattle.shb_write.specs.declared.block_writer.BlockWriter.{BlockWriter}
pub use Rattle.shb_write.specs.declared.errors.WriteError.{WriteError}
pub use Rattle.shb_write.specs.declared.pieces.Piece.{Piece}
pub use Rattle.std.proofs.Math.Seq.{take-add, take-append-add, take-append_seam}
pub use Rattle.std.proofs.lemmas.List.{drop-map, get_or_append_left, length-append, length-drop, length-map, length-take-le, map-append, map-id, map_more, map_push, take-append-drop, take-map, take_all, take_more}
pub use Rattle.std.proofs.lemmas.List.Concat.{flat_map-append}
pub use Rattle.std.proofs.lemmas.List.Elements.{All-drop, All-map, All-nil, All-push, All-take}
pub use Rattle.std.specs.Io.KnownBytes.{Appends}
