-- The words and lemmas of the crates below, and this crate's words, as its proofs say them.
pub use Rattle.shb_format.proofs.EachLemmas.{each-push, each-take, each-weaker}
pub use Rattle.shb_format.proofs.LineLemmas.{block_lines-append, joined, place_lines-append}
pub use Rattle.shb_format.specs.Value.{ArePlaces, AreShown, Block, HasNoLineFeed, IsBlock, IsPlace, IsReportValue, IsRest, IsShown, Place, ReportValue, block_lines, counts_line, lines_text, listed, numbers_line, place_line, place_lines, places_line, places_section, race_numbers_line, races_line, report_lines, report_text, version_line}
pub use Rattle.shb_format.specs.declared.counts.Counts.{Counts}
pub use Rattle.shb_reading.specs.Forms.{And, At, CountsForm, End, First, Form, HasForm, IsBadFrom, Label, Named, PlaceForm, Places, Race, Races, Schedule, Second, Takes, TakesForm, Version, block_forms, label_bytes, least_after, place_forms, places_form}
pub use Rattle.shb_reading.specs.Lines.{AddsShown, BeginsWithLine, IfBad, IfStop, IsAt, IsBadAt, IsLabelled, Lacks, Passes, Stops, TakesLine, bytes_from}
pub use Rattle.shb_reading.specs.Parts.{IsPlaceIn, IsRaceIn, IsScanned, IsSpanIn, IsTextOf, KeepsFirst, ReadsBlock, ReadsBlocks, ReadsPlace, ReadsPlaces, ReadsSection, TakesBlocks, block_at, block_from, blocks_at, bytes_at, place_in_text, places_at, section_at}
pub use Rattle.shb_reading.specs.Reading.{BeginsReport, IsBadLine}
pub use Rattle.shb_reading.specs.declared.parts.PlaceEntry.{PlaceEntry}
pub use Rattle.shb_reading.specs.declared.parts.Span.{Span}
pub use Rattle.shb_reading.specs.declared.position.Position.{Position}
pub use Rattle.std.proofs.Math.Seq.{drop-append_seam, drop-cons, take-append-add, take-append_seam}
pub use Rattle.std.proofs.lemmas.Bool.Decides.{Decides-eqb, nat_tests}
pub use Rattle.std.proofs.lemmas.Fmt.{decimal-digits_value, decimal_digit, decimal_injective, decimal_is_IsNumeral, first_decimal}
pub use Rattle.std.proofs.lemmas.List.{append_cancel_left, drop-append-le, drop-drop, length-map, map-append, map-id, take-append-le, take_all, take_more}
pub use Rattle.std.proofs.lemmas.List.Folds.{list_all-append, list_all_at}
pub use Rattle.std.specs.Char.{digit_value, is_ascii_digit}
pub use Rattle.std.specs.Fmt.{decimal, digit_glyph, digits_onto}
pub use Rattle.std.specs.List.{AllByRecursion, list_all}
pub use Rattle.std.specs.Option.{is_some}
pub use Rattle.std.specs.Str.Parse.{digits_value, digits_value_after}
