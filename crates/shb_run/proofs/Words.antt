-- The words and lemmas of the crates below, and this crate's words, as its proofs say them.
pub use Rattle.shb_check.proofs.Endings.{Grows-same, none_found, of_any_fault}
pub use Rattle.shb_check.proofs.OneTrace.{one_whole_trace}
pub use Rattle.shb_check.specs.Errors.{IsAccepted, IsRefusalOf}
pub use Rattle.shb_discipline.specs.Faults.{HasNoFault, IsFirstFault}
pub use Rattle.shb_format.specs.Report.{IsReportOn, IsReportOnText, counts_of}
pub use Rattle.shb_format.specs.Value.{AreShown, IsReportValue, IsShown, ReportValue, report_text}
pub use Rattle.shb_judging.proofs.WrittenGood.{all_are_races, written_good}
pub use Rattle.shb_lines.specs.declared.event.Event.{Event}
pub use Rattle.shb_lines.specs.declared.event.Pair.{Pair}
pub use Rattle.shb_lines.specs.declared.fault.LineFault.{LineFault}
pub use Rattle.shb_lines.specs.events.Discipline.{IsDisciplined}
pub use Rattle.shb_lines.specs.events.Race.{IsRaceList, Race, ends, variable_at}
pub use Rattle.shb_lines.specs.text.Limits.{most_bytes, most_read, standard_limits}
pub use Rattle.shb_lines.specs.text.Text.{IsLineText, lines_of}
pub use Rattle.shb_lines.specs.text.TraceData.{IsReadingOf, IsTraceOf, TraceData}
pub use Rattle.shb_lists.proofs.GivenLemmas.{pairs_race, race_of_trace, races_of_list}
pub use Rattle.shb_lists.specs.Listed.{pair_in}
pub use Rattle.shb_lists.specs.declared.list.RaceList.{RaceList}
pub use Rattle.shb_run.specs.Outcomes.{HasSummed, HasTrace, IsOutcome, IsReported, ListedBy, ListsPlaces, ListsRaces, ListsSchedulable, ReportsTrace, summary_of}
pub use Rattle.shb_run.specs.declared.settings.Choice.{Choice}
pub use Rattle.shb_run.specs.declared.settings.Choice.TheVariants.{All, Nearest}
pub use Rattle.shb_run.specs.declared.settings.Summary.{Summary}
pub use Rattle.shb_scan.proofs.OneScan.{once_listed, one_nearest_list, places_listed, races_listed}
pub use Rattle.shb_scan.specs.Outcomes.{IsScan}
pub use Rattle.shb_write.specs.Written.{CutsBlocksOn, CutsReportOn, HasReported, These, WritesReport}
pub use Rattle.std.proofs.lemmas.Result.{IfOk-weaker}
