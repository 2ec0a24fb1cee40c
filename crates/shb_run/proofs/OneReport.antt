-- A text has one report.
use Rattle.std.proofs.Common.{◌≡◌, ℕ, Bool, List, subst}
use Rattle.shb_run.proofs.Words.{All, Choice, IsReportOn, IsReportOnText, ListedBy, Nearest, TraceData, lines_of, one_nearest_list, one_whole_trace}
use Rattle.shb_format.proofs.Blocks.{HasOneList, IsReportOn-unique, one_race_list}

one_list : (choice : Choice) (trace : TraceData) → HasOneList (ListedBy choice) trace
one_list All = one_race_list
one_list (Nearest by_variable) = one_nearest_list by_variable

pub one_report : (choice : Choice) (with_schedules : Bool) (text bytes others : List ℕ)
    → IsReportOnText (ListedBy choice) with_schedules text bytes → IsReportOnText (ListedBy choice) with_schedules text others → bytes ≡ others
one_report choice with_schedules text bytes others a b =
    let same : a.trace ≡ b.trace = one_whole_trace (lines_of text) a.trace b.trace a.trace_is b.trace_is in
    IsReportOn-unique (ListedBy choice) with_schedules b.trace bytes others (one_list choice b.trace) (subst (λ t. IsReportOn (ListedBy choice) with_schedules t bytes) same a.report) b.report
