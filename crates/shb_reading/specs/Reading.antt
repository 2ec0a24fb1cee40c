-- Which text is a report, and which of its lines is the first bad one.
use Rattle.std.specs.Prelude.{◌≡◌, ℕ, ◌<◌, ◌≤◌, Bool, true, false, List, ◌++◌, length, take, Result, Err}
use Rattle.shb_reading.specs.declared.report.ReportError.{ReportError}
use Rattle.shb_reading.specs.declared.report.ReportError.TheVariants as errors
use Rattle.shb_format.specs.Value.{IsReportValue, ReportValue, lines_text, report_lines, report_text}

-- the text of a report in the grammar, not longer than the limit
pub record IsReportText (limit : ℕ) (text : List ℕ) (report : ReportValue) : Type 0 where
  pub in_grammar : IsReportValue report
  pub text_is : text ≡ report_text report
  pub short : length text ≤ limit

-- the first n lines of the text, which lie whole within the limit, are the first n lines of some report
pub record BeginsReport (limit : ℕ) (text : List ℕ) (n : ℕ) : Type 0 where
  pub report : ReportValue
  pub in_grammar : IsReportValue report
  pub enough : n ≤ length (report_lines report)
  pub rest : List ℕ
  pub begins : text ≡ lines_text (take n (report_lines report)) ++ rest
  pub within : length (lines_text (take n (report_lines report))) ≤ limit

-- the text is no report, and n is the least number such that its first n lines begin none
pub record IsBadLine (limit : ℕ) (text : List ℕ) (n : ℕ) : Type 0 where
  pub no_report : (report : ReportValue) → IsReportText limit text report → ⊥
  pub good : (k : ℕ) → k < n → BeginsReport limit text k
  pub bad : BeginsReport limit text n → ⊥

-- the number of the bad line, where that is the answer
abbrev pub IfBadLine : {T : Type 0} → Result T ReportError → (ℕ → Type 0) → Type 0
IfBadLine (Err (errors.BadLine n)) P = P n
IfBadLine _ P = Unit {0}

-- the error of the reading of a report that names its source
abbrev pub report_read_failed : ReportError → Bool
report_read_failed errors.Source = true
report_read_failed _ = false
