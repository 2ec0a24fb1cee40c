-- What judging a text that was read answers, what stands for the errors of reading and of judging, what a program says of an error, and the status that it ends with.
use Rattle.std.specs.Prelude.{◌≡◌, ℕ, List, ◌++◌, codes, decimal, Option, Result, Ok, Err, ⊤}
use Rattle.shb_lines.specs.declared.fault.LineFault.{LineFault}
use Rattle.shb_lines.specs.text.Limits.{standard_limits}
use Rattle.shb_lines.specs.text.Messages.{message_of}
use Rattle.shb_lines.specs.text.Text.{lines_of}
use Rattle.shb_lines.specs.text.TraceData.{IsReadingOf, IsTraceOf, TraceData}
use Rattle.shb_discipline.specs.Faults.{HasNoFault, IsFirstFault}
use Rattle.shb_lines.specs.declared.read.ReadError.{ReadError}
use Rattle.shb_lines.specs.declared.read.ReadError.TheVariants as reading
use Rattle.shb_discipline.specs.declared.checking.CheckError.{CheckError}
use Rattle.shb_discipline.specs.declared.checking.CheckError.TheVariants as checking
use Rattle.shb_judging.specs.declared.verdict.Verdict.{Verdict}
use Rattle.shb_judging.specs.declared.verdict.Verdict.TheVariants.{Good}
use Rattle.shb_check.specs.declared.errors.RunError.{RunError}
use Rattle.shb_check.specs.declared.errors.RunError.TheVariants.{Trace, Source, Sink, Memory}

-- the text that was read so has no fault, and this is its trace
pub record IsAccepted (read : TraceData) (stop : Option LineFault) (trace : TraceData) : Type 0 where
  pub same : trace ≡ read
  pub faultless : (text : List ℕ) → IsReadingOf standard_limits text read stop → HasNoFault standard_limits text
  pub whole : (text : List ℕ) → IsReadingOf standard_limits text read stop → IsTraceOf (lines_of text) read

-- a text that was read so is refused for its first fault, or there was no memory to judge it
abbrev pub IsRefusalOf : TraceData → Option LineFault → RunError → Type 0
IsRefusalOf read stop (Trace line fault) = (text : List ℕ) → IsReadingOf standard_limits text read stop → IsFirstFault standard_limits text line fault
IsRefusalOf read stop (Memory _) = ⊤
IsRefusalOf read stop _ = ⊥

abbrev pub error_of_reading : ReadError → RunError
error_of_reading reading.Source = Source
error_of_reading (reading.Memory refused) = Memory refused

abbrev pub error_of_checking : CheckError → RunError
error_of_checking (checking.Undisciplined line fault) = Trace line fault
error_of_checking (checking.Memory refused) = Memory refused

-- a refused trace ends with 2, a device or the memory with 4
abbrev pub exit_status_of : RunError → ℕ
exit_status_of (Trace line fault) = 2
exit_status_of _ = 4

-- a good report ends with 0, a rejected one with 5
abbrev pub check_status_of : Result Verdict RunError → ℕ
check_status_of (Ok (Good races)) = 0
check_status_of (Ok verdict) = 5
check_status_of (Err error) = exit_status_of error

-- the line of the fault and its message, or the device
abbrev pub fault_line_of : RunError → List ℕ
fault_line_of (Trace line fault) = codes "line " ++ (decimal line ++ (codes ": " ++ message_of fault))
fault_line_of Source = codes "cannot read"
fault_line_of Sink = codes "cannot write"
fault_line_of (Memory _) = codes "out of memory"
