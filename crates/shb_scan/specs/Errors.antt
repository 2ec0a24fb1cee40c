-- Why a scan is not written, and what is said of it then.
use Rattle.std.specs.Prelude.{ℕ, Bool, true, false, Result, Ok, Err, ⊤, List, ◌++◌, codes, decimal}
use Rattle.shb_lines.specs.declared.fault.Fault.{Fault}
use Rattle.shb_lines.specs.declared.read.ReadError.{ReadError}
use Rattle.shb_lines.specs.declared.read.ReadError.TheVariants as reading
use Rattle.shb_scan.specs.declared.errors.ScanError.{ScanError}
use Rattle.shb_scan.specs.declared.errors.ScanError.TheVariants.{Trace, TooManyLines, Source, Sink, Memory}
use Rattle.shb_lines.specs.declared.fault.Fault.TheVariants as faults
use Rattle.shb_lines.specs.text.Messages.{message_of}

abbrev pub error_of_reading : ReadError → ScanError
error_of_reading reading.Source = Source
error_of_reading (reading.Memory refused) = Memory refused

-- the error that names the source, and the one that names the sink
abbrev pub source_failed : ScanError → Bool
source_failed Source = true
source_failed _ = false

abbrev pub sink_failed : ScanError → Bool
sink_failed Sink = true
sink_failed _ = false

-- for a refused trace, P of the line and its fault
abbrev pub OnTrace : {T : Type 0} → Result T ScanError → (ℕ → Fault → Type 0) → Type 0
OnTrace (Err (Trace line fault)) P = P line fault
OnTrace _ P = ⊤

-- for a text with more lines than are counted
abbrev pub OnTooManyLines : {T : Type 0} → Result T ScanError → Type 0 → Type 0
OnTooManyLines (Err TooManyLines) P = P
OnTooManyLines _ P = ⊤

-- for a sink that failed
abbrev pub OnSink : {T : Type 0} → Result T ScanError → Type 0 → Type 0
OnSink (Err Sink) P = P
OnSink _ P = ⊤

-- for a scan of which nothing is written: no end of a text without a fault was reached, or memory was refused
abbrev pub OnUnwritten : {T : Type 0} → Result T ScanError → Type 0 → Type 0
OnUnwritten (Ok x) P = ⊤
OnUnwritten (Err Sink) P = ⊤
OnUnwritten (Err e) P = P

-- no device failed
abbrev pub IsDeviceless : {T : Type 0} → Result T ScanError → Type 0
IsDeviceless (Err Source) = ⊥
IsDeviceless (Err Sink) = ⊥
IsDeviceless _ = ⊤

-- the sink didn't fail
abbrev pub IsReading : {T : Type 0} → Result T ScanError → Type 0
IsReading (Err Sink) = ⊥
IsReading _ = ⊤

-- of each fault what is said of it elsewhere, with the limits of a scan
abbrev pub scan_message_of : Fault → List ℕ
scan_message_of faults.TooManyEvents = codes "there are more than 4294967294 events"
scan_message_of faults.TooManyThreads = codes "there are more than 65535 threads"
scan_message_of fault = message_of fault

-- a refused trace ends with 2, a device or the memory with 4
abbrev pub scan_status_of : {T : Type 0} → Result T ScanError → ℕ
scan_status_of (Ok x) = 0
scan_status_of (Err (Trace line fault)) = 2
scan_status_of (Err TooManyLines) = 2
scan_status_of (Err _) = 4

-- the line of the fault and what is said of it, or the device
abbrev pub scan_line_of : ScanError → List ℕ
scan_line_of (Trace line fault) = codes "line " ++ (decimal line ++ (codes ": " ++ scan_message_of fault))
scan_line_of TooManyLines = codes "there are more than 18446744073709551614 lines"
scan_line_of Source = codes "cannot read"
scan_line_of Sink = codes "cannot write"
scan_line_of (Memory _) = codes "out of memory"
