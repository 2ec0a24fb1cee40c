-- What the writing of a report leaves in a sink.
use Rattle.std.specs.Prelude.{◌≡◌, ◌⊎◌, ℕ, ◌<◌, ◌≤◌, Bool, true, false, List, length, take, Option, Result, Err, IfOk, ⊤}
use Rattle.std.specs.Io.KnownBytes.{Appends}
use Rattle.shb_io.specs.Devices.{CountsFailure}
use Rattle.shb_lines.specs.text.TraceData.{TraceData}
use Rattle.shb_format.specs.Report.{IsReportOn, front_bytes}
use Rattle.shb_write.specs.declared.errors.WriteError.{WriteError}
use Rattle.shb_write.specs.declared.errors.WriteError.TheVariants.{Sink, Memory}

-- the error of a writing that names its sink
abbrev pub write_failed : WriteError → Bool
write_failed Sink = true
write_failed (Memory _) = false

-- for a writing in which the sink failed
abbrev pub OnFailedSink : {T : Type 0} → Result T WriteError → Type 0 → Type 0
OnFailedSink (Err Sink) P = P
OnFailedSink _ P = ⊤

-- for a writing to which memory was refused
abbrev pub OnNoMemory : {T : Type 0} → Result T WriteError → Type 0 → Type 0
OnNoMemory (Err (Memory _)) P = P
OnNoMemory _ P = ⊤

-- known bytes grow by the first bytes of bs, perhaps by all of them
abbrev pub AppendsFront : Option (List ℕ) → Option (List ℕ) → List ℕ → Type 0
AppendsFront old new bs = (n : ℕ) × Appends old new (take n bs)

-- these races and no others are listed
abbrev pub These : List (ℕ × ℕ) → TraceData → List (ℕ × ℕ) → Type 0
These races trace listed = listed ≡ races

-- the report of a trace on such races was written
pub record WritesReport (Lists : TraceData → List (ℕ × ℕ) → Type 0) (with_schedules : Bool) (trace : TraceData) (old new : Option (List ℕ)) : Type 0 where
  pub bytes : List ℕ
  pub report : IsReportOn Lists with_schedules trace bytes
  pub written : Appends old new bytes

-- of the report of a trace on such races so many bytes were written, from its front on, and not all
pub record CutsReportOn (Lists : TraceData → List (ℕ × ℕ) → Type 0) (with_schedules : Bool) (trace : TraceData) (old new : Option (List ℕ)) : Type 0 where
  pub bytes : List ℕ
  pub report : IsReportOn Lists with_schedules trace bytes
  pub count : ℕ
  pub some_missing : count < length bytes
  pub written : Appends old new (take count bytes)

-- and all lines before its first block are among them
pub record CutsBlocksOn (Lists : TraceData → List (ℕ × ℕ) → Type 0) (with_schedules : Bool) (trace : TraceData) (old new : Option (List ℕ)) : Type 0 where
  pub cut : CutsReportOn Lists with_schedules trace old new
  pub front : length (front_bytes trace cut.report.races) ≤ cut.count

-- what the writing of a report on such races leaves: all of it on success, the front of it where the sink failed, and where memory was refused nothing or all lines before the first block
pub record HasReported {K T : Type 0} (Lists : TraceData → List (ℕ × ℕ) → Type 0) (with_schedules : Bool) (trace : TraceData) (taken : K → Option (List ℕ)) (failures : K → ℕ) (old new : K) (answer : Result T WriteError) : Type 0 where
  pub report : IfOk answer (λ _. WritesReport Lists with_schedules trace (taken old) (taken new))
  pub cut : OnFailedSink answer (CutsReportOn Lists with_schedules trace (taken old) (taken new))
  pub memory : OnNoMemory answer ((new ≡ old) ⊎ CutsBlocksOn Lists with_schedules trace (taken old) (taken new))
  pub counted : CountsFailure write_failed (failures old) (failures new) answer
