-- What a run and a check say of their devices, by what they answer.
use Rattle.std.specs.Prelude.{ℕ, Bool, true, false, List, Option, Result, Ok, Err, ⊤}
use Rattle.std.specs.Io.KnownBytes.{Appends}
use Rattle.shb_lines.specs.declared.fault.Fault.{Fault}
use Rattle.shb_check.specs.declared.errors.RunError.{RunError}
use Rattle.shb_check.specs.declared.errors.RunError.TheVariants.{Trace, Source, Sink, Memory}

-- for a refused trace, P of the line and its fault
abbrev pub OnTrace : {T : Type 0} → Result T RunError → (ℕ → Fault → Type 0) → Type 0
OnTrace (Err (Trace line fault)) P = P line fault
OnTrace _ P = ⊤

-- for a trace that was refused or not read
abbrev pub OnNoTrace : {T : Type 0} → Result T RunError → Type 0 → Type 0
OnNoTrace (Err (Trace line fault)) P = P
OnNoTrace (Err Source) P = P
OnNoTrace _ P = ⊤

-- for a run whose sink failed
abbrev pub OnSink : {T : Type 0} → Result T RunError → Type 0 → Type 0
OnSink (Err Sink) P = P
OnSink _ P = ⊤

-- for a run to which memory was refused
abbrev pub OnMemory : {T : Type 0} → Result T RunError → Type 0 → Type 0
OnMemory (Err (Memory _)) P = P
OnMemory _ P = ⊤

-- for a run that read a trace and judged it: it was refused, or the report was written, or the sink failed
abbrev pub OnJudged : {T : Type 0} → Result T RunError → Type 0 → Type 0
OnJudged (Ok x) P = P
OnJudged (Err (Trace line fault)) P = P
OnJudged (Err Sink) P = P
OnJudged _ P = ⊤

-- for one that came to write
abbrev pub OnWriting : {T : Type 0} → Result T RunError → Type 0 → Type 0
OnWriting (Ok x) P = P
OnWriting (Err Sink) P = P
OnWriting _ P = ⊤

-- known bytes have others after them, or none
abbrev pub Grows : Option (List ℕ) → Option (List ℕ) → Type 0
Grows old new = (bytes : List ℕ) × Appends old new bytes

-- the error that names a source
abbrev pub source_failed : RunError → Bool
source_failed Source = true
source_failed _ = false

-- the error that names the sink
abbrev pub sink_failed : RunError → Bool
sink_failed Sink = true
sink_failed _ = false
