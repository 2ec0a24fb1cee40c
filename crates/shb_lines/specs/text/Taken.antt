-- What is taken of a source, line by line, up to the first line fault.
use Rattle.std.specs.Prelude.{◌≡◌, ◌+◌, ◌<◌, ℕ, Bool, true, false, List, [], ◌∷◌, ◌++◌, length, take, slice_index_or, Option, None, Some}
use Rattle.std.specs.Io.KnownBytes.{IsAtEnd}
use Rattle.std.specs.List.{AllByRecursion, flat_map}
use Rattle.std.specs.Str.Lines.{strip_carriage_return}
use Rattle.shb_lines.specs.declared.event_reader.EventReader.{EventReader}
use Rattle.shb_lines.specs.declared.event_reader.Taken.{Taken}
use Rattle.shb_lines.specs.declared.event_reader.Taken.TheVariants as takens
use Rattle.shb_lines.specs.declared.fault.Fault.{Fault}
use Rattle.shb_lines.specs.declared.limits.Limits.{Limits}
use Rattle.shb_lines.specs.declared.numbering.Numbering.{Numbering}
use Rattle.shb_lines.specs.Lowest.{IsLowest}
use Rattle.shb_lines.specs.text.Faults.{HasLineFault, HasNoLineFaultBefore, IsFirstLineFault, number_of}
use Rattle.shb_lines.specs.text.Grammar.{Lacks, NamedEvent}
use Rattle.shb_lines.specs.text.Numbering.{GivesNothing, GivesStep, HasNumbered, IsStepOf, IsWithin, tables_of}
use Rattle.shb_lines.specs.text.Numbers.{events_of}
use Rattle.shb_lines.specs.text.Reading.{HasBarAt}
use Rattle.shb_lines.specs.text.Text.{lines_of, trace_of}

-- lines, each with its line feed
abbrev pub fed : List (List ℕ) → List ℕ
fed lines = flat_map (λ line. line ++ 10 ∷ []) lines

-- the bytes that a source is still to give, none where it doesn't tell them
abbrev pub rest_of : Option (List ℕ) → List ℕ
rest_of None = []
rest_of (Some rest) = rest

-- the limits under which this text is not too long
abbrev pub without_text_limit : Limits → List ℕ → Limits
without_text_limit limits text = record { text = length text; line = limits.line; events = limits.events; threads = limits.threads }

-- these bytes are the lines, each with its line feed, and what is held; or the lines are all of them, and the source has ended
abbrev pub AreLinesOf : Bool → List ℕ → List (List ℕ) → List ℕ → Option (List ℕ) → Type 0
AreLinesOf false read lines held left = read ≡ fed lines ++ held
AreLinesOf true read lines held left = (lines_of read ≡ lines) × IsAtEnd left

-- no line has a fault of its own after the events of the lines before it
abbrev pub AreFaultless : Limits → List (List ℕ) → Type 0
AreFaultless limits lines = (k : ℕ) (fault : Fault) → k < length lines → HasLineFault limits ⊥ (events_of (take k lines)) (slice_index_or lines k []) fault → ⊥

-- of the bytes that were read so far these lines were taken, and they have no fault
pub record HasTaken (limits : Limits) (read : List ℕ) (lines : List (List ℕ)) (left : Option (List ℕ)) (reader : EventReader) : Type 0 where
  pub lines_are : AreLinesOf reader.ended read lines reader.lines.held left
  pub one_line_each : AllByRecursion (Lacks 10) lines
  pub numbered : HasNumbered (events_of lines) reader.numbering
  pub faultless : AreFaultless limits lines
  pub line_is : reader.line ≡ length lines

-- what a line is taken for, after these events
abbrev pub IsTakenLine : Limits → List NamedEvent → List ℕ → Numbering → Taken → Type 0
IsTakenLine limits before line new takens.Nothing = GivesNothing limits before line new
IsTakenLine limits before line new (takens.Step step) = GivesStep limits before line new step
IsTakenLine limits before line new (takens.Fault fault) = IsLowest number_of (HasLineFault limits ⊥ before line) (Some fault)
IsTakenLine limits before line new takens.End = ⊥

-- it is known where the second bar stands in the line that was given last
abbrev pub HasBar : EventReader → Type 0
HasBar reader = HasBarAt (strip_carriage_return reader.lines.line) reader.numbering.bar

abbrev pub IsBarred : EventReader → Taken → Type 0
IsBarred reader (takens.Step step) = HasBar reader
IsBarred reader _ = Unit {0}

-- more lines can be taken, where this was no fault
abbrev pub IsWithinAfter : Limits → Numbering → Taken → Type 0
IsWithinAfter limits numbering (takens.Fault fault) = Unit {0}
IsWithinAfter limits numbering _ = IsWithin limits numbering

-- what was taken next, where the text is what was read and what is left
abbrev pub IsTaken : Limits → List ℕ → List (List ℕ) → Option (List ℕ) → EventReader → Taken → Type 0
IsTaken limits read lines left new takens.Nothing = HasTaken limits read (lines ++ new.lines.line ∷ []) left new × (trace_of (lines ++ new.lines.line ∷ []) ≡ trace_of lines)
IsTaken limits read lines left new (takens.Step step) = HasTaken limits read (lines ++ new.lines.line ∷ []) left new
    × ((e : NamedEvent) × IsStepOf (tables_of new.numbering) step e × (events_of (lines ++ new.lines.line ∷ []) ≡ events_of lines ++ e ∷ []))
IsTaken limits read lines left new (takens.Fault fault) =
    let text = read ++ rest_of left in
    IsFirstLineFault (without_text_limit limits text) text (length lines) fault × (take (length lines) (lines_of text) ≡ lines) × (new.line ≡ length lines + 1)
IsTaken limits read lines left new takens.End =
    let text = read ++ rest_of left in
    (lines_of text ≡ lines) × HasNoLineFaultBefore (without_text_limit limits text) text (length (lines_of text)) × IsAtEnd left × HasTaken limits read lines left new

-- the same, where lines that give nothing are passed
abbrev pub IsTakenNext : Limits → List ℕ → List (List ℕ) → Option (List ℕ) → EventReader → Taken → Type 0
IsTakenNext limits read lines left new takens.Nothing = HasTaken limits read lines left new
IsTakenNext limits read lines left new taken = IsTaken limits read lines left new taken
