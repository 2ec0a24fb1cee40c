-- The faults of a text under limits, and the first of them.
use Rattle.std.specs.Prelude.{◌≡◌, ◌+◌, ◌<◌, ◌≤◌, ℕ, List, [], ◌∷◌, ◌++◌, length, map, take, slice_index_or, sum_by, Some, Ok, Err}
use Rattle.std.specs.Str.Lines.{strip_carriage_return}
use Rattle.shb_lines.specs.declared.fault.Fault.{Fault}
use Rattle.shb_lines.specs.declared.fault.Fault.TheVariants as faults
use Rattle.shb_lines.specs.declared.limits.Limits.{Limits}
use Rattle.shb_lines.specs.text.Grammar.{NamedEvent}
use Rattle.shb_lines.specs.text.Meaning.{meaning}
use Rattle.shb_lines.specs.text.Text.{lines_of, threads_of, trace_of}
use Rattle.shb_lines.specs.Lowest.{IsLowest}

-- in one line the lowest number wins
abbrev pub number_of : Fault → ℕ
number_of faults.TextTooLong = 1
number_of faults.LineTooLong = 2
number_of faults.MissingField = 3
number_of faults.EmptyThread = 4
number_of faults.UnknownOperation = 5
number_of faults.BadOperand = 6
number_of faults.TooManyEvents = 7
number_of faults.TooManyThreads = 8
number_of faults.AfterJoin = 9
number_of faults.LockHeld = 10
number_of faults.NotHeld = 12
number_of faults.ForkSelf = 13
number_of faults.ForkStarted = 14
number_of faults.ForkTwice = 15
number_of faults.ForkJoined = 16
number_of faults.JoinSelf = 17

-- the line has the fault, after these events; `past` says that the text's limit is passed in it. The discipline's faults are none of a line's bytes
abbrev pub HasLineFault : Limits → Type 0 → List NamedEvent → List ℕ → Fault → Type 0
HasLineFault limits past before line faults.TextTooLong = past
HasLineFault limits past before line faults.LineTooLong = limits.line < length line
HasLineFault limits past before line faults.MissingField = meaning (strip_carriage_return line) ≡ Err faults.MissingField
HasLineFault limits past before line faults.EmptyThread = meaning (strip_carriage_return line) ≡ Err faults.EmptyThread
HasLineFault limits past before line faults.UnknownOperation = meaning (strip_carriage_return line) ≡ Err faults.UnknownOperation
HasLineFault limits past before line faults.BadOperand = meaning (strip_carriage_return line) ≡ Err faults.BadOperand
HasLineFault limits past before line faults.TooManyEvents = (e : NamedEvent) × (meaning (strip_carriage_return line) ≡ Ok (Some e)) × (limits.events < length before + 1)
HasLineFault limits past before line faults.TooManyThreads = (e : NamedEvent) × (meaning (strip_carriage_return line) ≡ Ok (Some e)) × (limits.threads < length (threads_of (before ++ e ∷ [])))
HasLineFault limits past before line _ = ⊥

-- lines are counted from 0 here
module _ (limits : Limits) (text : List ℕ) where
  abbrev pub line_at : ℕ → List ℕ
  line_at i = slice_index_or (lines_of text) i []

  -- the offset in the text at which the line begins; its line feed belongs to it
  abbrev pub start_of : ℕ → ℕ
  start_of i = sum_by (λ line. length line + 1) (take i (lines_of text))

  -- the byte after the limit belongs to the line
  abbrev pub PassesLimit : ℕ → Type 0
  PassesLimit i = (start_of i ≤ limits.text) × (limits.text < start_of i + length (line_at i) + 1) × (limits.text < length text)

  -- the line has the fault, after the events of the lines before it
  abbrev pub HasFault : ℕ → Fault → Type 0
  HasFault i fault = HasLineFault limits (PassesLimit i) (map (λ e. e.event) (trace_of (take i (lines_of text)))) (line_at i) fault

  -- no line before line i has a fault
  abbrev pub HasNoLineFaultBefore : ℕ → Type 0
  HasNoLineFaultBefore i = (k : ℕ) (fault : Fault) → k < i → HasFault k fault → ⊥

  -- the least line with a fault, and its fault of lowest number
  pub record IsFirstLineFault (i : ℕ) (fault : Fault) : Type 0 where
    pub within : i < length (lines_of text)
    pub lowest : IsLowest number_of (HasFault i) (Some fault)
    pub earlier : HasNoLineFaultBefore i
