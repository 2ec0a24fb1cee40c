-- What a line's reading says, without where its bytes lie in memory.
use Rattle.std.specs.Prelude.{◌≡◌, ◌+◌, List, ℕ, length, take, drop, nat_lt, if◌then◌else◌, slice_get, Option, None, Some, Result, Ok, Err, IfSome}
use Rattle.std.specs.List.{before_first}
use Rattle.shb_lines.specs.declared.fault.Fault.{Fault}
use Rattle.shb_lines.specs.declared.grammar.KnownThread.{KnownThread}
use Rattle.shb_lines.specs.declared.grammar.LineEvent.{LineEvent}
use Rattle.shb_lines.specs.text.Grammar.{NamedEvent, Meaning}
use Rattle.shb_lines.specs.text.Meaning.{is_bar}
use Rattle.shb_lines.specs.text.TraceData.{location_after}

abbrev pub named : LineEvent → NamedEvent
named e = record { thread = e.thread.now; kind = e.kind; operand = e.operand.now }

abbrev pub meaning_of : Result (Option LineEvent) Fault → Meaning
meaning_of (Ok None) = Ok None
meaning_of (Ok (Some e)) = Ok (Some (named e))
meaning_of (Err f) = Err f

-- the second bar of the line stands at this offset, or the line has no second bar and ends there
abbrev pub HasBarAt : List ℕ → ℕ → Type 0
HasBarAt line at = location_after line ≡ (if nat_lt at (length line) then Some (drop (at + 1) line) else None)

abbrev pub HasNoBar : List ℕ → Type 0
HasNoBar name = before_first is_bar name ≡ name

-- the thread has its number among these names
abbrev pub IsNumberedIn : List (List ℕ) → KnownThread → Type 0
IsNumberedIn names known = slice_get names known.number ≡ Some known.name.now

-- the thread of an event has its number among these names, where it is given
abbrev pub HasNumberIn : List (List ℕ) → LineEvent → Type 0
HasNumberIn names e = IfSome e.number (λ number. slice_get names number ≡ Some e.thread.now)

-- some bytes are the front of others
abbrev pub Begins : List ℕ → List ℕ → Type 0
Begins bytes wide = bytes ≡ take (length bytes) wide
