-- The events and names of a trace, as they are stored: events without the numbers of their lines, names one after the other in one memory.
use Rattle.std.specs.Prelude.{ℕ, ◌+◌, List, cond, fold, leb, map, ◌≡◌, ◌-◌, ◌≤◌, [], ◌∷◌, drop, take}
use Rattle.std.specs.List.{enumerate_from}
use Rattle.shb_lines.specs.declared.event.Event.{Event}
use Rattle.shb_lines.specs.declared.stored.Skipped.{Skipped}
use Rattle.shb_lines.specs.declared.stored.StoredEvent.{StoredEvent}
use Rattle.shb_lines.specs.text.Numbers.{op_for}

-- how many lines without an event stand before event k: what the last entry for it or an earlier event says
abbrev pub lines_before : List Skipped → ℕ → ℕ
lines_before skipped k = fold (λ lines entry. cond (leb entry.event k) entry.lines lines) 0 skipped

-- the stored event k with its line's number
abbrev pub with_line : List Skipped → ℕ × StoredEvent → Event
with_line skipped (k, stored) = record { thread = stored.thread; op = op_for stored.kind stored.operand; line = k + lines_before skipped k + 1 }

abbrev pub events_in : List Skipped → List StoredEvent → List Event
events_in skipped stored = map (with_line skipped) (enumerate_from 0 stored)

-- the bytes of the text from start to end
abbrev pub part : List ℕ → ℕ → ℕ → List ℕ
part text start end = take (end - start) (drop start text)

-- the names between an offset and the first of these ends, and between each end and the next
abbrev pub names_between : List ℕ → ℕ → List ℕ → List (List ℕ)
names_between bytes start [] = []
names_between bytes start (end ∷ ends) = part bytes start end ∷ names_between bytes end ends

-- no end is before the one before it, and the last one is that of all bytes
abbrev pub AreEnds : ℕ → ℕ → List ℕ → Type 0
AreEnds len start [] = start ≡ len
AreEnds len start (end ∷ ends) = (start ≤ end) × AreEnds len end ends
