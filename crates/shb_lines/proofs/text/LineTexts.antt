-- The lines that give events have few bytes, and no line feed.
use Rattle.std.proofs.lemmas.Grind.{common_steps}
use Rattle.std.proofs.Common.{◌≡◌, ◌&&◌, ◌+◌, ◌-◌, ◌==◌, ◌<◌, ◌≤◌, ℕ, Bool, true, false, cond, not, zero, suc, List, [], ◌∷◌, length, map, take, drop, get_or, Option, None, Some, Ok, Err, slice_index_or, refl, sym, ap, subst, ◌∙◌, arith, length-take, length-drop}
use Rattle.std.specs.List.{AllByRecursion, cons_option, enumerate_from, filter_map, list_all, onto_first}
use Rattle.std.specs.Str.Lines.{strip_carriage_return}
use Rattle.std.proofs.lemmas.List.{take_all}
use Rattle.shb_lines.specs.declared.fault.Fault.TheVariants as faults
use Rattle.shb_lines.specs.declared.limits.Limits.{Limits}
use Rattle.shb_lines.specs.declared.fault.LineFault.{LineFault}
use Rattle.shb_lines.specs.text.Parsed.{line_from}
use Rattle.shb_lines.specs.text.Limits.{most_line}
use Rattle.shb_lines.specs.text.Faults.{HasNoLineFaultBefore}
use Rattle.shb_lines.specs.text.Grammar.{Meaning, NamedEvent}
use Rattle.shb_lines.specs.text.Meaning.{meaning}
use Rattle.shb_lines.specs.text.Text.{IsLineText, event_on, lines_of, located, trace_of}
use Rattle.shb_lines.specs.text.TraceData.{IsReading, location_of}

abbrev pub IsOneLine : List ℕ → Type 0
IsOneLine bytes = list_all (λ b. not (b == 10)) bytes ≡ true

onto_first-one_line : (x : ℕ) (parts : List (List ℕ)) → (x == 10) ≡ false → AllByRecursion IsOneLine parts → AllByRecursion IsOneLine (onto_first x parts)
onto_first-one_line x [] e all = (ap (λ b. not b && true) e, tt)
onto_first-one_line x (part ∷ parts) e all = (ap (λ b. not b && list_all (λ c. not (c == 10)) part) e ∙ all.0, all.1)

-- no part between line feeds has one
lines_of-one_line : (text : List ℕ) → AllByRecursion IsOneLine (lines_of text)
lines_of-one_line [] = (refl, tt)
lines_of-one_line (x ∷ text) = by (x == 10) refl (lines_of-one_line text)
  where
    by : (b : Bool) → (x == 10) ≡ b → AllByRecursion IsOneLine (lines_of text) → AllByRecursion IsOneLine (cond b ([] ∷ lines_of text) (onto_first x (lines_of text)))
    by true e rest = (refl, rest)
    by false e rest = onto_first-one_line x (lines_of text) e rest

take-one_line : (n : ℕ) (bytes : List ℕ) → IsOneLine bytes → IsOneLine (take n bytes)
take-one_line zero bytes h = refl
take-one_line (suc n) [] h = refl
take-one_line (suc n) (b ∷ bytes) h = by (not (b == 10)) h (take-one_line n bytes)
  where
    by : (t : Bool) → (t && list_all (λ c. not (c == 10)) bytes) ≡ true → (IsOneLine bytes → IsOneLine (take n bytes)) → (t && list_all (λ c. not (c == 10)) (take n bytes)) ≡ true
    by true h rest = rest h
    by false h rest = absurd cc

drop-one_line : (n : ℕ) (bytes : List ℕ) → IsOneLine bytes → IsOneLine (drop n bytes)
drop-one_line zero bytes h = h
drop-one_line (suc n) [] h = refl
drop-one_line (suc n) (b ∷ bytes) h = drop-one_line n bytes (by (not (b == 10)) h)
  where
    by : (t : Bool) → (t && list_all (λ c. not (c == 10)) bytes) ≡ true → IsOneLine bytes
    by true h = h
    by false h = absurd cc

-- few bytes, and no line feed
pub record IsShortLine (bytes : List ℕ) : Type 0 where
  pub most : length bytes ≤ most_line
  pub one_line : IsOneLine bytes

front-short : (b : Bool) (line : List ℕ) → IsShortLine line → IsShortLine (cond b (take (length line - 1) line) line)
front-short true line h = let most = h.most in record { most = omega (arith, length-take (length line - 1) line); one_line = take-one_line (length line - 1) line h.one_line }
front-short false line h = h

short_lines : (lines : List (List ℕ)) (n : ℕ) → AllByRecursion IsOneLine lines → ((k : ℕ) → k < n → length (slice_index_or lines k []) ≤ most_line) → AllByRecursion IsShortLine (take n lines)
short_lines lines zero all each = tt
short_lines [] (suc n) all each = tt
short_lines (line ∷ lines) (suc n) all each =
    (record { most = each zero (omega arith); one_line = all.0 }, short_lines lines n all.1 (λ k lt. each (suc k) (omega arith)))

-- a line that gives an event has bytes
some_bytes : (line : List ℕ) (e : NamedEvent) → meaning line ≡ Ok (Some e) → 1 ≤ length line
unfolding meaning
some_bytes [] e h = absurd cc
some_bytes (b ∷ line) e h = omega arith

line_texts_from : (number : ℕ) (lines : List (List ℕ)) → AllByRecursion IsShortLine lines → AllByRecursion IsLineText (map (λ e. e.text) (filter_map event_on (enumerate_from number lines)))
line_texts_from number [] all = tt
line_texts_from number (line ∷ lines) all = by (meaning (strip_carriage_return line)) refl (front-short _ line all.0) (line_texts_from (number + 1) lines all.1)
  where
    by : (m : Meaning) → meaning (strip_carriage_return line) ≡ m → IsShortLine (strip_carriage_return line)
        → AllByRecursion IsLineText (map (λ e. e.text) (filter_map event_on (enumerate_from (number + 1) lines)))
        → AllByRecursion IsLineText (map (λ e. e.text) (cons_option (located number (strip_carriage_return line) m) (filter_map event_on (enumerate_from (number + 1) lines))))
    by (Ok None) e short rest = rest
    by (Ok (Some event)) e short rest = (record { least = some_bytes (strip_carriage_return line) event e; most = short.most; one_line = short.one_line }, rest)
    by (Err fault) e short rest = rest

module _ (limits : Limits) (text : List ℕ) (standard : limits.line ≤ most_line) where
  faultless_lines : (n : ℕ) → HasNoLineFaultBefore limits text n → AllByRecursion IsShortLine (take n (lines_of text))
  faultless_lines n faultless =
      short_lines (lines_of text) n (lines_of-one_line text)
      (λ k lt. let no : limits.line < length (slice_index_or (lines_of text) k []) → ⊥ = λ long. faultless k faults.LineTooLong lt long in omega arith)

  -- the lines whose trace is held are such lines
  pub held_texts : (Holds : List (List ℕ) → Type 0) (stop : Option LineFault) → IsReading limits text Holds stop
      → (lines : List (List ℕ)) × Holds lines × AllByRecursion IsLineText (map (λ e. e.text) (trace_of lines))
  held_texts Holds None h =
      let few = subst (AllByRecursion IsShortLine) (take_all (length (lines_of text)) (lines_of text) (omega arith)) (faultless_lines (length (lines_of text)) h.0) in
      (lines_of text, h.1, line_texts_from 1 (lines_of text) few)
  held_texts Holds (Some stop) h = (take h.0 (lines_of text), h.3, line_texts_from 1 (take h.0 (lines_of text)) (faultless_lines h.0 h.2.earlier))

-- what begins at an offset of a line is a line
pub start_text : (text : List ℕ) (starts : List ℕ) (e start default : ℕ) → AllByRecursion IsLineText (map (line_from text) starts) → e < length starts → start ≡ get_or starts e default → IsLineText (line_from text start)
start_text text [] e start default all lt is = absurd (omega arith)
start_text text (first ∷ starts) zero start default all lt is = subst (λ s. IsLineText (line_from text s)) (sym is) all.0
start_text text (first ∷ starts) (suc e) start default all lt is = start_text text starts e start default all.1 (omega arith) is

-- a line's location has few bytes and no line feed
pub location_short : (line : List ℕ) → IsLineText line → IsShortLine (location_of line)
location_short line h = grind (arith, common_steps, length-drop, drop-one_line)
