-- The first fault of a text, line by line.
use Rattle.std.proofs.Common.{◌≡◌, ◌+◌, ◌-◌, ◌<◌, ◌≤◌, ℕ, List, length, take, Option, None, Some, sym, ap, subst, ◌∙◌, arith}
use borrow.Author.Count.{below_more}
use Rattle.shb_lines.specs.declared.fault.Fault.{Fault}
use Rattle.shb_lines.specs.declared.fault.Fault.TheVariants as faults
use Rattle.shb_lines.specs.declared.limits.Limits.{Limits}
use Rattle.shb_lines.specs.text.Grammar.{NamedEvent}
use Rattle.shb_lines.specs.text.Faults.{HasFault, HasLineFault, HasNoLineFaultBefore, PassesLimit, line_at, number_of}
use Rattle.shb_lines.specs.text.Numbers.{events_of}
use Rattle.shb_lines.specs.text.Stored.{part}
use Rattle.shb_lines.specs.text.Text.{lines_of}
use Rattle.shb_lines.proofs.text.Scanning.{IsNext, IsStart}
use Rattle.shb_lines.specs.Lowest.{IsLowest}

pub IsLowest-same : (Has Other : Fault → Type 0) → ((f : Fault) → Has f → Other f) → ((f : Fault) → Other f → Has f) → (found : Option Fault) → IsLowest number_of Has found → IsLowest number_of Other found
IsLowest-same Has Other to from None h = λ f other. h f (from f other)
IsLowest-same Has Other to from (Some g) h = (to g h.0, λ f other. h.1 f (from f other))

-- only the limit of the text is passed at an offset
pub with_past : (limits : Limits) (P Q : Type 0) (before : List NamedEvent) (line : List ℕ) → (P → Q) → (f : Fault) → HasLineFault limits P before line f → HasLineFault limits Q before line f
with_past limits P Q before line to faults.TextTooLong h = to h
with_past limits P Q before line to _ h = h

module _ (limits : Limits) (text : List ℕ) (i : ℕ) where
  -- the lowest fault of the bytes at line i is that of line i
  pub lowest_at : (start end : ℕ) (rest : List (List ℕ)) (found : Option Fault) → IsStart text i start → IsNext (lines_of text) i (part text start end) rest → start ≤ end → length (part text start end) ≡ end - start
      → (limits.text < length text → start ≤ limits.text)
      → IsLowest number_of (HasLineFault limits ((limits.text ≤ end) × (limits.text < length text)) (events_of (take i (lines_of text))) (part text start end)) found
      → IsLowest number_of (HasFault limits text i) found
  lowest_at start end rest found h next order len inside lowest =
      let line : List ℕ = part text start end in
      let before : List NamedEvent = events_of (take i (lines_of text)) in
      let line_len : length (line_at limits text i) ≡ end - start = ap length next.at ∙ len in
      let to : (limits.text ≤ end) × (limits.text < length text) → PassesLimit limits text i = λ p. (omega (arith, inside p.1, h.offset), omega (arith, p.0, h.offset), p.1) in
      let from : PassesLimit limits text i → (limits.text ≤ end) × (limits.text < length text) = λ p. (omega (arith, p.1, h.offset), p.2) in
      IsLowest-same _ (HasFault limits text i)
      (λ f has. subst (λ l. HasLineFault limits (PassesLimit limits text i) before l f) (sym next.at) (with_past limits _ _ before line to f has))
      (λ f has. with_past limits _ _ before line from f (subst (λ l. HasLineFault limits (PassesLimit limits text i) before l f) next.at has))
      found lowest

  pub HasNoLineFaultBefore-more : HasNoLineFaultBefore limits text i → IsLowest number_of (HasFault limits text i) None → HasNoLineFaultBefore limits text (i + 1)
  HasNoLineFaultBefore-more earlier none k fault l has = below_more (λ j. (f : Fault) → HasFault limits text j f → ⊥) i (λ j below f. earlier j f below) none k l fault has
