-- The first fault of a text, from the faults of its lines and the discipline of its events.
use Rattle.std.proofs.lemmas.Grind.{common_steps}
use Rattle.std.proofs.Common.{◌≡◌, ◌⊎◌, inl, inr, ◌+◌, ◌-◌, ◌<◌, ◌≤◌, ℕ, zero, suc, List, [], ◌∷◌, ◌++◌, length, take, drop, Option, Some, None, slice_get, refl, sym, ap, subst, ◌∙◌, arith}
use Rattle.std.specs.List.{AllZip}
use Rattle.std.proofs.Math.Seq.{take-length}
use Rattle.std.proofs.lemmas.Bool.{cases_lt, cases_order}
use Rattle.std.proofs.lemmas.List.{length-take, take-take}
use Rattle.shb_lines.specs.declared.event.Event.{Event}
use Rattle.shb_lines.specs.declared.fault.Fault.{Fault}
use Rattle.shb_lines.specs.declared.limits.Limits.{Limits}
use Rattle.shb_lines.specs.declared.fault.LineFault.{LineFault}
use Rattle.shb_lines.specs.events.Discipline.{IsDisciplined}
use Rattle.shb_lines.specs.text.Faults.{HasLineFault, HasNoLineFaultBefore, IsFirstLineFault, PassesLimit, line_at, number_of}
use Rattle.shb_lines.specs.text.Grammar.{NamedEvent}
use Rattle.shb_lines.specs.text.Numbers.{IsEventOf, events_of}
use Rattle.shb_lines.specs.text.Text.{LocatedEvent, lines_of, trace_of}
use Rattle.shb_lines.specs.text.TraceData.{IsReadingOf, IsTraceOf, TraceData, tables_in}
use Rattle.shb_discipline.specs.Faults.{BreaksDiscipline, HasAnyFault, HasDisciplineFault, HasNoFault, HasNoFaultBefore, IsFirstDisciplineFault, IsFirstFault}
use Rattle.shb_discipline.proofs.Faultless.{may_come, no_fault}
use Rattle.shb_discipline.proofs.Lines.{line_bounds, lines_rise, located_from, trace_of-split}
use Rattle.shb_discipline.proofs.Numbering.{front_trace, one_trace}

-- indices in lists
AllZip-at : {A B : Type 0} (R : A → B → Type 0) (xs : List A) (ys : List B) (k : ℕ) (x : A) → AllZip R xs ys → slice_get xs k ≡ Some x → (y : B) × (slice_get ys k ≡ Some y) × R x y
AllZip-at R [] ys k x all at = absurd cc
AllZip-at R (z ∷ xs) [] k x all at = absurd all
AllZip-at R (z ∷ xs) (y ∷ ys) zero x all at = let same : z ≡ x = cc in (y, refl, subst (λ w. R w y) same all.0)
AllZip-at R (z ∷ xs) (y ∷ ys) (suc k) x all at = AllZip-at R xs ys k x all.1 at

in_take : {X : Type 0} (q : ℕ) (xs : List X) (k : ℕ) (x : X) → slice_get (take q xs) k ≡ Some x → (k < q) × (slice_get xs k ≡ Some x)
in_take zero xs k x at = absurd cc
in_take (suc q) [] k x at = absurd cc
in_take (suc q) (z ∷ xs) zero x at = (omega arith, at)
in_take (suc q) (z ∷ xs) (suc k) x at = let h = in_take q xs k x at in (omega (arith, h.0), h.1)

to_take : {X : Type 0} (q : ℕ) (xs : List X) (k : ℕ) (x : X) → k < q → slice_get xs k ≡ Some x → slice_get (take q xs) k ≡ Some x
to_take zero xs k x lt at = absurd (omega arith)
to_take (suc q) [] k x lt at = absurd cc
to_take (suc q) (z ∷ xs) zero x lt at = at
to_take (suc q) (z ∷ xs) (suc k) x lt at = to_take q xs k x (omega arith) at

past_append : {X : Type 0} (xs ys : List X) (k : ℕ) (x : X) → length xs ≤ k → slice_get (xs ++ ys) k ≡ Some x → (i : ℕ) × (slice_get ys i ≡ Some x)
past_append [] ys k x le at = (k, at)
past_append (z ∷ xs) ys zero x le at = absurd (omega arith)
past_append (z ∷ xs) ys (suc k) x le at = past_append xs ys k x (omega arith) at

-- a line's faults have the lower numbers
discipline_number : (past : List Event) (e : Event) (f : Fault) → HasDisciplineFault past e f → 9 ≤ number_of f
discipline_number past e f h = grind (arith, common_steps)

line_number : (limits : Limits) (passes : Type 0) (before : List NamedEvent) (line : List ℕ) (f : Fault) → HasLineFault limits passes before line f → number_of f ≤ 8
line_number limits passes before line f h = grind (arith, common_steps)

-- the trace of the first m lines
module _ (text : List ℕ) (m : ℕ) (trace : TraceData) (h : IsTraceOf (take m (lines_of text)) trace) where
  abbrev lines : List (List ℕ)
  lines = take m (lines_of text)

  located_at : (p : ℕ) (e : Event) → slice_get trace.events p ≡ Some e → (l : LocatedEvent) × (slice_get (trace_of lines) p ≡ Some l) × (e.line ≡ l.line)
  located_at p e at = let found = AllZip-at (IsEventOf (tables_in trace)) trace.events (trace_of lines) p e h.events_are at in (found.0, found.1, found.2.line_is)

  line_within : (p : ℕ) (e : Event) → slice_get trace.events p ≡ Some e → (1 ≤ e.line) × (e.line < 1 + length lines)
  line_within p e at = grind (arith, common_steps, located_at, line_bounds)

  line_rises : (p q : ℕ) (e d : Event) → slice_get trace.events p ≡ Some e → slice_get trace.events q ≡ Some d → p < q → e.line < d.line
  line_rises p q e d at_p at_q lt = grind (arith, common_steps, located_at, lines_rise)

  same_index : (p q : ℕ) (e d : Event) → slice_get trace.events p ≡ Some e → slice_get trace.events q ≡ Some d → e.line ≡ d.line → p ≡ q
  same_index p q e d at_p at_q same = elim (cases_order p q) [
    | inl is ↦ is
    | inr other ↦ elim other [
      | inl low ↦ absurd (let rise = line_rises p q e d at_p at_q low in omega (arith, rise, same))
      | inr high ↦ absurd (let rise = line_rises q p d e at_q at_p high in omega (arith, rise, same))
    ]
  ]

  earlier_index : (p q : ℕ) (e d : Event) → slice_get trace.events p ≡ Some e → slice_get trace.events q ≡ Some d → e.line < d.line → p < q
  earlier_index p q e d at_p at_q lt = elim (cases_lt p q) [
    | inl low ↦ low
    | inr le ↦ absurd (go (cases_lt q p) le)
  ]
    where
      go : (q < p) ⊎ (p ≤ q) → q ≤ p → ⊥
      go (inl high) le = let rise = line_rises q p d e at_q at_p high in omega (arith, rise, lt)
      go (inr back) le =
          let same : p ≡ q = omega arith in
          let one : Some e ≡ Some d = sym at_p ∙ (ap (slice_get trace.events) same ∙ at_q) in
          let line : e.line ≡ d.line = cc in
          omega (arith, line, lt)

  -- how many events the lines up to line j have
  abbrev count_to : ℕ → ℕ
  count_to j = length (trace_of (take (j + 1) lines))

  front : (j : ℕ) → j < m → (other : TraceData) × IsTraceOf (take (j + 1) (lines_of text)) other × (other.events ≡ take (count_to j) trace.events)
  front j lt =
      let found = front_trace lines (take (j + 1) lines) _ trace (trace_of-split (j + 1) lines) h in
      (found.0, subst (λ ls. IsTraceOf ls found.0) (take-take (j + 1) m (lines_of text) (omega arith)) found.1, found.2)

  -- a line that breaks the discipline has its event in the trace
  broken : (j : ℕ) (f : Fault) → j < m → BreaksDiscipline text j f → (p : ℕ) × (e : Event) × (slice_get trace.events p ≡ Some e) × (e.line ≡ j + 1) × HasDisciplineFault (take p trace.events) e f
  broken j f lt b =
      let other = front j lt in
      let same : b.trace.events ≡ take (count_to j) trace.events = one_trace (take (j + 1) (lines_of text)) b.trace other.0 b.numbered other.1 ∙ other.2 in
      let there = in_take (count_to j) trace.events b.position b.event (subst (λ es. slice_get es b.position ≡ Some b.event) same b.at) in
      let past : take b.position b.trace.events ≡ take b.position trace.events = ap (take b.position) same ∙ take-take b.position (count_to j) trace.events (let low = there.0 in omega (arith, low)) in
      (b.position, b.event, there.1, b.on_line, subst (λ es. HasDisciplineFault es b.event f) past b.has)

  -- and an event of the trace that has a fault makes its line break the discipline
  breaks : (p : ℕ) (e : Event) (f : Fault) (j : ℕ) → slice_get trace.events p ≡ Some e → e.line ≡ j + 1 → HasDisciplineFault (take p trace.events) e f → BreaksDiscipline text j f
  breaks p e f j at on_line has =
      let other = front j few in
      record {
        trace = other.0;
        numbered = other.1;
        position = p;
        event = e;
        at = subst (λ es. slice_get es p ≡ Some e) (sym other.2) (to_take (count_to j) trace.events p e low at);
        on_line = on_line;
        has = subst (λ es. HasDisciplineFault es e f) (sym (ap (take p) other.2 ∙ take-take p (count_to j) trace.events (omega (arith, low)))) has;
      }
    where
      few : j < m
      few =
          let bounds = line_within p e at in
          let size = length-take m (lines_of text) in
          omega (arith, bounds.1, size, on_line)

      beyond : length (trace_of (take (j + 1) lines)) ≤ p → ⊥
      beyond le =
          let l = located_at p e at in
          let later = past_append (trace_of (take (j + 1) lines)) (located_from (1 + length (take (j + 1) lines)) (drop (j + 1) lines)) p l.0 le (subst (λ ls. slice_get ls p ≡ Some l.0) (trace_of-split (j + 1) lines) l.1) in
          let bounds = line_bounds (1 + length (take (j + 1) lines)) (drop (j + 1) lines) later.0 l.0 later.1 in
          let size = length-take (j + 1) lines in
          let most = line_within p e at in
          omega (arith, bounds.0, size, l.2, on_line, most.1)

      low : p < count_to j
      low = elim (cases_lt p (length (trace_of (take (j + 1) lines)))) [ inl lt ↦ lt | inr le ↦ absurd (beyond le) ]

  module _ (limits : Limits) (faultless : HasNoLineFaultBefore limits text m) where
    -- a disciplined trace is of lines with no fault
    pub disciplined_lines : IsDisciplined trace.events → HasNoFaultBefore limits text m
    disciplined_lines disciplined k f lt (inl line_fault) = faultless k f lt line_fault
    disciplined_lines disciplined k f lt (inr b) =
        let found = broken k f lt b in
        no_fault (take found.0 trace.events) found.1 (disciplined found.0 found.1 found.2) f found.4

    -- the first fault of the discipline is that of the text
    first_on_line : (line : ℕ) (f : Fault) (first : IsFirstDisciplineFault trace.events line f) (j : ℕ) → first.event.line ≡ j + 1 → IsFirstFault limits text line f
    first_on_line line f first j on_line = record {
      before = j;
      line_is = first.line_is ∙ on_line;
      within = (let bounds = line_within first.position first.event first.at in let size = length-take m (lines_of text) in omega (arith, bounds.1, size, on_line));
      lowest = (inr (breaks first.position first.event f j first.at on_line first.lowest.0), lower);
      earlier = earlier;
    }
      where
        few : j < m
        few =
            let bounds = line_within first.position first.event first.at in
            let size = length-take m (lines_of text) in
            omega (arith, bounds.1, size, on_line)

        lower : (other : Fault) → HasAnyFault limits text j other → number_of f ≤ number_of other
        lower other (inl line_fault) = absurd (faultless j other few line_fault)
        lower other (inr b) =
            let found = broken j other few b in
            let index : found.0 ≡ first.position = same_index found.0 first.position found.1 first.event found.2 first.at (found.3 ∙ sym on_line) in
            let one : Some found.1 ≡ Some first.event = sym found.2 ∙ (ap (slice_get trace.events) index ∙ first.at) in
            let event : found.1 ≡ first.event = cc in
            first.lowest.1 other (subst (λ e. HasDisciplineFault (take first.position trace.events) e other) event (subst (λ p. HasDisciplineFault (take p trace.events) found.1 other) index found.4))

        earlier : HasNoFaultBefore limits text j
        earlier k other lt (inl line_fault) = faultless k other (omega (arith, few)) line_fault
        earlier k other lt (inr b) =
            let found = broken k other (omega (arith, few)) b in
            let index = earlier_index found.0 first.position found.1 first.event found.2 first.at (let line = found.3 in omega (arith, line, on_line)) in
            no_fault (take found.0 trace.events) found.1 (first.earlier found.0 found.1 index found.2) other found.4

    pub first_of_discipline : (line : ℕ) (f : Fault) → IsFirstDisciplineFault trace.events line f → IsFirstFault limits text line f
    first_of_discipline line f first = first_on_line line f first (first.event.line - 1) (let bounds = line_within first.position first.event first.at in omega (arith, bounds.0))

  -- the first fault of the lines, where the events before it are disciplined
  pub first_of_lines : (limits : Limits) (line : ℕ) (f : Fault) → line ≡ m + 1 → IsFirstLineFault limits text m f → IsDisciplined trace.events → IsFirstFault limits text line f
  first_of_lines limits line f line_is first disciplined = record {
    before = m;
    line_is = line_is;
    within = first.within;
    lowest = (inl first.lowest.0, lower);
    earlier = disciplined_lines limits first.earlier disciplined;
  }
    where
      lower : (other : Fault) → HasAnyFault limits text m other → number_of f ≤ number_of other
      lower other (inl line_fault) = first.lowest.1 other line_fault
      lower other (inr b) =
          let low = line_number limits (PassesLimit limits text m) (events_of (take m (lines_of text))) (line_at limits text m) f first.lowest.0 in
          let high = discipline_number (take b.position b.trace.events) b.event other b.has in
          omega (arith, low, high)

whole : (text : List ℕ) (trace : TraceData) → IsTraceOf (lines_of text) trace → IsTraceOf (take (length (lines_of text)) (lines_of text)) trace
whole text trace h = subst (λ ls. IsTraceOf ls trace) (sym (take-length (lines_of text))) h

-- what the reading of a text and the check of its events give
pub undisciplined : (limits : Limits) (text : List ℕ) (trace : TraceData) (stop : Option LineFault) (line : ℕ) (f : Fault) → IsReadingOf limits text trace stop → IsFirstDisciplineFault trace.events line f → IsFirstFault limits text line f
undisciplined limits text trace None line f reading first = first_of_discipline text (length (lines_of text)) trace (whole text trace reading.1) limits reading.0 line f first
undisciplined limits text trace (Some stop) line f reading first = first_of_discipline text reading.0 trace reading.3 limits reading.2.earlier line f first

pub stopped : (limits : Limits) (text : List ℕ) (trace : TraceData) (stop : LineFault) → IsReadingOf limits text trace (Some stop) → IsDisciplined trace.events → IsFirstFault limits text stop.line stop.fault
stopped limits text trace stop reading disciplined = first_of_lines text reading.0 trace reading.3 limits stop.line stop.fault reading.1 reading.2 disciplined

pub accepted : (limits : Limits) (text : List ℕ) (trace : TraceData) → IsReadingOf limits text trace None → IsDisciplined trace.events → HasNoFault limits text × IsTraceOf (lines_of text) trace
accepted limits text trace reading disciplined = (disciplined_lines text (length (lines_of text)) trace (whole text trace reading.1) limits reading.0 disciplined, reading.1)

-- a text with no fault has a disciplined trace
pub faultless_disciplined : (limits : Limits) (text : List ℕ) (trace : TraceData) → HasNoFault limits text → IsTraceOf (lines_of text) trace → IsDisciplined trace.events
faultless_disciplined limits text trace none h = λ p e at.
    let m = length (lines_of text) in
    let front = whole text trace h in
    let bounds = line_within text m trace front p e at in
    let on_line : e.line ≡ (e.line - 1) + 1 = omega (arith, bounds.0) in
    let few : e.line - 1 < m = omega (arith, bounds.0, bounds.1, length-take m (lines_of text)) in
    may_come (take p trace.events) e (λ f has. none (e.line - 1) f few (inr (breaks text m trace front p e f (e.line - 1) at on_line has)))
