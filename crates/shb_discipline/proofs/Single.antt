-- A trace and a text have at most one first fault.
use Rattle.std.proofs.lemmas.Grind.{common_steps}
use Rattle.std.proofs.Common.{◌≡◌, ◌+◌, ◌<◌, inl, inr, ℕ, List, [], ◌∷◌, Some, get_or, take, sym, ap, subst, ◌∙◌, arith}
use Rattle.std.specs.Prelude.{slice_get}
use Rattle.std.proofs.lemmas.Bool.{cases_order}
use Rattle.shb_lines.specs.declared.event.Event.{Event}
use Rattle.shb_lines.specs.declared.fault.Fault.{Fault}
use Rattle.shb_lines.specs.declared.fault.Fault.TheVariants as faults
use Rattle.shb_lines.specs.declared.limits.Limits.{Limits}
use Rattle.shb_lines.specs.events.Discipline.{IsDisciplined}
use Rattle.shb_lines.specs.text.Faults.{number_of}
use Rattle.shb_discipline.specs.Faults.{HasAnyFault, HasDisciplineFault, IsFirstDisciplineFault, IsFirstFault}
use Rattle.shb_discipline.proofs.Faultless.{no_fault}
use Rattle.shb_lines.specs.Lowest.{IsLowest}

-- the faults by their numbers; 0 and 11 are no fault's
abbrev by_number : List Fault
by_number =
    faults.TextTooLong ∷ faults.TextTooLong ∷ faults.LineTooLong ∷ faults.MissingField ∷ faults.EmptyThread ∷ faults.UnknownOperation ∷ faults.BadOperand ∷ faults.TooManyEvents ∷ faults.TooManyThreads
    ∷ faults.AfterJoin ∷ faults.LockHeld ∷ faults.TextTooLong ∷ faults.NotHeld ∷ faults.ForkSelf ∷ faults.ForkStarted ∷ faults.ForkTwice ∷ faults.ForkJoined ∷ faults.JoinSelf ∷ []

found : (f : Fault) → get_or by_number (number_of f) faults.TextTooLong ≡ f
found f = grind (arith, common_steps)

one_lowest : (Has : Fault → Type 0) (f g : Fault) → IsLowest number_of Has (Some f) → IsLowest number_of Has (Some g) → f ≡ g
one_lowest Has f g low_f low_g = grind (arith, common_steps, found)

module _ (trace : List Event) where
  pub disciplined_or_not : (line : ℕ) (f : Fault) → IsDisciplined trace → IsFirstDisciplineFault trace line f → ⊥
  disciplined_or_not line f disciplined first = no_fault (take first.position trace) first.event (disciplined first.position first.event first.at) f first.lowest.0

  not_earlier : (line other : ℕ) (f g : Fault) (a : IsFirstDisciplineFault trace line f) (b : IsFirstDisciplineFault trace other g) → a.position < b.position → ⊥
  not_earlier line other f g a b lt = no_fault (take a.position trace) a.event (b.earlier a.position a.event lt a.at) f a.lowest.0

  pub one_in_trace : (line other : ℕ) (f g : Fault) → IsFirstDisciplineFault trace line f → IsFirstDisciplineFault trace other g → (line ≡ other) × (f ≡ g)
  one_in_trace line other f g a b = elim (cases_order a.position b.position) [
    | inl same ↦ here same
    | inr differ ↦ elim differ [ inl low ↦ absurd (not_earlier line other f g a b low) | inr high ↦ absurd (not_earlier other line g f b a high) ]
  ]
    where
      here : a.position ≡ b.position → (line ≡ other) × (f ≡ g)
      here same =
          let both : Some a.event ≡ Some b.event = sym a.at ∙ (ap (slice_get trace) same ∙ b.at) in
          let event : a.event ≡ b.event = cc in
          let moved : IsLowest number_of (HasDisciplineFault (take b.position trace) b.event) (Some f) = subst (λ e. IsLowest number_of (HasDisciplineFault (take b.position trace) e) (Some f)) event (subst (λ p. IsLowest number_of (HasDisciplineFault (take p trace) a.event) (Some f)) same a.lowest) in
          (a.line_is ∙ (ap (λ e. e.line) event ∙ sym b.line_is), one_lowest (HasDisciplineFault (take b.position trace) b.event) f g moved b.lowest)

module _ (limits : Limits) (text : List ℕ) where
  pub one_in_text : (line other : ℕ) (f g : Fault) → IsFirstFault limits text line f → IsFirstFault limits text other g → (line ≡ other) × (f ≡ g)
  one_in_text line other f g a b = elim (cases_order a.before b.before) [
    | inl same ↦ (a.line_is ∙ (ap (λ n. n + 1) same ∙ sym b.line_is), one_lowest (HasAnyFault limits text b.before) f g (subst (λ i. IsLowest number_of (HasAnyFault limits text i) (Some f)) same a.lowest) b.lowest)
    | inr differ ↦ elim differ [ inl low ↦ absurd (b.earlier a.before f low a.lowest.0) | inr high ↦ absurd (a.earlier b.before g high b.lowest.0) ]
  ]
