-- Which fault of a line is the lowest.
use Rattle.std.proofs.Common.{◌≡◌, ◌+◌, ◌<◌, ◌≤◌, ℕ, Bool, true, false, cond, List, [], ◌∷◌, ◌++◌, length, Option, None, Some, Ok, Err, refl, ap, subst, arith}
use Rattle.std.specs.Str.Lines.{strip_carriage_return}
use Rattle.shb_lines.specs.declared.fault.Fault.{Fault}
use Rattle.shb_lines.specs.declared.fault.Fault.TheVariants as faults
use Rattle.shb_lines.specs.declared.event.Kind.{Kind}
use Rattle.shb_lines.specs.declared.limits.Limits.{Limits}
use Rattle.shb_lines.specs.text.Grammar.{NamedEvent, Meaning}
use Rattle.shb_lines.specs.text.Meaning.{event_with, meaning, meaning_with, operation_meaning}
use Rattle.shb_lines.specs.text.Text.{threads_of}
use Rattle.shb_lines.specs.text.Faults.{HasLineFault, number_of}
use Rattle.shb_lines.specs.Lowest.{IsLowest}

-- the faults that the bytes of a line show
abbrev IsOfGrammar : Fault → Type 0
IsOfGrammar faults.MissingField = Unit {0}
IsOfGrammar faults.EmptyThread = Unit {0}
IsOfGrammar faults.UnknownOperation = Unit {0}
IsOfGrammar faults.BadOperand = Unit {0}
IsOfGrammar _ = ⊥

same_fault : (f g : Fault) (m : Meaning) → m ≡ Err f → m ≡ Err g → f ≡ g
same_fault f g m p q = cc

of_event : (thread : List ℕ) (kind : Kind) (operand : Option (List ℕ)) (f : Fault) → event_with thread kind operand ≡ Err f → IsOfGrammar f
of_event thread kind None f e = subst IsOfGrammar (same_fault faults.BadOperand f (Err faults.BadOperand) refl e) tt
of_event thread kind (Some operand) f e = absurd cc

of_operation : (thread : List ℕ) (kind : Option Kind) (call : List ℕ) (f : Fault) → meaning_with thread kind call ≡ Err f → IsOfGrammar f
of_operation thread None call f e = subst IsOfGrammar (same_fault faults.UnknownOperation f (Err faults.UnknownOperation) refl e) tt
of_operation thread (Some kind) call f e = of_event thread kind _ f e

of_line : (empty bare unnamed : Bool) (rest : Meaning) (f : Fault) → (rest ≡ Err f → IsOfGrammar f) → cond empty (Ok None) (cond bare (Err faults.MissingField) (cond unnamed (Err faults.EmptyThread) rest)) ≡ Err f → IsOfGrammar f
of_line true bare unnamed rest f h e = absurd cc
of_line false true unnamed rest f h e = subst IsOfGrammar (same_fault faults.MissingField f (Err faults.MissingField) refl e) tt
of_line false false true rest f h e = subst IsOfGrammar (same_fault faults.EmptyThread f (Err faults.EmptyThread) refl e) tt
of_line false false false rest f h e = h e

meaning_of_grammar : (line : List ℕ) (f : Fault) → meaning line ≡ Err f → IsOfGrammar f
unfolding meaning operation_meaning
meaning_of_grammar line f e = of_line _ _ _ _ f (of_operation _ _ _ f) e

module _ (limits : Limits) (past : Type 0) (before : List NamedEvent) (line : List ℕ) where
  abbrev Has : Fault → Type 0
  Has fault = HasLineFault limits past before line fault

  least : (g : Fault) → 1 ≤ number_of g
  least faults.TextTooLong = omega arith
  least _ = omega arith

  pub text_too_long : past → IsLowest number_of Has (Some faults.TextTooLong)
  text_too_long p = (p, λ g _. least g)

  module _ (inside : past → ⊥) where
    module _ (short : length line ≤ limits.line) where
      -- a fault that is neither of the two above is one of the grammar, or of the event that the line gives
      data Later (g : Fault) : Type 0 where
        of_bytes : meaning (strip_carriage_return line) ≡ Err g → Later g
        of_events : (e : NamedEvent) → meaning (strip_carriage_return line) ≡ Ok (Some e) → g ≡ faults.TooManyEvents → limits.events < length before + 1 → Later g
        of_threads : (e : NamedEvent) → meaning (strip_carriage_return line) ≡ Ok (Some e) → g ≡ faults.TooManyThreads → limits.threads < length (threads_of (before ++ e ∷ [])) → Later g

      later : (g : Fault) → Has g → Later g
      later faults.TextTooLong h = absurd (inside h)
      later faults.LineTooLong h = absurd (omega arith)
      later faults.MissingField h = of_bytes h
      later faults.EmptyThread h = of_bytes h
      later faults.UnknownOperation h = of_bytes h
      later faults.BadOperand h = of_bytes h
      later faults.TooManyEvents h = of_events h.0 h.1 refl h.2
      later faults.TooManyThreads h = of_threads h.0 h.1 refl h.2
      later _ h = absurd h

      has_refused : (f : Fault) → meaning (strip_carriage_return line) ≡ Err f → Has f
      has_refused faults.MissingField e = e
      has_refused faults.EmptyThread e = e
      has_refused faults.UnknownOperation e = e
      has_refused faults.BadOperand e = e
      has_refused f e = absurd (meaning_of_grammar _ f e)

      refused_first : (f g : Fault) → meaning (strip_carriage_return line) ≡ Err f → Later g → number_of f ≤ number_of g
      refused_first f g e (of_bytes h) = omega (arith, ap number_of (same_fault f g _ e h))
      refused_first f g e (of_events other gives is many) = absurd cc
      refused_first f g e (of_threads other gives is many) = absurd cc

      pub refused : (f : Fault) → meaning (strip_carriage_return line) ≡ Err f → IsLowest number_of Has (Some f)
      refused f e = (has_refused f e, λ g h. refused_first f g e (later g h))

      module _ (e : NamedEvent) (gives : meaning (strip_carriage_return line) ≡ Ok (Some e)) where
        same_event : (other : NamedEvent) (m : Meaning) → m ≡ Ok (Some e) → m ≡ Ok (Some other) → other ≡ e
        same_event other m p q = cc

        many_threads : (other : NamedEvent) → meaning (strip_carriage_return line) ≡ Ok (Some other) → limits.threads < length (threads_of (before ++ other ∷ [])) → limits.threads < length (threads_of (before ++ e ∷ []))
        many_threads other also many = subst (λ (x : NamedEvent). limits.threads < length (threads_of (before ++ x ∷ []))) (same_event other _ gives also) many

        after_grammar : (g : Fault) → Later g → 7 ≤ number_of g
        after_grammar g (of_bytes h) = absurd cc
        after_grammar g (of_events other also is many) = omega (arith, ap number_of is)
        after_grammar g (of_threads other also is many) = omega (arith, ap number_of is)

        pub too_many_events : limits.events < length before + 1 → IsLowest number_of Has (Some faults.TooManyEvents)
        too_many_events many = ((e, gives, many), λ g h. after_grammar g (later g h))

        module _ (few : length before + 1 ≤ limits.events) where
          not_events : (g : Fault) → Later g → 8 ≤ number_of g
          not_events g (of_bytes h) = absurd cc
          not_events g (of_events other also is many) = absurd (omega arith)
          not_events g (of_threads other also is many) = omega (arith, ap number_of is)

          pub too_many_threads : limits.threads < length (threads_of (before ++ e ∷ [])) → IsLowest number_of Has (Some faults.TooManyThreads)
          too_many_threads many = ((e, gives, many), λ g h. not_events g (later g h))

          nothing_later : (g : Fault) → length (threads_of (before ++ e ∷ [])) ≤ limits.threads → Later g → ⊥
          nothing_later g fewer (of_bytes h) = cc
          nothing_later g fewer (of_events other also is many) = omega arith
          nothing_later g fewer (of_threads other also is many) = omega (arith, many_threads other also many)

          pub accepted : length (threads_of (before ++ e ∷ [])) ≤ limits.threads → IsLowest number_of Has None
          accepted fewer g h = nothing_later g fewer (later g h)
