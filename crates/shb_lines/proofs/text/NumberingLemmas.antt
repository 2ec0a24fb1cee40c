-- What one event more does to owned names.
use Rattle.std.proofs.Common.{◌≡◌, ◌+◌, ◌≤◌, ℕ, List, [], ◌∷◌, ◌++◌, length, sym, ap, ◌∙◌, arith, length-append}
use Rattle.shb_lines.specs.declared.event.Kind.{Kind}
use Rattle.shb_lines.specs.declared.event.Kind.TheVariants as kinds
use Rattle.shb_lines.specs.declared.limits.Limits.{Limits}
use Rattle.shb_lines.specs.declared.numbering.Numbering.{Numbering}
use Rattle.shb_lines.specs.text.Numbering.{HasLastThread, HasNumbered, IsWithin, tables_of, with_names, with_operand, with_thread}
use Rattle.shb_lines.specs.text.Grammar.{NamedEvent}
use Rattle.shb_lines.specs.text.Numbers.{Tables, tables_of_events}
use Rattle.shb_lines.specs.text.Text.{locks_among, threads_among, threads_of, variables_among}
use Rattle.shb_lines.proofs.text.NameLemmas.{length-with_names_le}
use Rattle.shb_lines.proofs.text.TraceLemmas.{tables-push}

few_locks : (kind : Kind) (name : List ℕ) → length (locks_among kind name) ≤ 1
few_locks kinds.Acquire name = omega arith
few_locks _ name = omega arith

few_variables : (kind : Kind) (name : List ℕ) → length (variables_among kind name) ≤ 1
few_variables kinds.Read name = omega arith
few_variables _ name = omega arith

-- how many threads there are with those of one event more
pub threads_with : (before : List NamedEvent) (old : Numbering) (e : NamedEvent) → HasNumbered before old
    → length (threads_of (before ++ e ∷ [])) ≡ length (with_names old.threads (e.thread ∷ threads_among e.kind e.operand))
threads_with before old e h = ap (λ (t : Tables). length t.threads) (tables-push before e ∙ ap (λ t. with_operand (with_thread t e.thread) e.kind e.operand) (sym h.tables_are))

module _ (before : List NamedEvent) (old new : Numbering) (e : NamedEvent) (h : HasNumbered before old) (grown : tables_of new ≡ with_operand (with_thread (tables_of old) e.thread) e.kind e.operand) where
  tables_after : tables_of new ≡ tables_of_events (before ++ e ∷ [])
  tables_after = grown ∙ ap (λ t. with_operand (with_thread t e.thread) e.kind e.operand) h.tables_are ∙ sym (tables-push before e)

  pub numbered_after : new.events ≡ old.events + 1 → HasNumbered (before ++ e ∷ []) new
  numbered_after count = record { tables_are = tables_after; count_is = omega (arith, count, h.count_is, length-append before (e ∷ [])) }

module _ (limits : Limits) (old new : Numbering) (e : NamedEvent) (h : IsWithin limits old) (grown : tables_of new ≡ with_operand (with_thread (tables_of old) e.thread) e.kind e.operand) where
  pub within_after : new.events ≡ old.events + 1 → new.events ≤ limits.events → length new.threads ≤ limits.threads → HasLastThread new → IsWithin limits new
  within_after count few threads last = record {
    few = few;
    threads = threads;
    locks = omega (arith, count, h.locks, ap (λ (t : Tables). length t.locks) grown, length-with_names_le (locks_among e.kind e.operand) old.locks, few_locks e.kind e.operand);
    variables = omega (arith, count, h.variables, ap (λ (t : Tables). length t.variables) grown, length-with_names_le (variables_among e.kind e.operand) old.variables, few_variables e.kind e.operand);
    last = last;
  }
