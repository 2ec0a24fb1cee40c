-- What one line more does to a trace.
use Rattle.std.proofs.lemmas.Grind.{common_steps}
use Rattle.std.proofs.Common.{◌≡◌, ◌+◌, ℕ, List, [], ◌∷◌, ◌++◌, length, None, Some, Ok, sym, ap, ◌∙◌, arith, append-nil, add-zero}
use Rattle.std.specs.List.{AllZip, enumerate_from, filter_map, flat_map, cons_option}
use Rattle.std.specs.Str.Lines.{strip_carriage_return}
use Rattle.std.proofs.lemmas.List.Elements.{filter_map-append}
use Rattle.std.proofs.lemmas.List.Sums.{fold-append}
use Rattle.std.proofs.lemmas.Grind.{flat_map-append}
use Rattle.shb_lines.specs.declared.event.Event.{Event}
use Rattle.shb_lines.specs.declared.event.Kind.{Kind}
use Rattle.shb_lines.specs.declared.event.Op.{Op}
use Rattle.shb_lines.specs.declared.event.Op.TheVariants as ops
use Rattle.shb_lines.specs.text.Numbering.{with_names, with_operand, with_thread}
use Rattle.shb_lines.specs.text.Grammar.{NamedEvent}
use Rattle.shb_lines.specs.text.Meaning.{meaning}
use Rattle.shb_lines.specs.text.Text.{LocatedEvent, event_on, located, locks_among, table_of, threads_among, trace_of, variables_among, with_name}
use Rattle.shb_lines.specs.text.Numbers.{IsEventOf, IsOperation, Tables, tables_of_events}
use Rattle.shb_lines.proofs.text.NameLemmas.{slice_get-with_name, slice_get-with_names}

pub enumerate_from-push : {X : Type 0} (n : ℕ) (xs : List X) (x : X) → enumerate_from n (xs ++ x ∷ []) ≡ enumerate_from n xs ++ (n + length xs, x) ∷ []
enumerate_from-push n [] x = ap (λ k. (k, x) ∷ []) (sym (add-zero n))
enumerate_from-push n (y ∷ xs) x =
    ap (λ rest. (n, y) ∷ rest) (enumerate_from-push (n + 1) xs x ∙ ap (λ k. enumerate_from (n + 1) xs ++ (k, x) ∷ []) (omega arith))

-- the last line gives the last event, if it gives one
pub trace_of-push : (lines : List (List ℕ)) (line : List ℕ) → trace_of (lines ++ line ∷ []) ≡ trace_of lines ++ cons_option (event_on (1 + length lines, line)) []
trace_of-push lines line =
    ap (filter_map event_on) (enumerate_from-push 1 lines line) ∙ filter_map-append event_on (enumerate_from 1 lines) ((1 + length lines, line) ∷ [])

pub trace_of-none : (lines : List (List ℕ)) (line : List ℕ) → meaning (strip_carriage_return line) ≡ Ok None → trace_of (lines ++ line ∷ []) ≡ trace_of lines
trace_of-none lines line none =
    trace_of-push lines line ∙ ap (λ m. trace_of lines ++ cons_option (located (1 + length lines) (strip_carriage_return line) m) []) none ∙ append-nil (trace_of lines)

pub trace_of-some : (lines : List (List ℕ)) (line : List ℕ) (e : NamedEvent) → meaning (strip_carriage_return line) ≡ Ok (Some e)
    → trace_of (lines ++ line ∷ []) ≡ trace_of lines ++ record { line = 1 + length lines; text = strip_carriage_return line; event = e } ∷ []
trace_of-some lines line e some =
    trace_of-push lines line ∙ ap (λ m. trace_of lines ++ cons_option (located (1 + length lines) (strip_carriage_return line) m) []) some

-- a table with the names of one event more
table-push : (f : NamedEvent → List (List ℕ)) (events : List NamedEvent) (e : NamedEvent) → table_of (flat_map f (events ++ e ∷ [])) ≡ with_names (table_of (flat_map f events)) (f e)
table-push f events e =
    ap table_of (flat_map-append f events (e ∷ []) ∙ ap (λ names. flat_map f events ++ names) (append-nil (f e))) ∙ fold-append with_name [] (flat_map f events) (f e)

pub tables-push : (events : List NamedEvent) (e : NamedEvent) → tables_of_events (events ++ e ∷ []) ≡ with_operand (with_thread (tables_of_events events) e.thread) e.kind e.operand
tables-push events e = grind (arith, common_steps, table-push)

-- numbers stay when names are put last
IsOperation-more : (tables : Tables) (thread : List ℕ) (kind : Kind) (operand : List ℕ) (op : Op) (k : Kind) (name : List ℕ) → IsOperation tables op k name → IsOperation (with_operand (with_thread tables thread) kind operand) op k name
IsOperation-more tables thread kind operand (ops.Read n) k name h = (h.0, slice_get-with_names (variables_among kind operand) tables.variables name n h.1)
IsOperation-more tables thread kind operand (ops.Write n) k name h = (h.0, slice_get-with_names (variables_among kind operand) tables.variables name n h.1)
IsOperation-more tables thread kind operand (ops.Acquire n) k name h = (h.0, slice_get-with_names (locks_among kind operand) tables.locks name n h.1)
IsOperation-more tables thread kind operand (ops.Release n) k name h = (h.0, slice_get-with_names (locks_among kind operand) tables.locks name n h.1)
IsOperation-more tables thread kind operand (ops.Fork n) k name h = (h.0, slice_get-with_names (threads_among kind operand) (with_name tables.threads thread) name n (slice_get-with_name tables.threads thread name n h.1))
IsOperation-more tables thread kind operand (ops.Join n) k name h = (h.0, slice_get-with_names (threads_among kind operand) (with_name tables.threads thread) name n (slice_get-with_name tables.threads thread name n h.1))
IsOperation-more tables thread kind operand ops.BeginMark k name h = h
IsOperation-more tables thread kind operand ops.EndMark k name h = h

pub IsEventOf-more : (tables : Tables) (thread : List ℕ) (kind : Kind) (operand : List ℕ) (event : Event) (e : LocatedEvent) → IsEventOf tables event e → IsEventOf (with_operand (with_thread tables thread) kind operand) event e
IsEventOf-more tables thread kind operand event e h = grind (arith, common_steps, slice_get-with_names, slice_get-with_name, IsOperation-more)

pub AllZip-push : {A B : Type 0} (R Q : A → B → Type 0) → ((a : A) (b : B) → R a b → Q a b) → (xs : List A) (ys : List B) (x : A) (y : B) → AllZip R xs ys → Q x y → AllZip Q (xs ++ x ∷ []) (ys ++ y ∷ [])
AllZip-push R Q weaker [] [] x y all last = (last, tt)
AllZip-push R Q weaker [] (b ∷ ys) x y all last = absurd all
AllZip-push R Q weaker (a ∷ xs) [] x y all last = absurd all
AllZip-push R Q weaker (a ∷ xs) (b ∷ ys) x y all last = (weaker a b all.0, AllZip-push R Q weaker xs ys x y all.1 last)
