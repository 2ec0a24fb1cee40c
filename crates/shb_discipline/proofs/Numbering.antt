-- The lines of a trace number their names in one way, and the front of a trace is the trace of the front of its lines.
use Rattle.std.proofs.lemmas.Grind.{common_steps}
use Rattle.std.proofs.Common.{◌≡◌, ◌⊎◌, inl, inr, ℕ, List, [], ◌∷◌, ◌++◌, length, map, take, Some, slice_get, refl, sym, ap, subst, ◌∙◌, arith}
use Rattle.std.specs.List.{AllZip, flat_map, position_or_len}
use Rattle.std.specs.Str.{bytes_eq}
use Rattle.std.proofs.lemmas.Grind.{flat_map-append}
use Rattle.std.proofs.lemmas.List.{map-append}
use Rattle.std.proofs.lemmas.List.Concat.{flat_map-cons}
use Rattle.std.proofs.lemmas.List.Sums.{fold-append}
use Rattle.shb_lines.specs.declared.event.Event.{Event}
use Rattle.shb_lines.specs.declared.event.Kind.{Kind}
use Rattle.shb_lines.specs.declared.event.Kind.TheVariants as kinds
use Rattle.shb_lines.specs.declared.event.Op.{Op}
use Rattle.shb_lines.specs.declared.event.Op.TheVariants as ops
use Rattle.shb_lines.specs.text.Numbering.{with_names}
use Rattle.shb_lines.specs.text.Grammar.{NamedEvent}
use Rattle.shb_lines.specs.text.Text.{LocatedEvent, locks_among, table_of, threads_among, trace_of, variables_among, with_name}
use Rattle.shb_lines.specs.text.Numbers.{IsEventOf, IsNumbered, IsOperation, Tables, events_of, op_for, tables_of_events}
use Rattle.shb_lines.specs.text.TraceData.{IsTraceOf, TraceData, tables_in}
use Rattle.shb_lines.proofs.text.NameLemmas.{slice_get-with_names, with_name-at}
use Rattle.shb_lines.proofs.text.Numbers.{IsDistinct-table_of, one_number}

-- x is one of these
abbrev Has : {X : Type 0} → List X → X → Type 0
Has [] x = ⊥
Has (y ∷ ys) x = (y ≡ x) ⊎ Has ys x

has_left : {X : Type 0} (xs ys : List X) (x : X) → Has xs x → Has (xs ++ ys) x
has_left [] ys x h = absurd h
has_left (z ∷ xs) ys x (inl is) = inl is
has_left (z ∷ xs) ys x (inr h) = inr (has_left xs ys x h)

has_right : {X : Type 0} (xs ys : List X) (x : X) → Has ys x → Has (xs ++ ys) x
has_right [] ys x h = h
has_right (z ∷ xs) ys x h = inr (has_right xs ys x h)

has_flat_map : {X Y : Type 0} (f : X → List Y) (xs : List X) (x : X) (y : Y) → Has xs x → Has (f x) y → Has (flat_map f xs) y
has_flat_map f [] x y h c = absurd h
has_flat_map {X} {Y} f (z ∷ xs) x y (inl is) c = rw (flat_map-cons f z xs) (has_left (f z) (flat_map f xs) y (subst (λ (w : X). Has (f w) y) (sym is) c))
has_flat_map f (z ∷ xs) x y (inr h) c = rw (flat_map-cons f z xs) (has_right (f z) (flat_map f xs) y (has_flat_map f xs x y h c))

-- each name has a number in the table
in_names : (names table : List (List ℕ)) (name : List ℕ) → Has names name → (m : ℕ) × (slice_get (with_names table names) m ≡ Some name)
in_names [] table name h = absurd h
in_names (first ∷ names) table name (inl is) = (position_or_len (bytes_eq first) table, slice_get-with_names names (with_name table first) name _ (with_name-at table first ∙ ap (λ n. Some n) is))
in_names (first ∷ names) table name (inr h) = in_names names (with_name table first) name h

-- a name of the front has the number that it has among all names
front_number : (f : NamedEvent → List (List ℕ)) (front rest : List NamedEvent) (e : NamedEvent) (name : List ℕ) (n : ℕ) → Has front e → Has (f e) name
    → slice_get (table_of (flat_map f (front ++ rest))) n ≡ Some name → slice_get (table_of (flat_map f front)) n ≡ Some name
front_number f front rest e name n h c at =
    let found = in_names (flat_map f front) [] name (has_flat_map f front e name h c) in
    let whole : table_of (flat_map f (front ++ rest)) ≡ with_names (table_of (flat_map f front)) (flat_map f rest) = ap table_of (flat_map-append f front rest) ∙ fold-append with_name [] (flat_map f front) (flat_map f rest) in
    let kept : slice_get (table_of (flat_map f (front ++ rest))) found.0 ≡ Some name = rw whole (slice_get-with_names (flat_map f rest) (table_of (flat_map f front)) name found.0 found.1) in
    let same : found.0 ≡ n = one_number (table_of (flat_map f (front ++ rest))) name found.0 n (IsDistinct-table_of (flat_map f (front ++ rest))) kept at in
    subst (λ k. slice_get (table_of (flat_map f front)) k ≡ Some name) same found.1

abbrev threads_in : NamedEvent → List (List ℕ)
threads_in e = e.thread ∷ threads_among e.kind e.operand

abbrev locks_in : NamedEvent → List (List ℕ)
locks_in e = locks_among e.kind e.operand

abbrev variables_in : NamedEvent → List (List ℕ)
variables_in e = variables_among e.kind e.operand

module _ (front rest : List NamedEvent) (e : NamedEvent) (h : Has front e) where
  front_operation : (op : Op) → IsOperation (tables_of_events (front ++ rest)) op e.kind e.operand → IsOperation (tables_of_events front) op e.kind e.operand
  front_operation (ops.Read n) is = (is.0, front_number variables_in front rest e e.operand n h (subst (λ k. Has (variables_among k e.operand) e.operand) (sym is.0) (inl refl)) is.1)
  front_operation (ops.Write n) is = (is.0, front_number variables_in front rest e e.operand n h (subst (λ k. Has (variables_among k e.operand) e.operand) (sym is.0) (inl refl)) is.1)
  front_operation (ops.Acquire n) is = (is.0, front_number locks_in front rest e e.operand n h (subst (λ k. Has (locks_among k e.operand) e.operand) (sym is.0) (inl refl)) is.1)
  front_operation (ops.Release n) is = (is.0, front_number locks_in front rest e e.operand n h (subst (λ k. Has (locks_among k e.operand) e.operand) (sym is.0) (inl refl)) is.1)
  front_operation (ops.Fork n) is = (is.0, front_number threads_in front rest e e.operand n h (inr (subst (λ k. Has (threads_among k e.operand) e.operand) (sym is.0) (inl refl))) is.1)
  front_operation (ops.Join n) is = (is.0, front_number threads_in front rest e e.operand n h (inr (subst (λ k. Has (threads_among k e.operand) e.operand) (sym is.0) (inl refl))) is.1)
  front_operation ops.BeginMark is = is
  front_operation ops.EndMark is = is

  front_numbered : (event : Event) → IsNumbered (tables_of_events (front ++ rest)) event e → IsNumbered (tables_of_events front) event e
  front_numbered event is = record {
    thread = front_number threads_in front rest e e.thread event.thread h (inl refl) is.thread;
    operation = front_operation event.op is.operation;
  }

-- the events of the front of some lines
AllZip-front : {A B : Type 0} (R : A → B → Type 0) (xs : List A) (front rest : List B) → AllZip R xs (front ++ rest) → AllZip R (take (length front) xs) front
AllZip-front R xs [] rest all = tt
AllZip-front R [] (b ∷ front) rest all = absurd all
AllZip-front R (a ∷ xs) (b ∷ front) rest all = (all.0, AllZip-front R xs front rest all.1)

AllZip-among : {A B : Type 0} (R Q : A → B → Type 0) (xs : List A) (ys : List B) → ((a : A) (b : B) → Has ys b → R a b → Q a b) → AllZip R xs ys → AllZip Q xs ys
AllZip-among R Q [] [] to all = tt
AllZip-among R Q [] (b ∷ ys) to all = absurd all
AllZip-among R Q (a ∷ xs) [] to all = absurd all
AllZip-among R Q (a ∷ xs) (b ∷ ys) to all = (to a b (inl refl) all.0, AllZip-among R Q xs ys (λ c d h. to c d (inr h)) all.1)

has_map : {X Y : Type 0} (f : X → Y) (xs : List X) (x : X) → Has xs x → Has (map f xs) (f x)
has_map f [] x h = absurd h
has_map f (z ∷ xs) x (inl is) = inl (ap f is)
has_map f (z ∷ xs) x (inr h) = inr (has_map f xs x h)

abbrev event_in : LocatedEvent → NamedEvent
event_in l = l.event

front_events : (tables : Tables) (events : List Event) (front rest : List LocatedEvent) → tables ≡ tables_of_events (map event_in (front ++ rest)) → AllZip (IsEventOf tables) events (front ++ rest)
    → AllZip (IsEventOf (tables_of_events (map event_in front))) (take (length front) events) front
front_events tables events front rest is all =
    AllZip-among (IsEventOf tables) (IsEventOf (tables_of_events (map event_in front))) (take (length front) events) front
    (λ event l h of_l. record {
      numbered = front_numbered (map event_in front) (map event_in rest) l.event (has_map event_in front l h) event (subst (λ t. IsNumbered t event l.event) (is ∙ ap tables_of_events (map-append event_in front rest)) of_l.numbered);
      line_is = of_l.line_is;
    })
    (AllZip-front (IsEventOf tables) events front rest all)

-- the trace of the front of the lines
pub front_trace : (lines front : List (List ℕ)) (rest : List LocatedEvent) (trace : TraceData) → trace_of lines ≡ trace_of front ++ rest → IsTraceOf lines trace
    → (other : TraceData) × IsTraceOf front other × (other.events ≡ take (length (trace_of front)) trace.events)
front_trace lines front rest trace split h = (other, record { tables_are = refl; events_are = front_events (tables_in trace) trace.events (trace_of front) rest tables (subst (AllZip (IsEventOf (tables_in trace)) trace.events) split h.events_are); lines_are = refl }, refl)
  where
    small : Tables
    small = tables_of_events (events_of front)

    other : TraceData
    other = record { events = take (length (trace_of front)) trace.events; lines = map (λ l. l.text) (trace_of front); threads = small.threads; locks = small.locks; variables = small.variables }

    tables : tables_in trace ≡ tables_of_events (map event_in (trace_of front ++ rest))
    tables = h.tables_are ∙ ap (λ t. tables_of_events (map event_in t)) split

-- the table that has the name of a kind's number
abbrev IsNumberFor : Tables → Kind → List ℕ → ℕ → Type 0
IsNumberFor tables kinds.Read name n = slice_get tables.variables n ≡ Some name
IsNumberFor tables kinds.Write name n = slice_get tables.variables n ≡ Some name
IsNumberFor tables kinds.Acquire name n = slice_get tables.locks n ≡ Some name
IsNumberFor tables kinds.Release name n = slice_get tables.locks n ≡ Some name
IsNumberFor tables kinds.Fork name n = slice_get tables.threads n ≡ Some name
IsNumberFor tables kinds.Join name n = slice_get tables.threads n ≡ Some name
IsNumberFor tables kinds.BeginMark name n = Unit {0}
IsNumberFor tables kinds.EndMark name n = Unit {0}

abbrev OpFor : Tables → Kind → List ℕ → Op → Type 0
OpFor tables kind name op = (n : ℕ) × (op ≡ op_for kind n) × IsNumberFor tables kind name n

op_number : (tables : Tables) (op : Op) (kind : Kind) (name : List ℕ) → IsOperation tables op kind name → OpFor tables kind name op
op_number tables (ops.Read n) kind name h = subst (λ k. OpFor tables k name (ops.Read n)) (sym h.0) (n, refl, h.1)
op_number tables (ops.Write n) kind name h = subst (λ k. OpFor tables k name (ops.Write n)) (sym h.0) (n, refl, h.1)
op_number tables (ops.Acquire n) kind name h = subst (λ k. OpFor tables k name (ops.Acquire n)) (sym h.0) (n, refl, h.1)
op_number tables (ops.Release n) kind name h = subst (λ k. OpFor tables k name (ops.Release n)) (sym h.0) (n, refl, h.1)
op_number tables (ops.Fork n) kind name h = subst (λ k. OpFor tables k name (ops.Fork n)) (sym h.0) (n, refl, h.1)
op_number tables (ops.Join n) kind name h = subst (λ k. OpFor tables k name (ops.Join n)) (sym h.0) (n, refl, h.1)
op_number tables ops.BeginMark kind name h = subst (λ k. OpFor tables k name ops.BeginMark) (sym h) (0, refl, tt)
op_number tables ops.EndMark kind name h = subst (λ k. OpFor tables k name ops.EndMark) (sym h) (0, refl, tt)

module _ (events : List NamedEvent) where
  abbrev tables : Tables
  tables = tables_of_events events

  same_number : (kind : Kind) (name : List ℕ) (m n : ℕ) → IsNumberFor tables kind name m → IsNumberFor tables kind name n → op_for kind m ≡ op_for kind n
  same_number kind name m n h also = grind (arith, common_steps, one_number, IsDistinct-table_of)

  same_event : (a b : Event) (l : LocatedEvent) → IsEventOf tables a l → IsEventOf tables b l → a ≡ b
  same_event a b l of_a of_b = grind (arith, common_steps, one_number, IsDistinct-table_of, op_number, same_number)

  same_events : (xs ys : List Event) (located : List LocatedEvent) → AllZip (IsEventOf tables) xs located → AllZip (IsEventOf tables) ys located → xs ≡ ys
  same_events [] [] located all other = refl
  same_events [] (y ∷ ys) [] all other = absurd other
  same_events [] (y ∷ ys) (l ∷ located) all other = absurd all
  same_events (x ∷ xs) ys [] all other = absurd all
  same_events (x ∷ xs) [] (l ∷ located) all other = absurd other
  same_events (x ∷ xs) (y ∷ ys) (l ∷ located) all other = λ i. same_event x y l all.0 other.0 i ∷ same_events xs ys located all.1 other.1 i

-- some lines have one list of events
pub one_trace : (lines : List (List ℕ)) (a b : TraceData) → IsTraceOf lines a → IsTraceOf lines b → a.events ≡ b.events
one_trace lines a b of_a of_b = grind (arith, common_steps, same_events)
