-- Different names have different numbers, and the variables are numbered as they are first accessed.
use Rattle.std.proofs.lemmas.Grind.{common_steps}
use Rattle.std.proofs.Common.{◌≡◌, ◌⊎◌, inl, inr, ◌+◌, ◌<◌, ◌≤◌, ℕ, Bool, true, false, cond, not, zero, suc, List, [], ◌∷◌, ◌++◌, length, map, None, Some, slice_get, refl, sym, ap, subst, ◌∙◌, arith}
use Rattle.std.specs.List.{AllByRecursion, AllZip, IsDistinct, flat_map, position_or_len}
use Rattle.std.specs.Str.{bytes_eq}
use Rattle.std.proofs.lemmas.Bool.{cases_lt}
use Rattle.std.proofs.lemmas.List.Sums.{fold-append}
use Rattle.std.proofs.lemmas.Option.{slice_get_within}
use Rattle.std.proofs.lemmas.Slice.Eq.{bytes_eq-Decides}
use Rattle.shb_lines.specs.declared.event.Event.{Event}
use Rattle.shb_lines.specs.declared.event.Kind.{Kind}
use Rattle.shb_lines.specs.declared.event.Op.{Op}
use Rattle.shb_lines.specs.declared.event.Op.TheVariants as ops
use Rattle.shb_lines.specs.events.Events.{op_at, variable_of}
use Rattle.shb_lines.specs.text.Numbering.{with_names}
use Rattle.shb_lines.specs.text.Limits.{most_events}
use Rattle.shb_lines.specs.text.Text.{IsLineText, LocatedEvent, locks_among, table_of, threads_among, trace_of, variables_among, with_name}
use Rattle.shb_lines.specs.text.Numbers.{IsEventOf, IsOperation, Tables, events_of}
use Rattle.shb_lines.specs.events.Race.{variable_at}
use Rattle.shb_lines.specs.events.Sizes.{IsEventWithin, IsOpWithin, IsWithin}
use Rattle.shb_lines.specs.text.TraceData.{IsTraceOf, IsWellFormed, TraceData, tables_in}
use Rattle.shb_lines.proofs.text.NameLemmas.{length-with_name_le, slice_get-with_names, with_name-at}

-- a test that fails fails the other way round
differs : (a b : List ℕ) → bytes_eq a b ≡ false → bytes_eq b a ≡ false
differs a b h = grind (arith, common_steps, bytes_eq-Decides)

-- a name that is put last differs from those that it was not found among
all-with_name : (known name : List ℕ) (names : List (List ℕ)) → bytes_eq known name ≡ false → AllByRecursion (λ n. bytes_eq known n ≡ false) names → AllByRecursion (λ n. bytes_eq known n ≡ false) (with_name names name)
all-with_name known name [] other all = (other, tt)
all-with_name known name (first ∷ names) other all = by (bytes_eq name first) (all-with_name known name names other all.1)
  where
    by : (b : Bool) → AllByRecursion (λ n. bytes_eq known n ≡ false) (with_name names name) → AllByRecursion (λ n. bytes_eq known n ≡ false) (cond b (first ∷ names) (first ∷ with_name names name))
    by true rest = all
    by false rest = (all.0, rest)

pub IsDistinct-with_name : (names : List (List ℕ)) (name : List ℕ) → IsDistinct bytes_eq names → IsDistinct bytes_eq (with_name names name)
unfolding IsDistinct
IsDistinct-with_name [] name h = (tt, tt)
IsDistinct-with_name (first ∷ names) name h = by (bytes_eq name first) refl (IsDistinct-with_name names name h.1)
  where
    by : (b : Bool) → bytes_eq name first ≡ b → IsDistinct bytes_eq (with_name names name) → IsDistinct bytes_eq (cond b (first ∷ names) (first ∷ with_name names name))
    by true e rest = h
    by false e rest = (all-with_name first name names (differs name first e) h.0, rest)

IsDistinct-with_names : (more names : List (List ℕ)) → IsDistinct bytes_eq names → IsDistinct bytes_eq (with_names names more)
IsDistinct-with_names [] names h = h
IsDistinct-with_names (name ∷ more) names h = IsDistinct-with_names more (with_name names name) (IsDistinct-with_name names name h)

-- the names of a table are different
pub IsDistinct-table_of : (names : List (List ℕ)) → IsDistinct bytes_eq (table_of names)
unfolding IsDistinct
IsDistinct-table_of names = IsDistinct-with_names names [] tt

not_among : (known name : List ℕ) (names : List (List ℕ)) (k : ℕ) → AllByRecursion (λ n. bytes_eq known n ≡ false) names → slice_get names k ≡ Some name → bytes_eq known name ≡ false
not_among known name [] k all h = absurd cc
not_among known name (first ∷ names) zero all h = subst (λ n. bytes_eq known n ≡ false) (let e : first ≡ name = cc in e) all.0
not_among known name (first ∷ names) (suc k) all h = not_among known name names k all.1 h

-- a name has one number
pub one_number : (names : List (List ℕ)) (name : List ℕ) (a b : ℕ) → IsDistinct bytes_eq names → slice_get names a ≡ Some name → slice_get names b ≡ Some name → a ≡ b
unfolding IsDistinct
one_number [] name a b h at_a at_b = absurd cc
one_number (first ∷ names) name zero zero h at_a at_b = refl
one_number (first ∷ names) name zero (suc b) h at_a at_b =
    let same : first ≡ name = cc in
    absurd (let fails = not_among first name names b h.0 at_b in let passes = (bytes_eq-Decides first name).1 same in cc)
one_number (first ∷ names) name (suc a) zero h at_a at_b =
    let same : first ≡ name = cc in
    absurd (let fails = not_among first name names a h.0 at_a in let passes = (bytes_eq-Decides first name).1 same in cc)
one_number (first ∷ names) name (suc a) (suc b) h at_a at_b = ap (λ n. suc n) (one_number names name a b h.1 at_a at_b)

-- where a table grows, the new name is after the others
index-new : (names : List (List ℕ)) (name : List ℕ) → length names < length (with_name names name) → position_or_len (bytes_eq name) names ≡ length names
index-new [] name h = refl
index-new (known ∷ names) name h = by (bytes_eq name known) h (index-new names name)
  where
    by : (b : Bool) → length (known ∷ names) < length (cond b (known ∷ names) (known ∷ with_name names name)) → (length names < length (with_name names name) → position_or_len (bytes_eq name) names ≡ length names)
        → cond (not b) (1 + position_or_len (bytes_eq name) names) 0 ≡ length (known ∷ names)
    by true grows rest = absurd (omega arith)
    by false grows rest = omega (arith, rest (omega arith))

index_within : (names : List (List ℕ)) (name : List ℕ) → position_or_len (bytes_eq name) names ≤ length names
index_within [] name = omega arith
index_within (known ∷ names) name = by (bytes_eq name known) (index_within names name)
  where
    by : (b : Bool) → position_or_len (bytes_eq name) names ≤ length names → cond (not b) (1 + position_or_len (bytes_eq name) names) 0 ≤ length (known ∷ names)
    by true rest = omega arith
    by false rest = omega arith

-- what an operation says of variables: it names none, or one, whose number it has
data OfVariable (table : List (List ℕ)) (op : Op) (kind : Kind) (name : List ℕ) : Type 0 where
  of_none : variable_of op ≡ None → variables_among kind name ≡ [] → OfVariable table op kind name
  of_one : (x : ℕ) → variable_of op ≡ Some x → variables_among kind name ≡ name ∷ [] → slice_get table x ≡ Some name → OfVariable table op kind name

of_variable : (tables : Tables) (op : Op) (kind : Kind) (name : List ℕ) → IsOperation tables op kind name → OfVariable tables.variables op kind name
of_variable tables (ops.Read x) kind name h = of_one x refl (ap (λ k. variables_among k name) h.0) h.1
of_variable tables (ops.Write x) kind name h = of_one x refl (ap (λ k. variables_among k name) h.0) h.1
of_variable tables (ops.Acquire x) kind name h = of_none refl (ap (λ k. variables_among k name) h.0)
of_variable tables (ops.Release x) kind name h = of_none refl (ap (λ k. variables_among k name) h.0)
of_variable tables (ops.Fork x) kind name h = of_none refl (ap (λ k. variables_among k name) h.0)
of_variable tables (ops.Join x) kind name h = of_none refl (ap (λ k. variables_among k name) h.0)
of_variable tables ops.BeginMark kind name h = of_none refl (ap (λ k. variables_among k name) h)
of_variable tables ops.EndMark kind name h = of_none refl (ap (λ k. variables_among k name) h)

abbrev variables_on : LocatedEvent → List (List ℕ)
variables_on e = variables_among e.event.kind e.event.operand

module _ (tables : Tables) (distinct : IsDistinct bytes_eq tables.variables) where
  -- a number below that of an access is one of those before, or that of an earlier access
  abbrev HasEarlier : ℕ → List Event → ℕ → ℕ → Type 0
  HasEarlier known events k y = (y < known) ⊎ ((j : ℕ) × (j < k) × (variable_at events j ≡ Some y))

  -- one event in front makes each position one larger
  later : (known : ℕ) (e : Event) (events : List Event) (k y : ℕ) → HasEarlier known events k y → HasEarlier known (e ∷ events) (suc k) y
  unfolding op_at
  later known e events k y (inl h) = inl h
  later known e events k y (inr h) = inr (suc h.0, omega (arith, h.1), h.2)

  -- the number of a name is its position among the names up to its own first event, or their length if it is new there
  with_first : (names rest : List (List ℕ)) (name : List ℕ) (x : ℕ) → tables.variables ≡ with_names (with_name names name) rest → slice_get tables.variables x ≡ Some name → x ≡ position_or_len (bytes_eq name) names
  with_first names rest name x is at_x =
      one_number tables.variables name x (position_or_len (bytes_eq name) names) distinct at_x (subst (λ t. slice_get t (position_or_len (bytes_eq name) names) ≡ Some name) (sym is) (slice_get-with_names rest (with_name names name) name _ (with_name-at names name)))

  -- one event in front, whose variable is put after the names before: if every number below x is known or of an earlier access
  -- in the events behind it, so it is with this event. It has no variable, or its variable has a number (`of_one`); at position 0
  -- that number is x, and those below it are known
  earlier_step : (names : List (List ℕ)) (rest : List (List ℕ)) (e : Event) (events : List Event) (kind : Kind) (name : List ℕ) → OfVariable tables.variables e.op kind name
      → tables.variables ≡ with_names (with_names names (variables_among kind name)) rest → (x y : ℕ) → y < x
      → ((k : ℕ) → variable_at events k ≡ Some x → HasEarlier (length (with_names names (variables_among kind name))) events k y)
      → (k : ℕ) → variable_at (e ∷ events) k ≡ Some x → HasEarlier (length names) (e ∷ events) k y
  unfolding op_at
  earlier_step names rest e events kind name (of_none variable named) table x y lt back zero at_k = absurd cc
  earlier_step names rest e events kind name (of_none variable named) table x y lt back (suc k) at_k =
      later (length names) e events k y (subst (λ more. HasEarlier (length (with_names names more)) events k y) named (back k at_k))
  earlier_step names rest e events kind name (of_one number variable named has) table x y lt back zero at_k =
      let index = with_first names rest name number (table ∙ ap (λ more. with_names (with_names names more) rest) named) has in
      let same : number ≡ x = (let both : Some number ≡ Some x = sym variable ∙ at_k in cc) in
      inl (omega (arith, index, same, lt, index_within names name))
  earlier_step names rest e events kind name (of_one number variable named has) table x y lt back (suc k) at_k =
      go (cases_lt y (length names)) (subst (λ more. HasEarlier (length (with_names names more)) events k y) named (back k at_k))
    where
      index : number ≡ position_or_len (bytes_eq name) names
      index = with_first names rest name number (table ∙ ap (λ more. with_names (with_names names more) rest) named) has

      go : (y < length names) ⊎ (length names ≤ y) → HasEarlier (length (with_name names name)) events k y → HasEarlier (length names) (e ∷ events) (suc k) y
      go (inl known) h = inl known
      go (inr new) (inr h) = later (length names) e events k y (inr h)
      go (inr new) (inl h) =
          let after = index-new names name (omega arith) in
          let last : y ≡ length names = omega (arith, h, length-with_name_le names name) in
          inr (zero, omega arith, variable ∙ ap (λ n. Some n) (index ∙ after ∙ sym last))

  earlier : (names : List (List ℕ)) (events : List Event) (located : List LocatedEvent) → AllZip (IsEventOf tables) events located → tables.variables ≡ with_names names (flat_map variables_on located)
      → (x y : ℕ) → y < x → (k : ℕ) → variable_at events k ≡ Some x → HasEarlier (length names) events k y
  unfolding op_at
  earlier names [] located all is x y lt k at_k = absurd cc
  earlier names (e ∷ events) [] all is x y lt k at_k = absurd all
  earlier names (e ∷ events) (l ∷ located) all is x y lt k at_k =
      let rest : List (List ℕ) = flat_map variables_on located in
      let table : tables.variables ≡ with_names (with_names names (variables_on l)) rest = is ∙ fold-append with_name names (variables_on l) rest in
      earlier_step names rest e events l.event.kind l.event.operand (of_variable tables e.op l.event.kind l.event.operand all.0.numbered.operation) table x y lt
      (earlier (with_names names (variables_on l)) events located all.1 table x y lt) k at_k

-- the numbers of an event are below the counts of names
op_within : (tables : Tables) (op : Op) (kind : Kind) (name : List ℕ) → IsOperation tables op kind name → IsOpWithin (record { threads = length tables.threads; locks = length tables.locks; variables = length tables.variables }) op
op_within tables (ops.Read n) kind name h = slice_get_within tables.variables n name h.1
op_within tables (ops.Write n) kind name h = slice_get_within tables.variables n name h.1
op_within tables (ops.Acquire n) kind name h = slice_get_within tables.locks n name h.1
op_within tables (ops.Release n) kind name h = slice_get_within tables.locks n name h.1
op_within tables (ops.Fork n) kind name h = slice_get_within tables.threads n name h.1
op_within tables (ops.Join n) kind name h = slice_get_within tables.threads n name h.1
op_within tables ops.BeginMark kind name h = tt
op_within tables ops.EndMark kind name h = tt

events_within : (tables : Tables) (events : List Event) (located : List LocatedEvent) → AllZip (IsEventOf tables) events located → IsWithin events (record { threads = length tables.threads; locks = length tables.locks; variables = length tables.variables })
events_within tables [] located all k e at_k = absurd cc
events_within tables (first ∷ events) [] all k e at_k = absurd all
events_within tables (first ∷ events) (l ∷ located) all zero e at_k =
    let same : first ≡ e = cc in
    subst (IsEventWithin (record { threads = length tables.threads; locks = length tables.locks; variables = length tables.variables })) same
    (record { thread = slice_get_within tables.threads first.thread l.event.thread all.0.numbered.thread; operation = op_within tables first.op l.event.kind l.event.operand all.0.numbered.operation })
events_within tables (first ∷ events) (l ∷ located) all (suc k) e at_k = events_within tables events located all.1 k e at_k

module _ (lines : List (List ℕ)) (trace : TraceData) (h : IsTraceOf lines trace) where
  table_is : trace.variables ≡ table_of (flat_map variables_on (trace_of lines))
  table_is = ap (λ t. t.variables) h.tables_are ∙ ap table_of (flat_map-map (trace_of lines))
    where
      flat_map-map : (located : List LocatedEvent) → flat_map (λ e. variables_among e.kind e.operand) (map (λ e. e.event) located) ≡ flat_map variables_on located
      flat_map-map [] = refl
      flat_map-map (l ∷ located) = ap (λ rest. variables_on l ++ rest) (flat_map-map located)

  variables_distinct : IsDistinct bytes_eq trace.variables
  variables_distinct = subst (IsDistinct bytes_eq) (sym table_is) (IsDistinct-table_of (flat_map variables_on (trace_of lines)))

  -- before an access of a variable, each variable with a lower number was accessed
  pub numbered_by_access : (k x y : ℕ) → variable_at trace.events k ≡ Some x → y < x → (j : ℕ) × (j < k) × (variable_at trace.events j ≡ Some y)
  numbered_by_access k x y at_k lt = elim (earlier (tables_in trace) variables_distinct [] trace.events (trace_of lines) h.events_are table_is x y lt k at_k) [ inl none_known ↦ absurd (omega arith) | inr h ↦ h ]

  -- the names of a table are different
  differ : (names table : List (List ℕ)) → table ≡ table_of names → IsDistinct bytes_eq table
  differ names table is = subst (IsDistinct bytes_eq) (sym is) (IsDistinct-table_of names)

  -- what every trace of some lines meets
  pub well_formed : length trace.events ≤ most_events → length trace.lines ≡ length trace.events → AllByRecursion IsLineText (map (λ e. e.text) (trace_of lines)) → IsWellFormed trace
  well_formed few a_line_each texts = record {
    few = few;
    a_line_each = a_line_each;
    line_texts = subst (AllByRecursion IsLineText) (sym h.lines_are) texts;
    within = events_within (tables_in trace) trace.events (trace_of lines) h.events_are;
    numbered = λ k x y at_k lt absent. let h = numbered_by_access k x y at_k lt in absent h.0 h.1 h.2;
    threads_differ = differ (flat_map (λ e. e.thread ∷ threads_among e.kind e.operand) (events_of lines)) trace.threads (ap (λ t. t.threads) h.tables_are);
    locks_differ = differ (flat_map (λ e. locks_among e.kind e.operand) (events_of lines)) trace.locks (ap (λ t. t.locks) h.tables_are);
    variables_differ = differ (flat_map (λ e. variables_among e.kind e.operand) (events_of lines)) trace.variables (ap (λ t. t.variables) h.tables_are);
  }
