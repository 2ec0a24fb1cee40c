-- Rows in one memory, to which more are added.
use Rattle.std.proofs.Common.{◌≤◌, ◌≡◌, ℕ, zero, suc, ◌+◌, ◌*◌, ◌<◌, inl, inr, ◌^◌, List, [], ◌∷◌, ◌++◌, length, get_or, take, drop, refl, ap, subst, sym, ◌∙◌, arith, length-append, length-drop, length-take, append-nil, append_assoc}
use Rattle.shb_stamps.proofs.Words.{AreChunks, AreInside, AreNumbers, IsInside, IsLonger, cases_lt, drop-append-le, drop_at, get_or-drop, get_or-take, get_or_append_left, get_or_past, get_or_push, length_push, map-append, numbers_in, row_by, row_in, rows_in, take-append-drop, take-append-le, take_all, take_at}
use Rattle.std.proofs.lemmas.List.Concat.{flat_map-append}
use Rattle.std.proofs.lemmas.List.{take-map}
use Rattle.std.specs.Prelude.{min}
use Rattle.shb_stamps.specs.Chunks.{AreRising, EndsBefore, no_span}
use Rattle.shb_stamps.specs.declared.row_list.Span.{Span}
use Rattle.shb_stamps.proofs.RowLemmas.{chunked, take_piece}

none_inside : (chunks : List (List ℕ)) (cells : List ℕ) → IsInside chunks cells no_span
none_inside chunks cells = record {
  within = omega arith;
  numbers_are = λ k lt. absurd (omega (arith, lt));
  few = omega arith;
  whole = λ none. refl;
  chunked = λ lt. refl;
}

-- lists, and more after them
pub longer_same : {A : Type 0} (xs : List A) → IsLonger xs xs
longer_same xs = record { more = []; is = sym (append-nil xs) }

pub longer_by : {A : Type 0} (old new more : List A) → new ≡ old ++ more → IsLonger old new
longer_by old new more is = record { more = more; is = is }

pub longer_still : {A : Type 0} (old now new : List A) → IsLonger old now → IsLonger now new → IsLonger old new
longer_still {A} old now new first then = record {
  more = first.more ++ then.more;
  is = then.is ∙ (ap (λ (xs : List A). xs ++ then.more) first.is ∙ append_assoc old first.more then.more);
}

-- chunks, and one more
pub chunks_push : (chunks new : List (List ℕ)) (piece : List ℕ) → AreChunks chunks → length piece ≡ 64 → new ≡ chunks ++ piece ∷ [] → AreChunks new
chunks_push chunks new piece are long is n lt = elim (cases_lt n (length chunks)) [
  | inl low ↦ ap length (ap (λ (xs : List (List ℕ)). get_or xs n []) is ∙ get_or_append_left chunks (piece ∷ []) [] n low) ∙ are n low
  | inr ge ↦ (let size = ap length is ∙ length_push chunks piece in
      ap length (ap (λ (xs : List (List ℕ)). get_or xs n []) is ∙ get_or_push chunks piece [] n (omega (arith, ge, lt, size))) ∙ long)
]

-- the chunks that numbers name stay as they are
pub chunked_grown : (chunks new : List (List ℕ)) (numbers : List ℕ) → AreNumbers chunks numbers → IsLonger chunks new → chunked new numbers ≡ chunked chunks numbers
chunked_grown chunks new [] are longer = refl
chunked_grown chunks new (n ∷ numbers) are longer =
    ap (λ (xs : List ℕ). xs ++ chunked new numbers) (ap (λ (xs : List (List ℕ)). get_or xs n []) longer.is ∙ get_or_append_left chunks longer.more [] n (are 0 (omega arith)))
    ∙ ap (λ (xs : List ℕ). get_or chunks n [] ++ xs) (chunked_grown chunks new numbers (λ k lt. are (suc k) (omega (arith, lt))) longer)

pub numbers_grown : (chunks new : List (List ℕ)) (numbers : List ℕ) → AreNumbers chunks numbers → IsLonger chunks new → AreNumbers new numbers
numbers_grown chunks new numbers are longer k lt = let low = are k lt in let size = ap length longer.is ∙ length-append chunks longer.more in omega (arith, low, size)

-- cells and chunks to which those of the first k chunks of a row were added
pub record HasPart (old_chunks : List (List ℕ)) (old_cells row : List ℕ) (chunks : List (List ℕ)) (cells : List ℕ) (k : ℕ) : Type 0 where
  pub chunks_are : AreChunks chunks
  pub longer : IsLonger old_chunks chunks
  pub few : length chunks ≤ length old_chunks + k
  pub numbers : List ℕ
  pub cells_are : cells ≡ old_cells ++ numbers
  pub many : length numbers ≡ k
  pub numbers_are : AreNumbers chunks numbers
  pub same : chunked chunks numbers ≡ take (64 * k) row

pub part_none : (chunks : List (List ℕ)) (cells row : List ℕ) → AreChunks chunks → HasPart chunks cells row chunks cells 0
part_none chunks cells row are = record {
  chunks_are = are;
  longer = longer_same chunks;
  few = omega arith;
  numbers = [];
  cells_are = sym (append-nil cells);
  many = refl;
  numbers_are = λ k lt. absurd (omega (arith, lt));
  same = refl;
}

-- one more number
numbers_push : (chunks : List (List ℕ)) (numbers : List ℕ) (n : ℕ) → AreNumbers chunks numbers → n < length chunks → AreNumbers chunks (numbers ++ n ∷ [])
numbers_push chunks numbers n are low k lt = elim (cases_lt k (length numbers)) [
  | inl here ↦ (let at = get_or_append_left numbers (n ∷ []) 0 k here in let own = are k here in omega (arith, at, own))
  | inr ge ↦ (let size = length_push numbers n in let at = get_or_push numbers n 0 k (omega (arith, ge, lt, size)) in omega (arith, at, low))
]

pub part_more : (old_chunks : List (List ℕ)) (old_cells row : List ℕ) (chunks : List (List ℕ)) (cells : List ℕ) (k : ℕ) (new : List (List ℕ)) (more piece : List ℕ) (n : ℕ)
    → HasPart old_chunks old_cells row chunks cells k → AreChunks new → length new ≤ length chunks + 1 → IsLonger chunks new → piece ≡ take 64 (drop (64 * k) row) → (n < length new) × (get_or new n [] ≡ piece) → more ≡ cells ++ n ∷ []
    → HasPart old_chunks old_cells row new more (k + 1)
part_more old_chunks old_cells row chunks cells k new more piece n part are few longer piece_is named more_is = record {
  chunks_are = are;
  longer = longer_still old_chunks chunks new part.longer longer;
  few = (let own = part.few in omega (arith, own, few));
  numbers = part.numbers ++ n ∷ [];
  cells_are = more_is ∙ (ap (λ (xs : List ℕ). xs ++ n ∷ []) part.cells_are ∙ append_assoc old_cells part.numbers (n ∷ []));
  many = length_push part.numbers n ∙ ap (λ (i : ℕ). i + 1) part.many;
  numbers_are = numbers_push new part.numbers n (numbers_grown chunks new part.numbers part.numbers_are longer) named.0;
  same = flat_map-append (λ (i : ℕ). get_or new i []) part.numbers (n ∷ [])
      ∙ (ap (λ (xs : List ℕ). xs ++ chunked new (n ∷ [])) (chunked_grown chunks new part.numbers part.numbers_are longer ∙ part.same)
      ∙ (ap (λ (xs : List ℕ). take (64 * k) row ++ xs) (append-nil (get_or new n []) ∙ (named.1 ∙ piece_is)) ∙ take_piece row k));
}

-- the entries after the chunks come last
module _ (old_chunks : List (List ℕ)) (old_cells row : List ℕ) (chunks : List (List ℕ)) (cells : List ℕ) (k count : ℕ) (part : HasPart old_chunks old_cells row chunks cells k) (all : k ≡ count) (some : 0 < count) (few : count < 2 ^ 32)
    (rest wider : List ℕ) (start size first : ℕ) (rest_is : rest ≡ drop (64 * k) row) (wider_is : wider ≡ cells ++ rest) (starts : start ≡ length old_cells) (size_is : size ≡ length rest) where
  abbrev last : Span
  last = record { first = first; start = start; whole = 0; chunks = count; rest = size }

  cells_at : wider ≡ old_cells ++ (part.numbers ++ rest)
  cells_at = wider_is ∙ (ap (λ (xs : List ℕ). xs ++ rest) part.cells_are ∙ append_assoc old_cells part.numbers rest)

  numbers_at : numbers_in wider last ≡ part.numbers
  numbers_at = ap (λ (xs : List ℕ). take count xs) (ap (drop start) cells_at ∙ drop_at old_cells (part.numbers ++ rest) start (sym starts)) ∙ take_at part.numbers rest count (part.many ∙ all)

  rest_at : take (0 + size) (drop (start + count) wider) ≡ rest
  rest_at = ap (λ (xs : List ℕ). take (0 + size) (drop (start + count) xs)) (wider_is ∙ ap (λ (xs : List ℕ). xs ++ rest) part.cells_are)
      ∙ (ap (take (0 + size)) (drop_at (old_cells ++ part.numbers) rest (start + count) (let long = length-append old_cells part.numbers in let many = part.many in omega (arith, long, many, starts, all)))
      ∙ take_all (0 + size) rest (omega (arith, size_is)))

  pub part_row : row_in chunks wider last ≡ row
  part_row = ap (λ (numbers : List ℕ). row_by chunks numbers (take (0 + size) (drop (start + count) wider))) numbers_at
      ∙ (ap (λ (xs : List ℕ). row_by chunks part.numbers xs) rest_at
      ∙ (ap (λ (xs : List ℕ). xs ++ rest) part.same ∙ (ap (λ (xs : List ℕ). take (64 * k) row ++ xs) rest_is ∙ take-append-drop (64 * k) row)))

  pub part_inside : IsInside chunks wider last
  part_inside = record {
    within = (let long = ap length cells_at ∙ (length-append old_cells (part.numbers ++ rest)) in let own = length-append part.numbers rest in let many = part.many in omega (arith, long, own, many, starts, all, size_is));
    numbers_are = subst (AreNumbers chunks) (sym numbers_at) part.numbers_are;
    few = few;
    whole = λ none. omega (arith, some, none);
    chunked = λ lt. refl;
  }

-- a row without chunks
module _ (cells wider row : List ℕ) (start size first : ℕ) (wider_is : wider ≡ cells ++ row) (starts : start ≡ length cells) (size_is : size ≡ length row) where
  abbrev whole : Span
  whole = record { first = first; start = start; whole = size; chunks = 0; rest = 0 }

  pub whole_row : (chunks : List (List ℕ)) → row_in chunks wider whole ≡ row
  whole_row chunks = ap (take (size + 0)) (ap (λ (n : ℕ). drop n wider) (omega arith) ∙ (ap (drop start) wider_is ∙ drop_at cells row start (sym starts))) ∙ take_all (size + 0) row (omega (arith, size_is))

  pub whole_inside : (chunks : List (List ℕ)) → IsInside chunks wider whole
  whole_inside chunks = record {
    within = (let long = ap length wider_is ∙ length-append cells row in omega (arith, long, starts, size_is));
    numbers_are = λ k lt. absurd (omega (arith, lt));
    few = omega arith;
    whole = λ none. refl;
    chunked = λ lt. omega (arith, lt);
  }

-- rows change not by more cells and chunks behind theirs
module _ (chunks new : List (List ℕ)) (cells wider : List ℕ) (more_chunks : IsLonger chunks new) (more_cells : IsLonger cells wider) where
  numbers_same : (span : Span) → IsInside chunks cells span → numbers_in wider span ≡ numbers_in cells span
  numbers_same span inside = ap (λ (xs : List ℕ). take span.chunks (drop span.start xs)) more_cells.is
      ∙ (ap (take span.chunks) (drop-append-le span.start cells more_cells.more (let low = inside.within in omega (arith, low)))
      ∙ take-append-le span.chunks (drop span.start cells) more_cells.more (let long = length-drop span.start cells in let low = inside.within in omega (arith, long, low)))

  pub row_grown : (span : Span) → IsInside chunks cells span → row_in new wider span ≡ row_in chunks cells span
  row_grown span inside = ap (λ (numbers : List ℕ). row_by new numbers (take (span.whole + span.rest) (drop (span.start + span.chunks) wider))) (numbers_same span inside)
      ∙ (ap (λ (xs : List ℕ). xs ++ take (span.whole + span.rest) (drop (span.start + span.chunks) wider)) (chunked_grown chunks new (numbers_in cells span) inside.numbers_are more_chunks)
      ∙ ap (λ (xs : List ℕ). chunked chunks (numbers_in cells span) ++ xs)
      (ap (λ (xs : List ℕ). take (span.whole + span.rest) (drop (span.start + span.chunks) xs)) more_cells.is
      ∙ (ap (take (span.whole + span.rest)) (drop-append-le (span.start + span.chunks) cells more_cells.more (let low = inside.within in omega (arith, low)))
      ∙ take-append-le (span.whole + span.rest) (drop (span.start + span.chunks) cells) more_cells.more (let long = length-drop (span.start + span.chunks) cells in let low = inside.within in omega (arith, long, low)))))

  pub inside_grown : (span : Span) → IsInside chunks cells span → IsInside new wider span
  inside_grown span inside = record {
    within = (let long = ap length more_cells.is ∙ length-append cells more_cells.more in let low = inside.within in omega (arith, long, low));
    numbers_are = subst (AreNumbers new) (sym (numbers_same span inside)) (numbers_grown chunks new (numbers_in cells span) inside.numbers_are more_chunks);
    few = inside.few;
    whole = inside.whole;
    chunked = inside.chunked;
  }

  pub rows_grown : (spans : List Span) → AreInside chunks cells spans → rows_in new wider spans ≡ rows_in chunks cells spans
  rows_grown [] inside = refl
  rows_grown (span ∷ spans) inside = ap (λ (row : List ℕ). row ∷ rows_in new wider spans) (row_grown span (inside 0))
      ∙ ap (λ (rows : List (List ℕ)). row_in chunks cells span ∷ rows) (rows_grown spans (λ k. inside (suc k)))

  pub all_grown : (spans : List Span) → AreInside chunks cells spans → AreInside new wider spans
  all_grown spans inside k = inside_grown _ (inside k)

  -- and a row behind them
  pub rows_push : (spans more : List Span) (span : Span) (row : List ℕ) → AreInside chunks cells spans → more ≡ spans ++ span ∷ [] → row_in new wider span ≡ row → rows_in new wider more ≡ rows_in chunks cells spans ++ row ∷ []
  rows_push spans more span row inside more_is row_is = ap (rows_in new wider) more_is ∙ (map-append (row_in new wider) spans (span ∷ [])
      ∙ (ap (λ (rows : List (List ℕ)). rows ++ row_in new wider span ∷ []) (rows_grown spans inside) ∙ ap (λ (r : List ℕ). rows_in chunks cells spans ++ r ∷ []) row_is))

  pub inside_push : (spans more : List Span) (span : Span) → AreInside chunks cells spans → more ≡ spans ++ span ∷ [] → IsInside new wider span → AreInside new wider more
  inside_push spans more span inside more_is own k = elim (cases_lt k (length spans)) [
    | inl low ↦ subst (IsInside new wider) (sym (ap (λ (xs : List Span). get_or xs k no_span) more_is ∙ get_or_append_left spans (span ∷ []) no_span k low)) (all_grown spans inside k)
    | inr ge ↦ elim (cases_lt k (length more)) [
      | inl one ↦ subst (IsInside new wider) (sym (ap (λ (xs : List Span). get_or xs k no_span) more_is ∙ get_or_push spans span no_span k (let size = ap length more_is ∙ length_push spans span in omega (arith, ge, one, size)))) own
      | inr past ↦ subst (IsInside new wider) (sym (get_or_past more k no_span past)) (none_inside new wider)
    ]
  ]

  rising_one : (span next : Span) → IsInside chunks cells span → EndsBefore cells span next → EndsBefore wider span next
  rising_one span next inside ends = record {
    cells_end = ends.cells_end;
    chunks_end = subst (λ (numbers : List ℕ). (k : ℕ) → k < length numbers → get_or numbers k 0 < next.first) (sym (numbers_same span inside)) ends.chunks_end;
  }

  pub rising_grown : (spans : List Span) → AreInside chunks cells spans → AreRising cells spans → AreRising wider spans
  rising_grown spans inside rising k j lt low = rising_one _ _ (inside k) (rising k j lt low)

  pub rising_push : (spans more : List Span) (span : Span) → AreInside chunks cells spans → AreRising cells spans → more ≡ spans ++ span ∷ [] → (span.start ≡ length cells) × (span.first ≡ length chunks) → AreRising wider more
  rising_push spans more span inside rising is place k j lt low =
      let size = ap length is ∙ length_push spans span in
      let early = get_or_append_left spans (span ∷ []) no_span k (omega (arith, lt, low, size)) in
      let at = ap (λ (xs : List Span). get_or xs k no_span) is ∙ early in
      elim (cases_lt j (length spans)) [
        | inl less ↦ subst (λ (next : Span). EndsBefore wider (get_or more k no_span) next) (sym (ap (λ (xs : List Span). get_or xs j no_span) is ∙ get_or_append_left spans (span ∷ []) no_span j less))
            (subst (λ (one : Span). EndsBefore wider one (get_or spans j no_span)) (sym at) (rising_grown spans inside rising k j lt less))
        | inr ge ↦ subst (λ (next : Span). EndsBefore wider (get_or more k no_span) next) (sym (ap (λ (xs : List Span). get_or xs j no_span) is ∙ get_or_push spans span no_span j (omega (arith, ge, low, size))))
            (subst (λ (one : Span). EndsBefore wider one span) (sym at) (rising_one _ span (inside k) (record {
              cells_end = (let own = (inside k).within in let start = place.0 in omega (arith, own, start));
              chunks_end = λ i here. (let own = (inside k).numbers_are i here in let first = place.1 in omega (arith, own, first));
            })))
      ]

-- the row of a number
pub row_here : (chunks : List (List ℕ)) (cells : List ℕ) (spans : List Span) (n : ℕ) → n < length spans → get_or (rows_in chunks cells spans) n [] ≡ row_in chunks cells (get_or spans n no_span)
row_here chunks cells [] n lt = absurd (omega (arith, lt))
row_here chunks cells (span ∷ spans) zero lt = refl
row_here chunks cells (span ∷ spans) (suc n) lt = row_here chunks cells spans n (omega (arith, lt))

-- the first rows, in the cells and chunks before those of the next one
module _ (n : ℕ) (next : Span) (chunks new : List (List ℕ)) (cells narrower : List ℕ) (spans fewer : List Span) (chunks_are : AreChunks chunks) (inside : AreInside chunks cells spans) (rising : AreRising cells spans)
    (low : n < length spans) (next_is : next ≡ get_or spans n no_span) (new_is : new ≡ take next.first chunks) (narrower_is : narrower ≡ take next.start cells) (fewer_is : fewer ≡ take n spans) where
  chunks_longer : IsLonger new chunks
  chunks_longer = record { more = drop next.first chunks; is = sym (ap (λ (xs : List (List ℕ)). xs ++ drop next.first chunks) new_is ∙ take-append-drop next.first chunks) }

  cells_longer : IsLonger narrower cells
  cells_longer = record { more = drop next.start cells; is = sym (ap (λ (xs : List ℕ). xs ++ drop next.start cells) narrower_is ∙ take-append-drop next.start cells) }

  new_size : length new ≡ min next.first (length chunks)
  new_size = ap length new_is ∙ length-take next.first chunks

  narrower_size : length narrower ≡ min next.start (length cells)
  narrower_size = ap length narrower_is ∙ length-take next.start cells

  fewer_size : length fewer ≡ n
  fewer_size = ap length fewer_is ∙ (let size = length-take n spans in omega (arith, size, low))

  span_same : (k : ℕ) → k < n → get_or fewer k no_span ≡ get_or spans k no_span
  span_same k lt = ap (λ (xs : List Span). get_or xs k no_span) fewer_is ∙ get_or-take n spans k no_span lt

  ends : (k : ℕ) → k < n → EndsBefore cells (get_or fewer k no_span) next
  ends k lt = subst (λ (one : Span). EndsBefore cells one next) (sym (span_same k lt)) (subst (EndsBefore cells (get_or spans k no_span)) (sym next_is) (rising k n lt low))

  held : (k : ℕ) → k < n → IsInside chunks cells (get_or fewer k no_span)
  held k lt = subst (IsInside chunks cells) (sym (span_same k lt)) (inside k)

  -- the numbers of a row's chunks stay as they are
  numbers_cut : (span : Span) → IsInside chunks cells span → EndsBefore cells span next → numbers_in cells span ≡ numbers_in narrower span
  numbers_cut span one before =
      let within = one.within in
      let end = before.cells_end in
      ap (λ (xs : List ℕ). take span.chunks (drop span.start xs)) cells_longer.is
      ∙ (ap (take span.chunks) (drop-append-le span.start narrower cells_longer.more (omega (arith, within, end, narrower_size)))
      ∙ take-append-le span.chunks (drop span.start narrower) cells_longer.more (let long = length-drop span.start narrower in omega (arith, long, within, end, narrower_size)))

  inside_cut : (span : Span) → IsInside chunks cells span → EndsBefore cells span next → IsInside new narrower span
  inside_cut span one before = record {
    within = (let within = one.within in let end = before.cells_end in omega (arith, within, end, narrower_size));
    numbers_are = subst (AreNumbers new) (numbers_cut span one before) (λ k lt. (let is = one.numbers_are k lt in let end = before.chunks_end k lt in omega (arith, is, end, new_size)));
    few = one.few;
    whole = one.whole;
    chunked = one.chunked;
  }

  chunks_cut : AreChunks new
  chunks_cut k lt = ap length (ap (λ (xs : List (List ℕ)). get_or xs k []) new_is ∙ get_or-take next.first chunks k [] (omega (arith, lt, new_size))) ∙ chunks_are k (omega (arith, lt, new_size))

  all_cut : AreInside new narrower fewer
  all_cut k = elim (cases_lt k n) [
    | inl lt ↦ inside_cut (get_or fewer k no_span) (held k lt) (ends k lt)
    | inr past ↦ subst (IsInside new narrower) (sym (get_or_past fewer k no_span (omega (arith, past, fewer_size)))) (none_inside new narrower)
  ]

  rising_cut : AreRising narrower fewer
  rising_cut k j lt less =
      let early : k < n = omega (arith, lt, less, fewer_size) in
      let before = subst (EndsBefore cells (get_or fewer k no_span)) (sym (span_same j (omega (arith, less, fewer_size))))
      (subst (λ (one : Span). EndsBefore cells one (get_or spans j no_span)) (sym (span_same k early)) (rising k j lt (omega (arith, less, fewer_size, low)))) in
      record {
        cells_end = before.cells_end;
        chunks_end = subst (λ (numbers : List ℕ). (i : ℕ) → i < length numbers → get_or numbers i 0 < (get_or fewer j no_span).first) (numbers_cut (get_or fewer k no_span) (held k early) (ends k early)) before.chunks_end;
      }

  pub spans_cut : AreChunks new × AreInside new narrower fewer × AreRising narrower fewer
  spans_cut = (chunks_cut, all_cut, rising_cut)

  pub rows_cut : (a : ℕ) → a < n → get_or (rows_in new narrower fewer) a [] ≡ get_or (rows_in chunks cells spans) a []
  rows_cut a lt = ap (λ (rows : List (List ℕ)). get_or rows a []) (sym (rows_grown new chunks narrower cells chunks_longer cells_longer fewer all_cut) ∙ (ap (rows_in chunks cells) fewer_is ∙ sym (take-map (row_in chunks cells) n spans)))
      ∙ get_or-take n (rows_in chunks cells spans) a [] lt

rows_length : (chunks : List (List ℕ)) (cells : List ℕ) (spans : List Span) → length (rows_in chunks cells spans) ≡ length spans
rows_length chunks cells [] = refl
rows_length chunks cells (span ∷ spans) = ap suc (rows_length chunks cells spans)

-- a row without chunks is some of the cells
module _ (chunks : List (List ℕ)) (cells : List ℕ) (span : Span) (inside : IsInside chunks cells span) where
  row_of_cells : span.chunks ≡ 0 → row_in chunks cells span ≡ take span.whole (drop span.start cells)
  row_of_cells none = ap (λ (n : ℕ). row_by chunks (take n (drop span.start cells)) (take (span.whole + span.rest) (drop (span.start + n) cells))) none
      ∙ (ap (λ (n : ℕ). take n (drop (span.start + 0) cells)) (let no_rest = inside.whole none in omega (arith, no_rest)) ∙ ap (λ (n : ℕ). take span.whole (drop n cells)) (omega arith))

  no_chunks : (t : ℕ) → t < span.whole → span.chunks ≡ 0
  no_chunks t lt = elim (cases_lt 0 span.chunks) [
    | inl some ↦ (let none = inside.chunked some in omega (arith, none, lt))
    | inr ge ↦ omega (arith, ge)
  ]

  pub entry_of_cells : (t : ℕ) → t < span.whole → ◌≡◌ {A = ℕ} (get_or cells (span.start + t) 0) (get_or (row_in chunks cells span) t 0)
  entry_of_cells t lt = sym (ap (λ (row : List ℕ). get_or row t 0) (row_of_cells (no_chunks t lt)) ∙ (get_or-take span.whole (drop span.start cells) t 0 lt ∙ get_or-drop span.start cells t 0))

  none_of_none : length chunks ≡ 0 → span.chunks ≡ 0
  none_of_none none = elim (cases_lt 0 span.chunks) [
    | inl some ↦ (let long = length-take span.chunks (drop span.start cells) in let left = length-drop span.start cells in let within = inside.within in
        let low = inside.numbers_are 0 (omega (arith, some, long, left, within)) in omega (arith, low, none))
    | inr ge ↦ omega (arith, ge)
  ]

  pub entry_past_cells : (t : ℕ) → length chunks ≡ 0 → span.whole ≤ t → ◌≡◌ {A = ℕ} 0 (get_or (row_in chunks cells span) t 0)
  entry_past_cells t none le = sym (ap (λ (row : List ℕ). get_or row t 0) (row_of_cells (none_of_none none))
      ∙ get_or_past (take span.whole (drop span.start cells)) t 0 (let long = length-take span.whole (drop span.start cells) in omega (arith, long, le)))

-- where there is an item it is no default
any_default : {A : Type 0} (xs : List A) (n : ℕ) (one other : A) → n < length xs → get_or xs n one ≡ get_or xs n other
any_default [] n one other lt = absurd (omega (arith, lt))
any_default (x ∷ xs) zero one other lt = refl
any_default (x ∷ xs) (suc n) one other lt = any_default xs n one other (omega (arith, lt))

-- an entry of the row of a number
module _ (chunks : List (List ℕ)) (cells : List ℕ) (spans : List Span) (rows : List (List ℕ)) (n t : ℕ) (span : Span) (inside : AreInside chunks cells spans) (rows_are : rows_in chunks cells spans ≡ rows) (low : n < length rows) (is : span ≡ get_or spans n span) where
  here : n < length spans
  here = let as_many = rows_length chunks cells spans in let size = ap length rows_are in omega (arith, low, as_many, size)

  span_is : span ≡ get_or spans n no_span
  span_is = is ∙ any_default spans n span no_span here

  own : IsInside chunks cells span
  own = subst (IsInside chunks cells) (sym span_is) (inside n)

  row_is : row_in chunks cells span ≡ get_or rows n []
  row_is = ap (row_in chunks cells) span_is
      ∙ (sym (row_here chunks cells spans n here) ∙ ap (λ (rs : List (List ℕ)). get_or rs n []) rows_are)

  pub entry_found : (found : ℕ) → ◌≡◌ {A = ℕ} found (get_or cells (span.start + t) found) → t < span.whole → ◌≡◌ {A = ℕ} found (get_or (get_or rows n []) t 0)
  entry_found found found_is lt = found_is ∙ (any_default cells (span.start + t) found 0 (let within = own.within in omega (arith, within, lt))
      ∙ (entry_of_cells chunks cells span own t lt ∙ ap (λ (row : List ℕ). get_or row t 0) row_is))

  pub entry_none : length chunks ≡ 0 → span.whole ≤ t → ◌≡◌ {A = ℕ} 0 (get_or (get_or rows n []) t 0)
  entry_none none le = entry_past_cells chunks cells span own t none le ∙ ap (λ (row : List ℕ). get_or row t 0) row_is
