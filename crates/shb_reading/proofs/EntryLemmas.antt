-- One block or place more.
use Rattle.std.proofs.Common.{◌≡◌, Result, Ok, Err, IsErrAnd, ℕ, suc, ◌+◌, ◌-◌, ◌<◌, ◌≤◌, ◌^◌, List, [], ◌∷◌, ◌++◌, length, map, codes, take, drop, refl, sym, ap, subst, ◌∙◌, arith, append_assoc, length-append, length-drop}
use Rattle.shb_reading.proofs.Words.{AddsShown, AllByRecursion, Block, Form, IfBad, IfStop, IsBlock, IsPlace, IsPlaceIn, IsRaceIn, IsRest, IsShown, IsSpanIn, PlaceEntry, Position, ReadsBlock, ReadsBlocks, ReadsPlace, ReadsPlaces, Span, TakesBlocks, TakesLine, block_at, block_forms, block_from, block_lines, block_lines-append, blocks_at, bytes_at, bytes_from, drop-append-le, drop-append_seam, each-push, each-weaker, joined, length-map, lines_text, map-append, map-id, numbers_line, place_forms, place_in_text, place_lines, place_lines-append, places_at, race_numbers_line, take-append-le, take_all}
use Rattle.shb_reading.specs.declared.position.ReadStop.{ReadStop}
use Rattle.shb_reading.specs.declared.position.ReadStop.TheVariants.{BadLine, Memory}
use Rattle.shb_reading.specs.declared.parts.RaceEntry.{RaceEntry}

pub stop_weaker : (stop : ReadStop) (P Q : ℕ → Type 0) → ((n : ℕ) → P n → Q n) → IfStop stop P → IfStop stop Q
stop_weaker (BadLine n) P Q weaker h = weaker n h
stop_weaker (Memory _) P Q weaker h = tt

-- the same where the question mark hands the reason on
pub bad_weaker : {T : Type 0} (result : Result T ReadStop) (stop : ReadStop) (P Q : ℕ → Type 0) → IsErrAnd result (λ s. s ≡ stop) → ((n : ℕ) → P n → Q n) → IfStop stop P → IfBad result Q
bad_weaker (Ok x) stop P Q same weaker h = tt
bad_weaker (Err s) stop P Q same weaker h = subst (λ s. IfStop s Q) (sym same) (stop_weaker stop P Q weaker h)

-- what is expected where blocks or places are left
one_less : (number count : ℕ) → number < count → count - number ≡ suc (count - (number + 1))
one_less number count h = omega arith

pub blocks_left : (number count : ℕ) (forms : List Form) → number < count → block_forms (number + 1) (count - number) ++ forms ≡ block_forms (number + 1) 1 ++ (block_forms (number + 1 + 1) (count - (number + 1)) ++ forms)
blocks_left number count forms h = ap (λ n. block_forms (number + 1) n ++ forms) (one_less number count h)

pub places_left : (number count : ℕ) (forms : List Form) → number < count → place_forms (number + 1) (count - number) ++ forms ≡ place_forms (number + 1) 1 ++ (place_forms (number + 1 + 1) (count - (number + 1)) ++ forms)
places_left number count forms h = ap (λ n. place_forms (number + 1) n ++ forms) (one_less number count h)

-- places
pub places_more : (text : List ℕ) (old mid new : Position) (k : ℕ) (entries : List PlaceEntry) (entry : PlaceEntry)
    → ReadsPlaces text old mid k entries → ReadsPlace text mid new (k + 1) entry → ReadsPlaces text old new (k + 1) (entries ++ entry ∷ [])
places_more text old mid new k entries entry h g =
    let places = places_at text entries in
    let place = place_in_text text entry in
    let all : List PlaceEntry = entries ++ entry ∷ [] in
    let same : places ++ place ∷ [] ≡ places_at text all = sym (map-append (place_in_text text) entries (entry ∷ [])) in
    let count : 1 + length places ≡ k + 1 = omega (arith, length-map entries (place_in_text text), h.count_is) in
    let lines : place_lines 1 places ++ place_lines (k + 1) (place ∷ []) ≡ place_lines 1 (places_at text all) =
    ap (λ n. place_lines 1 places ++ place_lines n (place ∷ [])) (sym count) ∙ sym (place_lines-append 1 places (place ∷ [])) ∙ ap (place_lines 1) same in record {
      count_is = omega (arith, length-append entries (entry ∷ []), h.count_is);
      in_grammar = subst (AllByRecursion IsPlace) same (each-push IsPlace places place h.in_grammar g.in_grammar);
      bytes = joined (place_lines 1 places) (place_lines (k + 1) (place ∷ [])) _ _ _ h.bytes g.bytes ∙ ap (λ l. lines_text l ++ bytes_from text new) lines;
      entries_in = each-push (IsPlaceIn text) entries entry h.entries_in g.entry_in;
      lines = omega (arith, h.lines, g.lines);
    }

-- blocks: more numbers change none of the entries that are there
grown_part : (numbers more : List ℕ) (start len : ℕ) → start + len ≤ length numbers → take len (drop start (numbers ++ more)) ≡ take len (drop start numbers)
grown_part numbers more start len h =
    let within : start ≤ length numbers = omega arith in
    let room : len ≤ length (drop start numbers) = omega (arith, length-drop start numbers) in
    ap (take len) (drop-append-le start numbers more within) ∙ take-append-le len (drop start numbers) more room

grown_entry : (text numbers more : List ℕ) (entry : RaceEntry) → IsRaceIn text numbers entry → block_at text (numbers ++ more) entry ≡ block_at text numbers entry
grown_entry text numbers more entry h = ap (λ (s : List ℕ). record (block_at text numbers entry) { schedule = s }) (grown_part numbers more entry.schedule_start entry.schedule_len h.schedule)

grown : (text numbers more : List ℕ) (entries : List RaceEntry) → AllByRecursion (IsRaceIn text numbers) entries → blocks_at text (numbers ++ more) entries ≡ blocks_at text numbers entries
grown text numbers more [] h = refl
grown text numbers more (entry ∷ entries) h =
    let heads = grown_entry text numbers more entry h.0 in
    let tails = grown text numbers more entries h.1 in
    cc

grown_in : (text numbers more : List ℕ) (entry : RaceEntry) → IsRaceIn text numbers entry → IsRaceIn text (numbers ++ more) entry
grown_in text numbers more entry h = record { first = h.first; second = h.second; schedule = omega (arith, h.schedule, length-append numbers more) }

pub taken_more : (text : List ℕ) (old mid new : Position) (k : ℕ) (blocks : List Block) (block : Block) → TakesBlocks text old mid k blocks → IsBlock block
    → bytes_from text mid ≡ lines_text (block_lines (k + 1) (block ∷ [])) ++ bytes_from text new → new.lines ≡ mid.lines + 4 → TakesBlocks text old new (k + 1) (blocks ++ block ∷ [])
taken_more text old mid new k blocks block h in_grammar bytes lines =
    let count : 1 + length blocks ≡ k + 1 = omega (arith, h.count_is) in
    let all : block_lines 1 blocks ++ block_lines (k + 1) (block ∷ []) ≡ block_lines 1 (blocks ++ block ∷ []) =
    ap (λ n. block_lines 1 blocks ++ block_lines n (block ∷ [])) (sym count) ∙ sym (block_lines-append 1 blocks (block ∷ [])) in record {
      count_is = omega (arith, length-append blocks (block ∷ []), h.count_is);
      in_grammar = each-push IsBlock blocks block h.in_grammar in_grammar;
      bytes = joined (block_lines 1 blocks) (block_lines (k + 1) (block ∷ [])) _ _ _ h.bytes bytes ∙ ap (λ l. lines_text l ++ bytes_from text new) all;
      lines = omega (arith, h.lines, lines);
    }

-- numbers that are kept as they are written
all_kept : (most : ℕ) (ns : List ℕ) → length ns ≤ most → take most (map (λ n. n) ns) ≡ ns
all_kept most ns few = ap (take most) (map-id ns) ∙ take_all most ns few

pub blocks_more : (text : List ℕ) (old mid new : Position) (k : ℕ) (numbers all_numbers : List ℕ) (entries : List RaceEntry) (entry : RaceEntry) (all : List RaceEntry) → all ≡ entries ++ entry ∷ []
    → ReadsBlocks text old mid k numbers entries → ReadsBlock (λ n. n) (2 ^ 64 - 1) text mid new (k + 1) numbers all_numbers entry → ReadsBlocks text old new (k + 1) all_numbers all
blocks_more text old mid new k numbers all_numbers entries entry all is h g =
    let blocks = blocks_at text numbers entries in
    let block = g.block in
    let whole : take (2 ^ 64 - 1) (map (λ n. n) block.schedule) ≡ block.schedule = all_kept (2 ^ 64 - 1) block.schedule (let few = g.in_grammar.few in omega (arith, few)) in
    let added : all_numbers ≡ numbers ++ block.schedule = g.numbers ∙ ap (λ l. numbers ++ l) whole in
    let unchanged : blocks_at text all_numbers entries ≡ blocks = ap (λ (n : List ℕ). blocks_at text n entries) added ∙ grown text numbers block.schedule entries h.entries_in in
    let block_is : block_at text all_numbers entry ≡ block = ap (block_from text entry) (g.part_is ∙ whole) ∙ g.entry_is in
    let same : blocks ++ block ∷ [] ≡ blocks_at text all_numbers all =
    sym (ap (blocks_at text all_numbers) is ∙ map-append (block_at text all_numbers) entries (entry ∷ []) ∙ ap (λ b. b ++ block_at text all_numbers entry ∷ []) unchanged ∙ ap (λ b. blocks ++ b ∷ []) block_is) in
    let still_in : AllByRecursion (IsRaceIn text all_numbers) entries =
    subst (λ n. AllByRecursion (IsRaceIn text n) entries) (sym added) (each-weaker (IsRaceIn text numbers) (IsRaceIn text (numbers ++ block.schedule)) entries (λ e i. grown_in text numbers block.schedule e i) h.entries_in) in record {
      taken = subst (TakesBlocks text old new (k + 1)) same (taken_more text old mid new k blocks block h.taken g.in_grammar g.bytes g.lines);
      entries_in = subst (AllByRecursion (IsRaceIn text all_numbers)) (sym is) (each-push (IsRaceIn text all_numbers) entries entry still_in g.entry_in);
    }

-- the four lines of a block, and what was kept of its numbers
one_line : (text : List ℕ) (old new : Position) (line : List ℕ) → TakesLine text old new line → bytes_from text old ≡ lines_text (line ∷ []) ++ bytes_from text new
one_line text old new line taken = taken.begins.bytes_are ∙ sym (append_assoc line (10 ∷ []) (bytes_from text new))

pub block_grows : {T : Type 0} (kept : ℕ → T) (most : ℕ) (old new : List T) (ns : List ℕ) → AddsShown kept most old new ns → length old ≤ length new
block_grows kept most old new ns added = omega (arith, ap length added.grown, length-append old (take most (map kept ns)))

pub block_read : {T : Type 0} (kept : ℕ → T) (most : ℕ) (text : List ℕ) (a b c d e : Position) (number first second : ℕ) (first_line second_line : Span) (old new : List T) (ns : List ℕ) (start len : ℕ)
    → TakesLine text a b (race_numbers_line number first second) → IsShown first → IsShown second
    → TakesLine text b c (codes "first " ++ bytes_at text first_line) → IsRest 1 (bytes_at text first_line) → IsSpanIn text first_line
    → TakesLine text c d (codes "second " ++ bytes_at text second_line) → IsRest 1 (bytes_at text second_line) → IsSpanIn text second_line
    → AddsShown kept most old new ns → IsShown (length ns) → TakesLine text d e (numbers_line ns)
    → start ≡ length old → start + len ≡ length new
    → ReadsBlock kept most text a e number old new (record { first = first; second = second; first_line = first_line; second_line = second_line; schedule_start = start; schedule_len = len })
block_read kept most text a b c d e number first second first_line second_line old new ns start len race shown_first shown_second named rest_first in_first named_second rest_second in_second added few listed start_is len_is =
    let block : Block = record { first = first; second = second; first_line = bytes_at text first_line; second_line = bytes_at text second_line; schedule = ns } in
    let line_1 = race_numbers_line number first second in
    let line_2 = codes "first " ++ bytes_at text first_line in
    let line_3 = codes "second " ++ bytes_at text second_line in
    let line_4 = numbers_line ns in
    let front = take most (map kept ns) in
    let grown = length-append old front in
    let lengths = ap length added.grown in
    let all : length front ≤ len = omega (arith, grown, lengths, start_is, len_is) in record {
      block = block;
      in_grammar = record { first = shown_first; second = shown_second; first_line = rest_first; second_line = rest_second; numbers = added.shown; few = few };
      bytes = joined (line_1 ∷ []) (line_2 ∷ (line_3 ∷ (line_4 ∷ []))) _ _ _ (one_line text a b line_1 race)
          (joined (line_2 ∷ []) (line_3 ∷ (line_4 ∷ [])) _ _ _ (one_line text b c line_2 named) (joined (line_3 ∷ []) (line_4 ∷ []) _ _ _ (one_line text c d line_3 named_second) (one_line text d e line_4 listed)));
      numbers = added.grown;
      entry_in = record { first = in_first; second = in_second; schedule = omega (arith, len_is) };
      entry_is = refl;
      part_is = ap (λ s. take len (drop s new)) start_is ∙ ap (λ l. take len (drop (length old) l)) added.grown ∙ ap (take len) (drop-append_seam old front) ∙ take_all len front all;
      lines = omega (arith, race.counted, named.counted, named_second.counted, listed.counted);
    }
