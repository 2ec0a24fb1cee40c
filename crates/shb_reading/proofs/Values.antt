-- The lines of the forms are those of the reports in the grammar.
use Rattle.std.proofs.Common.{◌≡◌, true, false, ℕ, zero, suc, ◌+◌, List, [], ◌∷◌, ◌++◌, length, codes, refl, sym, ap, subst, ◌∙◌, Option, None, Some, IfSome}
use Rattle.shb_reading.proofs.Words.{AllByRecursion, And, ArePlaces, At, Block, CountsForm, End, First, Form, HasForm, IsBlock, IsPlace, IsReportValue, IsShown, Named, Place, PlaceForm, Places, Race, Races, ReportValue, Schedule, Second, Version, block_forms, block_lines, counts_line, is_some, numbers_line, place_forms, place_line, place_lines, places_line, places_section, race_numbers_line, races_line, report_lines, version_line}
use Rattle.shb_reading.proofs.Language.{AreLines, line_then, one_line-counts, one_line-races, one_line-places, one_line-place, one_line-race, one_line-named, one_line-numbers}

-- a report's lines have the forms

lines_of_blocks : (number : ℕ) (blocks : List Block) (forms : List Form) (lines : List (List ℕ)) → AllByRecursion IsBlock blocks → AreLines forms lines
    → AreLines (block_forms number (length blocks) ++ forms) (block_lines number blocks ++ lines)
lines_of_blocks number [] forms lines h l = l
lines_of_blocks number (b ∷ blocks) forms lines h l =
    let block = h.0 in
    let rest = block_forms (number + 1) (length blocks) ++ forms in
    let others = block_lines (number + 1) blocks ++ lines in
    let schedule = numbers_line b.schedule ∷ others in
    let second = (codes "second " ++ b.second_line) ∷ schedule in
    line_then (Race number) (Named First ∷ (Named Second ∷ (Schedule ∷ rest))) (race_numbers_line number b.first b.second) [] ((codes "first " ++ b.first_line) ∷ second)
    (one_line-race number b.first b.second) (b.first, b.second, block.first, block.second, refl, refl)
    (line_then (Named First) (Named Second ∷ (Schedule ∷ rest)) (codes "first " ++ b.first_line) [] second (one_line-named First b.first_line block.first_line.one_line) (b.first_line, block.first_line, refl, refl)
    (line_then (Named Second) (Schedule ∷ rest) (codes "second " ++ b.second_line) [] schedule (one_line-named Second b.second_line block.second_line.one_line) (b.second_line, block.second_line, refl, refl)
    (line_then Schedule rest (numbers_line b.schedule) [] others (one_line-numbers b.schedule) (b.schedule, block.numbers, block.few, refl, refl) (lines_of_blocks (number + 1) blocks forms lines h.1 l))))

lines_of_places : (number : ℕ) (places : List Place) (forms : List Form) (lines : List (List ℕ)) → AllByRecursion IsPlace places → AreLines forms lines
    → AreLines (place_forms number (length places) ++ forms) (place_lines number places ++ lines)
lines_of_places number [] forms lines h l = l
lines_of_places number (p ∷ places) forms lines h l =
    let place = h.0 in
    let rest = place_forms (number + 1) (length places) ++ forms in
    let others = place_lines (number + 1) places ++ lines in
    line_then (PlaceForm number) (Named At ∷ (Named And ∷ rest)) (place_line number p.count) [] ((codes "at " ++ p.first) ∷ ((codes "and " ++ p.second) ∷ others)) (one_line-place number p.count) (p.count, place.count, refl, refl)
    (line_then (Named At) (Named And ∷ rest) (codes "at " ++ p.first) [] ((codes "and " ++ p.second) ∷ others) (one_line-named At p.first place.first.one_line) (p.first, place.first, refl, refl)
    (line_then (Named And) rest (codes "and " ++ p.second) [] others (one_line-named And p.second place.second.one_line) (p.second, place.second, refl, refl) (lines_of_places (number + 1) places forms lines h.1 l)))

pub lines_of_value : (report : ReportValue) → IsReportValue report → AreLines (Version ∷ (End ∷ [])) (report_lines report)
lines_of_value report h = by report.places h.places
  where
    are_blocks : AreLines (block_forms 1 (length report.blocks) ++ End ∷ []) (block_lines 1 report.blocks ++ codes "end" ∷ [])
    are_blocks = lines_of_blocks 1 report.blocks (End ∷ []) (codes "end" ∷ []) h.blocks (refl, ([], (refl, refl), refl))

    -- By whether the report says its places: each line takes its form from the stack, in front of the forms that it asks for, from
    -- the version to `end`. With places the section of places stands before the blocks.
    by : (places : Option (List Place)) → IfSome places ArePlaces → AreLines (Version ∷ (End ∷ []))
        (version_line (is_some places) ∷ (counts_line report.counts ∷ (races_line (length report.blocks) ∷ (places_section places ++ (block_lines 1 report.blocks ++ codes "end" ∷ [])))))
    by None p =
        let n = length report.blocks in
        let tail = block_lines 1 report.blocks ++ codes "end" ∷ [] in
        line_then Version (End ∷ []) (codes "shb-report 1") (CountsForm ∷ (Races false ∷ [])) (counts_line report.counts ∷ (races_line n ∷ tail)) refl (false, refl, refl)
        (line_then CountsForm (Races false ∷ (End ∷ [])) (counts_line report.counts) [] (races_line n ∷ tail) (one_line-counts report.counts) (report.counts, h.counts, refl, refl)
        (line_then (Races false) (End ∷ []) (races_line n) (block_forms 1 n) tail (one_line-races n) (n, h.few, refl, refl) are_blocks))
    by (Some places) p =
        let n = length report.blocks in
        let tail = block_lines 1 report.blocks ++ codes "end" ∷ [] in
        let section = places_line (length places) ∷ (place_lines 1 places ++ tail) in
        line_then Version (End ∷ []) (codes "shb-report 2") (CountsForm ∷ (Races true ∷ [])) (counts_line report.counts ∷ (races_line n ∷ section)) refl (true, refl, refl)
        (line_then CountsForm (Races true ∷ (End ∷ [])) (counts_line report.counts) [] (races_line n ∷ section) (one_line-counts report.counts) (report.counts, h.counts, refl, refl)
        (line_then (Races true) (End ∷ []) (races_line n) (Places ∷ block_forms 1 n) section (one_line-races n) (n, h.few, refl, refl)
        (line_then Places (block_forms 1 n ++ End ∷ []) (places_line (length places)) (place_forms 1 (length places)) (place_lines 1 places ++ tail) (one_line-places (length places)) (length places, p.few, refl, refl)
        (lines_of_places 1 places (block_forms 1 n ++ End ∷ []) tail p.each are_blocks))))

-- lines of the forms are those of a report

record FirstLine (form : Form) (forms : List Form) (lines : List (List ℕ)) : Type 0 where
  line : List ℕ
  added : List Form
  more : List (List ℕ)
  is : lines ≡ line ∷ more
  has : HasForm form line added
  later : AreLines (added ++ forms) more

first_line : (form : Form) (forms : List Form) (lines : List (List ℕ)) → AreLines (form ∷ forms) lines → FirstLine form forms lines
first_line form forms [] h = absurd (cc)
first_line form forms (line ∷ lines) h = record { line = line; added = h.1.0; more = lines; is = refl; has = h.1.1; later = h.1.2 }

on : (forms added : List Form) (lines : List (List ℕ)) (is : List Form) → added ≡ is → AreLines (added ++ forms) lines → AreLines (is ++ forms) lines
on forms added lines is e h = subst (λ a. AreLines (a ++ forms) lines) e h

cons_is : (lines : List (List ℕ)) (line : List ℕ) (more : List (List ℕ)) (l : List ℕ) (m : List (List ℕ)) → lines ≡ line ∷ more → line ≡ l → more ≡ m → lines ≡ l ∷ m
cons_is lines line more l m e p q = cc

record BlocksOf (number count : ℕ) (forms : List Form) (lines : List (List ℕ)) : Type 0 where
  blocks : List Block
  each : AllByRecursion IsBlock blocks
  count_is : length blocks ≡ count
  more : List (List ℕ)
  is : lines ≡ block_lines number blocks ++ more
  later : AreLines forms more

blocks_of : (number count : ℕ) (forms : List Form) (lines : List (List ℕ)) → AreLines (block_forms number count ++ forms) lines → BlocksOf number count forms lines
blocks_of number zero forms lines h = record { blocks = []; each = tt; count_is = refl; more = lines; is = refl; later = h }
blocks_of number (suc count) forms lines h =
    let rest = block_forms (number + 1) count ++ forms in
    let race = first_line (Race number) (Named First ∷ (Named Second ∷ (Schedule ∷ rest))) lines h in
    let first = first_line (Named First) (Named Second ∷ (Schedule ∷ rest)) race.more (on _ race.added race.more [] race.has.5 race.later) in
    let second = first_line (Named Second) (Schedule ∷ rest) first.more (on _ first.added first.more [] first.has.3 first.later) in
    let schedule = first_line Schedule rest second.more (on _ second.added second.more [] second.has.3 second.later) in
    let others = blocks_of (number + 1) count forms schedule.more (on rest schedule.added schedule.more [] schedule.has.4 schedule.later) in
    let block : Block = record { first = race.has.0; second = race.has.1; first_line = first.has.0; second_line = second.has.0; schedule = schedule.has.0 } in record {
      blocks = block ∷ others.blocks;
      each = (record { first = race.has.2; second = race.has.3; first_line = first.has.1; second_line = second.has.1; numbers = schedule.has.1; few = schedule.has.2 }, others.each);
      count_is = ap suc others.count_is;
      more = others.more;
      is = cons_is lines race.line race.more _ _ race.is race.has.4
          (cons_is race.more first.line first.more _ _ first.is first.has.2
          (cons_is first.more second.line second.more _ _ second.is second.has.2
          (cons_is second.more schedule.line schedule.more _ _ schedule.is schedule.has.3 others.is)));
      later = others.later;
    }

record PlacesOf (number count : ℕ) (forms : List Form) (lines : List (List ℕ)) : Type 0 where
  places : List Place
  each : AllByRecursion IsPlace places
  count_is : length places ≡ count
  more : List (List ℕ)
  is : lines ≡ place_lines number places ++ more
  later : AreLines forms more

places_from : (number count : ℕ) (forms : List Form) (lines : List (List ℕ)) → AreLines (place_forms number count ++ forms) lines → PlacesOf number count forms lines
places_from number zero forms lines h = record { places = []; each = tt; count_is = refl; more = lines; is = refl; later = h }
places_from number (suc count) forms lines h =
    let rest = place_forms (number + 1) count ++ forms in
    let place = first_line (PlaceForm number) (Named At ∷ (Named And ∷ rest)) lines h in
    let first = first_line (Named At) (Named And ∷ rest) place.more (on _ place.added place.more [] place.has.3 place.later) in
    let second = first_line (Named And) rest first.more (on _ first.added first.more [] first.has.3 first.later) in
    let others = places_from (number + 1) count forms second.more (on rest second.added second.more [] second.has.3 second.later) in
    let one : Place = record { count = place.has.0; first = first.has.0; second = second.has.0 } in record {
      places = one ∷ others.places;
      each = (record { count = place.has.1; first = first.has.1; second = second.has.1 }, others.each);
      count_is = ap suc others.count_is;
      more = others.more;
      is = cons_is lines place.line place.more _ _ place.is place.has.2
          (cons_is place.more first.line first.more _ _ first.is first.has.2
          (cons_is first.more second.line second.more _ _ second.is second.has.2 others.is));
      later = others.later;
    }

only_end : (lines : List (List ℕ)) → AreLines (End ∷ []) lines → lines ≡ codes "end" ∷ []
only_end lines h =
    let last = first_line End [] lines h in
    let none_left : AreLines [] last.more = on [] last.added last.more [] last.has.1 last.later in
    last.is ∙ ap (λ l. l ∷ last.more) last.has.0 ∙ ap (λ m. codes "end" ∷ m) (nothing last.more none_left)
  where
    nothing : (lines : List (List ℕ)) → AreLines [] lines → lines ≡ []
    nothing [] h = refl
    nothing (line ∷ lines) h = absurd h

abbrev ReportOf : List (List ℕ) → Type 0
ReportOf lines = (report : ReportValue) × IsReportValue report × (report_lines report ≡ lines)

with_races : (lines : List (List ℕ)) (v : FirstLine Version (End ∷ []) lines) → v.line ≡ codes "shb-report 1" → v.added ≡ CountsForm ∷ (Races false ∷ []) → ReportOf lines
with_races lines v is added =
    let counts = first_line CountsForm (Races false ∷ (End ∷ [])) v.more (on (End ∷ []) v.added v.more _ added v.later) in
    let races = first_line (Races false) (End ∷ []) counts.more (on (Races false ∷ (End ∷ [])) counts.added counts.more [] counts.has.3 counts.later) in
    let blocks = blocks_of 1 races.has.0 (End ∷ []) races.more (on (End ∷ []) races.added races.more _ races.has.3 races.later) in
    let report : ReportValue = record { counts = counts.has.0; places = None; blocks = blocks.blocks } in (
      report,
      record { counts = counts.has.1; places = tt; blocks = blocks.each; few = subst IsShown (sym blocks.count_is) races.has.1 },
      sym (cons_is lines v.line v.more _ _ v.is is
          (cons_is v.more counts.line counts.more _ _ counts.is counts.has.2
          (cons_is counts.more races.line races.more _ _ races.is (races.has.2 ∙ ap races_line (sym blocks.count_is))
          (blocks.is ∙ ap (λ m. block_lines 1 blocks.blocks ++ m) (only_end blocks.more blocks.later))))),
    )

with_places : (lines : List (List ℕ)) (v : FirstLine Version (End ∷ []) lines) → v.line ≡ codes "shb-report 2" → v.added ≡ CountsForm ∷ (Races true ∷ []) → ReportOf lines
with_places lines v is added =
    let counts = first_line CountsForm (Races true ∷ (End ∷ [])) v.more (on (End ∷ []) v.added v.more _ added v.later) in
    let races = first_line (Races true) (End ∷ []) counts.more (on (Races true ∷ (End ∷ [])) counts.added counts.more [] counts.has.3 counts.later) in
    let forms = block_forms 1 races.has.0 ++ End ∷ [] in
    let count = first_line Places forms races.more (on (End ∷ []) races.added races.more _ races.has.3 races.later) in
    let places = places_from 1 count.has.0 forms count.more (on forms count.added count.more _ count.has.3 count.later) in
    let blocks = blocks_of 1 races.has.0 (End ∷ []) places.more places.later in
    let report : ReportValue = record { counts = counts.has.0; places = Some places.places; blocks = blocks.blocks } in (
      report,
      record { counts = counts.has.1; places = record { each = places.each; few = subst IsShown (sym places.count_is) count.has.1 }; blocks = blocks.each; few = subst IsShown (sym blocks.count_is) races.has.1 },
      sym (cons_is lines v.line v.more _ _ v.is is
          (cons_is v.more counts.line counts.more _ _ counts.is counts.has.2
          (cons_is counts.more races.line races.more _ _ races.is (races.has.2 ∙ ap races_line (sym blocks.count_is))
          (cons_is races.more count.line count.more _ _ count.is (count.has.2 ∙ ap places_line (sym places.count_is))
          (places.is ∙ ap (λ m. place_lines 1 places.places ++ m) (blocks.is ∙ ap (λ m. block_lines 1 blocks.blocks ++ m) (only_end blocks.more blocks.later))))))),
    )

pub value_of_lines : (lines : List (List ℕ)) → AreLines (Version ∷ (End ∷ [])) lines → (report : ReportValue) × IsReportValue report × (report_lines report ≡ lines)
value_of_lines lines h = by (first_line Version (End ∷ []) lines h)
  where
    by : FirstLine Version (End ∷ []) lines → ReportOf lines
    by v = either v v.has
      where
        either : (v : FirstLine Version (End ∷ []) lines) → HasForm Version v.line v.added → ReportOf lines
        either v (false, is, added) = with_races lines v is added
        either v (true, is, added) = with_places lines v is added
