-- The report that is written is in the grammar, and good for its trace.
use Rattle.std.proofs.Common.{◌≡◌, ℕ, zero, suc, ◌+◌, ◌-◌, ◌<◌, ◌≤◌, ◌&&◌, Bool, true, false, cond, List, [], ◌∷◌, length, map, get_or, fold, Option, None, Some, unwrap_or, refl, sym, ap, subst, ◌∙◌, arith}
use Rattle.std.specs.Prelude.{slice_get, All, Contains, IsSomeAnd}
use Rattle.shb_judging.proofs.Words.{AllByRecursion, AllRaces, Conflict, Good, HasSchedule, IsBlock, IsDisciplined, IsGoodBlock, IsGoodReport, IsPlace, IsPrintedSchedule, IsReportOn, IsReportValue, IsRest, IsSchedule, IsShown, IsVerdict, Pair, PlaceOf, Race, ReportValue, ShownRace, TraceData, counts_in, each_at, length-map, line_of_event, location_at, location_of, pair_in, pair_of, places_of_pairs, report_text, shown_place, shown_places, slice_get-get_or, slice_get_within, with_one_more, with_pair}
use Rattle.std.specs.Str.{bytes_eq}
use Rattle.std.proofs.lemmas.List.Elements.{All-head, All-tail}
use Rattle.shb_lines.specs.text.Text.{IsLineText}
use Rattle.shb_lines.proofs.events.Reach.{event_at_access}
use Rattle.shb_lines.proofs.events.Schedulable.{printed_is_schedule}
use Rattle.shb_lines.proofs.text.LineTexts.{location_short}
use Rattle.shb_format.specs.Writing.{IsShowable, block_of, written_report}
use Rattle.shb_judging.proofs.GoodBlocks.{in_range}
use Rattle.shb_judging.proofs.LongSchedules.{few_different}
use Rattle.shb_format.proofs.PlaceLemmas.{with_pair_few}
use Rattle.shb_format.proofs.WrittenText.{written_is}

abbrev pairs_of : List ShownRace → List (ℕ × ℕ)
pairs_of shown = map (λ race. race.pair) shown

abbrev IsRace : TraceData → ShownRace → Type 0
IsRace trace race = Race trace.events race.pair.0 race.pair.1

-- each race that is shown is a race
are_races : (trace : TraceData) (shown : List ShownRace) → ((i j : ℕ) → Contains (pairs_of shown) (i, j) → Race trace.events i j) → AllByRecursion (IsRace trace) shown
are_races trace [] all = tt
are_races trace (race ∷ shown) all = (all race.pair.0 race.pair.1 (zero, omega arith, refl), are_races trace shown (λ i j c. all i j (suc c.0, (let lt = c.1 in omega arith), c.2)))

race_within : (trace : TraceData) (i j : ℕ) → Race trace.events i j → j < length trace.events
race_within trace i j race =
    let found = event_at_access trace.events j race.conflict.variable race.conflict.second_accesses in
    slice_get_within trace.events j found.0 found.1

-- the printed schedule of a race that is shown
schedule_shown : (trace : TraceData) (race : ShownRace) → IsDisciplined trace.events → IsRace trace race → HasSchedule true trace race
    → (s : List ℕ) × (race.schedule ≡ Some s) × IsPrintedSchedule trace.events s race.pair.0 race.pair.1 × IsSchedule trace.events s race.pair.0 race.pair.1
schedule_shown trace race disciplined is h = by race.schedule h
  where
    by : (schedule : Option (List ℕ)) → IsSomeAnd schedule (λ s. IsPrintedSchedule trace.events s race.pair.0 race.pair.1)
        → (s : List ℕ) × (schedule ≡ Some s) × IsPrintedSchedule trace.events s race.pair.0 race.pair.1 × IsSchedule trace.events s race.pair.0 race.pair.1
    by None h = absurd h
    by (Some s) h = (s, refl, h, printed_is_schedule trace.events s race.pair.0 race.pair.1 disciplined is h)

-- ---- the report is good

good_block : (trace : TraceData) (race : ShownRace) → IsDisciplined trace.events → IsRace trace race → HasSchedule true trace race → IsGoodBlock trace (block_of trace race)
good_block trace race disciplined is h =
    let shown = schedule_shown trace race disciplined is h in
    let first : race.pair.0 ≡ race.pair.0 + 1 - 1 = omega arith in
    let second : race.pair.1 ≡ race.pair.1 + 1 - 1 = omega arith in
    let both : ◌≡◌ {A = ℕ × ℕ} (race.pair.0, race.pair.1) (race.pair.0 + 1 - 1, race.pair.1 + 1 - 1) = λ i. (first i, second i) in record {
      pair = record {
        first_counts = omega arith;
        in_range = omega (arith, race_within trace race.pair.0 race.pair.1 is);
        earlier = omega (arith, is.earlier);
        conflict = subst (λ (p : ℕ × ℕ). Conflict trace.events p.0 p.1) both is.conflict;
        first_line = ap (line_of_event trace) first;
        second_line = ap (line_of_event trace) second;
      };
      events = shown.0;
      numbers = ap (λ schedule. map (λ event. event + 1) (unwrap_or schedule [])) shown.1;
      schedule = subst (λ (p : ℕ × ℕ). IsSchedule trace.events shown.0 p.0 p.1) both shown.3;
    }

good_blocks : (trace : TraceData) (shown : List ShownRace) → IsDisciplined trace.events → AllByRecursion (IsRace trace) shown → All (HasSchedule true trace) shown
    → AllByRecursion (IsGoodBlock trace) (map (block_of trace) shown)
good_blocks trace [] disciplined are h = tt
good_blocks trace (race ∷ shown) disciplined are h = (good_block trace race disciplined are.0 (All-head (HasSchedule true trace) race shown h), good_blocks trace shown disciplined are.1 (All-tail (HasSchedule true trace) race shown h))

-- the pairs of the blocks are those of the races
same_pairs : (trace : TraceData) (shown : List ShownRace) → map pair_of (pairs_of shown) ≡ map pair_in (map (block_of trace) shown)
same_pairs trace [] = refl
same_pairs trace (race ∷ shown) =
    let first : race.pair.0 ≡ race.pair.0 + 1 - 1 = omega arith in
    let second : race.pair.1 ≡ race.pair.1 + 1 - 1 = omega arith in
    λ i. record { first = first i; second = second i } ∷ same_pairs trace shown i

good_report : (trace : TraceData) (shown : List ShownRace) → IsDisciplined trace.events → AllByRecursion (IsRace trace) shown → All (HasSchedule true trace) shown
    → IsGoodReport trace (written_report trace shown)
good_report trace shown disciplined are h = record {
  counts = refl;
  blocks = good_blocks trace shown disciplined are h;
  places = ap (λ pairs. shown_places trace (counts_in (places_of_pairs trace pairs))) (same_pairs trace shown);
}

-- ---- the report is in the grammar

at_each : (lines : List (List ℕ)) (e : ℕ) → AllByRecursion IsLineText lines → e < length lines → IsLineText (unwrap_or (slice_get lines e) [])
at_each lines e all lt =
    let at = slice_get-get_or lines e [] lt in
    subst (λ o. IsLineText (unwrap_or o [])) (sym at) (each_at IsLineText lines e (get_or lines e []) at all)

line_rest : (trace : TraceData) (e : ℕ) → IsShowable trace → e < length trace.events → IsRest 1 (line_of_event trace e)
line_rest trace e showable lt =
    let line = at_each trace.lines e showable.line_texts (omega (arith, lt, showable.a_line_each)) in
    record { enough = line.least; most = line.most; one_line = line.one_line }

location_rest : (trace : TraceData) (e : ℕ) → IsShowable trace → IsRest 0 (location_at trace e)
location_rest trace e showable = by (slice_get trace.lines e) refl
  where
    by : (o : Option (List ℕ)) → slice_get trace.lines e ≡ o → IsRest 0 (location_of (unwrap_or o []))
    by None at = record { enough = omega arith; most = omega arith; one_line = refl }
    by (Some line) at =
        let short = location_short line (each_at IsLineText trace.lines e line at showable.line_texts) in
        record { enough = omega arith; most = short.most; one_line = short.one_line }

shown_numbers : (s : List ℕ) (n : ℕ) → AllByRecursion (λ a. a < n) s → IsShown n → AllByRecursion IsShown (map (λ event. event + 1) s)
shown_numbers [] n h few = tt
shown_numbers (a ∷ s) n h few = let low = h.0 in (omega (arith, low, few), shown_numbers s n h.1 few)

block_in_grammar : (trace : TraceData) (race : ShownRace) → IsDisciplined trace.events → IsShowable trace → IsRace trace race → HasSchedule true trace race → IsBlock (block_of trace race)
block_in_grammar trace race disciplined showable is h =
    let shown = schedule_shown trace race disciplined is h in
    let s = shown.0 in
    let n = length trace.events in
    let few = showable.counts.events in
    let earlier = is.earlier in
    let second = race_within trace race.pair.0 race.pair.1 is in
    let members = shown.3.reordering.positions.in_range in
    let numbers : map (λ event. event + 1) (unwrap_or race.schedule []) ≡ map (λ event. event + 1) s = ap (λ schedule. map (λ event. event + 1) (unwrap_or schedule [])) shown.1 in
    let most : length s ≤ n = few_different n s members (λ p q a lt first second. shown.3.reordering.positions.distinct a (record { index = p; later_index = q; before = lt; first = first; second = second })) in
    record {
      first = omega (arith, second, earlier, few);
      second = omega (arith, second, few);
      first_line = line_rest trace race.pair.0 showable (omega (arith, second, earlier));
      second_line = line_rest trace race.pair.1 showable second;
      numbers = subst (AllByRecursion IsShown) (sym numbers) (shown_numbers s n (in_range n s members) few);
      few = omega (arith, most, few, ap (λ (l : List ℕ). length l) numbers, length-map s (λ event. event + 1));
    }

blocks_in_grammar : (trace : TraceData) (shown : List ShownRace) → IsDisciplined trace.events → IsShowable trace → AllByRecursion (IsRace trace) shown → All (HasSchedule true trace) shown
    → AllByRecursion IsBlock (map (block_of trace) shown)
blocks_in_grammar trace [] disciplined showable are h = tt
blocks_in_grammar trace (race ∷ shown) disciplined showable are h = (
  block_in_grammar trace race disciplined showable are.0 (All-head (HasSchedule true trace) race shown h),
  blocks_in_grammar trace shown disciplined showable are.1 (All-tail (HasSchedule true trace) race shown h),
)

-- a pair more makes at most one place more
length-with_pair : (places : List PlaceOf) (first second : List ℕ) (pair : Pair) → length (with_pair places first second pair) ≤ length places + 1
length-with_pair [] first second pair = omega arith
length-with_pair (place ∷ places) first second pair = by (bytes_eq first place.first && bytes_eq second place.second) (length-with_pair places first second pair)
  where
    by : (b : Bool) → length (with_pair places first second pair) ≤ length places + 1
        → length (cond b (record { first = place.first; second = place.second; counted = with_one_more (Some place.counted) pair } ∷ places) (place ∷ with_pair places first second pair)) ≤ length (place ∷ places) + 1
    by true le = omega arith
    by false le = omega (arith, le)

-- n pairs have at most n places, each with at most n of the pairs
pub record AreFew (places : List PlaceOf) (n : ℕ) : Type 0 where
  pub long : length places ≤ n
  pub counts : AllByRecursion (λ place. place.counted.count ≤ n) places

one_more : (places : List PlaceOf) (n : ℕ) → AllByRecursion (λ place. place.counted.count ≤ n) places → AllByRecursion (λ place. place.counted.count + 1 ≤ n + 1) places
one_more [] n h = tt
one_more (place ∷ places) n h = let here = h.0 in (omega (arith, here), one_more places n h.1)

few_from : (trace : TraceData) (pairs : List Pair) (places : List PlaceOf) (n : ℕ) → AreFew places n
    → AreFew (fold (λ places pair. with_pair places (location_at trace pair.first) (location_at trace pair.second) pair) places pairs) (n + length pairs)
few_from trace [] places n few = subst (AreFew places) (let e : n ≡ n + 0 = omega arith in e) few
few_from trace (pair ∷ pairs) places n few =
    let first = location_at trace pair.first in
    let second = location_at trace pair.second in
    let long = few.long in
    let next : AreFew (with_pair places first second pair) (n + 1) = record {
      long = omega (arith, long, length-with_pair places first second pair);
      counts = with_pair_few (n + 1) places first second pair (omega arith) (one_more places n few.counts);
    } in
    subst (AreFew (fold (λ places pair. with_pair places (location_at trace pair.first) (location_at trace pair.second) pair) (with_pair places first second pair) pairs))
    (let e : n + 1 + length pairs ≡ n + length (pair ∷ pairs) = omega arith in e)
    (few_from trace pairs (with_pair places first second pair) (n + 1) next)

pub places_few : (trace : TraceData) (pairs : List Pair) → AreFew (places_of_pairs trace pairs) (length pairs)
places_few trace pairs = subst (AreFew (places_of_pairs trace pairs)) (let e : 0 + length pairs ≡ length pairs = omega arith in e) (few_from trace pairs [] 0 (record { long = omega arith; counts = tt }))

each_place : (trace : TraceData) (places : List PlaceOf) (n : ℕ) → IsShowable trace → IsShown n → AllByRecursion (λ place. place.counted.count ≤ n) places → AllByRecursion IsPlace (shown_places trace (counts_in places))
each_place trace [] n showable few h = tt
each_place trace (place ∷ places) n showable few h =
    let here = h.0 in (
      record { count = omega (arith, here, few); first = location_rest trace place.counted.pair.first showable; second = location_rest trace place.counted.pair.second showable },
      each_place trace places n showable few h.1,
    )

pub length-shown : (trace : TraceData) (places : List PlaceOf) → length (shown_places trace (counts_in places)) ≡ length places
length-shown trace places = length-map (counts_in places) (shown_place trace) ∙ length-map places (λ place. place.counted)

report_in_grammar : (trace : TraceData) (shown : List ShownRace) → IsDisciplined trace.events → IsShowable trace → IsShown (length shown) → AllByRecursion (IsRace trace) shown → All (HasSchedule true trace) shown
    → IsReportValue (written_report trace shown)
report_in_grammar trace shown disciplined showable count are h =
    let pairs = map pair_of (pairs_of shown) in
    let long : length pairs ≡ length shown = length-map (pairs_of shown) pair_of ∙ length-map shown (λ race. race.pair) in
    let few = places_few trace pairs in
    let places_long = few.long in
    record {
      counts = showable.counts;
      places = record {
        each = each_place trace (places_of_pairs trace pairs) (length pairs) showable (omega (arith, long, count)) few.counts;
        few = omega (arith, places_long, long, count, length-shown trace (places_of_pairs trace pairs));
      };
      blocks = blocks_in_grammar trace shown disciplined showable are h;
      few = omega (arith, count, length-map shown (block_of trace));
    }

-- ---- both

pub written_good : (Lists : TraceData → List (ℕ × ℕ) → Type 0) (trace : TraceData) (bytes : List ℕ) → ((races : List (ℕ × ℕ)) → Lists trace races → (i j : ℕ) → Contains races (i, j) → Race trace.events i j)
    → IsDisciplined trace.events → IsShowable trace → (report : IsReportOn Lists true trace bytes) → IsShown (length report.races)
    → (value : ReportValue) × IsReportValue value × (bytes ≡ report_text value) × IsVerdict trace value (Good (length report.races))
written_good Lists trace bytes races disciplined showable report count =
    let shown = report.blocks_are.shown in
    let listed = subst (Lists trace) (sym report.blocks_are.races_are) report.races_are in
    let are = are_races trace shown (races (pairs_of shown) listed) in
    let schedules = report.blocks_are.schedules_are in
    let long : length report.races ≡ length shown = sym (ap (λ (l : List (ℕ × ℕ)). length l) report.blocks_are.races_are) ∙ length-map shown (λ race. race.pair) in (
      written_report trace shown,
      report_in_grammar trace shown disciplined showable (omega (arith, long, count)) are schedules,
      written_is Lists trace bytes report,
      (good_report trace shown disciplined are schedules, long ∙ sym (length-map shown (block_of trace))),
    )

-- what is listed are races
pub all_are_races : (trace : TraceData) (races : List (ℕ × ℕ)) → AllRaces trace races → (i j : ℕ) → Contains races (i, j) → Race trace.events i j
all_are_races trace races listed i j c = (listed.all i j).0 c
