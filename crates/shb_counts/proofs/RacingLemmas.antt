-- The races of an access are those entries of its variable that are before it and above what it knows of their thread.
use Rattle.std.proofs.Common.{◌≡◌, ℕ, zero, suc, ◌+◌, ◌-◌, ◌^◌, ◌<◌, ◌≤◌, ◌⊎◌, inl, inr, Bool, true, false, cond, List, [], ◌∷◌, ◌++◌, Some, get_or, length, map, take, refl, arith, ap, sym, subst, ◌∙◌, append-nil}
use Rattle.std.specs.Prelude.{Contains, count_by, filter, nat_lt, ◌&&◌, ◌||◌, slice_get}
use Rattle.std.specs.List.{sum_by}
use Rattle.std.proofs.lemmas.Bool.{cases_Bool, cases_lt, le-ltb, lt-ltb}
use Rattle.std.proofs.lemmas.List.{length-map, length-take-le, take_all}
use Rattle.std.proofs.lemmas.List.Elements.{All-contains}
use Rattle.std.proofs.lemmas.List.Sorted.{Contains-permutation, sum_by-IsPermutation}
use Rattle.std.proofs.lemmas.List.Sums.{count_by-le-length, length-filter, sum_by-cons}
use Rattle.std.proofs.lemmas.Option.{get_or_from_slice_get, slice_get-get_or, slice_get_within}
use Rattle.shb_lines.specs.declared.event.Event.{Event}
use Rattle.shb_lines.specs.declared.event.Op.TheVariants.{Write}
use Rattle.shb_lines.proofs.events.Search.{writes_at_is}
use Rattle.shb_lines.specs.events.Discipline.{local_time}
use Rattle.shb_lines.specs.events.Order.{IsBelowPredCount}
use Rattle.shb_lines.specs.events.Reach.{is_race, numbers_where, writes_at}
use Rattle.shb_lines.proofs.events.Reach.{numbers_listed, reflect_race}
use Rattle.shb_stamps.specs.Accesses.{accesses_at, races_with}
use Rattle.shb_stamps.proofs.Accesses.{access_from_test, test_from_access}
use Rattle.shb_stamps.proofs.FlatMaps.{map_contains}
use Rattle.shb_stamps.proofs.Times.{times_rise}
use Rattle.shb_counts.specs.Accesses.{AreEntries, IsAccess, IsEntry, rivals}
use Rattle.shb_counts.specs.Windows.{AreRising, AreWindows, IsLooked, IsWindow, is_between}
use Rattle.shb_counts.specs.declared.accesses.Access.{Access}
use Rattle.shb_counts.specs.declared.accesses.Entry.{Entry}
use Rattle.shb_counts.specs.declared.finder.Window.{Window}
use Rattle.shb_counts.proofs.FilterLemmas.{filter_numbers}
use Rattle.shb_counts.proofs.RaceFilter.{race_test}
use Rattle.shb_counts.proofs.WindowLemmas.{all_up_to, has_not, next_window, none_between, window_counted, within_none}

both_parts : (a b : Bool) → (a && b) ≡ true → (a ≡ true) × (b ≡ true)
both_parts true b h = (refl, h)
both_parts false b h = absurd (let f : ⊥ = cc in f)

both_are : (a b : Bool) → a ≡ true → b ≡ true → (a && b) ≡ true
both_are a b of_a of_b = ap (λ (q : Bool). q && b) of_a ∙ of_b

or_turned : (a b : Bool) → (b || a) ≡ true → (a || b) ≡ true
or_turned true b h = refl
or_turned false true h = refl
or_turned false false h = h

-- numbers that pass are below e, so there is none from e on
pub numbers_cut : (f : ℕ → Bool) (e n : ℕ) → e ≤ n → ((i : ℕ) → f i ≡ true → i < e) → numbers_where f n ≡ numbers_where f e
unfolding numbers_where
numbers_cut f e zero le low = ap (numbers_where f) (let is : 0 ≡ e = omega (arith, le) in is)
numbers_cut f e (suc n) le low = elim (cases_lt n e) [
  | inl lt ↦ ap (numbers_where f) (let is : suc n ≡ e = omega (arith, le, lt) in is)
  | inr past ↦ last (cases_Bool (f n)) past (numbers_cut f e n past low)
]
  where
    last : (f n ≡ true) ⊎ (f n ≡ false) → e ≤ n → numbers_where f n ≡ numbers_where f e → numbers_where f n ++ cond (f n) (n ∷ []) [] ≡ numbers_where f e
    last (inl passes) past same = absurd (let lt = low n passes in omega (arith, lt, past))
    last (inr fails) past same = ap (λ (b : Bool). numbers_where f n ++ cond b (n ∷ []) []) fails ∙ (append-nil (numbers_where f n) ∙ same)

sum_mapped : {X Y : Type 0} (v : Y → ℕ) (f : X → Y) (xs : List X) → sum_by v (map f xs) ≡ sum_by (λ x. v (f x)) xs
sum_mapped v f [] = refl
sum_mapped v f (x ∷ xs) =
    let first = sum_by-cons v (f x) (map f xs) in
    let second = sum_by-cons (λ y. v (f y)) x xs in
    let rest = sum_mapped v f xs in
    omega (arith, first, second, rest)

pub no_entry : Entry
no_entry = record { thread = 0; event = 0; time = 0; location = 0; end = 0; least = 0 }

pub races_within : (trace : List Event) (e : ℕ) (entries : List Entry) (from races : ℕ) (windows : List Window) → IsLooked trace e entries from races windows → races ≤ from
races_within trace e entries from races windows looked =
    let counted = looked.counted in
    let some = count_by-le-length (λ (entry : Entry). is_race trace entry.event e) (take from entries) in
    let long = length-take-le from entries looked.within in
    omega (arith, counted, some, long)

-- what stands at an index is the entry there
pub late_here : (entries : List Entry) (from e : ℕ) (entry d : Entry) → slice_get entries from ≡ Some entry → e ≤ (get_or entries from d).event → e ≤ entry.event
late_here entries from e entry d is le = subst (λ (f : Entry). e ≤ f.event) (get_or_from_slice_get entries from entry d is) le

module _ (trace : List Event) (numbers : List ℕ) (access : Access) (entries : List Entry) (is_access : IsAccess trace numbers access) (are : AreEntries trace numbers access.variable access.writes entries) where
  abbrev pub x : ℕ
  x = access.variable

  abbrev pub e : ℕ
  e = access.event

  abbrev pub rival : ℕ → Bool
  rival i = accesses_at trace x i && (access.writes || writes_at trace x i)

  rival_races : (i : ℕ) → is_race trace i e ≡ true → rival i ≡ true
  rival_races i races =
      let race = (reflect_race trace i e).0 races in
      let same : race.conflict.variable ≡ x = (let s : Some race.conflict.variable ≡ Some x = sym race.conflict.second_accesses ∙ is_access.variable in cc) in
      both_are (accesses_at trace x i) (access.writes || writes_at trace x i)
      (test_from_access trace x i (race.conflict.first_accesses ∙ ap (λ (y : ℕ). Some y) same))
      (elim race.conflict.one_writes [
        | inl first ↦ or_turned access.writes (writes_at trace x i) (ap (λ (b : Bool). b || access.writes) (writes_at_is trace x i (first ∙ ap (λ (y : ℕ). Some (Write y)) same)))
        | inr second ↦ ap (λ (b : Bool). b || writes_at trace x i) (sym is_access.writes ∙ writes_at_is trace x e (second ∙ ap (λ (y : ℕ). Some (Write y)) same))
      ])

  -- the races of the access are the rivals that race with it
  pub rivals_racing : filter (λ i. is_race trace i e) (rivals trace x access.writes) ≡ numbers_where (λ i. is_race trace i e) e
  rivals_racing =
      filter_numbers (λ i. is_race trace i e) rival (length trace) (λ i lt races. rival_races i races)
      ∙ numbers_cut (λ i. is_race trace i e) e (length trace) (let lt = is_access.in_range in omega (arith, lt)) (λ i races. ((reflect_race trace i e).0 races).earlier)

  pub racing_counted : count_by (λ entry. is_race trace entry.event e) entries ≡ length (races_with trace e)
  unfolding races_with
  racing_counted =
      let races = λ (i : ℕ). is_race trace i e in
      sym (sum_mapped (λ (i : ℕ). cond {A = ℕ} (races i) 1 0) (λ (entry : Entry). entry.event) entries)
      ∙ (sym (sum_by-IsPermutation (λ (i : ℕ). cond {A = ℕ} (races i) 1 0) (map (λ (entry : Entry). entry.event) entries) (rivals trace x access.writes) are.events)
      ∙ (sym (length-filter races (rivals trace x access.writes))
      ∙ (ap length rivals_racing
      ∙ sym (length-map (numbers_where races e) (λ (i : ℕ). (i, e))))))

  is_entry : (j : ℕ) (entry : Entry) → slice_get entries j ≡ Some entry → Contains entries entry
  is_entry j entry is = (j, slice_get_within entries j entry is, get_or_from_slice_get entries j entry entry is)

  entry_rival : (j : ℕ) (entry : Entry) → slice_get entries j ≡ Some entry → rival entry.event ≡ true
  entry_rival j entry is =
      let c = Contains-permutation (map (λ (other : Entry). other.event) entries) (rivals trace x access.writes) entry.event are.events (map_contains (λ (other : Entry). other.event) entries entry (is_entry j entry is)) in
      (((numbers_listed rival (length trace)).members entry.event).0 c).1

  -- an entry races where it is before the access and above what this knows of its thread
  pub entry_races : (j n : ℕ) (entry : Entry) → slice_get entries j ≡ Some entry → IsBelowPredCount trace entry.thread e n → is_race trace entry.event e ≡ is_between e n entry
  entry_races j n entry is below =
      let own = All-contains (IsEntry trace numbers) entries entry are.each (is_entry j entry is) in
      let parts = both_parts (accesses_at trace x entry.event) (access.writes || writes_at trace x entry.event) (entry_rival j entry is) in
      elim (cases_lt entry.event e) [
        | inl lt ↦
            race_test trace x e is_access.variable entry.thread n entry.event (record {
              earlier = lt;
              variable = access_from_test trace x entry.event parts.0;
              thread = own.thread;
              below = below;
            })
            ∙ (ap (λ (b : Bool). b && nat_lt n (local_time trace entry.thread entry.event)) (or_turned (writes_at trace x entry.event) (writes_at trace x e) (ap (λ (b : Bool). b || writes_at trace x entry.event) is_access.writes ∙ parts.1))
            ∙ (ap (λ (t : ℕ). nat_lt n t) own.time
            ∙ sym (ap (λ (b : Bool). b && nat_lt n entry.time) (lt-ltb entry.event e lt))))
        | inr past ↦ elim (cases_Bool (is_race trace entry.event e)) [
          | inr fails ↦ fails ∙ sym (ap (λ (b : Bool). b && nat_lt n entry.time) (le-ltb entry.event e past))
          | inl races ↦ absurd (let lt = ((reflect_race trace entry.event e).0 races).earlier in omega (arith, lt, past))
        ]
      ]

  -- the entries of a thread rise up to their end
  pub rises_on : (from : ℕ) (first : Entry) → slice_get entries from ≡ Some first → AreRising entries from first.end
  rises_on from first is =
      let ends = are.grouped.ends from first is in
      let up = ends.0 in
      record {
        forward = omega (arith, up);
        within = ends.1;
        rise = λ g h entry later of_g of_h begins le lt. elim (cases_lt g h) [
          | inl less ↦ (
              let of_thread = are.grouped.same from h first later is of_h (omega (arith, begins, le)) lt in
              let same_end = are.grouped.same from g first entry is of_g begins (omega (arith, le, lt)) in
              let own = All-contains (IsEntry trace numbers) entries entry are.each (is_entry g entry of_g) in
              let next = All-contains (IsEntry trace numbers) entries later are.each (is_entry h later of_h) in
              let event_less = are.grouped.rising g h entry later of_g of_h less (let e_is = same_end.1 in omega (arith, lt, e_is)) in
              let rise = times_rise trace later.thread entry.event later.event event_less next.thread in
              let time_is = next.time in
              let own_time = own.time in
              let one_thread : local_time trace later.thread entry.event ≡ local_time trace entry.thread entry.event = ap (λ (t : ℕ). local_time trace t entry.event) (of_thread.0 ∙ sym same_end.0) in
              (omega (arith, event_less), omega (arith, rise, time_is, own_time, one_thread)))
          | inr more ↦ (
              let at : g ≡ h = omega (arith, le, more) in
              let same : entry ≡ later = (let t : Some entry ≡ Some later = sym of_g ∙ (ap (slice_get entries) at ∙ of_h) in cc) in
              (subst (λ (other : Entry). entry.event ≤ other.event) same (omega arith), subst (λ (other : Entry). entry.time ≤ other.time) same (omega arith)))
        ];
      }

  pub group_rises : (from : ℕ) (first : Entry) (to : ℕ) → slice_get entries from ≡ Some first → to ≡ first.end → AreRising entries from to
  group_rises from first to is end = subst (AreRising entries from) (sym end) (rises_on from first is)

  pub group_more : (from : ℕ) (first : Entry) (to : ℕ) → slice_get entries from ≡ Some first → to ≡ first.end → from < length entries → length entries - to < length entries - from
  group_more from first to is end lt = let up = (are.grouped.ends from first is).0 in omega (arith, up, end, lt)

  -- a window above what is known of the thread has those that race
  pub window_races : (from : ℕ) (below : ℕ) (first : Entry) (window : Window) → slice_get entries from ≡ Some first → IsBelowPredCount trace first.thread e below → IsWindow (is_between e below) entries from first.end window
      → IsWindow (λ entry. is_race trace entry.event e) entries from first.end window
  window_races from below first window is counts found = record {
    begins = found.begins;
    forward = found.forward;
    ends = found.ends;
    passing = λ j entry is_j begins lt. (
        let of_thread = are.grouped.same from j first entry is is_j begins lt in
        entry_races j below entry is_j (subst (λ (t : ℕ). IsBelowPredCount trace t e below) (sym of_thread.0) counts) ∙ found.passing j entry is_j begins lt);
  }

  not_before : (j : ℕ) (entry : Entry) → e ≤ entry.event → is_race trace entry.event e ≡ false
  not_before j entry past = elim (cases_Bool (is_race trace entry.event e)) [
    | inr fails ↦ fails
    | inl races ↦ absurd (let lt = ((reflect_race trace entry.event e).0 races).earlier in omega (arith, lt, past))
  ]

  -- where the first entry of a thread isn't before the access, none races
  pub none_races : (from : ℕ) (first : Entry) (window : Window) → slice_get entries from ≡ Some first → e ≤ first.event → window.start ≡ from → window.end ≡ from → IsWindow (λ entry. is_race trace entry.event e) entries from first.end window
  none_races from first window is past starts ends = record {
    begins = omega (arith, starts);
    forward = omega (arith, starts, ends);
    ends = (let up = (are.grouped.ends from first is).0 in omega (arith, up, ends));
    passing = λ j entry is_j begins lt. (
        let rise = (rises_on from first is).rise from j first entry is is_j (omega arith) begins lt in
        let up = rise.0 in
        not_before j entry (omega (arith, past, up)) ∙ sym (has_not j window (inr (omega (arith, begins, ends)))));
  }

  -- the entries of one thread more
  pub looked_on : (from races to : ℕ) (windows longer : List Window) (first : Entry) (window : Window) → slice_get entries from ≡ Some first → to ≡ first.end → to < 2 ^ 32
      → IsWindow (λ entry. is_race trace entry.event e) entries from first.end window → longer ≡ cond (nat_lt window.start window.end) (windows ++ window ∷ []) windows → IsLooked trace e entries from races windows
      → IsLooked trace e entries to (races + (window.end - window.start)) longer
  looked_on from races to windows longer first window is end few next longer_is so_far =
      let rises = rises_on from first is in
      let more = window_counted (λ (entry : Entry). is_race trace entry.event e) entries first from first.end window rises.within next in
      let counted = so_far.counted in
      let looked : IsLooked trace e entries first.end (races + (window.end - window.start)) (cond (nat_lt window.start window.end) (windows ++ window ∷ []) windows) = record {
        within = rises.within;
        few = omega (arith, end, few);
        found = next_window (λ (entry : Entry). is_race trace entry.event e) entries from first.end windows window rises.forward so_far.found next;
        counted = omega (arith, more, counted);
      } in
      rw (longer_is, end) looked

  -- a thread that has an empty window is passed
  pub passed_on : (from races to below k : ℕ) (windows : List Window) (first : Entry) → slice_get entries from ≡ Some first → to ≡ first.end → to < 2 ^ 32 → IsBelowPredCount trace first.thread e below
      → IsWindow (is_between e below) entries from first.end (record { start = k; end = k }) → IsLooked trace e entries from races windows → IsLooked trace e entries to races windows
  passed_on from races to below k windows first is end few counts found so_far =
      subst (λ (n : ℕ). IsLooked trace e entries to n windows) (let zero : races + (k - k) ≡ races = omega arith in zero)
      (looked_on from races to windows windows first (record { start = k; end = k }) is end few (window_races from below first (record { start = k; end = k }) is counts found)
      (sym (ap (λ (b : Bool). cond b (windows ++ record { start = k; end = k } ∷ []) windows) (le-ltb k k (omega arith)))) so_far)

  module _ (from races : ℕ) (windows : List Window) (low : (entry : Entry) → slice_get entries from ≡ Some entry → e ≤ entry.least) (looked : IsLooked trace e entries from races windows) where
    none_after : (j : ℕ) (entry : Entry) → slice_get entries j ≡ Some entry → from ≤ j → is_race trace entry.event e ≡ false
    none_after j entry is le =
        let there : slice_get entries from ≡ Some (get_or entries from entry) = slice_get-get_or entries from entry (let within = slice_get_within entries j entry is in omega (arith, within, le)) in
        let least = are.grouped.least from j (get_or entries from entry) entry there is le in
        let past = low (get_or entries from entry) there in
        not_before j entry (omega (arith, least, past))

    pub all_windows : AreWindows trace e entries windows
    all_windows = record {
      within = (let le = looked.within in all_up_to from (length entries) windows le looked.found.within);
      apart = looked.found.apart;
      racing = λ j entry is. elim (cases_lt j from) [
        | inl before ↦ looked.found.passing j entry is before
        | inr past ↦ none_after j entry is past ∙ sym (within_none windows j from looked.found.within past)
      ];
    }

    pub all_counted : races ≡ length (races_with trace e)
    all_counted =
        let rest = none_between (λ (entry : Entry). is_race trace entry.event e) entries no_entry from (length entries) looked.within (omega arith) (λ j le lt. none_after j (get_or entries j no_entry) (slice_get-get_or entries j no_entry lt) le) in
        let all = ap (count_by (λ (entry : Entry). is_race trace entry.event e)) (take_all (length entries) entries (omega arith)) in
        let counted = looked.counted in
        let races_are = racing_counted in
        omega (arith, rest, all, counted, races_are)
