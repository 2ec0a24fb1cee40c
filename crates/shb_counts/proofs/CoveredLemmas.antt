-- What the lists of a cover say of the races of the accesses that were added.
use Rattle.std.proofs.Common.{◌≡◌, ℕ, zero, suc, ◌+◌, ◌^◌, ◌<◌, ◌≤◌, ◌⊎◌, inl, inr, Bool, true, false, cond, ◌&&◌, ◌==◌, List, [], ◌∷◌, ◌++◌, Some, Option, All, AllPairs, Contains, get_or, length, take, map, filter, flat_map, sum, count_by, refl, arith, ap, sym, subst, ◌∙◌, append_assoc, append-nil}
use Rattle.std.proofs.lemmas.Bool.{and_parts, cases_eq, eq-eqb, ltb-true, ne_eqb, true≢false}
use Rattle.std.proofs.lemmas.Grind.{common_steps}
use Rattle.std.proofs.lemmas.List.{get_or-take, get_or_default, length-map, length-take-le, length_push, nil_from_length, take_more}
use Rattle.std.proofs.lemmas.List.Concat.{flat_map-append}
use Rattle.std.proofs.lemmas.List.Elements.{All-contains, Contains-append_cases, Contains-append_left, Contains-append_right, Contains-push, Contains-push_cases}
use Rattle.std.proofs.lemmas.List.Sums.{count_by-le-length, length-filter, sum_by-append, sum_by-cons, sum_by_push}
use Rattle.std.proofs.lemmas.Option.{slice_get-get_or, slice_get_within}
use Rattle.shb_lines.specs.declared.event.Event.{Event}
use Rattle.shb_lines.specs.declared.event.Pair.{Pair}
use Rattle.shb_lines.specs.events.Reach.{is_race}
use Rattle.shb_lines.proofs.events.Increasing.{contains_cases, contains_head, contains_none, contains_tail}
use Rattle.shb_format.specs.Keyed.{Key, same_key}
use Rattle.shb_stamps.proofs.FlatMaps.{map_contains, map_parts, pairs_append}
use Rattle.shb_counts.specs.Accesses.{IsEntry}
use Rattle.shb_counts.specs.Covers.{HasCovered, HasWindow, HasWindows, IsAt, IsEarliest, IsSized, pairs_at, racing_pairs}
use Rattle.shb_counts.specs.Numbered.{key_in, number_in}
use Rattle.shb_counts.specs.PlaceSums.{AreSums, at_place}
use Rattle.shb_counts.specs.Sums.{AreSumsOf, IsNotAfter, IsPlaceSum, sum_of}
use Rattle.shb_counts.specs.Windows.{AreWindows, is_within}
use Rattle.shb_counts.specs.declared.accesses.Access.{Access}
use Rattle.shb_counts.specs.declared.accesses.Entry.{Entry}
use Rattle.shb_counts.specs.declared.cover.Cover.{Cover}
use Rattle.shb_counts.specs.declared.finder.Window.{Window}
use Rattle.shb_counts.specs.declared.sums.PlaceSum.{PlaceSum}
use Rattle.shb_counts.proofs.CoverLemmas.{all_front, sum_take_more, within_one, within_yes}
use Rattle.shb_counts.proofs.PlacesOfSums.{filter_keeps, filter_kept}
use Rattle.shb_counts.proofs.SumLemmas.{same_sums}
use Rattle.shb_counts.proofs.SwapLemmas.{back, one_place, same_many, there}

-- ---- an access more

-- numbers that rise from below a bound are at most so many
rising_at : (xs : List ℕ) → AllPairs (λ a b. a < b) xs → (k : ℕ) → k < length xs → k ≤ get_or xs k 0
rising_at xs h zero lt = omega arith
rising_at xs h (suc k) lt =
    let before = rising_at xs h k (omega (arith, lt)) in
    let step = h k (suc k) 0 (omega arith) lt in
    omega (arith, before, step)

rising_few : (xs : List ℕ) (n : ℕ) → AllPairs (λ a b. a < b) xs → All (λ a. a < n) xs → length xs ≤ n
rising_few xs n rising below = by (length xs) refl
  where
    by : (m : ℕ) → length xs ≡ m → length xs ≤ n
    by zero is = omega (arith, is)
    by (suc m) is =
        let last = rising_at xs rising m (omega (arith, is)) in
        let low = below m 0 (omega (arith, is)) in
        omega (arith, is, last, low)

first_next : (trace : List Event) (events : List ℕ) (i x y later : ℕ) (r : Bool) → IsEarliest trace events i x → All (λ e. e < later) events → is_race trace i later ≡ r → (r ≡ true → 0 < later) → y ≡ cond (r && (x == 0)) later x → IsEarliest trace (events ++ later ∷ []) i y
first_next trace events i x y later false o below race positive is = record {
  none_races = λ unset e c. elim (Contains-push_cases events later e c) [
    | inl old ↦ o.none_races (sym is ∙ unset) e old
    | inr same ↦ ap (is_race trace i) (sym same) ∙ race
  ];
  there = λ some. subst (Contains (events ++ later ∷ [])) (sym is) (Contains-append_left events (later ∷ []) x (o.there (omega (arith, some, is))));
  races = λ some. ap (is_race trace i) is ∙ o.races (omega (arith, some, is));
  least = λ e c racing. elim (Contains-push_cases events later e c) [
    | inl old ↦ (let low = o.least e old racing in omega (arith, low, is))
    | inr same ↦ absurd (true≢false (sym racing ∙ (ap (is_race trace i) (sym same) ∙ race)))
  ];
}
first_next trace events i x y later true o below race positive is = elim (cases_eq x 0) [
  | inl unset ↦ (
      let here : y ≡ later = is ∙ ap (λ (b : Bool). cond b later x) (eq-eqb x 0 unset) in
      let some = positive refl in
      record {
        none_races = λ nothing e c. absurd (omega (arith, nothing, here, some));
        there = λ known. subst (Contains (events ++ later ∷ [])) (sym here) (Contains-push events later);
        races = λ known. ap (is_race trace i) here ∙ race;
        least = λ e c racing. elim (Contains-push_cases events later e c) [
          | inl old ↦ absurd (true≢false (sym racing ∙ o.none_races unset e old))
          | inr same ↦ omega (arith, here, same)
        ];
      })
  | inr ne ↦ (
      let here : y ≡ x = is ∙ ap (λ (b : Bool). cond b later x) (ne_eqb x 0 ne) in
      let known : 0 < x = omega (arith, ne) in
      record {
        none_races = λ nothing e c. absurd (omega (arith, nothing, here, known));
        there = λ some. subst (Contains (events ++ later ∷ [])) (sym here) (Contains-append_left events (later ∷ []) x (o.there known));
        races = λ some. ap (is_race trace i) here ∙ o.races known;
        least = λ e c racing. elim (Contains-push_cases events later e c) [
          | inl old ↦ (let low = o.least e old racing in omega (arith, low, here))
          | inr same ↦ (let low = All-contains (λ (d : ℕ). d < later) events x below (o.there known) in omega (arith, low, here, same))
        ];
      })
]

-- a race has a later event that isn't the first one
race_positive : (trace : List Event) (i e : ℕ) → is_race trace i e ≡ true → 0 < e
unfolding is_race
race_positive trace i e race = let low = ltb-true i e (and_parts _ _ race).0 in omega (arith, low)

module _ (trace : List Event) (entries : List Entry) (events : List ℕ) (old : Cover) (later : ℕ) (windows : List Window) (h : HasCovered trace entries events old) (w : AreWindows trace later entries windows) (below : All (λ e. e < later) events) where
  -- a window that has an entry is of an access that isn't the first event
  pub window_positive : (k : ℕ) (d : Window) → k < length windows → (get_or windows k d).start < (get_or windows k d).end → 0 < later
  window_positive k d lt some =
      let window = get_or windows k d in
      let low = (w.within k d lt).1 in
      let entry = get_or entries window.start (record { thread = 0; event = 0; time = 0; location = 0; end = 0; least = 0 }) in
      let there = within_one windows k window.start d lt (within_yes window window.start (omega arith) some) in
      race_positive trace entry.event later (w.racing window.start entry (slice_get-get_or entries window.start _ (omega (arith, some, low))) ∙ there)

  -- what the windows before a window leave as it was
  pub windows_apart : (k : ℕ) (d : Window) → k < length windows → All (λ v. v.end ≤ (get_or windows k d).start) (take k windows)
  windows_apart k d lt i e low =
      let short = length-take-le k windows (omega (arith, lt)) in
      let before : i < k = omega (arith, low, short) in
      subst (λ (v : Window). v.end ≤ (get_or windows k d).start) (sym (get_or-take k windows i e before))
      (subst (λ (v : Window). (get_or windows i e).end ≤ v.start) (get_or_default windows k e d lt) (w.apart i k e before lt))

  module _ (mid : Cover) (k : ℕ) (d : Window) (lt : k < length windows) (a : HasWindows (take k windows) later old mid) where
    pub starts_room : (get_or windows k d).start < (get_or windows k d).end → get_or mid.starts.items (get_or windows k d).start 0 < later
    starts_room some =
        let same = a.starts_left (get_or windows k d).start (windows_apart k d lt) in
        let room = (h.room later below (window_positive k d lt some) (get_or windows k d).start).0 in
        omega (arith, same, room)

    pub ends_room : (get_or windows k d).start < (get_or windows k d).end → get_or mid.ends.items (get_or windows k d).end 0 < later
    ends_room some =
        let same = a.ends_left (get_or windows k d).end (λ i e low. let end = windows_apart k d lt i e low in omega (arith, end, some)) in
        let room = (h.room later below (window_positive k d lt some) (get_or windows k d).end).1 in
        omega (arith, same, room)

  pub covered_more : (new : Cover) → later < 2 ^ 32 → HasWindows windows later old new → IsSized (length entries) new → HasCovered trace entries (events ++ later ∷ []) new
  covered_more new small a sized = record {
    rising = pairs_append (λ (x y : ℕ). x < y) events (later ∷ []) h.rising (λ i j d lt within. absurd (omega (arith, lt, within)))
        (λ x y cx cy. let low = All-contains (λ (e : ℕ). e < later) events x below cx in elim (contains_cases later y [] cy) [ inl same ↦ omega (arith, low, same) | inr nothing ↦ absurd (contains_none y nothing) ]);
    few = (let few = rising_few events later h.rising below in let long = length_push events later in omega (arith, few, long, small));
    sized = sized;
    first = λ j entry at. first_next trace events entry.event (get_or old.first.items j 0) (get_or new.first.items j 0) later (is_within windows j) (h.first j entry at) below (w.racing j entry at) (λ there. race_positive trace entry.event later (w.racing j entry at ∙ there)) (a.first j);
    covering = λ j entry at. (
        let were = h.covering j entry at in
        let within = slice_get_within entries j entry at in
        let size = h.sized.first in
        let more = a.covering j (omega (arith, within, size)) in
        let one = sum_by_push (λ (e : ℕ). cond {A = ℕ} (is_race trace entry.event e) 1 0) events later in
        let race = ap (λ (b : Bool). cond {A = ℕ} b 1 0) (w.racing j entry at) in
        omega (arith, were, more, one, race));
    room = λ e all positive k. room e all positive k;
  }
    where
      room : (e : ℕ) → All (λ d. d < e) (events ++ later ∷ []) → 0 < e → (k : ℕ) → (get_or new.starts.items k 0 < e) × (get_or new.ends.items k 0 < e)
      room e all positive k =
          let starts = a.starts k in
          let ends = a.ends k in
          let low = All-contains (λ (d : ℕ). d < e) (events ++ later ∷ []) later all (Contains-push events later) in
          elim (cases_eq later 0) [
            | inl first_event ↦ (
                let were = h.room e (all_front (λ (d : ℕ). d < e) events (later ∷ []) all) positive k in
                (omega (arith, starts, were.0, first_event), omega (arith, ends, were.1, first_event)))
            | inr ne ↦ (
                let were = h.room later below (omega (arith, ne)) k in
                (omega (arith, starts, were.0, low), omega (arith, ends, were.1, low)))
          ]

-- the lists keep their lengths
pub sized_more : (size : ℕ) (window : Window) (later : ℕ) (mid new : Cover) → IsSized size mid → HasWindow window later mid new → IsSized size new
sized_more size window later mid new h w = record {
  starts = w.starts.as_many ∙ h.starts;
  ends = w.ends.as_many ∙ h.ends;
  first = w.first.as_many ∙ h.first;
  runs = w.runs;
}

-- ---- the sums

abbrev race_at : Entry → ℕ → Pair
race_at entry e = record { first = entry.event; second = e }

no_later : (x y a b i : ℕ) → x ≡ y → a ≤ b → (x < y) ⊎ ((x ≡ y) × ((a < b) ⊎ ((a ≡ b) × (i ≤ i))))
no_later x y a b i same low = grind (arith, common_steps)

-- no event races with an entry
pub no_pairs_at : (trace : List Event) (events : List ℕ) (entry : Entry) → count_by (λ e. is_race trace entry.event e) events ≡ 0 → pairs_at trace events entry ≡ []
no_pairs_at trace events entry nothing = ap (map (race_at entry)) (nil_from_length (filter (λ e. is_race trace entry.event e) events) (length-filter (λ e. is_race trace entry.event e) events ∙ nothing))

-- some event does: the first one is there
pub first_known : (trace : List Event) (events : List ℕ) (i first : ℕ) → IsEarliest trace events i first → 0 < count_by (λ e. is_race trace i e) events → 0 < first
first_known trace events i first o some = elim (cases_eq first 0) [
  | inl unset ↦ absurd (let nothing = none_counted events (o.none_races unset) in omega (arith, nothing, some))
  | inr ne ↦ omega (arith, ne)
]
  where
    none_counted : (es : List ℕ) → ((e : ℕ) → Contains es e → is_race trace i e ≡ false) → count_by (λ e. is_race trace i e) es ≡ 0
    none_counted [] all = refl
    none_counted (e ∷ es) all =
        let more = sum_by-cons (λ (d : ℕ). cond {A = ℕ} (is_race trace i d) 1 0) e es in
        let here = ap (λ (b : Bool). cond {A = ℕ} b 1 0) (all e (contains_head e es)) in
        let rest = none_counted es (λ d c. all d (contains_tail e d es c)) in
        omega (arith, more, here, rest)

module _ (trace : List Event) (numbers : List ℕ) (events : List ℕ) (access : Access) (each : All (IsAt trace numbers access) events) where
  at_event : (e : ℕ) → Contains events e → IsAt trace numbers access e
  at_event e c = All-contains (IsAt trace numbers access) events e each c

  -- the races with one entry are a sum
  pub entry_sum : (entry : Entry) (first count : ℕ) → IsEarliest trace events entry.event first → 0 < count → count ≡ count_by (λ e. is_race trace entry.event e) events
      → AreSums (key_in numbers) (IsNotAfter trace) (pairs_at trace events entry) ((race_at entry first, count) ∷ [])
  entry_sum entry first count o some is =
      subst (λ (n : ℕ). AreSums (key_in numbers) (IsNotAfter trace) (pairs_at trace events entry) ((race_at entry first, n) ∷ [])) (size ∙ sym is)
      (one_place (key_in numbers) (IsNotAfter trace) (pairs_at trace events entry) (race_at entry first) (map_contains (race_at entry) (filter (λ e. is_race trace entry.event e) events) first (filter_keeps (λ e. is_race trace entry.event e) events first there (o.races known))) alike)
    where
      known : 0 < first
      known = first_known trace events entry.event first o (omega (arith, some, is))

      there : Contains events first
      there = o.there known

      size : length (pairs_at trace events entry) ≡ count_by (λ e. is_race trace entry.event e) events
      size = length-map (filter (λ e. is_race trace entry.event e) events) (race_at entry) ∙ length-filter (λ e. is_race trace entry.event e) events

      same_variable : {u v : Option ℕ} {x y z : ℕ} → u ≡ Some z → v ≡ Some z → u ≡ Some x → v ≡ Some y → x ≡ y
      same_variable a b c d = cc

      alike : (r : Pair) → Contains (pairs_at trace events entry) r → (key_in numbers r ≡ key_in numbers (race_at entry first)) × IsNotAfter trace (race_at entry first) r
      alike r c =
          let own = map_parts (race_at entry) (filter (λ e. is_race trace entry.event e) events) r c in
          let kept = filter_kept (λ e. is_race trace entry.event e) events own.0 own.1 in
          let of_first = at_event first there in
          let of_own = at_event own.0 kept.0 in (
            ap (key_in numbers) (sym own.2) ∙ ap (λ (n : ℕ). (number_in numbers entry.event, n)) (of_own.location ∙ sym of_first.location),
            subst (IsNotAfter trace (race_at entry first)) own.2 (λ x y of_x of_y. (let same : x ≡ y = same_variable of_first.variable of_own.variable of_x of_y in no_later x y first own.0 entry.event same (o.least own.0 kept.0 kept.1))),
          )

  -- the sum of an entry that is added is right
  pub entry_is : (entry : Entry) (first count : ℕ) → IsEntry trace numbers entry → IsEarliest trace events entry.event first → 0 < count → count ≡ count_by (λ e. is_race trace entry.event e) events
      → IsPlaceSum trace numbers (record { first = entry.location; second = access.location; variable = access.variable; later = first; earlier = entry.event; count = count })
  entry_is entry first count is o some counted =
      let of = at_event first (o.there (first_known trace events entry.event first o (omega (arith, some, counted)))) in
      record { first = is.location; second = of.location; variable = of.variable }

-- the races by entry are those by event
pub by_event : (trace : List Event) (numbers : List ℕ) (events : List ℕ) (entries : List Entry) (pairs : List Pair) (sums : List PlaceSum)
    → AreSumsOf trace numbers (pairs ++ flat_map (pairs_at trace events) entries) sums → AreSumsOf trace numbers (pairs ++ flat_map (racing_pairs trace entries) events) sums
by_event trace numbers events entries pairs sums h = record {
  each = h.each;
  are_sums = same_sums (key_in numbers) (IsNotAfter trace) (pairs ++ flat_map (pairs_at trace events) entries) (pairs ++ flat_map (racing_pairs trace entries) events) (map sum_of sums) same
      (λ race c. elim (Contains-append_cases pairs (flat_map (pairs_at trace events) entries) race c) [
        | inl l ↦ Contains-append_left pairs (flat_map (racing_pairs trace entries) events) race l
        | inr r ↦ Contains-append_right pairs (flat_map (racing_pairs trace entries) events) race (there (key_in numbers) (IsNotAfter trace) (λ e entry. is_race trace entry.event e) race_at events entries race r)
      ])
      (λ race c. elim (Contains-append_cases pairs (flat_map (racing_pairs trace entries) events) race c) [
        | inl l ↦ Contains-append_left pairs (flat_map (pairs_at trace events) entries) race l
        | inr r ↦ Contains-append_right pairs (flat_map (pairs_at trace events) entries) race (back (key_in numbers) (IsNotAfter trace) (λ e entry. is_race trace entry.event e) race_at events entries race r)
      ]) h.are_sums;
}
  where
    same : (k : Key) → at_place (key_in numbers) (pairs ++ flat_map (racing_pairs trace entries) events) k ≡ at_place (key_in numbers) (pairs ++ flat_map (pairs_at trace events) entries) k
    same k =
        let one = sum_by-append (λ (r : Pair). cond {A = ℕ} (same_key (key_in numbers r) k) 1 0) pairs (flat_map (racing_pairs trace entries) events) in
        let other = sum_by-append (λ (r : Pair). cond {A = ℕ} (same_key (key_in numbers r) k) 1 0) pairs (flat_map (pairs_at trace events) entries) in
        let many = same_many (key_in numbers) (IsNotAfter trace) (λ (e : ℕ) (entry : Entry). is_race trace entry.event e) race_at events entries k in
        omega (arith, one, other, many)

-- the races with one entry more
pub entries_more : (trace : List Event) (numbers : List ℕ) (events : List ℕ) (entries : List Entry) (k : ℕ) (d : Entry) (pairs : List Pair) (sums : List PlaceSum) → k < length entries
    → AreSumsOf trace numbers ((pairs ++ flat_map (pairs_at trace events) (take k entries)) ++ pairs_at trace events (get_or entries k d)) sums → AreSumsOf trace numbers (pairs ++ flat_map (pairs_at trace events) (take (k + 1) entries)) sums
entries_more trace numbers events entries k d pairs sums lt h = subst (λ (l : List Pair). AreSumsOf trace numbers l sums) same h
  where
    same : (pairs ++ flat_map (pairs_at trace events) (take k entries)) ++ pairs_at trace events (get_or entries k d) ≡ pairs ++ flat_map (pairs_at trace events) (take (k + 1) entries)
    same = append_assoc pairs (flat_map (pairs_at trace events) (take k entries)) (pairs_at trace events (get_or entries k d))
        ∙ ap (λ (l : List Pair). pairs ++ l) (sym (ap (flat_map (pairs_at trace events)) (take_more entries k d lt) ∙ (flat_map-append (pairs_at trace events) (take k entries) (get_or entries k d ∷ []) ∙ ap (λ (l : List Pair). flat_map (pairs_at trace events) (take k entries) ++ l) (append-nil (pairs_at trace events (get_or entries k d))))))

-- ---- the running sum over the entries

module _ (trace : List Event) (entries : List Entry) (events : List ℕ) (cover : Cover) (h : HasCovered trace entries events cover) (k covering : ℕ) (d : Entry) (lt : k < length entries) (now : covering + sum (take k cover.ends.items) ≡ sum (take k cover.starts.items)) where
  pub running_is : covering + get_or cover.starts.items k 0 ≡ get_or cover.ends.items k 0 + count_by (λ e. is_race trace (get_or entries k d).event e) events
  running_is =
      let starts = sum_take_more cover.starts.items k in
      let ends = sum_take_more cover.ends.items k in
      let many = h.covering k (get_or entries k d) (slice_get-get_or entries k d lt) in
      omega (arith, starts, ends, many, now)

  pub running_few : count_by (λ e. is_race trace (get_or entries k d).event e) events ≤ 2 ^ 32
  running_few = let few = count_by-le-length (λ e. is_race trace (get_or entries k d).event e) events in let long = h.few in omega (arith, few, long)

  pub running_more : (next : ℕ) → next + get_or cover.ends.items k 0 ≡ covering + get_or cover.starts.items k 0 → next + sum (take (k + 1) cover.ends.items) ≡ sum (take (k + 1) cover.starts.items)
  running_more next is =
      let starts = sum_take_more cover.starts.items k in
      let ends = sum_take_more cover.ends.items k in
      omega (arith, starts, ends, is, now)
