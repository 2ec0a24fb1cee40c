-- The races of a run: one by one by windows, or by a cover.
use Rattle.std.proofs.Common.{◌≡◌, ℕ, suc, ◌+◌, ◌-◌, ◌<◌, ◌≤◌, inl, inr, Bool, false, cond, List, [], ◌∷◌, ◌++◌, Some, None, length, map, take, drop, get_or, refl, arith, ap, sym, subst, ◌∙◌, append-nil, append_assoc}
use Rattle.std.specs.Prelude.{All, AllPairs, Contains, filter, flat_map, ◌||◌, slice_range}
use Rattle.std.specs.List.{sum_by}
use Rattle.std.specs.List.Sorted.{IsPermutation}
use Rattle.std.proofs.lemmas.List.{get_or-drop, get_or-take, length-drop, length-take-le, map-append, take_more}
use Rattle.std.proofs.lemmas.List.Concat.{flat_map-append}
use Rattle.std.proofs.lemmas.List.Elements.{All-contains, All-get_or, Contains-get_or, Contains-append_cases, Contains-append_left, Contains-append_right, filter-append}
use Rattle.std.proofs.lemmas.List.Sorted.{Contains-permutation, IsPermutation-append_left, IsPermutation-cons, IsPermutation-middle, IsPermutation-sym, IsPermutation-to_front, IsPermutation-trans, sum_by-IsPermutation}
use Rattle.std.proofs.lemmas.List.Sums.{sum_by-append}
use Rattle.std.proofs.lemmas.Option.{slice_get-get_or}
use Rattle.shb_lines.specs.declared.event.Event.{Event}
use Rattle.shb_lines.specs.declared.event.Pair.{Pair}
use Rattle.shb_lines.specs.events.Reach.{is_race, numbers_where}
use Rattle.shb_format.specs.Keyed.{same_key}
use Rattle.shb_format.specs.Report.{pair_of}
use Rattle.shb_stamps.specs.Accesses.{races_with}
use Rattle.shb_stamps.proofs.FlatMaps.{flat_map_contains, flat_map_parts, map_contains, map_parts}
use Rattle.shb_counts.specs.Accesses.{AreEntries, IsAccess, rivals}
use Rattle.shb_counts.specs.Covers.{HasCovered, IsAt, racing_pairs}
use Rattle.shb_counts.specs.Numbered.{key_in}
use Rattle.shb_counts.specs.Runs.{HasAdded, IsSummed, MayCover, race_of}
use Rattle.shb_counts.specs.Sums.{AreSumsOf, IsNotAfter, pairs_with, sum_of}
use Rattle.shb_counts.specs.Windows.{AreWindows, is_within}
use Rattle.shb_counts.specs.declared.accesses.Access.{Access}
use Rattle.shb_counts.specs.declared.accesses.Entry.{Entry}
use Rattle.shb_counts.specs.declared.finder.Window.{Window}
use Rattle.shb_counts.specs.declared.cover.Cover.{Cover}
use Rattle.shb_counts.specs.declared.runs.RunSums.{RunSums}
use Rattle.shb_counts.specs.declared.sums.PlaceSum.{PlaceSum}
use Rattle.shb_counts.specs.declared.sums.SumTable.{SumTable}
use Rattle.shb_counts.proofs.FilterLemmas.{all_pass, none_pass}
use Rattle.shb_counts.proofs.PlacesOfSums.{filter_keeps, filter_kept}
use Rattle.shb_counts.proofs.PositionLemmas.{filter_mapped}
use Rattle.shb_counts.proofs.RacingLemmas.{rivals_racing}
use Rattle.shb_counts.proofs.SliceLemmas.{slice_whole, slices_joined}
use Rattle.shb_counts.proofs.SumLemmas.{same_sums}
use Rattle.shb_counts.proofs.SwapLemmas.{sum_flat, sum_kept}
use Rattle.shb_counts.proofs.WindowLemmas.{has_is, has_not}

-- ---- lists with the same elements as often

pub record AreAlike {T : Type 0} (xs ys : List T) : Type 0 where
  pub sums : (v : T → ℕ) → sum_by v ys ≡ sum_by v xs
  pub there : (x : T) → Contains xs x → Contains ys x
  pub back : (x : T) → Contains ys x → Contains xs x

module _ {T : Type 0} where
  pub alike_self : (xs : List T) → AreAlike xs xs
  alike_self xs = record { sums = λ v. refl; there = λ x c. c; back = λ x c. c }

  append_there : (xs ys us vs : List T) → ((x : T) → Contains xs x → Contains ys x) → ((x : T) → Contains us x → Contains vs x) → (x : T) → Contains (xs ++ us) x → Contains (ys ++ vs) x
  append_there xs ys us vs first second x c = elim (Contains-append_cases xs us x c) [
    | inl l ↦ Contains-append_left ys vs x (first x l)
    | inr r ↦ Contains-append_right ys vs x (second x r)
  ]

  pub alike_append : (xs ys us vs : List T) → AreAlike xs ys → AreAlike us vs → AreAlike (xs ++ us) (ys ++ vs)
  alike_append xs ys us vs a b = record {
    sums = λ v. (
        let were = sum_by-append v xs us in
        let are = sum_by-append v ys vs in
        let first = a.sums v in
        let second = b.sums v in
        omega (arith, were, are, first, second));
    there = append_there xs ys us vs a.there b.there;
    back = append_there ys xs vs us a.back b.back;
  }

  pub alike_flat : {X : Type 0} (f g : X → List T) (xs : List X) → ((x : X) → Contains xs x → AreAlike (f x) (g x)) → AreAlike (flat_map f xs) (flat_map g xs)
  alike_flat f g [] each = alike_self []
  alike_flat f g (x ∷ xs) each = alike_append (f x) (g x) (flat_map f xs) (flat_map g xs) (each x (0, omega arith, refl)) (alike_flat f g xs (λ y c. each y (suc c.0, (let lt = c.1 in omega (arith, lt)), c.2)))

  flat_there : {X : Type 0} (f : X → List T) (xs ys : List X) → IsPermutation xs ys → (x : T) → Contains (flat_map f xs) x → Contains (flat_map f ys) x
  flat_there f xs ys p x c = let own = flat_map_parts f xs x c in flat_map_contains f ys own.0 x (Contains-permutation xs ys own.0 p own.1) own.2

  pub alike_permuted : {X : Type 0} (f : X → List T) (xs ys : List X) → IsPermutation xs ys → AreAlike (flat_map f xs) (flat_map f ys)
  alike_permuted f xs ys p = record {
    sums = λ v. sum_flat v f ys ∙ (sum_by-IsPermutation (λ x. sum_by v (f x)) xs ys p ∙ sym (sum_flat v f xs));
    there = flat_there f xs ys p;
    back = flat_there f ys xs (IsPermutation-sym xs ys p);
  }

  kept_there : {X : Type 0} (g : X → T) (f : X → Bool) (xs ys : List X) → IsPermutation xs ys → (x : T) → Contains (map g (filter f xs)) x → Contains (map g (filter f ys)) x
  kept_there g f xs ys p x c =
      let own = map_parts g (filter f xs) x c in
      let kept = filter_kept f xs own.0 own.1 in
      subst (Contains (map g (filter f ys))) own.2 (map_contains g (filter f ys) own.0 (filter_keeps f ys own.0 (Contains-permutation xs ys own.0 p kept.0) kept.1))

  pub alike_kept : {X : Type 0} (g : X → T) (f : X → Bool) (xs ys : List X) → IsPermutation xs ys → AreAlike (map g (filter f xs)) (map g (filter f ys))
  alike_kept g f xs ys p = record {
    sums = λ v. sum_kept v g f ys ∙ (sum_by-IsPermutation (λ x. cond (f x) (v (g x)) 0) xs ys p ∙ sym (sum_kept v g f xs));
    there = kept_there g f xs ys p;
    back = kept_there g f ys xs (IsPermutation-sym xs ys p);
  }

pub alike_sums : (trace : List Event) (numbers : List ℕ) (xs ys : List Pair) (sums : List PlaceSum) → AreAlike xs ys → AreSumsOf trace numbers xs sums → AreSumsOf trace numbers ys sums
alike_sums trace numbers xs ys sums same h = record {
  each = h.each;
  are_sums = same_sums (key_in numbers) (IsNotAfter trace) xs ys (map sum_of sums) (λ k. same.sums (λ (r : Pair). cond {A = ℕ} (same_key (key_in numbers r) k) 1 0)) same.there same.back h.are_sums;
}

-- ---- the races of an access, by its entries

map_twice : {X Y Z : Type 0} (g : Y → Z) (f : X → Y) (xs : List X) → map g (map f xs) ≡ map (λ x. g (f x)) xs
map_twice g f [] = refl
map_twice {X} {Y} {Z} g f (x ∷ xs) = ap (λ (l : List Z). g (f x) ∷ l) (map_twice g f xs)

pub racing_alike : (trace : List Event) (numbers : List ℕ) (access : Access) (entries : List Entry) → IsAccess trace numbers access → AreEntries trace numbers access.variable access.writes entries
    → AreAlike (racing_pairs trace entries access.event) (pairs_with trace access.event)
unfolding races_with
racing_alike trace numbers access entries is_access are =
    let e = access.event in
    let races = λ (i : ℕ). is_race trace i e in
    let event = λ (entry : Entry). entry.event in
    let pair = λ (i : ℕ). pair_of (i, e) in
    let first : map pair (filter races (map event entries)) ≡ racing_pairs trace entries e = ap (map pair) (filter_mapped races event entries) ∙ map_twice pair event (filter (λ entry. races (event entry)) entries) in
    let second : map pair (filter races (rivals trace access.variable access.writes)) ≡ pairs_with trace e = ap (map pair) (rivals_racing trace numbers access entries is_access are) ∙ sym (map_twice pair_of (λ i. (i, e)) (numbers_where races e)) in
    subst (AreAlike (racing_pairs trace entries e)) second (subst (λ (l : List Pair). AreAlike l (map pair (filter races (rivals trace access.variable access.writes)))) first (alike_kept pair races (map event entries) (rivals trace access.variable access.writes) are.events))

-- ---- windows cut a list

within_before : (windows : List Window) (j n : ℕ) → All (λ w. n ≤ w.start) windows → j < n → is_within windows j ≡ false
within_before [] j n each lt = refl
within_before (v ∷ windows) j n each lt =
    let own = All-get_or (λ (w : Window). n ≤ w.start) (v ∷ windows) 0 v (omega arith) each in
    ap (λ (b : Bool). b || is_within windows j) (has_not j v (inl (omega (arith, own, lt)))) ∙ within_before windows j n (λ k d le. each (suc k) d (omega (arith, le))) lt

pub get_slice : {X : Type 0} (xs : List X) (a b p : ℕ) (d : X) → p < b - a → get_or (slice_range xs a b) p d ≡ get_or xs (a + p) d
get_slice xs a b p d lt = get_or-take (b - a) (drop a xs) p d lt ∙ get_or-drop a xs p d

pub length_slice : {X : Type 0} (xs : List X) (a b : ℕ) → b ≤ length xs → length (slice_range xs a b) ≡ b - a
length_slice xs a b le = let long = length-drop a xs in length-take-le (b - a) (drop a xs) (omega (arith, long, le))

pub slice_pushed : {X : Type 0} (xs : List X) (a j : ℕ) (d : X) → a ≤ j → j < length xs → slice_range xs a (j + 1) ≡ slice_range xs a j ++ get_or xs j d ∷ []
slice_pushed {X} xs a j d le lt =
    let long = length-drop a xs in
    let size : j + 1 - a ≡ j - a + 1 = omega (arith, le) in
    let at : a + (j - a) ≡ j = omega (arith, le) in
    ap (λ (n : ℕ). take n (drop a xs)) size
    ∙ (take_more (drop a xs) (j - a) d (omega (arith, long, le, lt))
    ∙ ap (λ (x : X). take (j - a) (drop a xs) ++ x ∷ []) (get_or-drop a xs (j - a) d ∙ ap (λ (n : ℕ). get_or xs n d) at))

module _ (f : Entry → Bool) (xs : List Entry) where
  abbrev pub cut : Window → List Entry
  cut w = slice_range xs w.start w.end

  pub windows_cut : (windows : List Window) (low n : ℕ) → low ≤ n → n ≤ length xs → All (λ w. low ≤ w.start) windows → All (λ w. (w.start ≤ w.end) × (w.end ≤ n)) windows → AllPairs (λ one next. one.end ≤ next.start) windows
      → ((j : ℕ) (d : Entry) → low ≤ j → j < n → f (get_or xs j d) ≡ is_within windows j) → flat_map cut windows ≡ filter f (slice_range xs low n)
  windows_cut [] low n le within begins each apart passing =
      sym (none_pass f (slice_range xs low n) (λ p d lt. (
      let long = length_slice xs low n within in
      ap f (get_slice xs low n p d (omega (arith, long, lt))) ∙ passing (low + p) d (omega arith) (omega (arith, long, lt)))))
  windows_cut (w ∷ windows) low n le within begins each apart passing =
      let from = All-get_or (λ (v : Window). low ≤ v.start) (w ∷ windows) 0 w (omega arith) begins in
      let own = All-get_or (λ (v : Window). (v.start ≤ v.end) × (v.end ≤ n)) (w ∷ windows) 0 w (omega arith) each in
      let forward = own.0 in
      let ends = own.1 in
      let later : All (λ (v : Window). w.end ≤ v.start) windows = λ k d lt. apart 0 (suc k) d (omega arith) (omega (arith, lt)) in
      let before : filter f (slice_range xs low w.start) ≡ [] = none_pass f (slice_range xs low w.start) (λ p d lt. (
      let long = length_slice xs low w.start (omega (arith, forward, ends, within)) in
      ap f (get_slice xs low w.start p d (omega (arith, long, lt)))
      ∙ (passing (low + p) d (omega arith) (omega (arith, long, lt, forward, ends))
      ∙ (ap (λ (b : Bool). b || is_within windows (low + p)) (has_not (low + p) w (inl (omega (arith, long, lt))))
      ∙ within_before windows (low + p) w.end later (omega (arith, long, lt, forward)))))) in
      let here : filter f (slice_range xs w.start w.end) ≡ slice_range xs w.start w.end = all_pass f (slice_range xs w.start w.end) (λ p d lt. (
      let long = length_slice xs w.start w.end (omega (arith, ends, within)) in
      ap f (get_slice xs w.start w.end p d (omega (arith, long, lt)))
      ∙ (passing (w.start + p) d (omega (arith, from)) (omega (arith, long, lt, ends))
      ∙ ap (λ (b : Bool). b || is_within windows (w.start + p)) (has_is (w.start + p) w (omega arith) (omega (arith, long, lt)))))) in
      let rest = windows_cut windows w.end n ends within later (λ k d lt. each (suc k) d (omega (arith, lt))) (λ p q d less lt. apart (suc p) (suc q) d (omega (arith, less)) (omega (arith, lt)))
      (λ j d past lt. passing j d (omega (arith, from, forward, past)) lt ∙ ap (λ (b : Bool). b || is_within windows j) (has_not j w (inr past))) in
      let parts : slice_range xs low n ≡ slice_range xs low w.start ++ (slice_range xs w.start w.end ++ slice_range xs w.end n) =
      sym (ap (λ (l : List Entry). slice_range xs low w.start ++ l) (slices_joined xs w.start w.end n forward ends) ∙ slices_joined xs low w.start n from (omega (arith, forward, ends))) in
      sym (ap (filter f) parts
      ∙ (filter-append f (slice_range xs low w.start) (slice_range xs w.start w.end ++ slice_range xs w.end n)
      ∙ (ap (λ (l : List Entry). l ++ filter f (slice_range xs w.start w.end ++ slice_range xs w.end n)) before
      ∙ (filter-append f (slice_range xs w.start w.end) (slice_range xs w.end n)
      ∙ (ap (λ (l : List Entry). l ++ filter f (slice_range xs w.end n)) here
      ∙ ap (λ (l : List Entry). slice_range xs w.start w.end ++ l) (sym rest))))))

map_flat : {X A B : Type 0} (g : A → B) (h : X → List A) (xs : List X) → flat_map (λ x. map g (h x)) xs ≡ map g (flat_map h xs)
map_flat g h [] = refl
map_flat {X} {A} {B} g h (x ∷ xs) = ap (λ (l : List B). map g (h x) ++ l) (map_flat g h xs) ∙ sym (map-append g (h x) (flat_map h xs))

pub windows_pairs : (trace : List Event) (e : ℕ) (entries : List Entry) (windows : List Window) → AreWindows trace e entries windows → flat_map (λ w. map (race_of e) (slice_range entries w.start w.end)) windows ≡ racing_pairs trace entries e
windows_pairs trace e entries windows are =
    let races = λ (entry : Entry). is_race trace entry.event e in
    let whole = windows_cut races entries windows 0 (length entries) (omega arith) (omega arith) (λ k d lt. omega arith) are.within are.apart (λ j d le lt. are.racing j (get_or entries j d) (slice_get-get_or entries j d lt)) in
    map_flat (race_of e) (λ (w : Window). slice_range entries w.start w.end) windows ∙ ap (map (race_of e)) (whole ∙ ap (filter races) (slice_whole entries (length entries) (omega arith)))

-- ---- one more

pub pairs_pushed : {A B : Type 0} (g : A → B) (before : List B) (l m : List A) (x : A) → m ≡ l ++ x ∷ [] → (before ++ map g l) ++ g x ∷ [] ≡ before ++ map g m
pairs_pushed {A} {B} g before l m x is = append_assoc before (map g l) (g x ∷ []) ∙ ap (λ (r : List B). before ++ r) (sym (ap (map g) is ∙ map-append g l (x ∷ [])))

pub flat_pushed : {X A : Type 0} (h : X → List A) (before : List A) (l m : List X) (x : X) → m ≡ l ++ x ∷ [] → (before ++ flat_map h l) ++ h x ≡ before ++ flat_map h m
flat_pushed {X} {A} h before l m x is =
    append_assoc before (flat_map h l) (h x)
    ∙ ap (λ (r : List A). before ++ r) (sym (ap (flat_map h) is ∙ (flat_map-append h l (x ∷ []) ∙ ap (λ (r : List A). flat_map h l ++ r) (append-nil (h x)))))

-- ---- what is added of a run

module _ (trace : List Event) (numbers : List ℕ) (entries : List Entry) (pairs : List Pair) (events : List ℕ) (sums : RunSums) (has : HasAdded trace numbers entries pairs events sums) where
  pub covered_low : (later : ℕ) → All (λ e. e < later) events → All (λ e. e < later) has.covered
  covered_low later low = λ k d lt. All-contains (λ (e : ℕ). e < later) events (get_or has.covered k d) low
      (Contains-permutation (has.direct ++ has.covered) events (get_or has.covered k d) has.split (Contains-append_right has.direct has.covered (get_or has.covered k d) (Contains-get_or has.covered k d lt)))

  pub one_direct : (e : ℕ) (new : RunSums) → new.cover ≡ sums.cover → AreSumsOf trace numbers ((pairs ++ flat_map (racing_pairs trace entries) has.direct) ++ racing_pairs trace entries e) new.table.sums.items → HasAdded trace numbers entries pairs (events ++ e ∷ []) new
  one_direct e new same added = record {
    direct = has.direct ++ e ∷ [];
    covered = has.covered;
    split = subst (λ (l : List ℕ). IsPermutation l (events ++ e ∷ [])) (sym (append_assoc has.direct (e ∷ []) has.covered))
        (IsPermutation-trans (has.direct ++ e ∷ has.covered) (e ∷ (has.direct ++ has.covered)) (events ++ e ∷ []) (IsPermutation-middle has.direct e has.covered)
        (IsPermutation-trans (e ∷ (has.direct ++ has.covered)) (e ∷ events) (events ++ e ∷ []) (IsPermutation-cons e (has.direct ++ has.covered) events has.split) (IsPermutation-sym (events ++ e ∷ []) (e ∷ events) (IsPermutation-to_front events e))));
    summed = subst (λ (l : List Pair). AreSumsOf trace numbers l new.table.sums.items) (flat_pushed (racing_pairs trace entries) pairs has.direct (has.direct ++ e ∷ []) e refl) added;
    cover = subst (MayCover trace entries has.covered) (sym same) has.cover;
  }

  pub one_covered : (e : ℕ) (new : RunSums) → new.table ≡ sums.table → MayCover trace entries (has.covered ++ e ∷ []) new.cover → HasAdded trace numbers entries pairs (events ++ e ∷ []) new
  one_covered e new same cover = record {
    direct = has.direct;
    covered = has.covered ++ e ∷ [];
    split = subst (λ (l : List ℕ). IsPermutation l (events ++ e ∷ [])) (append_assoc has.direct has.covered (e ∷ [])) (IsPermutation-append_left (e ∷ []) (has.direct ++ has.covered) events has.split);
    summed = subst (λ (table : SumTable). AreSumsOf trace numbers (pairs ++ flat_map (racing_pairs trace entries) has.direct) table.sums.items) (sym same) has.summed;
    cover = cover;
  }

  all_alike : AreAlike ((pairs ++ flat_map (racing_pairs trace entries) has.direct) ++ flat_map (racing_pairs trace entries) has.covered) (pairs ++ flat_map (racing_pairs trace entries) events)
  all_alike =
      let racing = racing_pairs trace entries in
      subst (λ (l : List Pair). AreAlike l (pairs ++ flat_map racing events))
      (ap (λ (l : List Pair). pairs ++ l) (flat_map-append racing has.direct has.covered) ∙ sym (append_assoc pairs (flat_map racing has.direct) (flat_map racing has.covered)))
      (alike_append pairs pairs (flat_map racing (has.direct ++ has.covered)) (flat_map racing events) (alike_self pairs) (alike_permuted racing (has.direct ++ has.covered) events has.split))

  pub none_covered : (new : RunSums) → sums.cover ≡ None → new.cover ≡ None → new.table ≡ sums.table → IsSummed trace numbers (pairs ++ flat_map (racing_pairs trace entries) events) new
  none_covered new was is same =
      let racing = racing_pairs trace entries in
      let empty : has.covered ≡ [] = subst (MayCover trace entries has.covered) was has.cover in
      record {
        summed = alike_sums trace numbers ((pairs ++ flat_map racing has.direct) ++ flat_map racing has.covered) (pairs ++ flat_map racing events) new.table.sums.items all_alike
            (subst (λ (l : List Pair). AreSumsOf trace numbers l new.table.sums.items) (sym (ap (λ (l : List ℕ). (pairs ++ flat_map racing has.direct) ++ flat_map racing l) empty ∙ append-nil (pairs ++ flat_map racing has.direct)))
            (subst (λ (table : SumTable). AreSumsOf trace numbers (pairs ++ flat_map racing has.direct) table.sums.items) (sym same) has.summed));
        cover = is;
      }

  pub some_covered : (cover : Cover) → sums.cover ≡ Some cover → HasCovered trace entries has.covered cover
  some_covered cover was = subst (MayCover trace entries has.covered) was has.cover

  pub all_counted : (new : RunSums) → new.cover ≡ None → AreSumsOf trace numbers ((pairs ++ flat_map (racing_pairs trace entries) has.direct) ++ flat_map (racing_pairs trace entries) has.covered) new.table.sums.items
      → IsSummed trace numbers (pairs ++ flat_map (racing_pairs trace entries) events) new
  all_counted new is added = record {
    summed = alike_sums trace numbers ((pairs ++ flat_map (racing_pairs trace entries) has.direct) ++ flat_map (racing_pairs trace entries) has.covered) (pairs ++ flat_map (racing_pairs trace entries) events) new.table.sums.items all_alike added;
    cover = is;
  }

  pub covered_at : (access : Access) → All (IsAt trace numbers access) events → All (IsAt trace numbers access) has.covered
  covered_at access at = λ k d lt. All-contains (IsAt trace numbers access) events (get_or has.covered k d) at
      (Contains-permutation (has.direct ++ has.covered) events (get_or has.covered k d) has.split (Contains-append_right has.direct has.covered (get_or has.covered k d) (Contains-get_or has.covered k d lt)))
