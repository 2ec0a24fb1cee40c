-- The races of the places, in order.
use Rattle.std.proofs.Common.{◌≡◌, ℕ, ◌<◌, ◌≤◌, ◌⊎◌, inl, inr, Bool, true, false, ◌&&◌, List, [], ◌∷◌, Some, length, map, get_or, None, Option, arith, refl, sym, ap, subst, ◌∙◌}
use Rattle.std.specs.Prelude.{AllPairs, Contains, nat_eq, option_and_then, if◌then◌else◌}
use Rattle.shb_nearest.proofs.Words.{AreNearestRaces, ArePlaces, Contains-get_or, Contains-permutation, Decides-and, Decides-eqb, Event, FoundRace, IsAtPlace, IsDistinct, IsEquivalence, IsNearest, IsNearestAt, IsPermutation-sym, IsTotalOrder, ListedBefore, Place, PlaceEntry, Race, Spot, cases_Bool, cases_eq, decided, ends_of, event_at_access, get_or-map, is_lt, length-map, location_in, nat_cmp, ordering_then, ranks_by, same_place, site_in, slice_get-get_or, slice_get_within, sorted_far, variable_at, variable_part}
use Rattle.std.specs.List.Sorted.{IsPermutation, IsSortedByKey}
use Rattle.std.specs.Map.{keys_of}
use Rattle.std.specs.declared.cmp.Ordering.{Ordering}
use Rattle.std.proofs.lemmas.Cmp.{nat_cmp_total, on_total, then_total}
use Rattle.std.proofs.lemmas.Grind.{common_steps}
use Rattle.std.proofs.lemmas.Map.Keys.{IsDistinct-IsPermutation, IsDistinct-from_apart, apart_from_distinct}
use Rattle.std.proofs.lemmas.Map.Views.{Contains-from_lookup, lookup-from_Contains}
use Rattle.shb_nearest.specs.Found.{IsInOrder, NotAfter}
use Rattle.shb_nearest.proofs.Members.{member_map, member_of_map}
use Rattle.shb_nearest.proofs.ClassLemmas.{location_of_access}
use Rattle.shb_nearest.proofs.PlaceTable.{one_place, place_same, place_with}
use Rattle.shb_nearest.proofs.RivalLemmas.{variable_is}

-- races are compared by their later events, then by their earlier ones
abbrev pub key_of : FoundRace → ℕ × ℕ
key_of race = (race.second.event, race.first.event)

abbrev pub key_cmp : ℕ × ℕ → ℕ × ℕ → Ordering
key_cmp a b = ordering_then (nat_cmp a.0 b.0) (nat_cmp a.1 b.1)

key_total : IsTotalOrder key_cmp
key_total = then_total (on_total (λ (k : ℕ × ℕ). k.0) nat_cmp_total) (on_total (λ (k : ℕ × ℕ). k.1) nat_cmp_total)

key_not_less : (a b : FoundRace) → is_lt (key_cmp (key_of b) (key_of a)) ≡ false → NotAfter a b
key_not_less a b not_less = grind (arith, common_steps)

pub sorted_order : (races sorted : List FoundRace) → IsPermutation races sorted → IsSortedByKey key_of key_cmp sorted → IsInOrder races sorted
sorted_order races sorted moved up = record {
  permutation = moved;
  in_order = λ i j d low within. key_not_less (get_or sorted i d) (get_or sorted j d) (sorted_far (λ p q. is_lt (key_cmp (key_of p) (key_of q))) (ranks_by key_total key_of) sorted up i j d (omega (arith, low)) within);
}

place_equivalence : IsEquivalence same_place
place_equivalence = decided same_place (λ x y. (one_place x y, place_same x y))

-- equal pairs are the same
abbrev same_pair : ℕ × ℕ → ℕ × ℕ → Bool
same_pair p q = nat_eq p.0 q.0 && nat_eq p.1 q.1

one_pair : (x y : ℕ × ℕ) → same_pair x y ≡ true → x ≡ y
one_pair x y is = let h = (Decides-and _ _ (Decides-eqb x.0 y.0) (Decides-eqb x.1 y.1)).0 is in λ i. (h.0 i, h.1 i)

pair_same : (x y : ℕ × ℕ) → x ≡ y → same_pair x y ≡ true
pair_same x y is = (Decides-and _ _ (Decides-eqb x.0 y.0) (Decides-eqb x.1 y.1)).1 (ap (λ (p : ℕ × ℕ). p.0) is, ap (λ (p : ℕ × ℕ). p.1) is)

pair_equivalence : IsEquivalence same_pair
pair_equivalence = decided same_pair (λ x y. (one_pair x y, pair_same x y))

some_one : (x y : ℕ) → Some x ≡ Some y → x ≡ y
some_one x y is = let e : x ≡ y = cc in e

-- the variables of two accesses are the same in a place exactly where they are in a site
part_of_site : (by_variable : Bool) (v w : Option ℕ) (x y : ℕ) → (if by_variable then v else None) ≡ (if by_variable then w else None) → v ≡ Some x → w ≡ Some y → variable_part by_variable x ≡ variable_part by_variable y
part_of_site true v w x y same at_x at_y = some_one x y (sym at_x ∙ (same ∙ at_y))
part_of_site false v w x y same at_x at_y = refl

site_of_part : (by_variable : Bool) (v w : Option ℕ) (x y : ℕ) → variable_part by_variable x ≡ variable_part by_variable y → v ≡ Some x → w ≡ Some y → ◌≡◌ {A = Option ℕ} (if by_variable then v else None) (if by_variable then w else None)
site_of_part true v w x y same at_x at_y = at_x ∙ (ap (λ (n : ℕ). Some n) same ∙ sym at_y)
site_of_part false v w x y same at_x at_y = refl

-- pairs of a mapped list
pairs_map : {X Y : Type 0} (R : Y → Y → Type 0) (f : X → Y) (xs : List X) → AllPairs (λ a b. R (f a) (f b)) xs → AllPairs R (map f xs)
pairs_map R f [] h i j d lt within = absurd (omega arith)
pairs_map {X} {Y} R f (x ∷ xs) h i j d lt within =
    let long = length-map (x ∷ xs) f in
    let a = get_or-map f (x ∷ xs) i x d (omega (arith, lt, within, long)) in
    let b = get_or-map f (x ∷ xs) j x d (omega (arith, within, long)) in
    subst (λ (y : Y). R y (get_or (map f (x ∷ xs)) j d)) (sym a) (subst (λ (y : Y). R (f (get_or (x ∷ xs) i x)) y) (sym b) (h i j x lt (omega (arith, within, long))))

-- two races are of the same events
abbrev same_ends : FoundRace → FoundRace → Bool
same_ends a b = same_pair (ends_of a) (ends_of b)

module _ (by_variable : Bool) (past : List Event) (spots : List Spot) (as_many : length spots ≡ length past) (entries : List PlaceEntry) (are : ArePlaces by_variable past spots (length past) entries) (distinct : IsDistinct same_place (keys_of entries))
    (races sorted : List FoundRace) (races_are : races ≡ map (λ e. e.1) entries) (order : IsInOrder races sorted) where
  abbrev site : ℕ → Option ℕ × Option ℕ
  site = site_in by_variable past spots

  entry_of : (r : FoundRace) → Contains sorted r → (p : Place) × Contains entries (p, r)
  entry_of r there =
      let in_races = Contains-permutation sorted races r (IsPermutation-sym races sorted order.permutation) there in
      let e = member_of_map (λ (e : PlaceEntry). e.1) entries r (subst (λ (l : List FoundRace). Contains l r) races_are in_races) in
      (e.0.0, subst (λ (q : FoundRace). Contains entries (e.0.0, q)) e.2 e.1)

  near : (p : Place) (r : FoundRace) → Contains entries (p, r) → IsNearestAt by_variable past spots (length past) p r
  near p r there = are.each p r (lookup-from_Contains place_equivalence p r entries distinct there)

  race_within : (i j : ℕ) → Race past i j → j < length past
  race_within i j race = let e = event_at_access past j race.conflict.variable race.conflict.second_accesses in slice_get_within past j e.0 e.1

  location_there : (k : ℕ) → k < length past → (l : ℕ) × (location_in spots k ≡ Some l)
  location_there k lt = let some = (let low : k < length spots = omega (arith, lt, as_many) in low) in go spots k some
    where
      go : (l : List Spot) (m : ℕ) → m < length l → (n : ℕ) × (location_in l m ≡ Some n)
      go [] m low = absurd (omega arith)
      go (s ∷ l) m low = let at = slice_get-get_or (s ∷ l) m s low in ((get_or (s ∷ l) m s).location, ap (option_and_then (λ (t : Spot). Some t.location)) at)

  -- a race that is known is at its place
  own_at : (p : Place) (r : FoundRace) → IsNearestAt by_variable past spots (length past) p r → IsAtPlace by_variable past spots p r.first.event r.second.event
  own_at p r h = record {
    first_is = location_of_access past spots r.variable r.first h.accesses.first_is ∙ ap (λ (q : Place). Some q.first) (sym h.place_is);
    second_is = location_of_access past spots r.variable r.second h.accesses.second_is ∙ ap (λ (q : Place). Some q.second) (sym h.place_is);
    variable_is = λ x is. ap (variable_part by_variable) (some_one x r.variable (sym is ∙ variable_is past spots r.variable r.second h.accesses.second_is)) ∙ ap (λ (q : Place). q.variable) (sym h.place_is);
  }

  -- a race whose events have the sites of one at a place is there too
  at_by_sites : (p : Place) (i j k l x : ℕ) → IsAtPlace by_variable past spots p i j → variable_at past j ≡ Some x → site k ≡ site i → site l ≡ site j → IsAtPlace by_variable past spots p k l
  at_by_sites p i j k l x h at_j first second = record {
    first_is = ap (λ (s : Option ℕ × Option ℕ). s.0) first ∙ h.first_is;
    second_is = ap (λ (s : Option ℕ × Option ℕ). s.0) second ∙ h.second_is;
    variable_is = λ y is. part_of_site by_variable (variable_at past l) (variable_at past j) y x (ap (λ (s : Option ℕ × Option ℕ). s.1) second) is at_j ∙ h.variable_is x at_j;
  }

  -- races at one place have the same sites
  sites_by_place : (p : Place) (i j k l : ℕ) → Race past i j → Race past k l → IsAtPlace by_variable past spots p i j → IsAtPlace by_variable past spots p k l → (site k ≡ site i) × (site l ≡ site j)
  sites_by_place p i j k l one other at_one at_other =
      let c = one.conflict in
      let d = other.conflict in
      let same : variable_part by_variable d.variable ≡ variable_part by_variable c.variable = at_other.variable_is d.variable d.second_accesses ∙ sym (at_one.variable_is c.variable c.second_accesses) in
      let first : location_in spots k ≡ location_in spots i = at_other.first_is ∙ sym at_one.first_is in
      let second : location_in spots l ≡ location_in spots j = at_other.second_is ∙ sym at_one.second_is in
      let first_variable = site_of_part by_variable (variable_at past k) (variable_at past i) d.variable c.variable same d.first_accesses c.first_accesses in
      let second_variable = site_of_part by_variable (variable_at past l) (variable_at past j) d.variable c.variable same d.second_accesses c.second_accesses in
      ((λ m. (first m, first_variable m)), (λ m. (second m, second_variable m)))

  nearest_of : (p : Place) (r : FoundRace) → IsNearestAt by_variable past spots (length past) p r → IsNearest past (site_in by_variable past spots) r.first.event r.second.event
  nearest_of p r h = record {
    race = h.is_race;
    nearest = λ k l race at_k at_l. h.nearest k l (race_within k l race) race
        (at_by_sites p r.first.event r.second.event k l r.variable (own_at p r h) (variable_is past spots r.variable r.second h.accesses.second_is) at_k at_l);
  }

  listed_is : (i j : ℕ) → Contains (map ends_of sorted) (i, j) → IsNearest past (site_in by_variable past spots) i j
  listed_is i j there =
      let r = member_of_map ends_of sorted (i, j) there in
      let e = entry_of r.0 r.1 in
      subst (λ (q : ℕ × ℕ). IsNearest past (site_in by_variable past spots) q.0 q.1) r.2 (nearest_of e.0 r.0 (near e.0 r.0 e.1))

  is_listed : (i j : ℕ) → IsNearest past (site_in by_variable past spots) i j → Contains (map ends_of sorted) (i, j)
  is_listed i j own =
      let within = race_within i j own.race in
      let before = own.race.earlier in
      let l = location_there i (omega (arith, within, before)) in
      let m = location_there j within in
      let c = own.race.conflict in
      let p : Place = place_with l.0 m.0 (variable_part by_variable c.variable) in
      let at : IsAtPlace by_variable past spots p i j = record { first_is = l.1; second_is = m.1; variable_is = λ x is. ap (variable_part by_variable) (some_one x c.variable (sym is ∙ c.second_accesses)) } in
      let known = are.known p i j within own.race at in
      let r = known.0 in
      let h = are.each p r known.1 in
      let there = Contains-from_lookup one_place p r entries known.1 in
      let in_races = subst (λ (s : List FoundRace). Contains s r) (sym races_are) (member_map (λ (e : PlaceEntry). e.1) entries (p, r) there) in
      let in_sorted = Contains-permutation races sorted r order.permutation in_races in
      let one = h.nearest i j within own.race at in
      let sites = sites_by_place p i j r.first.event r.second.event own.race h.is_race at (own_at p r h) in
      let other = own.nearest r.first.event r.second.event h.is_race sites.0 sites.1 in
      subst (λ (q : ℕ × ℕ). Contains (map ends_of sorted) q) (one_race r.first.event r.second.event one other) (member_map ends_of sorted r in_sorted)
    where
      one_race : (a b : ℕ) → (b < j) ⊎ ((b ≡ j) × (i ≤ a)) → (j < b) ⊎ ((j ≡ b) × (a ≤ i)) → ◌≡◌ {A = ℕ × ℕ} (a, b) (i, j)
      one_race a b (inl lt) (inl gt) = absurd (omega (arith, lt, gt))
      one_race a b (inl lt) (inr h) = absurd (let e = h.0 in omega (arith, lt, e))
      one_race a b (inr h) (inl gt) = absurd (let e = h.0 in omega (arith, gt, e))
      one_race a b (inr h) (inr g) = (let le = h.1 in let ge = g.1 in let f : a ≡ i = omega (arith, le, ge) in λ k. (f k, h.0 k))

  races_apart : IsDistinct same_ends races
  races_apart = IsDistinct-from_apart same_ends races (λ i j d low within. elim (cases_Bool (same_ends (get_or races i d) (get_or races j d))) [
    | inl alike ↦ absurd (apart i j d low within (one_pair (ends_of (get_or races i d)) (ends_of (get_or races j d)) (same_alike (get_or races i d) (get_or races j d) alike)))
    | inr differ ↦ differ
  ])
    where
      same_alike : (a b : FoundRace) → same_ends a b ≡ true → same_pair (ends_of a) (ends_of b) ≡ true
      same_alike a b is = is

      long : length races ≡ length entries
      long = ap length races_are ∙ length-map entries (λ (e : PlaceEntry). e.1)

      nowhere : Place
      nowhere = place_with 0 0 0

      entry_at : (k : ℕ) (d : FoundRace) → k < length races → (e : PlaceEntry) × Contains entries e × (e.1 ≡ get_or races k d) × (get_or (keys_of entries) k e.0 ≡ e.0)
      entry_at k d lt =
          let e : PlaceEntry = get_or entries k (nowhere, d) in
          let low : k < length entries = omega (arith, lt, long) in (
            e,
            Contains-get_or entries k (nowhere, d) low,
            sym (ap (λ (l : List FoundRace). get_or l k d) races_are ∙ get_or-map (λ (f : PlaceEntry). f.1) entries k (nowhere, d) d low),
            get_or-map (λ (f : PlaceEntry). f.0) entries k (nowhere, d) e.0 low,
          )

      -- one race has one place
      place_at : (p q : Place) (i j x : ℕ) → variable_at past j ≡ Some x → IsAtPlace by_variable past spots p i j → IsAtPlace by_variable past spots q i j → p ≡ q
      place_at p q i j x at_j at_p at_q =
          let l : p.first ≡ q.first = some_one p.first q.first (sym at_p.first_is ∙ at_q.first_is) in
          let m : p.second ≡ q.second = some_one p.second q.second (sym at_p.second_is ∙ at_q.second_is) in
          let v : p.variable ≡ q.variable = sym (at_p.variable_is x at_j) ∙ at_q.variable_is x at_j in
          λ k. place_with (l k) (m k) (v k)

      place_at_ends : (e f : PlaceEntry) → Contains entries e → Contains entries f → ends_of e.1 ≡ ends_of f.1 → e.0 ≡ f.0
      place_at_ends e f in_e in_f same =
          let h = near e.0 e.1 in_e in
          let g = near f.0 f.1 in_f in
          place_at e.0 f.0 e.1.first.event e.1.second.event e.1.variable (variable_is past spots e.1.variable e.1.second h.accesses.second_is) (own_at e.0 e.1 h)
          (subst (λ (q : ℕ × ℕ). IsAtPlace by_variable past spots f.0 q.0 q.1) (sym same) (own_at f.0 f.1 g))

      apart : (i j : ℕ) (d : FoundRace) → i < j → j < length races → ends_of (get_or races i d) ≡ ends_of (get_or races j d) → ⊥
      apart i j d low within same =
          let e = entry_at i d (omega (arith, low, within)) in
          let f = entry_at j d within in
          let one = place_at_ends e.0 f.0 e.1 f.1 (ap ends_of e.2 ∙ (same ∙ ap ends_of (sym f.2))) in
          let no = apart_from_distinct same_place (keys_of entries) i j e.0.0 distinct low (let n = length-map entries (λ (g : PlaceEntry). g.0) in omega (arith, n, long, within)) in
          let at_j : get_or (keys_of entries) j e.0.0 ≡ f.0.0 = get_or-map (λ (g : PlaceEntry). g.0) entries j (nowhere, d) e.0.0 (omega (arith, long, within)) in
          let yes = place_same (get_or (keys_of entries) i e.0.0) (get_or (keys_of entries) j e.0.0) (e.3 ∙ (one ∙ sym at_j)) in
          let f : ⊥ = cc in f

  flips : (a b : FoundRace) → same_ends a b ≡ same_ends b a
  flips a b = pair_equivalence.symm (ends_of a) (ends_of b)

  sorted_before : AllPairs (λ (a b : FoundRace). ListedBefore (ends_of a) (ends_of b)) sorted
  sorted_before = λ i j d low within. elim (order.in_order i j d low within) [
    | inl less ↦ inl less
    | inr same ↦ by (get_or sorted i d) (get_or sorted j d) same (apart_from_distinct same_ends sorted i j d (IsDistinct-IsPermutation same_ends flips races sorted order.permutation races_apart) low within)
  ]
    where
      by : (a b : FoundRace) → (a.second.event ≡ b.second.event) × (a.first.event ≤ b.first.event) → same_ends a b ≡ false → ListedBefore (ends_of a) (ends_of b)
      by a b h differ = elim (cases_eq a.first.event b.first.event) [
        | inl same ↦ absurd (let yes = pair_same (ends_of a) (ends_of b) (λ k. (same k, h.0 k)) in (let f : ⊥ = cc in f))
        | inr other ↦ inr (h.0, (let le = h.1 in omega (arith, le, other)))
      ]

  pub races_final : AreNearestRaces by_variable past spots sorted
  races_final = record {
    nearest = record {
      all = λ i j. (listed_is i j, is_listed i j);
      in_order = pairs_map ListedBefore ends_of sorted sorted_before;
    };
    accesses = λ k d lt. (let e = entry_of (get_or sorted k d) (Contains-get_or sorted k d lt) in (near e.0 (get_or sorted k d) e.1).accesses);
  }
