-- The races by variable, later access and earlier access are the race list.
use Rattle.shb_stamps.proofs.Words.{AllPairs-from_increasing, Contains-get_or, Event, FirstAccess, IsNumberedByAccess, IsRaceList, Race, RaceBefore, cases_lt, common_steps, event_at_access, is_race, numbers_listed, numbers_where, reflect_race, slice_get_within, variable_at}
use Rattle.shb_stamps.specs.Accesses.{accesses_at, accesses_in, variables_in, races_with, PairBefore}
use Rattle.std.proofs.Common.{◌≡◌, ℕ, ◌<◌, ◌⊎◌, inl, inr, true, List, Some, length, get_or, refl, arith, subst}
use Rattle.std.specs.Prelude.{Contains, AllPairs, flat_map, ◌↔◌}
use Rattle.shb_stamps.proofs.Accesses.{access_from_test, test_from_access, variable_within, lower_accessed}
use Rattle.shb_lines.proofs.events.RaceLists.{first_unique}
use Rattle.shb_stamps.proofs.FlatMaps.{flat_map_parts, flat_map_contains, flat_map_ordered, map_parts, map_contains, map_ordered}

-- all numbers below n
abbrev pub numbers_below : ℕ → List ℕ
numbers_below n = numbers_where (λ k. true) n

abbrev pub races_on : List Event → ℕ → List (ℕ × ℕ)
races_on trace x = flat_map (races_with trace) (accesses_in trace x)

abbrev pub all_races : List Event → List (ℕ × ℕ)
all_races trace = flat_map (races_on trace) (numbers_below (variables_in trace))

-- members
pub access_member : (trace : List Event) (x k : ℕ) → Contains (accesses_in trace x) k → variable_at trace k ≡ Some x
access_member trace x k c = access_from_test trace x k (((numbers_listed (accesses_at trace x) (length trace)).members k).0 c).1

access_contained : (trace : List Event) (x k : ℕ) → variable_at trace k ≡ Some x → Contains (accesses_in trace x) k
access_contained trace x k h = ((numbers_listed (accesses_at trace x) (length trace)).members k).1 (access_in_range trace x k h, test_from_access trace x k h)
  where
    access_in_range : (trace : List Event) (x k : ℕ) → variable_at trace k ≡ Some x → k < length trace
    access_in_range trace x k h = let e = event_at_access trace k x h in slice_get_within trace k e.0 e.1

-- what stands in the races of j
pub record IsRaceOf (trace : List Event) (j : ℕ) (p : ℕ × ℕ) : Type 0 where
  pub later : p.1 ≡ j
  pub race : Race trace p.0 p.1

pub race_parts : (trace : List Event) (j : ℕ) (p : ℕ × ℕ) → Contains (races_with trace j) p → IsRaceOf trace j p
unfolding races_with
race_parts trace j p c =
    let there = map_parts (λ i. (i, j)) (numbers_where (λ i. is_race trace i j) j) p c in
    let passing = (((numbers_listed (λ i. is_race trace i j) j).members there.0).0 there.1).1 in
    subst (IsRaceOf trace j) there.2 (record { later = refl; race = (reflect_race trace there.0 j).0 passing })

pub race_contained : (trace : List Event) (i j : ℕ) → Race trace i j → Contains (races_with trace j) (i, j)
unfolding races_with
race_contained trace i j race = map_contains (λ i. (i, j)) (numbers_where (λ i. is_race trace i j) j) i (((numbers_listed (λ i. is_race trace i j) j).members i).1 (race.earlier, (reflect_race trace i j).1 race))

pub races_on_parts : (trace : List Event) (x : ℕ) (p : ℕ × ℕ) → Contains (races_on trace x) p → (variable_at trace p.1 ≡ Some x) × Race trace p.0 p.1
races_on_parts trace x p c =
    let there = flat_map_parts (races_with trace) (accesses_in trace x) p c in
    let parts = race_parts trace there.0 p there.2 in
    (rw parts.later (access_member trace x there.0 there.1), parts.race)

pub all_member : (trace : List Event) (i j : ℕ) → Contains (all_races trace) (i, j) ↔ Race trace i j
all_member trace i j = (
  (λ c. let there = flat_map_parts (races_on trace) (numbers_below (variables_in trace)) (i, j) c in (races_on_parts trace there.0 (i, j) there.2).1),
  (λ race.
      let x = race.conflict.variable in
      let accessed : variable_at trace j ≡ Some x = race.conflict.second_accesses in
      let event = event_at_access trace j x accessed in
      let within = slice_get_within trace j event.0 event.1 in
      flat_map_contains (races_on trace) (numbers_below (variables_in trace)) x (i, j)
      (((numbers_listed (λ k. true) (variables_in trace)).members x).1 (variable_within trace j (length trace) x within accessed, refl))
      (flat_map_contains (races_with trace) (accesses_in trace x) j (i, j) (access_contained trace x j accessed) (race_contained trace i j race))),
)

-- a variable with a lower number is accessed first
first_rising : (trace : List Event) → IsNumberedByAccess trace → (x y f g : ℕ) → x < y → FirstAccess trace x f → FirstAccess trace y g → f < g
first_rising trace numbered x y f g lt hf hg =
    let there = lower_accessed trace numbered g y x hg.accesses lt in
    elim (cases_lt f g) [ inl h ↦ h | inr past ↦ absurd (hf.first there.0 (let below = there.1 in omega arith) there.2) ]

-- two races on one variable stand in the order of their later accesses, then their earlier ones
on_variable : (trace : List Event) (z : ℕ) (p q : ℕ × ℕ) → variable_at trace p.1 ≡ Some z → variable_at trace q.1 ≡ Some z → (p.1 < q.1) ⊎ ((p.1 ≡ q.1) × (p.0 < q.0)) → RaceBefore trace p q
on_variable trace z p q at_p at_q order = grind (arith, common_steps, first_unique)

-- the races of one later access stand by the earlier one
with_rises : (trace : List Event) (j : ℕ) → AllPairs PairBefore (races_with trace j)
unfolding races_with
with_rises trace j = map_ordered PairBefore (λ i. (i, j)) (numbers_where (λ i. is_race trace i j) j)
    (λ a b d lt within. inr (refl, AllPairs-from_increasing (numbers_where (λ i. is_race trace i j) j) (numbers_listed (λ i. is_race trace i j) j).rising a b d lt within))

pub piece_rises : (trace : List Event) (ks : List ℕ) → AllPairs (λ (a b : ℕ). a < b) ks → AllPairs PairBefore (flat_map (races_with trace) ks)
piece_rises trace ks rising = flat_map_ordered PairBefore (races_with trace) ks
    (λ j c. with_rises trace j)
    (λ a b d lt within p q cp cq.
    let later_p = (race_parts trace _ p cp).later in
    let later_q = (race_parts trace _ q cq).later in
    let rise = rising a b d lt within in
    inl (omega (arith, later_p, later_q, rise)))

on_ordered : (trace : List Event) (x : ℕ) → AllPairs (RaceBefore trace) (races_on trace x)
on_ordered trace x a b d lt within =
    let at_a = races_on_parts trace x _ (Contains-get_or (races_on trace x) a d (omega arith)) in
    let at_b = races_on_parts trace x _ (Contains-get_or (races_on trace x) b d within) in
    on_variable trace x _ _ at_a.0 at_b.0 (piece_rises trace (accesses_in trace x) (AllPairs-from_increasing (accesses_in trace x) (numbers_listed (accesses_at trace x) (length trace)).rising) a b d lt within)

pub all_ordered : (trace : List Event) → IsNumberedByAccess trace → AllPairs (RaceBefore trace) (all_races trace)
all_ordered trace numbered = flat_map_ordered (RaceBefore trace) (races_on trace) (numbers_below (variables_in trace))
    (λ x c. on_ordered trace x)
    (λ a b d lt within p q cp cq x y f g of_x of_y first_x first_y.
    let at_p = (races_on_parts trace _ p cp).0 in
    let at_q = (races_on_parts trace _ q cq).0 in
    let rising = AllPairs-from_increasing (numbers_below (variables_in trace)) (numbers_listed (λ k. true) (variables_in trace)).rising a b d lt within in
    let same_x : x ≡ get_or (numbers_below (variables_in trace)) a d = cc in
    let same_y : y ≡ get_or (numbers_below (variables_in trace)) b d = cc in
    inl (first_rising trace numbered x y f g (omega (arith, same_x, same_y, rising)) first_x first_y))

pub all_is_race_list : (trace : List Event) → IsNumberedByAccess trace → IsRaceList trace (all_races trace)
all_is_race_list trace numbered = record { all = all_member trace; in_order = all_ordered trace numbered }
