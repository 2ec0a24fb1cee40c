-- The order of the race list, for sums of races: it is strict on races.
use Rattle.std.proofs.Common.{◌≡◌, ℕ, ◌<◌, ◌≤◌, ◌⊎◌, inl, inr, true, List, Some, length, map, get_or, refl, arith}
use Rattle.std.specs.Prelude.{All, AllPairs, flat_map}
use Rattle.std.proofs.lemmas.Grind.{common_steps}
use Rattle.std.proofs.lemmas.List.Elements.{All-contains, All-map, Contains-get_or}
use Rattle.std.proofs.lemmas.List.Kept.{AllPairs-from_increasing}
use Rattle.shb_lines.specs.declared.event.Event.{Event}
use Rattle.shb_lines.specs.declared.event.Pair.{Pair}
use Rattle.shb_lines.specs.events.Race.{KeyBefore, Race, variable_at}
use Rattle.shb_lines.specs.events.Reach.{is_race, numbers_where}
use Rattle.shb_lines.proofs.events.Reach.{numbers_listed}
use Rattle.shb_format.specs.Keyed.{Key}
use Rattle.shb_format.specs.Report.{pair_of}
use Rattle.shb_stamps.specs.Accesses.{accesses_at, accesses_in, races_with}
use Rattle.shb_stamps.proofs.FlatMaps.{flat_map_ordered, flat_map_parts, map_ordered}
use Rattle.shb_stamps.proofs.Listing.{access_member, race_parts, races_on, races_on_parts}
use Rattle.shb_counts.specs.Sums.{IsBefore, IsNotAfter}
use Rattle.shb_counts.proofs.PlacesOfSums.{IsStrict}

not_both : (x y a b c d : ℕ) → KeyBefore (x, a, b) (y, c, d) → (y < x) ⊎ ((y ≡ x) × ((c < a) ⊎ ((c ≡ a) × (d ≤ b)))) → ⊥
not_both x y a b c d before after = grind (arith, common_steps)

pub races_strict : (trace : List Event) (key : Pair → Key) (pairs : List Pair) → All (λ p. Race trace p.first p.second) pairs → IsStrict key (IsNotAfter trace) (IsBefore trace) pairs
races_strict trace key pairs races a b ca cb before after =
    let of_a = (All-contains (λ (p : Pair). Race trace p.first p.second) pairs a races ca).conflict in
    let of_b = (All-contains (λ (p : Pair). Race trace p.first p.second) pairs b races cb).conflict in
    not_both of_a.variable of_b.variable a.second a.first b.second b.first (before of_a.variable of_b.variable of_a.second_accesses of_b.second_accesses) (after of_b.variable of_a.variable of_b.second_accesses of_a.second_accesses)

not_after_then : (x y z a b c d e f : ℕ) → (x < y) ⊎ ((x ≡ y) × ((a < c) ⊎ ((a ≡ c) × (b ≤ d)))) → (y < z) ⊎ ((y ≡ z) × ((c < e) ⊎ ((c ≡ e) × (d ≤ f)))) → (x < z) ⊎ ((x ≡ z) × ((a < e) ⊎ ((a ≡ e) × (b ≤ f))))
not_after_then x y z a b c d e f low more = grind (arith, common_steps)

-- ---- the races of all variables stand in this order

-- the same of two positions
abbrev EndsBefore : List Event → ℕ × ℕ → ℕ × ℕ → Type 0
EndsBefore trace p q = IsBefore trace (pair_of p) (pair_of q)

-- two races on one variable stand in the order of their later accesses, then their earlier ones
on_variable : (trace : List Event) (z : ℕ) (p q : ℕ × ℕ) → variable_at trace p.1 ≡ Some z → variable_at trace q.1 ≡ Some z → (p.1 < q.1) ⊎ ((p.1 ≡ q.1) × (p.0 < q.0)) → EndsBefore trace p q
on_variable trace z p q at_p at_q order = grind (arith, common_steps)

with_ordered : (trace : List Event) (z j : ℕ) → variable_at trace j ≡ Some z → AllPairs (EndsBefore trace) (races_with trace j)
unfolding races_with
with_ordered trace z j accessed = map_ordered (EndsBefore trace) (λ i. (i, j)) (numbers_where (λ i. is_race trace i j) j)
    (λ a b d lt within. on_variable trace z _ _ accessed accessed (inr (refl, AllPairs-from_increasing (numbers_where (λ i. is_race trace i j) j) (numbers_listed (λ i. is_race trace i j) j).rising a b d lt within)))

on_ordered : (trace : List Event) (x : ℕ) → AllPairs (EndsBefore trace) (races_on trace x)
on_ordered trace x = flat_map_ordered (EndsBefore trace) (races_with trace) (accesses_in trace x)
    (λ j c. with_ordered trace x j (access_member trace x j c))
    (λ a b d lt within p q cp cq.
    let first = access_member trace x (get_or (accesses_in trace x) a d) (Contains-get_or (accesses_in trace x) a d (omega arith)) in
    let second = access_member trace x (get_or (accesses_in trace x) b d) (Contains-get_or (accesses_in trace x) b d within) in
    let later_p = (race_parts trace _ p cp).later in
    let later_q = (race_parts trace _ q cq).later in
    let rising = AllPairs-from_increasing (accesses_in trace x) (numbers_listed (accesses_at trace x) (length trace)).rising a b d lt within in
    on_variable trace x p q (rw later_p first) (rw later_q second) (inl (omega (arith, later_p, later_q, rising))))

-- the races of the first variables as pairs
abbrev pub pairs_below : List Event → ℕ → List Pair
pairs_below trace n = map pair_of (flat_map (races_on trace) (numbers_where (λ k. true) n))

pub pairs_ordered : (trace : List Event) (n : ℕ) → AllPairs (IsBefore trace) (pairs_below trace n)
pairs_ordered trace n = map_ordered (IsBefore trace) pair_of (flat_map (races_on trace) (numbers_where (λ k. true) n)) (flat_map_ordered (EndsBefore trace) (races_on trace) (numbers_where (λ k. true) n)
    (λ x c. on_ordered trace x)
    (λ a b d lt within p q cp cq x y of_x of_y.
    let at_p = (races_on_parts trace _ p cp).0 in
    let at_q = (races_on_parts trace _ q cq).0 in
    let rising = AllPairs-from_increasing (numbers_where (λ k. true) n) (numbers_listed (λ k. true) n).rising a b d lt within in
    let same_x : x ≡ get_or (numbers_where (λ k. true) n) a d = cc in
    let same_y : y ≡ get_or (numbers_where (λ k. true) n) b d = cc in
    inl (omega (arith, same_x, same_y, rising))))

pub pairs_race : (trace : List Event) (n : ℕ) → All (λ p. Race trace p.first p.second) (pairs_below trace n)
pairs_race trace n = All-map (λ (p : Pair). Race trace p.first p.second) pair_of (flat_map (races_on trace) (numbers_where (λ k. true) n)) (λ k d lt.
    let races = flat_map (races_on trace) (numbers_where (λ k. true) n) in
    let there = flat_map_parts (races_on trace) (numbers_where (λ k. true) n) (get_or races k d) (Contains-get_or races k d lt) in
    (races_on_parts trace there.0 (get_or races k d) there.2).1)
