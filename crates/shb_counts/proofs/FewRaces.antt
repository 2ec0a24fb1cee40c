-- How many races an access has, and several accesses.
use Rattle.std.proofs.Common.{ℕ, suc, ◌*◌, ◌<◌, ◌≤◌, List, [], ◌∷◌, length, arith}
use Rattle.std.specs.Prelude.{All, flat_map}
use Rattle.shb_counts.proofs.Words.{Event, is_race, length-append, length-map, numbers_few, numbers_where}
use Rattle.shb_stamps.specs.Accesses.{races_with}

with_few : (trace : List Event) (j : ℕ) → length (races_with trace j) ≤ j
unfolding races_with
with_few trace j =
    let pair : ℕ → ℕ × ℕ = λ i. (i, j) in
    let size = length-map (numbers_where (λ i. is_race trace i j) j) pair in
    let few = numbers_few (λ i. is_race trace i j) j in
    omega (arith, size, few)

pub races_few : (trace : List Event) (ks : List ℕ) → All (λ j. j < 4294967296) ks → length (flat_map (races_with trace) ks) ≤ 4294967296 * length ks
races_few trace [] all = omega arith
races_few trace (j ∷ ks) all =
    let size = length-append (races_with trace j) (flat_map (races_with trace) ks) in
    let here = with_few trace j in
    let below = all 0 0 (omega arith) in
    let rest = races_few trace ks (λ k d lt. all (suc k) d (omega arith)) in
    omega (arith, size, here, below, rest)
