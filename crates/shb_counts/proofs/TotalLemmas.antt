-- The races of the accesses of the list, by variable and all together.
use Rattle.std.proofs.Common.{◌≡◌, ℕ, ◌<◌, Bool, List, [], ◌∷◌, length, map, refl, arith, ap, sym, ◌∙◌}
use Rattle.std.specs.Prelude.{flat_map, sum, sum_by}
use Rattle.std.specs.List.Sorted.{IsPermutation}
use Rattle.std.proofs.lemmas.List.Sorted.{All-permutation, IsPermutation-sym, length_permutation, sum_by-IsPermutation}
use Rattle.std.proofs.lemmas.List.Sums.{sum_by-cons, sum-map}
use Rattle.shb_counts.specs.declared.accesses.Access.{Access}
use Rattle.shb_counts.proofs.FewRaces.{races_few}
use Rattle.shb_counts.proofs.Words.{Event, accesses_open, length-append, numbers_all, numbers_few}
use Rattle.shb_lines.specs.events.Reach.{numbers_where}
use Rattle.shb_stamps.specs.Accesses.{races_with}

-- ---- sums over the list

abbrev many : List Event → ℕ → ℕ
many trace e = length (races_with trace e)

flat_long : (trace : List Event) (ks : List ℕ) → length (flat_map (races_with trace) ks) ≡ sum_by (many trace) ks
flat_long trace [] = refl
flat_long trace (k ∷ ks) =
    let size = length-append (races_with trace k) (flat_map (races_with trace) ks) in
    let more = sum_by-cons (many trace) k ks in
    let rest = flat_long trace ks in
    omega (arith, size, more, rest)

sum_of_events : (f : ℕ → ℕ) (list : List Access) → sum_by (λ (access : Access). f access.event) list ≡ sum_by f (map (λ (access : Access). access.event) list)
sum_of_events f [] = refl
sum_of_events f (a ∷ list) =
    let first = sum_by-cons (λ (access : Access). f access.event) a list in
    let second = sum_by-cons f a.event (map (λ (access : Access). access.event) list) in
    let rest = sum_of_events f list in
    omega (arith, first, second, rest)

-- ---- all of them

pub all_total : (trace : List Event) (list : List Access) (races ks : List ℕ) → IsPermutation (map (λ (access : Access). access.event) list) ks → races ≡ map (λ (access : Access). length (races_with trace access.event)) list → sum races ≡ length (flat_map (races_with trace) ks)
all_total trace list races ks moved is =
    ap sum is ∙ (sum-map (λ (access : Access). length (races_with trace access.event)) list ∙ (sum_of_events (many trace) list
    ∙ (sym (sum_by-IsPermutation (many trace) (map (λ (access : Access). access.event) list) ks moved) ∙ sym (flat_long trace ks))))

-- 64 bits count them
pub few_races : (trace : List Event) (flags : List Bool) (ks : List ℕ) → length trace < 4294967296 → IsPermutation ks (numbers_where (accesses_open flags trace) (length trace)) → length (flat_map (races_with trace) ks) < 18446744073709551616
few_races trace flags ks small moved =
    let all = numbers_where (accesses_open flags trace) (length trace) in
    let low = All-permutation (λ j. j < 4294967296) all ks (IsPermutation-sym ks all moved) (numbers_all (λ j. j < 4294967296) (accesses_open flags trace) (length trace) (λ k lt t. omega (arith, lt, small))) in
    let few = races_few trace ks low in
    let many_of = length_permutation ks all moved in
    let many_all = numbers_few (accesses_open flags trace) (length trace) in
    omega (arith, few, many_of, many_all, small)
