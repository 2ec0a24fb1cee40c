-- Counting in stretches of a list, in pieces, and within a piece in any order, gives the same sums.
use Rattle.std.proofs.Common.{◌≡◌, ℕ, ◌+◌, cond, List, [], ◌∷◌, ◌++◌, sym, subst, ◌∙◌, append_assoc}
use Rattle.std.specs.Prelude.{Contains, flat_map}
use Rattle.std.specs.List.{sum_by}
use Rattle.std.specs.List.Sorted.{IsPermutation}
use Rattle.std.proofs.lemmas.List.Sorted.{Contains-permutation, IsPermutation-append_right, IsPermutation-cons, IsPermutation-middle, IsPermutation-sym, IsPermutation-to_front, sum_by-IsPermutation}
use Rattle.shb_format.specs.Keyed.{Key, same_key}
use Rattle.shb_stamps.proofs.FlatMaps.{flat_map_contains, flat_map_parts}
use Rattle.shb_counts.specs.PlaceSums.{AreSums, at_place}
use Rattle.shb_counts.proofs.SumLemmas.{same_sums, sums_append, sums_joined, sums_permuted}
use Rattle.shb_counts.proofs.SwapLemmas.{sum_flat}

module _ {X T : Type 0} (key : T → Key) (Le : T → T → Type 0) (f : X → List T) where
  -- the races of some accesses, in another order
  pub flat_permuted : (xs ys : List X) (sums : List (T × ℕ)) → IsPermutation xs ys → AreSums key Le (flat_map f xs) sums → AreSums key Le (flat_map f ys) sums
  flat_permuted xs ys sums p h = same_sums key Le (flat_map f xs) (flat_map f ys) sums same there back h
    where
      same : (k : Key) → at_place key (flat_map f ys) k ≡ at_place key (flat_map f xs) k
      same k =
          let v = λ (r : T). cond {A = ℕ} (same_key (key r) k) 1 0 in
          sum_flat v f ys ∙ (sum_by-IsPermutation (λ (x : X). sum_by v (f x)) xs ys p ∙ sym (sum_flat v f xs))

      there : (race : T) → Contains (flat_map f xs) race → Contains (flat_map f ys) race
      there race c = let own = flat_map_parts f xs race c in flat_map_contains f ys own.0 race (Contains-permutation xs ys own.0 p own.1) own.2

      back : (race : T) → Contains (flat_map f ys) race → Contains (flat_map f xs) race
      back race c = let own = flat_map_parts f ys race c in flat_map_contains f xs own.0 race (Contains-permutation ys xs own.0 (IsPermutation-sym xs ys p) own.1) own.2

-- ---- a sum more in a table: it is joined with the one of its place

module _ {T : Type 0} (key : T → Key) (Le : T → T → Type 0) (xs more : List T) (us vs : List (T × ℕ)) (a b : T × ℕ) (table : AreSums key Le xs (us ++ a ∷ vs)) (sum : AreSums key Le more (b ∷ [])) (same : key a.0 ≡ key b.0) where
  beside : AreSums key Le (xs ++ more) (us ++ a ∷ b ∷ vs)
  beside = sums_permuted key Le (xs ++ more) ((us ++ a ∷ vs) ++ b ∷ []) (us ++ a ∷ b ∷ vs)
      (subst (λ (l : List (T × ℕ)). IsPermutation l (us ++ a ∷ b ∷ vs)) (sym (append_assoc us (a ∷ vs) (b ∷ [])))
      (IsPermutation-append_right us (a ∷ (vs ++ b ∷ [])) (a ∷ b ∷ vs) (IsPermutation-cons a (vs ++ b ∷ []) (b ∷ vs) (IsPermutation-to_front vs b))))
      (sums_append key Le xs more (us ++ a ∷ vs) (b ∷ []) table sum)

  -- the one that is there stands first, or the new one
  pub sum_added_after : ((race : T) → Contains (xs ++ more) race → Le b.0 race → Le a.0 race) → AreSums key Le (xs ++ more) (us ++ (a.0, a.1 + b.1) ∷ vs)
  sum_added_after low = sums_joined key Le (xs ++ more) us vs a b same low beside

  pub sum_added_before : ((race : T) → Contains (xs ++ more) race → Le a.0 race → Le b.0 race) → AreSums key Le (xs ++ more) (us ++ (b.0, b.1 + a.1) ∷ vs)
  sum_added_before low = sums_joined key Le (xs ++ more) us vs b a (sym same) low
      (sums_permuted key Le (xs ++ more) (us ++ a ∷ b ∷ vs) (us ++ b ∷ a ∷ vs) (IsPermutation-append_right us (a ∷ b ∷ vs) (b ∷ a ∷ vs) (IsPermutation-middle (a ∷ []) b vs)) beside)
