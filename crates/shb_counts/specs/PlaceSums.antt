-- Races that are counted by place in parts: of a place one sum or several, each with a race and a number.
use Rattle.std.specs.Prelude.{◌≡◌, ◌≢◌, ℕ, List, AllPairs, Contains, cond, count_by, fold}
use Rattle.std.specs.List.{sum_by}
use Rattle.shb_lines.specs.declared.event.Pair.{Pair}
use Rattle.shb_format.specs.Keyed.{Key, Keyed, same_key, with_keyed}

module _ {T : Type 0} (key : T → Key) where
  -- how many races have this place
  abbrev pub at_place : List T → Key → ℕ
  at_place races k = count_by (λ race. same_key (key race) k) races

  -- how many races of this place the sums say
  abbrev pub summed : List (T × ℕ) → Key → ℕ
  summed sums k = sum_by (λ sum. cond (same_key (key sum.0) k) sum.1 0) sums

  module _ (Le : T → T → Type 0) where
    -- of each place the numbers add up to that of its races, and one of these that no other stands before is in a sum
    pub record AreSums (races : List T) (sums : List (T × ℕ)) : Type 0 where
      pub counts : (k : Key) → summed sums k ≡ at_place races k
      pub members : (sum : T × ℕ) → Contains sums sum → Contains races sum.0
      pub least : (race : T) → Contains races race → (sum : T × ℕ) × Contains sums sum × (key sum.0 ≡ key race) × Le sum.0 race

    -- they are such sums, one of each place, in the order of their races
    pub record ArePlaces (races : List T) (sums : List (T × ℕ)) : Type 0 where
      pub are_sums : AreSums races sums
      pub apart : AllPairs (λ a b. key a.0 ≢ key b.0) sums
      pub in_order : AllPairs (λ a b. Le a.0 b.0) sums

-- these places, and then each pair in its turn
abbrev pub keyed_by : (Pair → Key) → List Keyed → List Pair → List Keyed
keyed_by key before pairs = fold (λ places pair. with_keyed places (key pair) pair) before pairs
