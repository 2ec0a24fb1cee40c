-- What stands at indices before an index of a list.
use Rattle.shb_replay.proofs.Words.{Decided, StandsBefore, StandsEarlier, cases_eq, cases_order, common_steps, contains_at, index_of, slice_get_cases, slice_get_within, some_below}
use Rattle.std.proofs.Common.{◌≡◌, ℕ, ◌+◌, ◌<◌, ◌≤◌, ◌⊎◌, inl, inr, List, Some, length, sym, ◌∙◌, arith}
use Rattle.std.specs.Prelude.{slice_get, Contains}

-- two values at one index are one
pub one_value : (s : List ℕ) (p a b : ℕ) → slice_get s p ≡ Some a → slice_get s p ≡ Some b → a ≡ b
one_value s p a b at_a at_b = let same : Some a ≡ Some b = sym at_a ∙ at_b in cc

pub widen : (s : List ℕ) (p q a : ℕ) → p ≤ q → StandsEarlier s p a → StandsEarlier s q a
widen s p q a le h = record { index = h.index; earlier = (let lt = h.earlier in omega arith); at = h.at }

decide_at : (s : List ℕ) (a k : ℕ) → Decided (slice_get s k ≡ Some a)
decide_at s a k = grind (arith, common_steps, slice_get_cases, cases_eq, Decided, one_value)

pub decide_stands : (s : List ℕ) (p a : ℕ) → Decided (StandsEarlier s p a)
decide_stands s p a = go (some_below (λ k. slice_get s k ≡ Some a) (decide_at s a) p)
  where
    go : ((k : ℕ) × (k < p) × (slice_get s k ≡ Some a)) ⊎ ((k : ℕ) → k < p → slice_get s k ≡ Some a → ⊥) → Decided (StandsEarlier s p a)
    go (inl found) = inl (record { index = found.0; earlier = found.1; at = found.2 })
    go (inr none) = inr (λ h. none h.index h.earlier h.at)

-- one index more
pub stands_next : (s : List ℕ) (p b a : ℕ) → slice_get s p ≡ Some b → StandsEarlier s (p + 1) a → StandsEarlier s p a ⊎ (a ≡ b)
stands_next s p b a at h = grind (arith, common_steps, cases_order, one_value)

pub stands_here : (s : List ℕ) (p b : ℕ) → slice_get s p ≡ Some b → StandsEarlier s (p + 1) b
stands_here s p b at = record { index = p; earlier = omega arith; at = at }

-- members stand before the end
pub member_stands : (s : List ℕ) (a : ℕ) → Contains s a → StandsEarlier s (length s) a
member_stands s a c = let index = index_of s a c in record { index = index.0; earlier = slice_get_within s index.0 a index.1; at = index.1 }

pub stands_member : (s : List ℕ) (p a : ℕ) → StandsEarlier s p a → Contains s a
stands_member s p a h = contains_at s h.index a h.at

pub stands_before : (s : List ℕ) (q a b : ℕ) → slice_get s q ≡ Some b → StandsEarlier s q a → StandsBefore s a b
stands_before s q a b at h = record { index = h.index; later_index = q; before = h.earlier; first = h.at; second = at }

-- in a list of different positions
module _ (s : List ℕ) (distinct : (a : ℕ) → ¬ StandsBefore s a a) where
  pub same_index : (p q a : ℕ) → slice_get s p ≡ Some a → slice_get s q ≡ Some a → p ≡ q
  same_index p q a at_p at_q = go (cases_order p q)
    where
      go : (p ≡ q) ⊎ ((p < q) ⊎ (q < p)) → p ≡ q
      go (inl e) = e
      go (inr (inl lt)) = absurd (distinct a (record { index = p; later_index = q; before = lt; first = at_p; second = at_q }))
      go (inr (inr gt)) = absurd (distinct a (record { index = q; later_index = p; before = gt; first = at_q; second = at_p }))

  pub before_stands_earlier : (q a b : ℕ) → slice_get s q ≡ Some b → StandsBefore s a b → StandsEarlier s q a
  before_stands_earlier q a b at h =
      let e = same_index h.later_index q b h.second at in
      record { index = h.index; earlier = (let lt = h.before in omega (arith, lt, e)); at = h.first }
