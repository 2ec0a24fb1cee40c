-- A list has at most one index and reason at which it is no schedule.
use Rattle.std.proofs.Common.{◌≡◌, ℕ, ◌<◌, ◌⊎◌, inl, inr, List, Some, sym, ◌∙◌, arith, subst}
use Rattle.shb_replay.proofs.Words.{Event, HasReason, IsBroken, IsFirstReason, IsLowest, IsNotNext, Why, cases_order, number_of, slice_get_within}
use Rattle.shb_replay.specs.declared.broken.Why.TheVariants as whys
use Rattle.shb_replay.proofs.Lowest.{not_before, same_why, two_ways}
use Rattle.shb_replay.proofs.Standing.{one_value}

module _ (trace : List Event) (s : List ℕ) (i j : ℕ) where
  at_end : (p q : ℕ) (why : Why) → IsFirstReason trace s p why → IsNotNext trace s i j q → ⊥
  at_end p q why h end = not_before trace s p q why h end.earlier (let lt = slice_get_within s p h.event h.there in let e = end.at_end in omega (arith, lt, e))

  same_index : (p q : ℕ) (why other : Why) → IsFirstReason trace s p why → IsFirstReason trace s q other → (p ≡ q) ⊎ ((p < q) ⊎ (q < p)) → p ≡ q
  same_index p q why other h g (inl same) = same
  same_index p q why other h g (inr (inl lt)) = absurd (not_before trace s p q why h g.earlier lt)
  same_index p q why other h g (inr (inr gt)) = absurd (not_before trace s q p other g h.earlier gt)

  same_reason : (p : ℕ) (why other : Why) → IsFirstReason trace s p why → IsFirstReason trace s p other → why ≡ other
  same_reason p why other h g =
      let same = one_value s p h.event g.event h.there g.there in
      let lowest : IsLowest number_of (HasReason trace s p g.event) (Some why) = subst (λ (e : ℕ). IsLowest number_of (HasReason trace s p e) (Some why)) same h.lowest in
      let low = lowest.1 other g.lowest.0 in
      let high = g.lowest.1 why lowest.0 in
      same_why why other (omega (arith, low, high))

  by_ways : (p q : ℕ) (why other : Why) → ((why ≡ whys.NotNext) × IsNotNext trace s i j p) ⊎ IsFirstReason trace s p why → ((other ≡ whys.NotNext) × IsNotNext trace s i j q) ⊎ IsFirstReason trace s q other → (p ≡ q) × (why ≡ other)
  by_ways p q why other (inl h) (inl g) = (h.1.at_end ∙ sym g.1.at_end, h.0 ∙ sym g.0)
  by_ways p q why other (inl h) (inr g) = absurd (at_end q p other g h.1)
  by_ways p q why other (inr h) (inl g) = absurd (at_end p q why h g.1)
  by_ways p q why other (inr h) (inr g) =
      let same = same_index p q why other h g (cases_order p q) in
      (same, same_reason q why other (subst (λ (k : ℕ). IsFirstReason trace s k why) same h) g)

  pub one_answer : (p q : ℕ) (why other : Why) → IsBroken trace s i j p why → IsBroken trace s i j q other → (p ≡ q) × (why ≡ other)
  one_answer p q why other h g = by_ways p q why other (two_ways trace s i j p why h) (two_ways trace s i j q other g)
