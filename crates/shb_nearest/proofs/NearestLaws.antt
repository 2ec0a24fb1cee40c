-- What follows from the definition of nearest races.
use Rattle.std.proofs.Common.{◌≡◌, ◌≢◌, ℕ, zero, suc, ◌+◌, ◌<◌, ◌≤◌, ◌⊎◌, inl, inr, List, refl, arith, sym, subst, ◌∙◌}
use Rattle.std.specs.Prelude.{Contains}
use Rattle.shb_nearest.proofs.Words.{AreNearest, Decided, Event, IsNearest, ListedBefore, Race, cases_Bool, cases_eq, cases_lt, is_race, reflect_race, same_in_order}

not_both : (p q : ℕ × ℕ) → ListedBefore p q → ListedBefore q p → ⊥
not_both p q (inl a) (inl b) = omega (arith, a, b)
not_both p q (inl a) (inr b) = let e = b.0 in omega (arith, a, e)
not_both p q (inr a) (inl b) = let e = a.0 in omega (arith, b, e)
not_both p q (inr a) (inr b) = let lt = a.1 in let gt = b.1 in omega (arith, lt, gt)

-- the least number below n that has a property, and the greatest
least : (P : ℕ → Type 0) → ((k : ℕ) → Decided (P k)) → (n : ℕ) → ((m : ℕ) × (m < n) × P m × ((k : ℕ) → k < m → P k → ⊥)) ⊎ ((k : ℕ) → k < n → P k → ⊥)
least P decide zero = inr (λ k lt h. omega (arith, lt))
least P decide (suc n) = go (least P decide n) (decide n)
  where
    go : ((m : ℕ) × (m < n) × P m × ((k : ℕ) → k < m → P k → ⊥)) ⊎ ((k : ℕ) → k < n → P k → ⊥) → Decided (P n) → ((m : ℕ) × (m < suc n) × P m × ((k : ℕ) → k < m → P k → ⊥)) ⊎ ((k : ℕ) → k < suc n → P k → ⊥)
    go (inl found) d = inl (found.0, (let lt = found.1 in omega (arith, lt)), found.2, found.3)
    go (inr none) (inl passes) = inl (n, omega arith, passes, none)
    go (inr none) (inr fails) = inr (λ k lt h. elim (cases_lt k n) [ inl low ↦ none k low h | inr high ↦ (let e : k ≡ n = omega (arith, lt, high) in fails (subst P e h)) ])

pub greatest : (P : ℕ → Type 0) → ((k : ℕ) → Decided (P k)) → (n : ℕ) → ((m : ℕ) × (m < n) × P m × ((k : ℕ) → k < n → P k → k ≤ m)) ⊎ ((k : ℕ) → k < n → P k → ⊥)
greatest P decide zero = inr (λ k lt h. omega (arith, lt))
greatest P decide (suc n) = go (greatest P decide n) (decide n)
  where
    go : ((m : ℕ) × (m < n) × P m × ((k : ℕ) → k < n → P k → k ≤ m)) ⊎ ((k : ℕ) → k < n → P k → ⊥) → Decided (P n) → ((m : ℕ) × (m < suc n) × P m × ((k : ℕ) → k < suc n → P k → k ≤ m)) ⊎ ((k : ℕ) → k < suc n → P k → ⊥)
    go rest (inl passes) = inl (n, omega arith, passes, λ k lt h. omega (arith, lt))
    go (inl found) (inr fails) = inl (
      found.0,
      (let lt = found.1 in omega (arith, lt)),
      found.2,
      λ k lt h. elim (cases_lt k n) [
        | inl low ↦ found.3 k low h
        | inr high ↦ absurd (let e : k ≡ n = omega (arith, lt, high) in fails (subst P e h))
      ],
    )
    go (inr none) (inr fails) = inr (λ k lt h. elim (cases_lt k n) [ inl low ↦ none k low h | inr high ↦ (let e : k ≡ n = omega (arith, lt, high) in fails (subst P e h)) ])

module _ {L : Type 0} (events : List Event) (location : ℕ → L) where
  pub unique : (races others : List (ℕ × ℕ)) → AreNearest events location races → AreNearest events location others → races ≡ others
  unique races others one other = same_in_order ListedBefore races others (λ p q in_p in_q before after. not_both p q before after) one.in_order other.in_order
      (λ p. ((λ h. (other.all p.0 p.1).1 ((one.all p.0 p.1).0 h)), (λ h. (one.all p.0 p.1).1 ((other.all p.0 p.1).0 h))))

  -- two that are nearest at one place are one
  one_nearest : (i j k l : ℕ) → IsNearest events location i j → IsNearest events location k l → location i ≡ location k → location j ≡ location l → (i ≡ k) × (j ≡ l)
  one_nearest i j k l one other at_i at_j = same (one.nearest k l other.race (sym at_i) (sym at_j)) (other.nearest i j one.race at_i at_j)
    where
      same : (j < l) ⊎ ((j ≡ l) × (k ≤ i)) → (l < j) ⊎ ((l ≡ j) × (i ≤ k)) → (i ≡ k) × (j ≡ l)
      same (inl a) (inl b) = absurd (omega (arith, a, b))
      same (inl a) (inr b) = absurd (let e = b.0 in omega (arith, a, e))
      same (inr a) (inl b) = absurd (let e = a.0 in omega (arith, b, e))
      same (inr a) (inr b) = (let le = a.1 in let ge = b.1 in let f : i ≡ k = omega (arith, le, ge) in (f, a.0))

  module _ (races : List (ℕ × ℕ)) (are : AreNearest events location races) where
    pub listed_races : (i j : ℕ) → Contains races (i, j) → Race events i j
    listed_races i j there = ((are.all i j).0 there).race

    pub listed_once : (i j k l : ℕ) → Contains races (i, j) → Contains races (k, l) → location i ≡ location k → location j ≡ location l → (i ≡ k) × (j ≡ l)
    listed_once i j k l one other at_i at_j = one_nearest i j k l ((are.all i j).0 one) ((are.all k l).0 other) at_i at_j

    module _ (apart : (a b : L) → (a ≡ b) ⊎ (a ≢ b)) (k l : ℕ) (race : Race events k l) where
      abbrev IsRival : ℕ → ℕ → Type 0
      IsRival j i = Race events i j × (location i ≡ location k)

      abbrev HasRival : ℕ → Type 0
      HasRival j = ((i : ℕ) × (i < j) × IsRival j i) × (location j ≡ location l)

      is_race_or_not : (i j : ℕ) → Decided (Race events i j)
      is_race_or_not i j = elim (cases_Bool (is_race events i j)) [
        | inl passes ↦ inl ((reflect_race events i j).0 passes)
        | inr fails ↦ inr (λ h. let t = (reflect_race events i j).1 h in (let f : ⊥ = cc in f))
      ]

      rival_or_not : (j i : ℕ) → Decided (IsRival j i)
      rival_or_not j i = go (is_race_or_not i j) (apart (location i) (location k))
        where
          go : Decided (Race events i j) → (location i ≡ location k) ⊎ (location i ≢ location k) → Decided (IsRival j i)
          go (inl r) (inl same) = inl (r, same)
          go (inl r) (inr other) = inr (λ h. other h.1)
          go (inr fails) at = inr (λ h. fails h.0)

      has_or_not : (j : ℕ) → Decided (HasRival j)
      has_or_not j = go (greatest (IsRival j) (rival_or_not j) j) (apart (location j) (location l))
        where
          go : ((m : ℕ) × (m < j) × IsRival j m × ((i : ℕ) → i < j → IsRival j i → i ≤ m)) ⊎ ((i : ℕ) → i < j → IsRival j i → ⊥) → (location j ≡ location l) ⊎ (location j ≢ location l) → Decided (HasRival j)
          go (inl found) (inl same) = inl ((found.0, found.1, found.2), same)
          go (inl found) (inr other) = inr (λ h. other h.1)
          go (inr none) at = inr (λ h. none h.0.0 h.0.1 h.0.2)

      pub place_listed : (i : ℕ) × (j : ℕ) × Contains races (i, j) × (location i ≡ location k) × (location j ≡ location l)
      place_listed = by_later (least HasRival has_or_not (l + 1))
        where
          at : (j : ℕ) → ((m : ℕ) → m < j → HasRival m → ⊥) → location j ≡ location l → ((m : ℕ) × (m < j) × IsRival j m × ((i : ℕ) → i < j → IsRival j i → i ≤ m)) → (i : ℕ) × (n : ℕ) × Contains races (i, n) × (location i ≡ location k) × (location n ≡ location l)
          at j first same found = (
            found.0,
            j,
            (are.all found.0 j).1 (record {
              race = found.2.0;
              nearest = λ a b r at_a at_b. elim (cases_lt b j) [
                | inl low ↦ absurd (first b low ((a, r.earlier, (r, at_a ∙ found.2.1)), at_b ∙ same))
                | inr high ↦ elim (cases_eq j b) [
                  | inr other ↦ inl (omega (arith, high, other))
                  | inl here ↦ inr (here, found.3 a (let before = r.earlier in omega (arith, before, here)) (subst (λ (n : ℕ). Race events a n) (sym here) r, at_a ∙ found.2.1))
                ]
              ];
            }),
            found.2.1,
            same,
          )

          by_earlier : (j : ℕ) → ((m : ℕ) → m < j → HasRival m → ⊥) → HasRival j → ((m : ℕ) × (m < j) × IsRival j m × ((i : ℕ) → i < j → IsRival j i → i ≤ m)) ⊎ ((i : ℕ) → i < j → IsRival j i → ⊥) → (i : ℕ) × (n : ℕ) × Contains races (i, n) × (location i ≡ location k) × (location n ≡ location l)
          by_earlier j first h (inl found) = at j first h.1 found
          by_earlier j first h (inr none) = absurd (none h.0.0 h.0.1 h.0.2)

          by_later : ((m : ℕ) × (m < l + 1) × HasRival m × ((j : ℕ) → j < m → HasRival j → ⊥)) ⊎ ((j : ℕ) → j < l + 1 → HasRival j → ⊥) → (i : ℕ) × (n : ℕ) × Contains races (i, n) × (location i ≡ location k) × (location n ≡ location l)
          by_later (inl found) = by_earlier found.0 found.3 found.2 (greatest (IsRival found.0) (rival_or_not found.0) found.0)
          by_later (inr none) = absurd (none l (omega arith) ((k, race.earlier, (race, refl)), refl))
