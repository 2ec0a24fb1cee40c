-- Bounded search, and the rising list of the numbers below a bound that have a property.
use Rattle.std.proofs.lemmas.Grind.{common_steps}
use Rattle.std.proofs.Common.{◌≡◌, ℕ, zero, suc, ◌+◌, ◌<◌, ◌≤◌, ◌⊎◌, inl, inr, List, [], ◌∷◌, ◌++◌, length, get_or, arith, subst, ap, ◌∙◌}
use Rattle.std.specs.Prelude.{Contains, ◌↔◌}
use Rattle.std.specs.List.Sorted.{IsStrictlyIncreasing}
use Rattle.std.proofs.lemmas.Bool.{cases_lt}
use Rattle.std.proofs.Math.ListN.{get_or-append}
use Rattle.std.proofs.lemmas.List.{get_or_push, length_push}
use Rattle.std.proofs.lemmas.List.Elements.{Contains-get_or}
use Rattle.std.proofs.lemmas.List.Elements.{Contains-append_left, Contains-push, Contains-push_cases}
use Rattle.shb_lines.specs.events.Order.{IsNumberOf}

abbrev pub Decided : Type 0 → Type 0
Decided P = P ⊎ (P → ⊥)

-- some number below n has the property, or none has
pub some_below : (P : ℕ → Type 0) → ((k : ℕ) → Decided (P k)) → (n : ℕ) → ((k : ℕ) × (k < n) × P k) ⊎ ((k : ℕ) → k < n → P k → ⊥)
some_below P decide zero = inr (λ k lt h. omega arith)
some_below P decide (suc n) = go (decide n) (some_below P decide n)
  where
    go : Decided (P n) → ((k : ℕ) × (k < n) × P k) ⊎ ((k : ℕ) → k < n → P k → ⊥) → ((k : ℕ) × (k < suc n) × P k) ⊎ ((k : ℕ) → k < suc n → P k → ⊥)
    go (inl h) found = inl (n, omega arith, h)
    go (inr h) (inl found) = inl (found.0, (let lt = found.1 in omega arith), found.2)
    go (inr h) (inr none) = inr (λ k lt p. elim (cases_lt k n) [ inl below ↦ none k below p | inr at ↦ (let e : k ≡ n = omega arith in h (subst P e p)) ])

pub record IsListed (P : ℕ → Type 0) (n : ℕ) (ks : List ℕ) : Type 0 where
  pub rising : IsStrictlyIncreasing ks
  pub members : (k : ℕ) → Contains ks k ↔ ((k < n) × P k)

rising_push : (n : ℕ) (ks : List ℕ) → IsStrictlyIncreasing ks → ((k : ℕ) → Contains ks k → k < n) → IsStrictlyIncreasing (ks ++ n ∷ [])
rising_push n ks rising low k within = go (cases_lt (k + 1) (length ks))
  where
    inside : (i : ℕ) → i < length ks → get_or (ks ++ n ∷ []) i 0 ≡ get_or ks i 0
    inside i lt = get_or-append ks (n ∷ []) 0 i lt

    go : (k + 1 < length ks) ⊎ (length ks ≤ k + 1) → get_or (ks ++ n ∷ []) k 0 < get_or (ks ++ n ∷ []) (k + 1) 0
    go (inl lt) =
        let h = rising k lt in
        let first = inside k (omega arith) in
        let second = inside (k + 1) lt in
        omega (arith, h, first, second)
    go (inr le) =
        let total = length_push ks n in
        let here : length ks ≡ k + 1 = omega (arith, total, within) in
        let first = inside k (omega arith) in
        let second = get_or_push ks n 0 (k + 1) here in
        let small = low (get_or ks k 0) (Contains-get_or ks k 0 (omega arith)) in
        omega (arith, first, second, small)

-- how many numbers below a bound have a property, one more number at a time
pub number_none : (P : ℕ → Type 0) → IsNumberOf (λ k. (k < 0) × P k) 0
number_none P = grind (arith, common_steps)

pub number_same : (P Q : ℕ → Type 0) (n : ℕ) → ((k : ℕ) → P k ↔ Q k) → IsNumberOf P n → IsNumberOf Q n
number_same P Q n same h = grind (arith, common_steps)

pub number_more_no : (P : ℕ → Type 0) (i n : ℕ) → (P i → ⊥) → IsNumberOf (λ k. (k < i) × P k) n → IsNumberOf (λ k. (k < i + 1) × P k) n
number_more_no P i n fails h = grind (arith, common_steps, number_same, cases_lt)

pub number_more_yes : (P : ℕ → Type 0) (i n : ℕ) → P i → IsNumberOf (λ k. (k < i) × P k) n → IsNumberOf (λ k. (k < i + 1) × P k) (n + 1)
number_more_yes P i n passing h = record {
  members = h.members ++ i ∷ [];
  rising = rising_push i h.members h.rising (λ k c. ((h.all k).0 c).0);
  all = λ k. (
    (λ c. elim (Contains-push_cases h.members i k c) [ inl b ↦ (let m = (h.all k).0 b in ((let lt = m.0 in omega arith), m.1)) | inr e ↦ ((let g : i ≡ k = e in omega arith), subst P e passing) ]),
    (λ m. elim (cases_lt k i) [ inl lt ↦ Contains-append_left h.members (i ∷ []) k ((h.all k).1 (lt, m.1)) | inr le ↦ (let e : i ≡ k = (let lt = m.0 in omega arith) in subst (Contains (h.members ++ i ∷ [])) e (Contains-push h.members i)) ]),
  );
  number = length_push h.members i ∙ ap (λ m. m + 1) h.number;
}

-- a list of those found so far, one more number at a time
pub listed_none : (P : ℕ → Type 0) → IsListed P 0 []
listed_none P = record { rising = λ k within. absurd (omega arith); members = λ k. ((λ c. absurd (let lt = c.1 in omega arith)), (λ h. absurd (let lt = h.0 in omega arith))) }

pub listed_more_no : (P : ℕ → Type 0) (i : ℕ) (ks : List ℕ) → (P i → ⊥) → IsListed P i ks → IsListed P (i + 1) ks
listed_more_no P i ks fails h = record {
  rising = h.rising;
  members = λ k. (
    (λ c. let m = (h.members k).0 c in ((let lt = m.0 in omega arith), m.1)),
    (λ m. elim (cases_lt k i) [ inl lt ↦ (h.members k).1 (lt, m.1) | inr le ↦ absurd (fails (let e : k ≡ i = (let lt = m.0 in omega arith) in subst P e m.1)) ]),
  );
}

pub listed_more_yes : (P : ℕ → Type 0) (i : ℕ) (ks : List ℕ) → P i → IsListed P i ks → IsListed P (i + 1) (ks ++ i ∷ [])
listed_more_yes P i ks passing h = record {
  rising = rising_push i ks h.rising (λ k c. ((h.members k).0 c).0);
  members = λ k. (
    (λ c. elim (Contains-push_cases ks i k c) [ inl b ↦ (let m = (h.members k).0 b in ((let lt = m.0 in omega arith), m.1)) | inr e ↦ ((let g : i ≡ k = e in omega arith), subst P e passing) ]),
    (λ m. elim (cases_lt k i) [ inl lt ↦ Contains-append_left ks (i ∷ []) k ((h.members k).1 (lt, m.1)) | inr le ↦ (let e : i ≡ k = (let lt = m.0 in omega arith) in subst (Contains (ks ++ i ∷ [])) e (Contains-push ks i)) ]),
  );
}
