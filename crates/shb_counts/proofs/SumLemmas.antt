-- Sums of races by place: of parts one after the other, in any order, and with two of one place made one.
use Rattle.std.proofs.Common.{◌≡◌, ℕ, ◌+◌, Bool, true, false, cond, List, [], ◌∷◌, ◌++◌, inl, inr, refl, arith, ap, sym, subst, ◌∙◌}
use Rattle.std.specs.Prelude.{Contains, flat_map}
use Rattle.std.specs.List.Sorted.{IsPermutation}
use Rattle.std.proofs.lemmas.List.Elements.{Contains-append_cases, Contains-append_left, Contains-append_right}
use Rattle.std.proofs.lemmas.List.Sorted.{Contains-permutation, IsPermutation-sym, sum_by-IsPermutation}
use Rattle.std.proofs.lemmas.List.Sums.{sum_by-append, sum_by-cons}
use Rattle.shb_lines.proofs.events.Increasing.{contains_cases, contains_head, contains_none, contains_tail}
use Rattle.shb_format.specs.Keyed.{Key, same_key}
use Rattle.shb_counts.specs.PlaceSums.{AreSums, at_place, summed}

cond_sum : (b : Bool) (m n : ℕ) → cond b (m + n) 0 ≡ cond b m 0 + cond b n 0
cond_sum true m n = refl
cond_sum false m n = omega arith

module _ {T : Type 0} (key : T → Key) (Le : T → T → Type 0) where
  pub no_sums : AreSums key Le [] []
  no_sums = record {
    counts = λ k. refl;
    members = λ sum c. absurd (contains_none sum c);
    least = λ race c. absurd (contains_none race c);
  }

  -- a race alone
  pub one_sum : (race : T) → Le race race → AreSums key Le (race ∷ []) ((race, 1) ∷ [])
  one_sum race self = record {
    counts = λ k. refl;
    members = λ sum c. elim (contains_cases (race, 1) sum [] c) [
      | inl e ↦ subst (λ (s : T × ℕ). Contains (race ∷ []) s.0) e (contains_head race [])
      | inr none ↦ absurd (contains_none sum none)
    ];
    least = λ other c. elim (contains_cases race other [] c) [
      | inl e ↦ ((race, 1), contains_head (race, 1) [], ap key e, subst (Le race) e self)
      | inr none ↦ absurd (contains_none other none)
    ];
  }

  -- parts one after the other
  pub sums_append : (xs ys : List T) (us vs : List (T × ℕ)) → AreSums key Le xs us → AreSums key Le ys vs → AreSums key Le (xs ++ ys) (us ++ vs)
  sums_append xs ys us vs a b = record {
    counts = λ k. (
        let sums = sum_by-append (λ (s : T × ℕ). cond (same_key (key s.0) k) s.1 0) us vs in
        let races = sum_by-append (λ (r : T). cond (same_key (key r) k) 1 0) xs ys in
        let first = a.counts k in
        let second = b.counts k in
        omega (arith, sums, races, first, second));
    members = λ sum c. elim (Contains-append_cases us vs sum c) [
      | inl l ↦ Contains-append_left xs ys sum.0 (a.members sum l)
      | inr r ↦ Contains-append_right xs ys sum.0 (b.members sum r)
    ];
    least = λ race c. elim (Contains-append_cases xs ys race c) [
      | inl l ↦ (let h = a.least race l in (h.0, Contains-append_left us vs h.0 h.1, h.2, h.3))
      | inr r ↦ (let h = b.least race r in (h.0, Contains-append_right us vs h.0 h.1, h.2, h.3))
    ];
  }

  pub sums_flat : {X : Type 0} (races : X → List T) (sums : X → List (T × ℕ)) (xs : List X) → ((x : X) → Contains xs x → AreSums key Le (races x) (sums x)) → AreSums key Le (flat_map races xs) (flat_map sums xs)
  sums_flat races sums [] each = no_sums
  sums_flat races sums (x ∷ xs) each = sums_append (races x) (flat_map races xs) (sums x) (flat_map sums xs) (each x (contains_head x xs)) (sums_flat races sums xs (λ y c. each y (contains_tail x y xs c)))

  -- the same races, in another order or counted another way
  pub same_sums : (xs ys : List T) (us : List (T × ℕ)) → ((k : Key) → at_place key ys k ≡ at_place key xs k) → ((race : T) → Contains xs race → Contains ys race) → ((race : T) → Contains ys race → Contains xs race) → AreSums key Le xs us → AreSums key Le ys us
  same_sums xs ys us same there back h = record {
    counts = λ k. h.counts k ∙ sym (same k);
    members = λ sum c. there sum.0 (h.members sum c);
    least = λ race c. h.least race (back race c);
  }

  pub races_permuted : (xs ys : List T) (us : List (T × ℕ)) → IsPermutation xs ys → AreSums key Le xs us → AreSums key Le ys us
  races_permuted xs ys us p h = same_sums xs ys us
      (λ k. sum_by-IsPermutation (λ (r : T). cond (same_key (key r) k) 1 0) xs ys p)
      (λ race c. Contains-permutation xs ys race p c)
      (λ race c. Contains-permutation ys xs race (IsPermutation-sym xs ys p) c) h

  pub sums_permuted : (xs : List T) (us vs : List (T × ℕ)) → IsPermutation us vs → AreSums key Le xs us → AreSums key Le xs vs
  sums_permuted xs us vs p h = record {
    counts = λ k. sum_by-IsPermutation (λ (s : T × ℕ). cond (same_key (key s.0) k) s.1 0) us vs p ∙ h.counts k;
    members = λ sum c. h.members sum (Contains-permutation vs us sum (IsPermutation-sym us vs p) c);
    least = λ race c. (let there = h.least race c in (there.0, Contains-permutation us vs there.0 p there.1, there.2, there.3));
  }

  -- two of one place made one, with the race that the other doesn't stand before
  pub sums_joined : (xs : List T) (us vs : List (T × ℕ)) (a b : T × ℕ) → key a.0 ≡ key b.0 → ((race : T) → Contains xs race → Le b.0 race → Le a.0 race) → AreSums key Le xs (us ++ a ∷ b ∷ vs) → AreSums key Le xs (us ++ (a.0, a.1 + b.1) ∷ vs)
  sums_joined xs us vs a b same low h = record { counts = counts; members = members; least = least }
    where
      counts : (k : Key) → summed key (us ++ (a.0, a.1 + b.1) ∷ vs) k ≡ at_place key xs k
      counts k =
          let f = λ (s : T × ℕ). cond (same_key (key s.0) k) s.1 0 in
          let were = sum_by-append f us (a ∷ b ∷ vs) in
          let first = sum_by-cons f a (b ∷ vs) in
          let second = sum_by-cons f b vs in
          let are = sum_by-append f us ((a.0, a.1 + b.1) ∷ vs) in
          let one = sum_by-cons f (a.0, a.1 + b.1) vs in
          let both = cond_sum (same_key (key a.0) k) a.1 b.1 in
          let alike : cond (same_key (key b.0) k) b.1 0 ≡ cond (same_key (key a.0) k) b.1 0 = ap (λ (q : Key). cond (same_key q k) b.1 0) (sym same) in
          let count = h.counts k in
          omega (arith, were, first, second, are, one, both, alike, count)

      members : (sum : T × ℕ) → Contains (us ++ (a.0, a.1 + b.1) ∷ vs) sum → Contains xs sum.0
      members sum c = elim (Contains-append_cases us ((a.0, a.1 + b.1) ∷ vs) sum c) [
        | inl l ↦ h.members sum (Contains-append_left us (a ∷ b ∷ vs) sum l)
        | inr r ↦ elim (contains_cases (a.0, a.1 + b.1) sum vs r) [
          | inl e ↦ subst (λ (s : T × ℕ). Contains xs s.0) e (h.members a (Contains-append_right us (a ∷ b ∷ vs) a (contains_head a (b ∷ vs))))
          | inr v ↦ h.members sum (Contains-append_right us (a ∷ b ∷ vs) sum (contains_tail a sum (b ∷ vs) (contains_tail b sum vs v)))
        ]
      ]

      own : Contains (us ++ (a.0, a.1 + b.1) ∷ vs) (a.0, a.1 + b.1)
      own = Contains-append_right us ((a.0, a.1 + b.1) ∷ vs) (a.0, a.1 + b.1) (contains_head (a.0, a.1 + b.1) vs)

      least : (race : T) → Contains xs race → (sum : T × ℕ) × Contains (us ++ (a.0, a.1 + b.1) ∷ vs) sum × (key sum.0 ≡ key race) × Le sum.0 race
      least race c =
          let there = h.least race c in
          elim (Contains-append_cases us (a ∷ b ∷ vs) there.0 there.1) [
            | inl l ↦ (there.0, Contains-append_left us ((a.0, a.1 + b.1) ∷ vs) there.0 l, there.2, there.3)
            | inr r ↦ elim (contains_cases a there.0 (b ∷ vs) r) [
              | inl e ↦ ((a.0, a.1 + b.1), own, ap (λ (s : T × ℕ). key s.0) e ∙ there.2, subst (λ (s : T × ℕ). Le s.0 race) (sym e) there.3)
              | inr later ↦ elim (contains_cases b there.0 vs later) [
                | inl e ↦ ((a.0, a.1 + b.1), own, same ∙ (ap (λ (s : T × ℕ). key s.0) e ∙ there.2), low race c (subst (λ (s : T × ℕ). Le s.0 race) (sym e) there.3))
                | inr v ↦ (there.0, Contains-append_right us ((a.0, a.1 + b.1) ∷ vs) there.0 (contains_tail (a.0, a.1 + b.1) there.0 vs v), there.2, there.3)
              ]
            ]
          ]
