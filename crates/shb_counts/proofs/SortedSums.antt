-- Sums that are joined by place and then sorted are the places.
use Rattle.std.proofs.Common.{◌≡◌, ◌≢◌, ℕ, ◌<◌, ◌⊎◌, inl, inr, false, List, get_or, arith, ap, sym, ◌∙◌, true≢false}
use Rattle.std.specs.Prelude.{AllPairs}
use Rattle.std.specs.List.{IsDistinct}
use Rattle.std.specs.List.Sorted.{IsPermutation}
use Rattle.std.proofs.lemmas.Bool.{cases_Bool}
use Rattle.std.proofs.lemmas.Map.Keys.{IsDistinct-IsPermutation, IsDistinct-from_apart, apart_from_distinct}
use Rattle.shb_format.specs.Keyed.{Key, same_key}
use Rattle.shb_counts.specs.PlaceSums.{ArePlaces, AreSums}
use Rattle.shb_counts.proofs.PlacesOfSums.{one_key, other_key, same_self}
use Rattle.shb_counts.proofs.SumLemmas.{sums_permuted}

-- by the first number, then by the second
abbrev pub KeyLess : Key → Key → Type 0
KeyLess p q = (p.0 < q.0) ⊎ ((p.0 ≡ q.0) × (p.1 < q.1))

pub less_apart : (p q : Key) → KeyLess p q → p ≢ q
less_apart p q (inl lt) same = let e = ap (λ (k : Key). k.0) same in omega (arith, lt, e)
less_apart p q (inr both) same = let e = ap (λ (k : Key). k.1) same in let lt = both.1 in omega (arith, lt, e)

key_flips : (p q : Key) → same_key p q ≡ same_key q p
key_flips p q = elim (cases_Bool (same_key p q)) [
  | inl t ↦ (let is = one_key p q t in t ∙ sym (ap (λ (k : Key). same_key q k) is ∙ same_self q))
  | inr f ↦ f ∙ sym (other_key q p (λ e. true≢false (sym (ap (λ (k : Key). same_key p k) e ∙ same_self p) ∙ f)))
]

module _ {T : Type 0} (key : T → Key) (Le : T → T → Type 0) where
  abbrev pub AreApart : List (T × ℕ) → Type 0
  AreApart sums = AllPairs (λ a b. key a.0 ≢ key b.0) sums

  pub apart_from_rising : (sums : List (T × ℕ)) → AllPairs (λ a b. KeyLess (key a.0) (key b.0)) sums → AreApart sums
  apart_from_rising sums rising i j d lt within = less_apart (key (get_or sums i d).0) (key (get_or sums j d).0) (rising i j d lt within)

  pub apart_permuted : (us vs : List (T × ℕ)) → IsPermutation us vs → AreApart us → AreApart vs
  apart_permuted us vs p apart i j d lt within same =
      let test = λ (a b : T × ℕ). same_key (key a.0) (key b.0) in
      let distinct : IsDistinct test vs = IsDistinct-IsPermutation test (λ a b. key_flips (key a.0) (key b.0)) us vs p (IsDistinct-from_apart test us (λ m n e less inside. other_key (key (get_or us m e).0) (key (get_or us n e).0) (apart m n e less inside))) in
      let no_more : same_key (key (get_or vs i d).0) (key (get_or vs j d).0) ≡ false = apart_from_distinct test vs i j d distinct lt within in
      true≢false (sym (ap (λ (k : Key). same_key k (key (get_or vs j d).0)) same ∙ same_self (key (get_or vs j d).0)) ∙ no_more)

  pub sorted_places : (races : List T) (us vs : List (T × ℕ)) → AreSums key Le races us → AreApart us → IsPermutation us vs → AllPairs (λ a b. Le a.0 b.0) vs → ArePlaces key Le races vs
  sorted_places races us vs h apart p in_order = record { are_sums = sums_permuted key Le races us vs p h; apart = apart_permuted us vs p apart; in_order = in_order }
