-- Sets whose numbers are all below 64, or that are large.
use Rattle.std.proofs.Common.{◌≡◌, ◌≢◌, ℕ, ◌%◌, ◌<◌, List, [], ◌∷◌, ◌∙◌, Option, None, Some, MatchOption, ap, arith, refl, subst, sym}
use Rattle.std.specs.FinSet as fin
use Rattle.std.specs.Global.{Global}
use Rattle.std.specs.Int.{bit_at}
use Rattle.std.specs.Prelude.{Box, IfNone, IfSome}
use Rattle.shb_numbers.specs.Few.{numbers_of}
use Rattle.shb_numbers.specs.declared.number_set.Kept.{Kept}
use Rattle.shb_numbers.specs.declared.number_set.Kept.TheVariants.{Few, Many}
use Rattle.shb_numbers.specs.Numbers.{HasNone, IsLeast, Numbers, marked}
use Rattle.shb_numbers.proofs.SetLemmas.{first_inserted}

-- the numbers of a set with no large one, and of one that is large
pub few_is : (few : ℕ) → numbers_of (Few few) ≡ marked (few ∷ [])
unfolding numbers_of
few_is few = refl

pub many_is : (set : Box Numbers Global) (s : Numbers) → set.value ≡ s → numbers_of (Many set) ≡ s
unfolding numbers_of
many_is set s is = is

pub few_are : (few : ℕ) (kept : Kept) (s : Numbers) → kept ≡ Few few → numbers_of kept ≡ s → marked (few ∷ []) ≡ s
few_are few kept s none is = sym (few_is few) ∙ ap numbers_of (sym none) ∙ is

pub many_are : (kept : Kept) (set : Box Numbers Global) (s : Numbers) → kept ≡ Many set → numbers_of kept ≡ s → set.value ≡ s
many_are kept set s some is = sym (many_is set set.value refl) ∙ ap numbers_of (sym some) ∙ is

-- a number below 64 comes, or goes; no other is there to go
module _ (few : ℕ) (kept : Kept) (s : Numbers) (number : ℕ) (none : kept ≡ Few few) (is : numbers_of kept ≡ s) where
  was : marked (few ∷ []) ≡ s
  was = few_are few kept s none is

  pub few_inserted : (word : ℕ) → number < 64 → bit_at word number ≡ 1 → ((k : ℕ) → k ≢ number → bit_at word k ≡ bit_at few k) → numbers_of (Few word) ≡ fin.insert s number
  few_inserted word low one others =
      let own : number % 64 ≡ number = omega (arith, low) in
      few_is word
      ∙ first_inserted few word [] number (omega (arith, low)) (λ k small other. others k (λ same. other (same ∙ sym own))) (ap (bit_at word) own ∙ one)
      ∙ ap (λ (t : Numbers). fin.insert t number) was

-- the same sets under other names
pub same_first : (r : Option ℕ) (h t here there : Numbers) (from end : ℕ) → h ≡ here → t ≡ there
    → MatchOption r (HasNone (fin.difference h t) from end) (IsLeast (fin.difference h t) from end)
    → MatchOption r (HasNone (fin.difference here there) from end) (IsLeast (fin.difference here there) from end)
same_first r h t here there from end h_is t_is first =
    subst (λ (s : Numbers). MatchOption r (HasNone (fin.difference here s) from end) (IsLeast (fin.difference here s) from end)) t_is
    (subst (λ (s : Numbers). MatchOption r (HasNone (fin.difference s t) from end) (IsLeast (fin.difference s t) from end)) h_is first)

-- words that stand for few numbers
pub words_are : (first few : ℕ) (more : List ℕ) → first ≡ few → more ≡ [] → marked (first ∷ more) ≡ marked (few ∷ [])
words_are first few more is none = ap (λ (n : ℕ). marked (n ∷ more)) is ∙ ap (λ (m : List ℕ). marked (few ∷ m)) none

pub first_of : (r : Option ℕ) (h t : Numbers) (from end : ℕ) → IfNone r (HasNone (fin.difference h t) from end) → IfSome r (IsLeast (fin.difference h t) from end)
    → MatchOption r (HasNone (fin.difference h t) from end) (IsLeast (fin.difference h t) from end)
first_of None h t from end none some = none
first_of (Some n) h t from end none some = some
