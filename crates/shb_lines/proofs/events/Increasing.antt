-- Lists in a strict order: two with the same members are equal.
use Rattle.std.proofs.Common.{◌≡◌, ℕ, zero, suc, ◌<◌, ◌⊎◌, inl, inr, List, [], ◌∷◌, refl, arith, subst, sym, ◌∙◌}
use Rattle.std.specs.Prelude.{Contains, AllPairs, ◌↔◌}
use Rattle.std.specs.List.Sorted.{IsStrictlyIncreasing}
use Rattle.std.proofs.lemmas.List.Kept.{AllPairs-from_increasing}

pub contains_head : {X : Type 0} (x : X) (xs : List X) → Contains (x ∷ xs) x
contains_head x xs = (zero, omega arith, refl)

pub contains_tail : {X : Type 0} (x y : X) (xs : List X) → Contains xs y → Contains (x ∷ xs) y
contains_tail x y xs h = (suc h.0, (let lt = h.1 in omega arith), h.2)

pub contains_cases : {X : Type 0} (x y : X) (xs : List X) → Contains (x ∷ xs) y → (x ≡ y) ⊎ Contains xs y
contains_cases x y xs (zero, lt, e) = inl e
contains_cases x y xs (suc k, lt, e) = inr (k, omega arith, e)

pub contains_none : {X : Type 0} (y : X) → Contains [] y → ⊥
contains_none y h = let lt = h.1 in omega arith

pub pairs_tail : {X : Type 0} (R : X → X → Type 0) (x : X) (xs : List X) → AllPairs R (x ∷ xs) → AllPairs R xs
pairs_tail R x xs h = λ i j d lt within. h (suc i) (suc j) d (omega arith) (omega arith)

pub pairs_head : {X : Type 0} (R : X → X → Type 0) (x : X) (xs : List X) → AllPairs R (x ∷ xs) → (y : X) → Contains xs y → R x y
pairs_head R x xs h y c = subst (R x) c.2 (h zero (suc c.0) y (omega arith) (let lt = c.1 in omega arith))

-- two lists in one strict order with the same elements are equal
pub same_in_order : {X : Type 0} (R : X → X → Type 0) (xs ys : List X) → ((a b : X) → Contains xs a → Contains xs b → R a b → R b a → ⊥) → AllPairs R xs → AllPairs R ys → ((a : X) → Contains xs a ↔ Contains ys a) → xs ≡ ys
same_in_order R [] [] strict hx hy same = refl
same_in_order R [] (y ∷ ys) strict hx hy same = absurd (contains_none y ((same y).1 (contains_head y ys)))
same_in_order R (x ∷ xs) [] strict hx hy same = absurd (contains_none x ((same x).0 (contains_head x xs)))
same_in_order {X} R (x ∷ xs) (y ∷ ys) strict hx hy same = go heads (same_in_order R xs ys (λ a b ca cb. strict a b (contains_tail x a xs ca) (contains_tail x b xs cb)) (pairs_tail R x xs hx) (pairs_tail R y ys hy))
  where
    heads : x ≡ y
    heads = elim (contains_cases y x ys ((same x).0 (contains_head x xs))) [
      | inl e ↦ sym e
      | inr later ↦ elim (contains_cases x y xs ((same y).1 (contains_head y ys))) [
        | inl e ↦ e
        | inr there ↦ absurd (strict x y (contains_head x xs) (contains_tail x y xs there) (pairs_head R x xs hx y there) (pairs_head R y ys hy x later))
      ]
    ]

    no_more : (a : X) → Contains xs a → x ≡ a → ⊥
    no_more a c e =
        let before = pairs_head R x xs hx a c in
        let twice : R x x = subst (R x) (sym e) before in
        strict x x (contains_head x xs) (contains_head x xs) twice twice

    no_more_there : (a : X) → Contains ys a → y ≡ a → ⊥
    no_more_there a c e =
        let before = pairs_head R y ys hy a c in
        let twice : R y y = subst (R y) (sym e) before in
        let here : R x x = subst (λ w. R w w) (sym heads) twice in
        strict x x (contains_head x xs) (contains_head x xs) here here

    go : x ≡ y → (((a : X) → Contains xs a ↔ Contains ys a) → xs ≡ ys) → (x ∷ xs) ≡ (y ∷ ys)
    go e tails =
        let rest : xs ≡ ys = tails (λ a. (
          (λ c. elim (contains_cases y a ys ((same a).0 (contains_tail x a xs c))) [ inl at ↦ absurd (no_more a c (e ∙ at)) | inr there ↦ there ]),
          (λ c. elim (contains_cases x a xs ((same a).1 (contains_tail y a ys c))) [ inl at ↦ absurd (no_more_there a c (sym e ∙ at)) | inr there ↦ there ]),
        )) in
        cc

-- two strictly increasing lists of numbers with the same members are equal
pub increasing_equal : (xs ys : List ℕ) → IsStrictlyIncreasing xs → IsStrictlyIncreasing ys → ((a : ℕ) → Contains xs a ↔ Contains ys a) → xs ≡ ys
increasing_equal xs ys hx hy same = same_in_order (λ (a b : ℕ). a < b) xs ys (λ a b ca cb lt gt. omega (arith, lt, gt)) (AllPairs-from_increasing xs hx) (AllPairs-from_increasing ys hy) same
