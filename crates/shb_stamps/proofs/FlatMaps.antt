-- Lists one after the other: what they contain, and in what order.
use Rattle.std.proofs.Common.{◌≡◌, inl, inr, List, [], ◌∷◌, ◌++◌, get_or, arith, subst, sym}
use Rattle.std.specs.Prelude.{Contains, AllPairs, flat_map, map}
use Rattle.shb_lines.proofs.events.Increasing.{contains_cases, contains_head, contains_none, contains_tail, pairs_head, pairs_tail}
use Rattle.shb_stamps.proofs.Words.{All-append, AllPairs-cons, Contains-append_cases, Contains-append_left, Contains-append_right, Contains-get_or}

pub pairs_append : {X : Type 0} (R : X → X → Type 0) (xs ys : List X) → AllPairs R xs → AllPairs R ys → ((x y : X) → Contains xs x → Contains ys y → R x y) → AllPairs R (xs ++ ys)
pairs_append R [] ys hx hy cross = hy
pairs_append R (x ∷ xs) ys hx hy cross = AllPairs-cons R x (xs ++ ys)
    (All-append (R x) xs ys (λ k d lt. pairs_head R x xs hx (get_or xs k d) (Contains-get_or xs k d lt)) (λ k d lt. cross x (get_or ys k d) (contains_head x xs) (Contains-get_or ys k d lt)))
    (pairs_append R xs ys (pairs_tail R x xs hx) hy (λ a b ca cb. cross a b (contains_tail x a xs ca) cb))

-- what a list of lists, one after the other, contains
pub flat_map_parts : {X A : Type 0} (f : X → List A) (xs : List X) (y : A) → Contains (flat_map f xs) y → (x : X) × Contains xs x × Contains (f x) y
flat_map_parts f [] y h = absurd (contains_none y h)
flat_map_parts f (x ∷ xs) y h = elim (Contains-append_cases (f x) (flat_map f xs) y h) [
  | inl c ↦ (x, contains_head x xs, c)
  | inr c ↦ (let rest = flat_map_parts f xs y c in (rest.0, contains_tail x rest.0 xs rest.1, rest.2))
]

pub flat_map_contains : {X A : Type 0} (f : X → List A) (xs : List X) (x : X) (y : A) → Contains xs x → Contains (f x) y → Contains (flat_map f xs) y
flat_map_contains f [] x y h c = absurd (contains_none x h)
flat_map_contains {X} {A} f (z ∷ xs) x y h c = elim (contains_cases z x xs h) [
  | inl e ↦ Contains-append_left (f z) (flat_map f xs) y (subst (λ (w : X). Contains (f w) y) (sym e) c)
  | inr m ↦ Contains-append_right (f z) (flat_map f xs) y (flat_map_contains f xs x y m c)
]

pub flat_map_ordered : {X A : Type 0} (R : A → A → Type 0) (f : X → List A) (xs : List X) → ((x : X) → Contains xs x → AllPairs R (f x)) → AllPairs (λ x z. (a b : A) → Contains (f x) a → Contains (f z) b → R a b) xs → AllPairs R (flat_map f xs)
flat_map_ordered R f [] each cross = λ i j d lt within. absurd (omega arith)
flat_map_ordered R f (x ∷ xs) each cross = pairs_append R (f x) (flat_map f xs)
    (each x (contains_head x xs))
    (flat_map_ordered R f xs (λ z c. each z (contains_tail x z xs c)) (pairs_tail (λ x z. (a b : _) → Contains (f x) a → Contains (f z) b → R a b) x xs cross))
    (λ a b ca cb. let there = flat_map_parts f xs b cb in pairs_head (λ x z. (a b : _) → Contains (f x) a → Contains (f z) b → R a b) x xs cross there.0 there.1 a b ca there.2)

pub map_parts : {X A : Type 0} (f : X → A) (xs : List X) (y : A) → Contains (map f xs) y → (x : X) × Contains xs x × (f x ≡ y)
map_parts f [] y h = absurd (contains_none y h)
map_parts f (x ∷ xs) y h = elim (contains_cases (f x) y (map f xs) h) [
  | inl e ↦ (x, contains_head x xs, e)
  | inr c ↦ (let rest = map_parts f xs y c in (rest.0, contains_tail x rest.0 xs rest.1, rest.2))
]

pub map_contains : {X A : Type 0} (f : X → A) (xs : List X) (x : X) → Contains xs x → Contains (map f xs) (f x)
map_contains f [] x h = absurd (contains_none x h)
map_contains f (z ∷ xs) x h = elim (contains_cases z x xs h) [
  | inl e ↦ subst (λ w. Contains (map f (z ∷ xs)) (f w)) e (contains_head (f z) (map f xs))
  | inr c ↦ contains_tail (f z) (f x) (map f xs) (map_contains f xs x c)
]

pub map_ordered : {X A : Type 0} (R : A → A → Type 0) (f : X → A) (xs : List X) → AllPairs (λ x z. R (f x) (f z)) xs → AllPairs R (map f xs)
map_ordered R f [] h = λ i j d lt within. absurd (omega arith)
map_ordered R f (x ∷ xs) h = AllPairs-cons R (f x) (map f xs)
    (λ k d lt. let there = map_parts f xs (get_or (map f xs) k d) (Contains-get_or (map f xs) k d lt) in subst (R (f x)) there.2 (pairs_head (λ x z. R (f x) (f z)) x xs h there.0 there.1))
    (map_ordered R f xs (pairs_tail (λ x z. R (f x) (f z)) x xs h))
