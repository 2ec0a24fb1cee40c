-- Sums over spans of numbers.
use Rattle.std.proofs.Common.{◌≡◌, ℕ, zero, suc, ◌+◌, ◌<◌, ◌≤◌, List, [], ◌∷◌, length, get_or, sum_by, refl, ap, ◌∙◌, arith}
use Rattle.std.proofs.lemmas.List.Sums.{sum_by-cons}

-- f of the m numbers from a on, added up
pub span : (ℕ → ℕ) → ℕ → ℕ → ℕ
span f a zero = 0
span f a (suc m) = f a + span f (suc a) m

pub span-add : (f : ℕ → ℕ) (a m n : ℕ) → span f a (m + n) ≡ span f a m + span f (a + m) n
unfolding span
span-add f a zero n = let x : span f a (0 + n) ≡ span f a n = ap (span f a) (omega arith) in let y : span f (a + 0) n ≡ span f a n = ap (λ (k : ℕ). span f k n) (omega arith) in
    let z : span f a 0 ≡ 0 = refl in omega arith
span-add f a (suc m) n = let r = span-add f (suc a) m n in let e : span f (suc a + m) n ≡ span f (a + suc m) n = ap (λ (k : ℕ). span f k n) (omega arith) in
    let x : span f a (suc m + n) ≡ f a + span f (suc a) (m + n) = ap (span f a) (let up : suc m + n ≡ suc (m + n) = omega arith in up) in let y : span f a (suc m) ≡ f a + span f (suc a) m = refl in omega arith

pub span-none : (f : ℕ → ℕ) (a m : ℕ) → ((k : ℕ) → a ≤ k → k < a + m → f k ≡ 0) → span f a m ≡ 0
unfolding span
span-none f a zero h = refl
span-none f a (suc m) h = let here = h a (omega arith) (omega arith) in let r = span-none f (suc a) m (λ k l u. h k (omega arith) (omega arith)) in omega arith

-- two spans of which no two numbers d apart count both
pub span-pair : (f : ℕ → ℕ) (d a m : ℕ) → ((k : ℕ) → f k + f (k + d) ≤ 1) → span f a m + span f (a + d) m ≤ m
unfolding span
span-pair f d a zero h = omega arith
span-pair f d a (suc m) h = let here = h a in let r = span-pair f d (suc a) m h in let e : span f (suc a + d) m ≡ span f (suc (a + d)) m = ap (λ (k : ℕ). span f k m) (omega arith) in omega arith

span-shift : (f g : ℕ → ℕ) (a b m : ℕ) → ((j : ℕ) → f (j + a) ≡ g (j + b)) → span f a m ≡ span g b m
unfolding span
span-shift f g a b zero h = refl
span-shift f g a b (suc m) h =
    let here : f a ≡ g b = ap f (let x : a ≡ 0 + a = omega arith in x) ∙ (h 0 ∙ ap g (let y : 0 + b ≡ b = omega arith in y)) in
    let r = span-shift f g (suc a) (suc b) m (λ j. let x : j + suc a ≡ suc j + a = omega arith in let y : suc j + b ≡ j + suc b = omega arith in ap f x ∙ (h (suc j) ∙ ap g y)) in omega arith

pub span-list : {X : Type 0} (f : X → ℕ) (xs : List X) (d : X) → sum_by f xs ≡ span (λ k. f (get_or xs k d)) 0 (length xs)
unfolding span
span-list f [] d = refl
span-list f (x ∷ xs) d = let c = sum_by-cons f x xs in let r = span-list f xs d in
    let s = span-shift (λ k. f (get_or (x ∷ xs) k d)) (λ k. f (get_or xs k d)) 1 0 (length xs) (λ j. let e : j + 1 ≡ suc j = omega arith in let z : j ≡ j + 0 = omega arith in ap (λ (k : ℕ). f (get_or (x ∷ xs) k d)) e ∙ ap (λ (k : ℕ). f (get_or xs k d)) z) in omega arith

-- numbers that count lie within 128 from a on, and of two numbers 64 apart only one does
pub span-window : (f : ℕ → ℕ) (a n : ℕ) → ((k : ℕ) → f k + f (k + 64) ≤ 1) → ((k : ℕ) → k < a → f k ≡ 0) → ((k : ℕ) → a + 128 ≤ k → f k ≡ 0) → span f 0 n ≤ 64
span-window f a n apart low high =
    let whole = span-add f 0 n (a + 128) in
    let same : span f 0 (n + (a + 128)) ≡ span f 0 (a + (64 + (64 + n))) = ap (span f 0) (let e : n + (a + 128) ≡ a + (64 + (64 + n)) = omega arith in e) in
    let one = span-add f 0 a (64 + (64 + n)) in let two = span-add f (0 + a) 64 (64 + n) in let three = span-add f (0 + a + 64) 64 n in
    let below = span-none f 0 a (λ k l u. low k (omega arith)) in let above = span-none f (0 + a + 64 + 64) n (λ k l u. high k (omega arith)) in
    let pair = span-pair f 64 (0 + a) 64 apart in omega arith
