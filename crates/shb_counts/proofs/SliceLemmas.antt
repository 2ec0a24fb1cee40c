-- Pieces of a list, and of lists one after the other, joined.
use Rattle.std.proofs.Common.{◌≡◌, ℕ, zero, suc, ◌+◌, ◌-◌, ◌*◌, ◌<◌, ◌≤◌, Bool, true, false, cond, List, [], ◌∷◌, ◌++◌, inl, inr, length, take, drop, get_or, refl, arith, ap, sym, ◌∙◌, append-nil}
use Rattle.std.specs.Prelude.{flat_map, min, slice_range}
use Rattle.std.proofs.Math.Seq.{take-add}
use Rattle.std.proofs.lemmas.Bool.{cases_Bool}
use Rattle.std.proofs.lemmas.List.{drop-drop, length-append, take_all}
use Rattle.std.proofs.lemmas.List.Concat.{flat_map-append}
use Rattle.shb_lines.specs.events.Reach.{numbers_where}
use Rattle.shb_fan.specs.Values.{values_of}

-- two pieces, one after the other
pub slices_joined : {X : Type 0} (xs : List X) (a b c : ℕ) → a ≤ b → b ≤ c → slice_range xs a b ++ slice_range xs b c ≡ slice_range xs a c
slices_joined xs a b c first second =
    let at : drop b xs ≡ drop (b - a) (drop a xs) = ap (λ (n : ℕ). drop n xs) (let e : b ≡ a + (b - a) = omega (arith, first) in e) ∙ sym (drop-drop (b - a) a xs) in
    ap (λ l. take (b - a) (drop a xs) ++ take (c - b) l) at
    ∙ (sym (take-add (b - a) (c - b) (drop a xs)) ∙ ap (λ (n : ℕ). take n (drop a xs)) (let e : (b - a) + (c - b) ≡ c - a = omega (arith, first, second) in e))

pub slice_whole : {X : Type 0} (xs : List X) (n : ℕ) → length xs ≤ n → slice_range xs 0 n ≡ xs
slice_whole xs n le = take_all (n - 0) xs (omega (arith, le))

pub slice_none : {X : Type 0} (xs : List X) (a : ℕ) → slice_range xs a a ≡ []
slice_none xs a = ap (λ (n : ℕ). take n (drop a xs)) (let e : a - a ≡ 0 = omega arith in e)

-- pieces of one size, and what is left
module _ {X : Type 0} (size : ℕ) (xs : List X) where
  abbrev pub cut : ℕ → ℕ
  cut k = min (size * k) (length xs)

  abbrev pub piece : ℕ → List X
  piece k = slice_range xs (cut k) (cut (k + 1))

  pub pieces_front : (n : ℕ) → flat_map (λ l. l) (values_of piece n) ≡ slice_range xs 0 (cut n)
  pieces_front zero = sym (ap (λ (m : ℕ). take m xs) (let e : cut 0 - 0 ≡ 0 = omega arith in e))
  pieces_front (suc n) =
      flat_map-append (λ (l : List X). l) (values_of piece n) (piece n ∷ [])
      ∙ (ap (λ (l : List X). flat_map (λ (k : List X). k) (values_of piece n) ++ l) (append-nil (piece n))
      ∙ (ap (λ (l : List X). l ++ piece n) (pieces_front n)
      ∙ (slices_joined xs 0 (cut n) (cut (n + 1)) (omega arith) (grows n)
      ∙ ap (λ (m : ℕ). slice_range xs 0 (cut m)) (let e : n + 1 ≡ suc n = omega arith in e))))
    where
      grows : (k : ℕ) → cut k ≤ cut (k + 1)
      grows k = let e : size * (k + 1) ≡ size * k + size = omega arith in omega (arith, e)

  pub pieces_all : (n : ℕ) → length xs ≤ size * n → flat_map (λ l. l) (values_of piece n) ≡ xs
  pieces_all n enough = pieces_front n ∙ slice_whole xs (cut n) (omega (arith, enough))

-- ---- lists one after the other

pub flat_flat : {X Y A : Type 0} (f : Y → List A) (g : X → List Y) (xs : List X) → flat_map f (flat_map g xs) ≡ flat_map (λ x. flat_map f (g x)) xs
flat_flat f g [] = refl
flat_flat f g (x ∷ xs) = flat_map-append f (g x) (flat_map g xs) ∙ ap (λ l. flat_map f (g x) ++ l) (flat_flat f g xs)

-- those that have none may be left out
pub flat_left_out : {A : Type 0} (f : ℕ → List A) (p : ℕ → Bool) (n : ℕ) → ((k : ℕ) → k < n → p k ≡ false → f k ≡ []) → flat_map f (numbers_where p n) ≡ flat_map f (numbers_where (λ k. true) n)
unfolding numbers_where
flat_left_out f p zero none = refl
flat_left_out {A} f p (suc n) none =
    flat_map-append f (numbers_where p n) (cond (p n) (n ∷ []) [])
    ∙ (ap (λ (l : List A). l ++ flat_map f (cond (p n) (n ∷ []) [])) (flat_left_out f p n (λ k lt h. none k (omega (arith, lt)) h))
    ∙ (ap (λ (l : List A). flat_map f (numbers_where (λ k. true) n) ++ l) last
    ∙ sym (flat_map-append f (numbers_where (λ k. true) n) (n ∷ []))))
  where
    last : flat_map f (cond (p n) (n ∷ []) []) ≡ f n ++ []
    last = elim (cases_Bool (p n)) [
      | inl h ↦ ap (λ (b : Bool). flat_map f (cond b (n ∷ []) [])) h
      | inr h ↦ ap (λ (b : Bool). flat_map f (cond b (n ∷ []) [])) h ∙ sym (append-nil (f n) ∙ none n (omega arith) h)
    ]

module _ {X A : Type 0} (f : X → List A) where
  -- how many stand before those of the one at k
  abbrev pub before : List X → ℕ → ℕ
  before xs k = length (flat_map f (take k xs))

  split_at : (xs : List X) (k : ℕ) (d : X) → k < length xs → flat_map f xs ≡ flat_map f (take k xs) ++ (f (get_or xs k d) ++ flat_map f (drop (k + 1) xs))
  split_at [] k d lt = absurd (omega arith)
  split_at (x ∷ xs) zero d lt = refl
  split_at (x ∷ xs) (suc k) d lt =
      ap (λ (l : List A). f x ++ l) (split_at xs k d (omega arith))
      ∙ (sym (append_three (f x) (flat_map f (take k xs)) (f (get_or xs k d) ++ flat_map f (drop (k + 1) xs)))
      ∙ ap (λ (m : ℕ). (f x ++ flat_map f (take k xs)) ++ (f (get_or xs k d) ++ flat_map f (drop m (x ∷ xs)))) (let e : suc (k + 1) ≡ suc k + 1 = omega arith in e))
    where
      append_three : (a b c : List A) → (a ++ b) ++ c ≡ a ++ (b ++ c)
      append_three [] b c = refl
      append_three (y ∷ a) b c = ap (λ (l : List A). y ∷ l) (append_three a b c)

  pub before_more : (xs : List X) (k : ℕ) (d : X) → k < length xs → before xs (k + 1) ≡ before xs k + length (f (get_or xs k d))
  before_more [] k d lt = absurd (omega arith)
  before_more (x ∷ xs) zero d lt = let size = length-append (f x) [] in omega (arith, size)
  before_more (x ∷ xs) (suc k) d lt =
      let rest = before_more xs k d (omega arith) in
      let is = ap (λ (m : ℕ). before (x ∷ xs) m) (let e : suc k + 1 ≡ suc (k + 1) = omega arith in e) in
      let first = length-append (f x) (flat_map f (take (k + 1) xs)) in
      let second = length-append (f x) (flat_map f (take k xs)) in
      omega (arith, rest, is, first, second)
