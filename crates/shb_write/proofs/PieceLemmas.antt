-- The pairs of all pieces, one piece after the other.
use Rattle.std.proofs.Common.{◌≡◌, ◌+◌, ◌-◌, ◌<◌, ◌≤◌, ℕ, zero, suc, List, [], ◌∷◌, ◌++◌, Global, Vec, ap, append-nil, arith, drop, length, map, refl, sym, take, ◌∙◌}
use Rattle.std.specs.Prelude.{flat_map, slice_index_or, slice_range}
use Rattle.shb_write.proofs.Words.{ListedRace, Pair, Piece, ends, flat_map-append, map-append, pair_in, take-add, take_all, take_more, values_of}

pub flat_joined : {X A : Type 0} (f : X → List A) (xs : List X) → flat_map (λ (l : List A). l) (map f xs) ≡ flat_map f xs
flat_joined f [] = refl
flat_joined f (x ∷ xs) = ap (λ (rest : List _). f x ++ rest) (flat_joined f xs)

map_flat : {X A B : Type 0} (g : A → B) (f : X → List A) (xs : List X) → flat_map (λ x. map g (f x)) xs ≡ map g (flat_map f xs)
map_flat g f [] = refl
map_flat g f (x ∷ xs) = ap (λ (rest : List _). map g (f x) ++ rest) (map_flat g f xs) ∙ sym (map-append g (f x) (flat_map f xs))

-- the values of the numbers of a list are its members
pub values_taken : {X : Type 0} (lists : List (List X)) (k : ℕ) → k ≤ length lists → values_of (λ i. slice_index_or lists i []) k ≡ take k lists
values_taken lists zero le = refl
values_taken lists (suc k) le =
    let up : k + 1 ≡ suc k = omega arith in
    ap (λ l. l ++ slice_index_or lists k [] ∷ []) (values_taken lists k (omega (arith, le))) ∙ sym (take_more lists k [] (omega (arith, le))) ∙ ap (λ (n : ℕ). take n lists) up

pub parts_joined : (pieces : List Piece) (parts : List (Vec Pair Global)) (races : List ListedRace) → map (λ (part : Vec Pair Global). map ends part.items) parts ≡ values_of (λ k. slice_index_or (map (λ (piece : Piece). map pair_in piece.races.now) pieces) k []) (length (map (λ (piece : Piece). map pair_in piece.races.now) pieces))
    → flat_map (λ (piece : Piece). piece.races.now) pieces ≡ races → flat_map (λ (part : Vec Pair Global). map ends part.items) parts ≡ map pair_in races
parts_joined pieces parts races are is =
    sym (flat_joined (λ (part : Vec Pair Global). map ends part.items) parts)
    ∙ (ap (λ (lists : List (List (ℕ × ℕ))). flat_map (λ (l : List (ℕ × ℕ)). l) lists) (are ∙ values_taken lists (length lists) (omega arith) ∙ take_all (length lists) lists (omega arith))
    ∙ (flat_joined (λ (piece : Piece). map pair_in piece.races.now) pieces
    ∙ (map_flat pair_in (λ (piece : Piece). piece.races.now) pieces ∙ ap (map pair_in) is)))
  where
    lists : List (List (ℕ × ℕ))
    lists = map (λ (piece : Piece). map pair_in piece.races.now) pieces

-- one piece more is cut
pub cut_more : (pieces new : List Piece) (piece : Piece) (races : List ListedRace) (start end : ℕ) → start < end → flat_map (λ (p : Piece). p.races.now) pieces ≡ take start races → piece.races.now ≡ slice_range races start end → new ≡ pieces ++ piece ∷ [] → flat_map (λ (p : Piece). p.races.now) new ≡ take end races
cut_more pieces new piece races start end lt front is more =
    let e : start + (end - start) ≡ end = omega (arith, lt) in
    ap (λ (ps : List Piece). flat_map (λ (p : Piece). p.races.now) ps) more
    ∙ (flat_map-append (λ (p : Piece). p.races.now) pieces (piece ∷ [])
    ∙ (ap (λ (l : List ListedRace). flat_map (λ (p : Piece). p.races.now) pieces ++ l) (append-nil piece.races.now ∙ is)
    ∙ (ap (λ (l : List ListedRace). l ++ take (end - start) (drop start races)) front
    ∙ (sym (take-add start (end - start) races) ∙ ap (λ (n : ℕ). take n races) e))))
