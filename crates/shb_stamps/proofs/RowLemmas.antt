-- A row, piece by piece.
use Rattle.std.proofs.Common.{◌≡◌, ℕ, zero, suc, ◌+◌, ◌-◌, ◌*◌, ◌<◌, ◌≤◌, inl, inr, List, [], ◌∷◌, ◌++◌, length, get_or, take, drop, length-drop, arith, refl, sym, ◌∙◌, ap, length-append, append_assoc}
use Rattle.std.specs.Prelude.{min}
use Rattle.std.specs.List.{flat_map}
use Rattle.shb_stamps.proofs.Words.{AreChunks, AreNumbers, cases_lt, drop-drop, drop-take, drop_at, get_or-append_right, get_or-drop, get_or-take, get_or_past, row_by, take-append-drop, take-take, take_all, take_at, take_min}

-- the entries of the chunks with these numbers
abbrev pub chunked : List (List ℕ) → List ℕ → List ℕ
chunked chunks numbers = flat_map (λ n. get_or chunks n []) numbers

lower : (chunks : List (List ℕ)) (n : ℕ) (numbers : List ℕ) → AreNumbers chunks (n ∷ numbers) → AreNumbers chunks numbers
lower chunks n numbers are k lt = are (suc k) (omega (arith, lt))

pub chunked_length : (chunks : List (List ℕ)) (numbers : List ℕ) → AreChunks chunks → AreNumbers chunks numbers → length (chunked chunks numbers) ≡ 64 * length numbers
chunked_length chunks [] long are = refl
chunked_length chunks (n ∷ numbers) long are =
    let step = length-append (get_or chunks n []) (chunked chunks numbers) in
    let own = long n (are 0 (omega arith)) in
    let others = chunked_length chunks numbers long (lower chunks n numbers are) in
    omega (arith, step, own, others)

pub row_length : (chunks : List (List ℕ)) (numbers rest : List ℕ) → AreChunks chunks → AreNumbers chunks numbers → length (row_by chunks numbers rest) ≡ 64 * length numbers + length rest
row_length chunks numbers rest long are =
    let step = length-append (chunked chunks numbers) rest in
    let own = chunked_length chunks numbers long are in
    omega (arith, step, own)

-- a piece that is a chunk
pub piece_of_chunk : (chunks : List (List ℕ)) (numbers rest : List ℕ) (k : ℕ) → AreChunks chunks → AreNumbers chunks numbers → k < length numbers → take 64 (drop (64 * k) (row_by chunks numbers rest)) ≡ get_or chunks (get_or numbers k 0) []
piece_of_chunk chunks [] rest k long are lt = absurd (omega (arith, lt))
piece_of_chunk chunks (n ∷ numbers) rest zero long are lt =
    ap (take 64) (append_assoc (get_or chunks n []) (chunked chunks numbers) rest) ∙ take_at (get_or chunks n []) (row_by chunks numbers rest) 64 (long n (are 0 (omega arith)))
piece_of_chunk chunks (n ∷ numbers) rest (suc k) long are lt =
    let at : 64 * suc k ≡ 64 + 64 * k = omega arith in
    let whole = row_by chunks (n ∷ numbers) rest in
    ap (λ (i : ℕ). take 64 (drop i whole)) at ∙ ap (take 64) (sym (drop-drop (64 * k) 64 whole))
    ∙ ap (λ (xs : List ℕ). take 64 (drop (64 * k) xs)) (ap (drop 64) (append_assoc (get_or chunks n []) (chunked chunks numbers) rest) ∙ drop_at (get_or chunks n []) (row_by chunks numbers rest) 64 (long n (are 0 (omega arith))))
    ∙ piece_of_chunk chunks numbers rest k long (lower chunks n numbers are) (omega (arith, lt))

-- a piece of the entries after the chunks
pub piece_of_rest : (chunks : List (List ℕ)) (numbers rest : List ℕ) (k start : ℕ) → AreChunks chunks → AreNumbers chunks numbers → length numbers ≤ k → start ≡ (k - length numbers) * 64 → take 64 (drop (64 * k) (row_by chunks numbers rest)) ≡ take 64 (drop start rest)
piece_of_rest chunks numbers rest k start long are le start_is =
    let at : 64 * k ≡ 64 * length numbers + start = omega (arith, le, start_is) in
    ap (λ (i : ℕ). take 64 (drop i (row_by chunks numbers rest))) at ∙ ap (take 64) (sym (drop-drop start (64 * length numbers) (row_by chunks numbers rest)))
    ∙ ap (λ (xs : List ℕ). take 64 (drop start xs)) (drop_at (chunked chunks numbers) rest (64 * length numbers) (chunked_length chunks numbers long are))

-- an entry of a piece
pub piece_entry : (row : List ℕ) (k j : ℕ) → j < 64 → ◌≡◌ {A = ℕ} (get_or (take 64 (drop (64 * k) row)) j 0) (get_or row (64 * k + j) 0)
piece_entry row k j lt = get_or-take 64 (drop (64 * k) row) j 0 lt ∙ get_or-drop (64 * k) row j 0

-- an entry after the chunks
pub rest_entry : (chunks : List (List ℕ)) (numbers rest : List ℕ) (t at : ℕ) → AreChunks chunks → AreNumbers chunks numbers → 64 * length numbers ≤ t → at ≡ t - 64 * length numbers → ◌≡◌ {A = ℕ} (get_or (row_by chunks numbers rest) t 0) (get_or rest at 0)
rest_entry chunks numbers rest t at long are le at_is = get_or-append_right (chunked chunks numbers) rest (64 * length numbers) t 0 (chunked_length chunks numbers long are) le ∙ ap (λ (i : ℕ). get_or rest i 0) (sym at_is)

-- an entry of a chunk
pub chunk_entry : (chunks : List (List ℕ)) (numbers rest : List ℕ) (t k j : ℕ) → AreChunks chunks → AreNumbers chunks numbers → k < length numbers → j < 64 → t ≡ 64 * k + j → ◌≡◌ {A = ℕ} (get_or (row_by chunks numbers rest) t 0) (get_or (get_or chunks (get_or numbers k 0) []) j 0)
chunk_entry chunks numbers rest t k j long are lt low at =
    ap (λ (i : ℕ). get_or (row_by chunks numbers rest) i 0) at ∙ (sym (piece_entry (row_by chunks numbers rest) k j low) ∙ ap (λ (xs : List ℕ). get_or xs j 0) (piece_of_chunk chunks numbers rest k long are lt))

-- entries below those of another row, a piece more, and all
pub below_piece : (row other piece of_other : List ℕ) (k : ℕ) → ((t : ℕ) → t < 64 * k → get_or row t 0 ≤ get_or other t 0) → piece ≡ take 64 (drop (64 * k) row) → of_other ≡ take 64 (drop (64 * k) other)
    → ((t : ℕ) → get_or piece t 0 ≤ get_or of_other t 0) → (t : ℕ) → t < 64 * (k + 1) → get_or row t 0 ≤ get_or other t 0
below_piece row other piece of_other k done piece_is other_is below t lt = elim (cases_lt t (64 * k)) [
  | inl low ↦ done t low
  | inr ge ↦ (let own = ap (λ (xs : List ℕ). get_or xs (t - 64 * k) 0) piece_is ∙ piece_entry row k (t - 64 * k) (omega (arith, lt, ge)) in
      let its = ap (λ (xs : List ℕ). get_or xs (t - 64 * k) 0) other_is ∙ piece_entry other k (t - 64 * k) (omega (arith, lt, ge)) in
      let le = below (t - 64 * k) in
      let at : 64 * k + (t - 64 * k) ≡ t = omega (arith, ge) in
      let here = ap (λ (m : ℕ). get_or row m 0) at in
      let there = ap (λ (m : ℕ). get_or other m 0) at in
      omega (arith, own, its, le, here, there))
]

pub below_all : (row other : List ℕ) (k n : ℕ) → ((t : ℕ) → t < 64 * k → get_or row t 0 ≤ get_or other t 0) → n ≤ k → length row < 64 * n → (t : ℕ) → get_or row t 0 ≤ get_or other t 0
below_all row other k n done most long t = elim (cases_lt t (64 * k)) [
  | inl low ↦ done t low
  | inr ge ↦ (let none = get_or_past row t 0 (omega (arith, most, ge, long)) in omega (arith, none))
]

-- the entries of the pieces so far, one piece more, and all
pub take_piece : (row : List ℕ) (k : ℕ) → take (64 * k) row ++ take 64 (drop (64 * k) row) ≡ take (64 * (k + 1)) row
take_piece row k =
    let at : 64 * (k + 1) ≡ 64 * k + 64 = omega arith in
    sym (ap (λ (n : ℕ). take n row) at ∙ (sym (take-append-drop (64 * k) (take (64 * k + 64) row)) ∙ (ap (λ (xs : List ℕ). xs ++ drop (64 * k) (take (64 * k + 64) row)) (take-take (64 * k) (64 * k + 64) row (omega arith))
    ∙ ap (λ (xs : List ℕ). take (64 * k) row ++ xs) (drop-take (64 * k) 64 row))))

pub append_piece : (entries row more : List ℕ) (k : ℕ) → more ≡ entries ++ take (64 * k) row → more ++ take 64 (drop (64 * k) row) ≡ entries ++ take (64 * (k + 1)) row
append_piece entries row more k is = ap (λ (xs : List ℕ). xs ++ take 64 (drop (64 * k) row)) is ∙ (append_assoc entries (take (64 * k) row) (take 64 (drop (64 * k) row)) ∙ ap (λ (xs : List ℕ). entries ++ xs) (take_piece row k))

pub take_pieces : (row : List ℕ) (k n : ℕ) → n ≤ k → length row < 64 * n → take (64 * k) row ≡ row
take_pieces row k n most long = take_all (64 * k) row (omega (arith, most, long))

-- the part of the entries after the chunks at which a piece is
pub rest_part : (rest : List ℕ) (start end : ℕ) → end ≡ min (length rest) (start + 64) → take (end - start) (drop start rest) ≡ take 64 (drop start rest)
rest_part rest start end end_is =
    let long = length-drop start rest in
    let size : end - start ≡ min 64 (length (drop start rest)) = omega (arith, end_is, long) in
    ap (λ (n : ℕ). take n (drop start rest)) size ∙ take_min 64 (drop start rest)

-- a piece after the chunks begins among the entries
pub piece_within : (chunks : List (List ℕ)) (numbers rest : List ℕ) (k : ℕ) → AreChunks chunks → AreNumbers chunks numbers → 64 * k ≤ length (row_by chunks numbers rest) → (k - length numbers) * 64 ≤ length rest
piece_within chunks numbers rest k long are le = let size = row_length chunks numbers rest long are in omega (arith, le, size)
