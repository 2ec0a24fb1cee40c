-- The front of a text that comes in pieces.
use Rattle.std.proofs.Common.{◌≡◌, ℕ, ◌+◌, ◌-◌, ◌≤◌, min, List, ◌++◌, length, take, sym, ap, ◌∙◌, arith}
use Rattle.std.proofs.Math.Seq.{take-append-add, take-append_seam}
use Rattle.std.proofs.lemmas.List.{take_min}

-- the first n of two texts in a row, of which the first isn't longer: all of it, and of the second as many as are missing
pub take-missing : (n : ℕ) (xs ys : List ℕ) → length xs ≤ n → xs ++ take (min (n - length xs) (length ys)) ys ≡ take n (xs ++ ys)
take-missing n xs ys within =
    let whole : length xs + (n - length xs) ≡ n = omega arith in
    ap (λ t. xs ++ t) (take_min (n - length xs) ys)
    ∙ (sym (take-append-add xs ys (n - length xs)) ∙ ap (λ k. take k (xs ++ ys)) whole)

-- of a text that is as long already nothing more
pub take-full : (n : ℕ) (xs ys : List ℕ) → length xs ≡ n → xs ≡ take n (xs ++ ys)
take-full n xs ys full = sym (ap (λ k. take k (xs ++ ys)) (sym full) ∙ take-append_seam xs ys)
