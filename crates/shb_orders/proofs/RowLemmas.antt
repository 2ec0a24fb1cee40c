-- Lists that have a list for each number, one number more.
use Rattle.shb_orders.proofs.Words.{AreEach, cases_lt, common_steps, get_or-append, get_or_push, length_push}
use Rattle.std.proofs.Common.{ℕ, ◌+◌, List, [], ◌∷◌, ◌++◌, arith}

pub rows_more : {A : Type 0} (IsRight : ℕ → List A → Type 0) (n : ℕ) (rows : List (List A)) (row : List A) → AreEach IsRight n rows → IsRight n row → AreEach IsRight (n + 1) (rows ++ row ∷ [])
rows_more IsRight n rows row old new = grind (arith, common_steps, length_push, cases_lt, get_or-append, get_or_push)
