-- Names without a bar, and where the first bar of a line stands.
use Rattle.std.proofs.Common.{◌≡◌, inl, inr, ◌+◌, ◌-◌, ◌<◌, ◌≤◌, ◌||◌, ℕ, Bool, true, false, cond, not, nat_lt, List, [], ◌∷◌, length, take, drop, get_or, None, Some, refl, sym, ap, ◌∙◌, le_refl, arith, length-drop, length-take}
use Rattle.std.specs.List.{after_first, before_first, list_any, position_or_len}
use Rattle.std.proofs.lemmas.Bool.{cases_lt}
use Rattle.std.proofs.lemmas.Bool.Decides.{nat_tests}
use Rattle.std.proofs.lemmas.List.{drop-drop, get_or-take, take_all}
use Rattle.std.proofs.lemmas.List.Sums.{fails_before_first, position_or_len_is}
use Rattle.shb_lines.specs.text.Meaning.{is_bar}
use Rattle.shb_lines.specs.text.Reading.{HasBarAt, HasNoBar}

-- what stands before the first bar has none
pub no_bar_before : (line front : List ℕ) → front ≡ before_first is_bar line → HasNoBar front
no_bar_before line front is =
    let at : ℕ = position_or_len is_bar line in
    let long : length front ≤ at = omega (arith, ap length is, length-take at line) in
    let none : position_or_len is_bar front ≡ length front = position_or_len_is is_bar front (length front) 0 (le_refl _)
    (λ k below. ap (λ f. is_bar (get_or f k 0)) is ∙ ap is_bar (get_or-take at line k 0 (omega arith)) ∙ fails_before_first is_bar line k 0 (omega arith)) (λ below. absurd (omega arith)) in
    ap (λ n. take n front) none ∙ take_all _ front (le_refl _)

-- where a line begins with a name without a bar, and a bar is next, this bar is its first
module _ (line name : List ℕ) (no_bar : HasNoBar name) (within : length name < length line) (bar : get_or line (length name) 0 ≡ 124) (same : take (length name) line ≡ name) where
  pub first_bar : length name ≡ position_or_len is_bar line
  first_bar =
      let long : length name ≤ position_or_len is_bar name = omega (arith, ap length no_bar, length-take (position_or_len is_bar name) name) in
      sym (position_or_len_is is_bar line (length name) 0 (omega arith)
      (λ k below. ap is_bar (sym (get_or-take (length name) line k 0 below) ∙ ap (λ f. get_or f k 0) same) ∙ fails_before_first is_bar name k 0 (omega arith)) (λ _. ap is_bar bar))

  pub front_is : name ≡ before_first is_bar line
  front_is = sym same ∙ ap (λ n. take n line) first_bar

less : (a b : ℕ) → a < b → nat_lt a b ≡ true
less a b h = grind (arith, nat_tests)

not_less : (a b : ℕ) → b ≤ a → nat_lt a b ≡ false
not_less a b h = grind (arith, nat_tests)

same_test : (a b c d : ℕ) → (a < b → c < d) → (b ≤ a → d ≤ c) → nat_lt a b ≡ nat_lt c d
same_test a b c d to from = elim (cases_lt a b) [ inl l ↦ less a b l ∙ sym (less c d (to l)) | inr g ↦ not_less a b g ∙ sym (not_less c d (from g)) ]

-- there is a bar where the first one is within the bytes
any_bar : (bytes : List ℕ) → list_any is_bar bytes ≡ nat_lt (position_or_len is_bar bytes) (length bytes)
any_bar [] = refl
any_bar (b ∷ bytes) = by (is_bar b) (any_bar bytes)
  where
    by : (t : Bool) → list_any is_bar bytes ≡ nat_lt (position_or_len is_bar bytes) (length bytes)
        → (t || list_any is_bar bytes) ≡ nat_lt (cond (not t) (1 + position_or_len is_bar bytes) 0) (length (b ∷ bytes))
    by true rest = sym (less 0 (length (b ∷ bytes)) (omega arith))
    by false rest = rest ∙ same_test _ _ _ _ (λ h. omega arith) (λ h. omega arith)

first_within : (bytes : List ℕ) → position_or_len is_bar bytes ≤ length bytes
first_within [] = omega arith
first_within (b ∷ bytes) = by (is_bar b) (first_within bytes)
  where
    by : (t : Bool) → position_or_len is_bar bytes ≤ length bytes → cond (not t) (1 + position_or_len is_bar bytes) 0 ≤ length (b ∷ bytes)
    by true rest = omega arith
    by false rest = omega arith

-- the second bar stands where the operation ends
pub bar_at : (line thread fields operation : List ℕ) → length thread ≡ position_or_len is_bar line → fields ≡ drop (length thread + 1) line → operation ≡ before_first is_bar fields → length thread < length line
    → HasBarAt line (length thread + 1 + length operation)
bar_at line thread fields operation thread_len fields_is operation_is within =
    let t : ℕ = length thread in
    let q : ℕ = position_or_len is_bar fields in
    let at : ℕ = t + 1 + length operation in
    let len : length operation ≡ q = omega (arith, ap length operation_is, length-take q fields, first_within fields) in
    let fields_len : length fields ≡ length line - (t + 1) = ap length fields_is ∙ length-drop (t + 1) line in
    let fields_are : after_first is_bar line ≡ fields = ap (λ n. drop (n + 1) line) (sym thread_len) ∙ sym fields_is in
    let test : list_any is_bar fields ≡ nat_lt at (length line) = any_bar fields ∙ same_test q (length fields) at (length line) (λ h. omega arith) (λ h. omega arith) in
    let rest : after_first is_bar fields ≡ drop (at + 1) line = ap (drop (q + 1)) fields_is ∙ drop-drop (q + 1) (t + 1) line ∙ ap (λ n. drop n line) (omega arith) in
    ap (λ f. cond (list_any is_bar f) (Some (after_first is_bar f)) None) fields_are ∙ (λ i. cond (test i) (Some (rest i)) None)
