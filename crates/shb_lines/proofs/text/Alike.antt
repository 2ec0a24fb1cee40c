-- Texts whose words are the same have the same bytes.
use Rattle.std.proofs.Common.{◌≡◌, ◌+◌, ◌-◌, ◌<◌, ◌≤◌, ℕ, Bool, true, false, List, length, take, drop, get_or, nat_eq, nat_lt, sym, ap, subst, refl, ◌∙◌, arith, length-take, length-drop}
use Rattle.std.specs.Prelude.{slice_range}
use Rattle.std.specs.Int.{w32, w64, from_le_bytes}
use Rattle.std.proofs.lemmas.Bool.Decides.{nat_tests}
use Rattle.std.proofs.lemmas.List.{get_or-drop, get_or-take, get_or_past}
use Rattle.std.proofs.lemmas.Nat.{le_bytes_4, le_bytes_8}
use Rattle.shb_lines.specs.text.Hashing.{AreAlike}

abbrev pub IsBytes : List ℕ → Type 0
IsBytes bytes = (i : ℕ) → get_or bytes i 0 < 256

-- a word tells its bytes
pub alike_8 : (x y : List ℕ) → length x ≡ 8 → length y ≡ 8 → IsBytes x → IsBytes y → from_le_bytes w64 x ≡ from_le_bytes w64 y → x ≡ y
alike_8 x y x_long y_long x_bytes y_bytes same = sym (le_bytes_8 x (from_le_bytes w64 x) x_long x_bytes refl) ∙ le_bytes_8 y (from_le_bytes w64 x) y_long y_bytes same

pub alike_4 : (x y : List ℕ) → length x ≡ 4 → length y ≡ 4 → IsBytes x → IsBytes y → from_le_bytes w32 x ≡ from_le_bytes w32 y → x ≡ y
alike_4 x y x_long y_long x_bytes y_bytes same = sym (le_bytes_4 x (from_le_bytes w32 x) x_long x_bytes refl) ∙ le_bytes_4 y (from_le_bytes w32 x) y_long y_bytes same

-- the bytes of equal parts
pub alike_parts : (a b : List ℕ) (at n : ℕ) → take n (drop at a) ≡ take n (drop at b) → AreAlike a b at (at + n)
alike_parts a b at n same k from below =
    let i : ℕ = k - at in
    let here : at + i ≡ k = omega arith in
    let within : i < n = omega arith in
    ap (λ j. get_or a j 0) (sym here) ∙ sym (get_or-drop at a i 0) ∙ sym (get_or-take n (drop at a) i 0 within)
    ∙ ap (λ l. get_or l i 0) same ∙ get_or-take n (drop at b) i 0 within ∙ get_or-drop at b i 0 ∙ ap (λ j. get_or b j 0) here

part_of : (a : List ℕ) (at n : ℕ) → slice_range a at (at + n) ≡ take n (drop at a)
part_of a at n = ap (λ m. take m (drop at a)) (omega arith)

part_long : (a : List ℕ) (at n : ℕ) → at + n ≤ length a → length (take n (drop at a)) ≡ n
part_long a at n within = omega (arith, length-take n (drop at a), length-drop at a)

part_bytes : (a : List ℕ) (at n : ℕ) → IsBytes a → IsBytes (take n (drop at a))
part_bytes a at n bytes i = by (nat_lt i n) refl
  where
    by : (t : Bool) → nat_lt i n ≡ t → get_or (take n (drop at a)) i 0 < 256
    by true test = subst (λ x. x < 256) (sym (get_or-take n (drop at a) i 0 (grind (arith, nat_tests)) ∙ get_or-drop at a i 0)) (bytes (at + i))
    by false test = subst (λ x. x < 256) (sym (get_or_past (take n (drop at a)) i 0 (let far : n ≤ i = grind (arith, nat_tests) in omega (arith, length-take n (drop at a))))) (omega arith)

pub alike_eight : (a b : List ℕ) (at x y : ℕ) → IsBytes a → IsBytes b → at + 8 ≤ length a → at + 8 ≤ length b
    → x ≡ from_le_bytes w64 (slice_range a at (at + 8)) → y ≡ from_le_bytes w64 (slice_range b at (at + 8)) → nat_eq x y ≡ true → AreAlike a b at (at + 8)
alike_eight a b at x y a_bytes b_bytes a_long b_long x_is y_is same =
    let equal : x ≡ y = grind (arith, nat_tests) in
    alike_parts a b at 8 (alike_8 (take 8 (drop at a)) (take 8 (drop at b)) (part_long a at 8 a_long) (part_long b at 8 b_long) (part_bytes a at 8 a_bytes) (part_bytes b at 8 b_bytes)
    (ap (from_le_bytes w64) (sym (part_of a at 8)) ∙ sym x_is ∙ equal ∙ y_is ∙ ap (from_le_bytes w64) (part_of b at 8)))

pub alike_four : (a b : List ℕ) (at x y : ℕ) → IsBytes a → IsBytes b → at + 4 ≤ length a → at + 4 ≤ length b
    → x ≡ from_le_bytes w32 (slice_range a at (at + 4)) → y ≡ from_le_bytes w32 (slice_range b at (at + 4)) → nat_eq x y ≡ true → AreAlike a b at (at + 4)
alike_four a b at x y a_bytes b_bytes a_long b_long x_is y_is same =
    let equal : x ≡ y = grind (arith, nat_tests) in
    alike_parts a b at 4 (alike_4 (take 4 (drop at a)) (take 4 (drop at b)) (part_long a at 4 a_long) (part_long b at 4 b_long) (part_bytes a at 4 a_bytes) (part_bytes b at 4 b_bytes)
    (ap (from_le_bytes w32) (sym (part_of a at 4)) ∙ sym x_is ∙ equal ∙ y_is ∙ ap (from_le_bytes w32) (part_of b at 4)))
