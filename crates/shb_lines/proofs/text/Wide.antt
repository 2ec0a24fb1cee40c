-- A search for a byte of some bytes in more bytes, which begin with them.
use Rattle.std.proofs.Common.{◌≡◌, ◌==◌, ◌-◌, ◌<◌, ◌≤◌, ℕ, Bool, List, true, false, cond, length, take, drop, get_or, None, Some, sym, ap, ◌∙◌, arith, le_refl, length-take, length-drop}
use Rattle.std.specs.List.{before_first, position_or_len}
use Rattle.std.specs.Str.Lines.{strip_carriage_return}
use Rattle.std.proofs.lemmas.Bool.{false_from_ne_true}
use Rattle.std.proofs.lemmas.List.{drop-take, get_or-take, take-take, take_all}
use Rattle.std.proofs.lemmas.List.Sums.{position_or_len_is}
use Rattle.memchr.specs.Find.{IsFirstByte, is_byte}
use Rattle.shb_lines.specs.text.Reading.{Begins}

pub begins_all : (bytes : List ℕ) → Begins bytes bytes
begins_all bytes = sym (take_all (length bytes) bytes (le_refl _))

pub begins_within : (bytes wide : List ℕ) → Begins bytes wide → length bytes ≤ length wide
begins_within bytes wide h = omega (arith, ap length h, length-take (length bytes) wide)

pub begins_after : (n : ℕ) (bytes wide : List ℕ) → n ≤ length bytes → Begins bytes wide → Begins (drop n bytes) (drop n wide)
begins_after n bytes wide within h =
    let k : ℕ = length bytes - n in
    let len : length (drop n bytes) ≡ k = length-drop n bytes in
    ap (drop n) (h ∙ ap (λ m. take m wide) (omega arith)) ∙ drop-take n k wide ∙ ap (λ m. take m (drop n wide)) (sym len)

pub begins_split : (n : ℕ) (bytes wide back more : List ℕ) → n ≤ length bytes → Begins bytes wide → back ≡ drop n bytes → more ≡ drop n wide → Begins back more
begins_split n bytes wide back more within h back_is more_is =
    back_is ∙ begins_after n bytes wide within h ∙ ap (λ l. take (length l) (drop n wide)) (sym back_is) ∙ ap (take (length back)) (sym more_is)

-- the byte that is found in more bytes stands in these, or behind them
module _ (byte : ℕ) (bytes wide : List ℕ) (h : Begins bytes wide) where
  at_of : (k : ℕ) → k < length bytes → get_or bytes k 0 ≡ get_or wide k 0
  at_of k below = ap (λ l. get_or l k 0) h ∙ get_or-take (length bytes) wide k 0 below

  position_in : (end : ℕ) → IsFirstByte (is_byte byte) wide (Some end) → end < length bytes → position_or_len (λ b. b == byte) bytes ≡ end
  position_in end found below =
      position_or_len_is (is_byte byte) bytes end 0 (omega arith)
      (λ k before. ap (is_byte byte) (at_of k (omega arith)) ∙ false_from_ne_true _ (found.0.before k (omega arith) before)) (λ _. ap (is_byte byte) (at_of end below) ∙ found.1)

  position_behind : (end : ℕ) → IsFirstByte (is_byte byte) wide (Some end) → length bytes ≤ end → position_or_len (λ b. b == byte) bytes ≡ length bytes
  position_behind end found behind =
      position_or_len_is (is_byte byte) bytes (length bytes) 0 (le_refl _)
      (λ k before. ap (is_byte byte) (at_of k before) ∙ false_from_ne_true _ (found.0.before k (omega arith) (omega arith))) (λ below. absurd (omega arith))

  position_nowhere : IsFirstByte (is_byte byte) wide None → position_or_len (λ b. b == byte) bytes ≡ length bytes
  position_nowhere found =
      position_or_len_is (is_byte byte) bytes (length bytes) 0 (le_refl _)
      (λ k before. ap (is_byte byte) (at_of k before) ∙ false_from_ne_true _ (found k (omega arith) (omega (arith, before, begins_within bytes wide h)))) (λ below. absurd (omega arith))

  pub front_in : (end : ℕ) → IsFirstByte (is_byte byte) wide (Some end) → end < length bytes → take end bytes ≡ before_first (λ b. b == byte) bytes
  front_in end found below = ap (λ n. take n bytes) (sym (position_in end found below))

  pub front_behind : (end : ℕ) → IsFirstByte (is_byte byte) wide (Some end) → length bytes ≤ end → bytes ≡ before_first (λ b. b == byte) bytes
  front_behind end found behind = sym (ap (λ n. take n bytes) (position_behind end found behind) ∙ take_all _ bytes (le_refl _))

  pub front_nowhere : IsFirstByte (is_byte byte) wide None → bytes ≡ before_first (λ b. b == byte) bytes
  front_nowhere found = sym (ap (λ n. take n bytes) (position_nowhere found) ∙ take_all _ bytes (le_refl _))

-- a line without its carriage return begins what its line begins
front_of : (b : Bool) (l : List ℕ) → cond b (take (length l - 1) l) l ≡ take (length (cond b (take (length l - 1) l) l)) l
front_of true l = ap (λ n. take n l) (omega (arith, length-take (length l - 1) l))
front_of false l = sym (take_all (length l) l (le_refl _))

pub begins_stripped : (raw bytes wide : List ℕ) → bytes ≡ strip_carriage_return raw → length bytes ≤ length raw → Begins raw wide → Begins bytes wide
begins_stripped raw bytes wide is within h =
    let front : bytes ≡ take (length bytes) raw = is ∙ front_of _ raw ∙ ap (λ l. take (length l) raw) (sym is) in
    front ∙ ap (take (length bytes)) h ∙ take-take (length bytes) (length raw) wide within
