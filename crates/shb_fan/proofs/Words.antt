-- What the word of a slot says of the pieces of that slot.
use Rattle.std.proofs.Common.{◌≡◌, ◌≢◌, ℕ, ◌+◌, ◌*◌, ◌/◌, ◌%◌, ◌<◌, ◌≤◌, eqb, leb, sym, ◌∙◌, arith}
use Rattle.std.proofs.lemmas.Bool.Decides.{nat_tests}
use mathlib.Core.Logic.{dite}
use native.Mathlib.Decide.{ℕ_discrete, dec_lt}
use Rattle.shb_fan.specs.Numbers.{weight}
use Rattle.shb_fan.specs.Slots.{is_claimed, is_placed, is_lifting, is_lifted}
use Rattle.shb_fan.proofs.Counts.{weight-true, weight-false}

pub equal_one : (a b : ℕ) → a ≡ b → weight (eqb a b) ≡ 1
equal_one a b e = weight-true (eqb a b) (grind (arith, nat_tests))

pub unequal_none : (a b : ℕ) → a ≢ b → weight (eqb a b) ≡ 0
unequal_none a b ne = weight-false (eqb a b) (grind (arith, nat_tests))

pub equal_from : (a b : ℕ) → 1 ≤ weight (eqb a b) → a ≡ b
equal_from a b h = dite (ℕ_discrete a b) (λ e. e) (λ ne. let z = unequal_none a b ne in absurd (omega arith))

pub reached_one : (a b : ℕ) → a ≤ b → weight (leb a b) ≡ 1
reached_one a b h = weight-true (leb a b) (grind (arith, nat_tests))

pub unreached_none : (a b : ℕ) → b < a → weight (leb a b) ≡ 0
unreached_none a b h = weight-false (leb a b) (grind (arith, nat_tests))

-- words that aren't those of stage c of the piece x
unlike : (x c old new : ℕ) → old ≢ 4 * x + c → new ≢ 4 * x + c → weight (eqb new (4 * x + c)) ≡ weight (eqb old (4 * x + c))
unlike x c old new h k = unequal_none new (4 * x + c) k ∙ sym (unequal_none old (4 * x + c) h)

-- a word of piece k, or one of no stage but the empty one, says nothing of another piece's claim
pub claim_apart : (x k old new : ℕ) → x ≢ k → old / 4 ≡ k → (new % 4 ≢ 0 → new / 4 ≡ k) → weight (is_claimed new x) ≡ weight (is_claimed old x)
claim_apart x k old new ne was is = unlike x 1 old new (λ e. ne (omega arith)) (λ e. let i = is (omega arith) in ne (omega arith))

pub lift_apart : (x k old new : ℕ) → x ≢ k → old / 4 ≡ k → (new % 4 ≢ 0 → new / 4 ≡ k) → weight (is_lifting new x) ≡ weight (is_lifting old x)
lift_apart x k old new ne was is = unlike x 3 old new (λ e. ne (omega arith)) (λ e. let i = is (omega arith) in ne (omega arith))

-- pieces of one slot are 64 apart
turn_before : (x k : ℕ) → x < k → x % 64 ≡ k % 64 → x + 64 ≤ k
turn_before x k l e = omega arith

pub lifted_apart : (x k old new : ℕ) → x ≢ k → x % 64 ≡ k % 64 → 4 * k ≤ old → old ≤ 4 * k + 256 → 4 * k ≤ new → new ≤ 4 * k + 256 → weight (is_lifted new x) ≡ weight (is_lifted old x)
lifted_apart x k old new ne same a b c d = dite (dec_lt x k)
    (λ l. let t = turn_before x k l same in reached_one (4 * x + 3) new (omega arith) ∙ sym (reached_one (4 * x + 3) old (omega arith)))
    (λ l. let t = turn_before k x (omega arith) (sym same) in unreached_none (4 * x + 3) new (omega arith) ∙ sym (unreached_none (4 * x + 3) old (omega arith)))

pub placed_apart : (x k old new : ℕ) → x ≢ k → x % 64 ≡ k % 64 → 4 * k ≤ old → old ≤ 4 * k + 256 → 4 * k ≤ new → new ≤ 4 * k + 256 → weight (is_placed new x) ≡ weight (is_placed old x)
placed_apart x k old new ne same a b c d = dite (dec_lt x k)
    (λ l. let t = turn_before x k l same in reached_one (4 * x + 2) new (omega arith) ∙ sym (reached_one (4 * x + 2) old (omega arith)))
    (λ l. let t = turn_before k x (omega arith) (sym same) in unreached_none (4 * x + 2) new (omega arith) ∙ sym (unreached_none (4 * x + 2) old (omega arith)))
