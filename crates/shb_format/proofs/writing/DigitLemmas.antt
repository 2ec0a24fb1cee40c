-- How many digits a number has.
use Rattle.shb_format.proofs.Words.{common_steps, decimal, decimal_digit, decimal_step}
use Rattle.std.proofs.Common.{◌≡◌, ℕ, ◌+◌, ◌/◌, ◌^◌, ◌<◌, ◌≤◌, length, ap, ◌∙◌, arith, length-append}

pub length_digit : (n : ℕ) → n < 10 → length (decimal n) ≡ 1
length_digit n lt = ap length (decimal_digit n lt)

pub length_step : (n : ℕ) → 10 ≤ n → n < 2 ^ 64 → length (decimal n) ≡ length (decimal (n / 10)) + 1
length_step n least fits = ap length (decimal_step n least fits) ∙ length-append _ _

pub length_two : (n : ℕ) → 10 ≤ n → n < 100 → length (decimal n) ≡ 2
length_two n least lt = omega (arith, length_step n least (omega arith), length_digit (n / 10) (omega arith))

pub length_three : (n : ℕ) → 100 ≤ n → n < 1000 → length (decimal n) ≡ 3
length_three n least lt = omega (arith, length_step n (omega arith) (omega arith), length_two (n / 10) (omega arith) (omega arith))

pub length_four : (n : ℕ) → 1000 ≤ n → n < 10000 → length (decimal n) ≡ 4
length_four n least lt = omega (arith, length_step n (omega arith) (omega arith), length_three (n / 10) (omega arith) (omega arith))

-- four digits more
pub length_more : (n : ℕ) → 10000 ≤ n → n < 2 ^ 64 → length (decimal n) ≡ length (decimal (n / 10000)) + 4
length_more n least fits = grind (arith, common_steps, length_step)
