-- What contracts see of the sources and the sink in memory, and which of their calls fail.
use Rattle.std.specs.Prelude.{◌≡◌, ℕ, ◌+◌, ◌-◌, ◌^◌, ◌<◌, min, List, Option, Some}

-- a text: the bytes still to come, the most bytes of one read, the number of the read that is to fail, and how many reads were made, how many of them failed, and how many bytes they gave
pub record TextState : Type 0 where
  pub rest : List ℕ
  pub step : ℕ
  pub fail_at : Option ℕ
  pub calls : ℕ
  pub failures : ℕ
  pub given : ℕ

-- a page: the bytes taken, the most that it holds, the most bytes of one write, the number of the write that is to fail, and how many writes were made and how many of them failed
pub record PageState : Type 0 where
  pub bytes : List ℕ
  pub room : ℕ
  pub step : ℕ
  pub fail_at : Option ℕ
  pub calls : ℕ
  pub failures : ℕ

-- an endless source: its one byte, and how many of it were given
pub record EndlessState : Type 0 where
  pub byte : ℕ
  pub given : ℕ

-- a count of 64 bits and n more: it stays at the greatest number once it is there
abbrev pub counted_on : ℕ → ℕ → ℕ
counted_on count n = min (count + n) (2 ^ 64 - 1)

-- the call of this number, counted from 1, is the one that is to fail; the greatest number is no call's alone, so it is never the one
abbrev pub IsCallToFail : Option ℕ → ℕ → Type 0
IsCallToFail fail_at number = (fail_at ≡ Some number) × (number < 2 ^ 64 - 1)
