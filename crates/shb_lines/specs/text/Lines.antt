-- The lines that are read of a source, one after the other.
use Rattle.std.specs.Prelude.{◌≡◌, ◌<◌, ◌≤◌, ℕ, List, [], ◌∷◌, ◌++◌, length, Option}
use Rattle.std.specs.Io.KnownBytes.{Consumes, IsAtEnd}
use Rattle.shb_lines.specs.declared.lines.Next.{Next}
use Rattle.shb_lines.specs.declared.lines.Next.TheVariants as nexts
use Rattle.shb_lines.specs.text.Grammar.{Lacks}
use Rattle.shb_lines.specs.text.Taking.{HasGiven}

-- the line that was given last, and the bytes after it that were read already
pub record LinesState : Type 0 where
  pub line : List ℕ
  pub held : List ℕ

-- a source gave n bytes, which stand after those that were held before
pub record Gives (left_before left_after : Option (List ℕ)) (given_before given_after : ℕ) (before after : List ℕ) (n : ℕ) : Type 0 where
  pub bytes : List ℕ
  pub count : length bytes ≡ n
  pub taken : Consumes left_before left_after bytes
  pub given : HasGiven given_before given_after n
  pub joined : after ≡ before ++ bytes

-- a source gave these bytes
pub record Moves (left_before left_after : Option (List ℕ)) (given_before given_after : ℕ) (bytes : List ℕ) : Type 0 where
  pub taken : Consumes left_before left_after bytes
  pub given : HasGiven given_before given_after (length bytes)

-- a line within the limit
pub record IsShort (limit : ℕ) (line : List ℕ) : Type 0 where
  pub one_line : Lacks 10 line
  pub short : length line ≤ limit

-- the line that these bytes begin with is above the limit
pub record BeginsLong (limit : ℕ) (read : List ℕ) : Type 0 where
  pub front : List ℕ
  pub rest : List ℕ
  pub joined : read ≡ front ++ rest
  pub one_line : Lacks 10 front
  pub long : limit < length front

-- what comes next in the bytes read, and what is left of them and of the source then
abbrev pub IsNext : ℕ → List ℕ → LinesState → Option (List ℕ) → Next → Type 0
IsNext limit read new left nexts.Line = IsShort limit new.line × (read ≡ new.line ++ 10 ∷ new.held)
IsNext limit read new left nexts.Last = IsShort limit new.line × (read ≡ new.line) × (new.held ≡ []) × IsAtEnd left
IsNext limit read new left nexts.TooLong = BeginsLong limit read
