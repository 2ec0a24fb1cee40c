-- Labels, numbers and lines at the front of a text, and lines of it taken one after another.
use Rattle.std.specs.Prelude.{◌≡◌, ℕ, ◌+◌, ◌≤◌, Bool, false, List, [], ◌∷◌, ◌++◌, length, decimal, map, take, drop, Result, Ok, Err, ⊤}
use Rattle.std.specs.Char.{is_ascii_digit}
use Rattle.std.specs.List.{AllByRecursion}
use Rattle.shb_reading.specs.declared.position.Position.{Position}
use Rattle.shb_reading.specs.declared.position.ReadStop.{ReadStop}
use Rattle.shb_reading.specs.declared.position.ReadStop.TheVariants.{BadLine, Memory}
use Rattle.shb_reading.specs.Forms.{Form, IsBadFrom, TakesForm}
use Rattle.shb_format.specs.Value.{HasNoLineFeed, IsShown}

-- the text is at its end, or its next byte fails the test
abbrev pub Stops : (ℕ → Bool) → List ℕ → Type 0
Stops test [] = ⊤
Stops test (byte ∷ rest) = test byte ≡ false

-- the text is a label, the whole of a number, and a rest
pub record IsLabelled (label text : List ℕ) (n : ℕ) (rest : List ℕ) : Type 0 where
  pub text_is : text ≡ label ++ (decimal n ++ rest)
  pub ends : Stops is_ascii_digit rest

-- a list grew by what is kept of these numbers, which can be shown: at most so many are kept, the first ones
pub record AddsShown {T : Type 0} (kept : ℕ → T) (most : ℕ) (old new : List T) (ns : List ℕ) : Type 0 where
  pub grown : new ≡ old ++ take most (map kept ns)
  pub shown : AllByRecursion IsShown ns

-- the position stands in the text, after that many lines
pub record IsAt (text : List ℕ) (at : Position) : Type 0 where
  pub within : at.start ≤ length text
  pub counted : at.lines ≤ at.start

-- the bytes from the position on
abbrev pub bytes_from : List ℕ → Position → List ℕ
bytes_from text at = drop at.start text

-- the bytes are a line, its line feed, and a rest
pub record BeginsWithLine (bytes line rest : List ℕ) : Type 0 where
  pub one_line : HasNoLineFeed line
  pub bytes_are : bytes ≡ line ++ (10 ∷ rest)

-- the line between two positions
pub record TakesLine (text : List ℕ) (old new : Position) (line : List ℕ) : Type 0 where
  pub begins : BeginsWithLine (bytes_from text old) line (bytes_from text new)
  pub counted : new.lines ≡ old.lines + 1
  pub moved : new.start ≡ old.start + length line + 1
  pub at : IsAt text new

-- no line of the form stands at the front
abbrev pub Lacks : Form → List ℕ → Type 0
Lacks form bytes = (line : List ℕ) (added : List Form) (rest : List ℕ) → TakesForm form bytes line added rest → ⊥

-- the number of the line that is bad, where that is why the reading stopped
abbrev pub IfStop : ReadStop → (ℕ → Type 0) → Type 0
IfStop (BadLine n) P = P n
IfStop (Memory _) P = Unit {0}

abbrev pub IfBad : {T : Type 0} → Result T ReadStop → (ℕ → Type 0) → Type 0
IfBad (Ok x) P = Unit {0}
IfBad (Err stop) P = IfStop stop P

-- where these forms are expected at the old position, and those at the new one, the first bad line is the same
abbrev pub Passes : List ℕ → Position → Position → List Form → List Form → Type 0
Passes text old new expected left = (n : ℕ) → IsBadFrom left new.lines (bytes_from text new) n → IsBadFrom expected old.lines (bytes_from text old) n

-- the first bad line from the position on
abbrev pub IsBadAt : List ℕ → Position → List Form → ℕ → Type 0
IsBadAt text at expected n = IsBadFrom expected at.lines (bytes_from text at) n
