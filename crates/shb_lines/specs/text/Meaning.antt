-- What a line gives, computed from its first bars and its first parenthesis.
use Rattle.std.specs.Prelude.{◌-◌, ◌==◌, ℕ, Bool, true, false, ◌&&◌, ◌||◌, List, [], length, drop, take, slice_index, Option, None, Some, Ok, Err, nat_lt, if◌then◌else◌, codes}
use Rattle.std.specs.List.{before_first, after_first, position_or_len}
use Rattle.std.specs.Str.{bytes_eq}
use Rattle.shb_lines.specs.declared.event.Kind.{Kind}
use Rattle.shb_lines.specs.declared.event.Kind.TheVariants as kinds
use Rattle.shb_lines.specs.declared.fault.Fault.TheVariants as faults
use Rattle.shb_lines.specs.text.Grammar.{Meaning, is_mark}

abbrev pub is_bar : ℕ → Bool
is_bar b = b == 124

abbrev pub is_opening : ℕ → Bool
is_opening b = b == 40

-- the kind of a word
unfoldable pub kind_of : List ℕ → Option Kind
kind_of word =
    if bytes_eq word (codes "r") then Some kinds.Read else (if bytes_eq word (codes "w") then Some kinds.Write else (
    if bytes_eq word (codes "acq") then Some kinds.Acquire else (if bytes_eq word (codes "rel") then Some kinds.Release else (
    if bytes_eq word (codes "fork") then Some kinds.Fork else (if bytes_eq word (codes "join") then Some kinds.Join else (
    if bytes_eq word (codes "begin") then Some kinds.BeginMark else (if bytes_eq word (codes "end") then Some kinds.EndMark else None)))))))

-- the name in what follows the word: `(`, at least one byte, `)`
unfoldable pub name_in : List ℕ → Option (List ℕ)
name_in call = if nat_lt 2 (length call) && (slice_index call (length call - 1) == 41) then Some (take (length call - 2) (drop 1 call)) else None

-- the operand of a mark: what follows the word is nothing, or `(`, any bytes, `)`
unfoldable pub mark_operand : List ℕ → Option (List ℕ)
mark_operand call = if (length call == 0) || (nat_lt 1 (length call) && (slice_index call (length call - 1) == 41)) then Some [] else None

abbrev pub operand_of : Bool → List ℕ → Option (List ℕ)
operand_of true call = mark_operand call
operand_of false call = name_in call

-- what an operation of a thread gives, by its operand
abbrev pub event_with : List ℕ → Kind → Option (List ℕ) → Meaning
event_with thread kind None = Err faults.BadOperand
event_with thread kind (Some operand) = Ok (Some (record { thread = thread; kind = kind; operand = operand }))

-- the same, by the kind of its word and what follows the word
abbrev pub meaning_with : List ℕ → Option Kind → List ℕ → Meaning
meaning_with thread None call = Err faults.UnknownOperation
meaning_with thread (Some kind) call = event_with thread kind (operand_of (is_mark kind) call)

-- what an operation of a thread gives
unfoldable pub operation_meaning : List ℕ → List ℕ → Meaning
operation_meaning thread operation =
    let word = before_first is_opening operation in
    meaning_with thread (kind_of word) (drop (length word) operation)

-- what a line gives
unfoldable pub meaning : List ℕ → Meaning
meaning line =
    if length line == 0 then Ok None else (
    if position_or_len is_bar line == length line then Err faults.MissingField else (
    if position_or_len is_bar line == 0 then Err faults.EmptyThread else
    operation_meaning (before_first is_bar line) (before_first is_bar (after_first is_bar line))))
