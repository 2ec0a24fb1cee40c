-- What a trace gives of a number: an event, a line, and a name, which is that of this number alone.
use Rattle.std.proofs.Common.{◌≡◌, ◌<◌, ℕ, List, length, map, get_or, Some, option_map, slice_get, refl, sym, ap, ◌∙◌}
use Rattle.std.specs.List.{IsDistinct}
use Rattle.std.specs.Str.{bytes_eq}
use Rattle.std.proofs.lemmas.Option.{slice_get-map, slice_get_read}
use Rattle.shb_lines.specs.text.Parsed.{line_from}
use Rattle.shb_lines.proofs.text.Numbers.{one_number}

-- the line of number k begins at its start
pub line_at : (text starts : List ℕ) (lines : List (List ℕ)) (k start : ℕ) (bytes line : List ℕ) → map (line_from text) starts ≡ lines → k < length starts → start ≡ get_or starts k start
    → bytes ≡ text → line ≡ line_from bytes start → slice_get lines k ≡ Some line
line_at text starts lines k start bytes line lines_are below at bytes_are line_is =
    ap (λ ls. slice_get ls k) (sym lines_are) ∙ slice_get-map (line_from text) starts k ∙ ap (option_map (line_from text)) (slice_get_read starts (length starts) k start refl below at) ∙ ap Some (ap (λ b. line_from b start) (sym bytes_are) ∙ sym line_is)

-- what has the name of number k has its number
pub alone : (names : List (List ℕ)) (k : ℕ) (name : List ℕ) → IsDistinct bytes_eq names → slice_get names k ≡ Some name → (other : ℕ) → slice_get names other ≡ Some name → other ≡ k
alone names k name differ at other at_other = one_number names name other k differ at_other at
