-- The pieces of a block of accesses, one after another, are its lines.
use Rattle.std.proofs.Common.{◌≡◌, ◌+◌, ℕ, List, ◌∷◌, ◌++◌, codes, None, ap, sym, ◌∙◌, append_assoc, append-nil}
use Rattle.shb_format.proofs.Words.{HasLineOf, TraceData, access_kind, access_line, barred, block_bytes, event_lines, labelled_line, line_of_event, option_copied, race_numbers_line}
use Rattle.shb_lines.specs.text.Grammar.{word_of}
use Rattle.shb_format.specs.declared.writing.access_writer.AccessText.{AccessText}
use Rattle.shb_format.proofs.writing.BlockText.{block_is}

-- the line of an access
pub access_pieces : (access : AccessText) (opening : List ℕ) → opening ≡ codes "|" ++ (word_of (access_kind access.writes) ++ codes "(")
    → access.thread.now ++ (opening ++ (access.variable.now ++ (codes ")" ++ barred (option_copied access.location)))) ≡ access_line access
access_pieces access opening is =
    let rest : List ℕ = access.variable.now ++ (codes ")" ++ barred (option_copied access.location)) in
    ap (λ o. access.thread.now ++ (o ++ rest)) is
    ∙ ap (λ l. access.thread.now ++ (124 ∷ l)) (append_assoc (word_of (access_kind access.writes)) (codes "(") rest)

-- the lines of two accesses
abbrev pub access_lines : AccessText → AccessText → List ℕ
access_lines first second = labelled_line (codes "first ") (access_line first) ++ labelled_line (codes "second ") (access_line second)

-- what is put together after the line of the race is the block
pub access_block_is : (trace : TraceData) (number : ℕ) (first second : AccessText) (held : List ℕ) → HasLineOf trace first → HasLineOf trace second
    → held ≡ race_numbers_line number (first.event + 1) (second.event + 1) ++ codes "\n" → held ++ access_lines first second ≡ block_bytes trace number (first.event, second.event) None
access_block_is trace number first second held of_first of_second is =
    ap (λ l. held ++ (labelled_line (codes "first ") l ++ labelled_line (codes "second ") (access_line second))) (sym of_first)
    ∙ ap (λ l. held ++ (labelled_line (codes "first ") (line_of_event trace first.event) ++ labelled_line (codes "second ") l)) (sym of_second)
    ∙ ap (λ l. held ++ l) (sym (append-nil (event_lines trace (first.event, second.event))))
    ∙ block_is trace number (first.event, second.event) None held is
