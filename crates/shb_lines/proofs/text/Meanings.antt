-- What a line with a thread and an operation gives, and where its name stands.
use Rattle.std.proofs.Common.{◌≡◌, ◌≢◌, ◌+◌, ℕ, List, length, drop, sym, ap, ◌∙◌, arith}
use Rattle.std.specs.List.{before_first, after_first, position_or_len}
use Rattle.std.proofs.lemmas.Bool.Decides.{nat_tests}
use Rattle.shb_lines.specs.text.Meaning.{is_bar, is_opening, kind_of, meaning, meaning_with, operation_meaning}

pub meaning_is : (line : List ℕ) → length line ≢ 0 → position_or_len is_bar line ≢ length line → position_or_len is_bar line ≢ 0
    → meaning line ≡ operation_meaning (before_first is_bar line) (before_first is_bar (after_first is_bar line))
unfolding meaning
meaning_is line some field named = grind (arith, nat_tests)

pub operation_meaning_is : (line thread fields operation word call : List ℕ) → length line ≢ 0 → length thread ≢ length line → length thread ≢ 0
    → thread ≡ before_first is_bar line → length thread ≡ position_or_len is_bar line → fields ≡ drop (length thread + 1) line
    → operation ≡ before_first is_bar fields → word ≡ before_first is_opening operation → call ≡ drop (length word) operation
    → meaning line ≡ meaning_with thread (kind_of word) call
unfolding operation_meaning
operation_meaning_is line thread fields operation word call some field named thread_is len_is fields_is operation_is word_is call_is =
    let same : before_first is_bar (after_first is_bar line) ≡ operation = ap (λ n. before_first is_bar (drop (n + 1) line)) (sym len_is) ∙ ap (before_first is_bar) (sym fields_is) ∙ sym operation_is in
    meaning_is line some (λ e. field (len_is ∙ e)) (λ e. named (len_is ∙ e))
    ∙ ap (λ t. operation_meaning t (before_first is_bar (after_first is_bar line))) (sym thread_is)
    ∙ ap (λ o. operation_meaning thread o) same
    ∙ ap (λ w. meaning_with thread (kind_of w) (drop (length w) operation)) (sym word_is)
    ∙ ap (λ x. meaning_with thread (kind_of word) x) (sym call_is)
