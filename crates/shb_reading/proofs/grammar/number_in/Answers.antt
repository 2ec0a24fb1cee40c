-- A number that is all of a text has nothing after it.
use Rattle.std.proofs.Common.{arith, sym, ap, length, ◌∙◌, append-nil, [], ◌++◌, ℕ, List}
use Rattle.shb_reading.proofs.Words.{decimal}
use Rattle.shb_reading.proofs.Peeling.{is_some, peel_last}
use Rattle.shb_reading.proofs.grammar.number_in.Goals as goal

pub returns-in_err-number : goal.returns-in_err-number
returns-in_err-number c = rw c.from_residual.ensures (λ n small e.
    c.in_err-number.ensures n [] small (record { text_is = e ∙ ap (λ d. c.args.label.now ++ d) (sym (append-nil (decimal n))); ends = tt }))

pub returns-else-is_empty : goal.returns-else-is_empty
returns-else-is_empty c = λ n small e.
    let last = peel_last _ _ _ n _ c.in_ok-number.ensures.0 small c.in_ok-number.ensures.1 e in
    omega (arith, is_some _ _ c.is_empty.ensures c.if-is_empty.false, ap (λ (l : List ℕ). length l) last.1)
