use Rattle.std.proofs.Common.{◌≡◌, ℕ, Some, ap, arith, sym, ◌∙◌}
use Rattle.std.proofs.lemmas.Bool.Decides.{nat_tests}
use Rattle.shb_discipline.proofs.Steps.{plain_read, plain_write}
use Rattle.shb_discipline.proofs.state.State.is_plain.Goals as goal

pub returns-in-Read-clause-same : goal.returns-in-Read-clause-same
returns-in-Read-clause-same c = λ past e of_thread of_op may known plain.
    let same : c.in-Some.last ≡ c.args.thread = grind (arith, nat_tests, c.if-last-thread.false) in
    plain_read past e may c.args.self.now known c.in-Read.field-0 (of_op ∙ c.in-Read.is) (c.in-Some.is ∙ ap (λ (t : ℕ). Some t) (same ∙ sym of_thread))

pub returns-in-Write-clause-same : goal.returns-in-Write-clause-same
returns-in-Write-clause-same c = λ past e of_thread of_op may known plain.
    let same : c.in-Some.last ≡ c.args.thread = grind (arith, nat_tests, c.if-last-thread.false) in
    plain_write past e may c.args.self.now known c.in-Write.field-0 (of_op ∙ c.in-Write.is) (c.in-Some.is ∙ ap (λ (t : ℕ). Some t) (same ∙ sym of_thread))
