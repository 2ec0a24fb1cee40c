-- The thread is numbered, and then the operand.
use Rattle.std.proofs.Common.{IfSome, ap, arith, length, slice_get, subst, sym, ◌∙◌}
use Rattle.shb_lines.specs.text.Numbering.{tables_of}
use Rattle.shb_lines.specs.text.Numbers.{IsOperation}
use Rattle.shb_lines.specs.text.Reading.{HasNoBar}
use Rattle.shb_lines.specs.text.Text.{threads_among}
use Rattle.shb_lines.proofs.text.NameLemmas.{length-with_name_le, slice_get-with_names}
use Rattle.shb_lines.proofs.numbering.Numbering.step_of.Goals as goal

pub operand_number-requires-clause-threads : goal.operand_number-requires-clause-threads
operand_number-requires-clause-threads c =
    omega (arith, ap length c.in_ok-thread.ensures.names, length-with_name_le c.args.self.now.threads c.args.found.now.thread.now, c.requires.threads)

pub returns-clause-last : goal.returns-clause-last
returns-clause-last c =
    let found = c.args.found.now in
    let number = c.in_ok-thread.thread in
    subst (λ o. IfSome o HasNoBar) (sym (ap (λ t. slice_get t.threads number) c.in_ok-number.ensures.tables ∙ slice_get-with_names (threads_among found.kind found.operand.now) _ found.thread.now number c.in_ok-thread.ensures.number)) c.requires.no_bar

pub returns-clause-step : goal.returns-clause-step
returns-clause-step c =
    let found = c.args.found.now in
    let number = c.in_ok-thread.thread in
    record {
      thread = ap (λ t. slice_get t.threads number) c.in_ok-number.ensures.tables ∙ slice_get-with_names (threads_among found.kind found.operand.now) _ found.thread.now number c.in_ok-thread.ensures.number;
      operation = subst (λ o. IsOperation (tables_of c.operand_number.new.self) o found.kind found.operand.now) (sym c.op_with.ensures) c.in_ok-number.ensures.operation;
    }
