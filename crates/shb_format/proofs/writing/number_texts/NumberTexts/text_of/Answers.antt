use Rattle.shb_format.proofs.Words.{common_steps}
use Rattle.std.proofs.Common.{arith}
use Rattle.shb_format.proofs.writing.RunTexts.{numbers-part, part-rises, part-within}
use Rattle.shb_format.proofs.writing.number_texts.NumberTexts.text_of.Goals as goal

pub part-requires-clause-rising : goal.part-requires-clause-rising
part-requires-clause-rising c = part-rises _ _ _ c.args.run.first c.args.run.len _ _ c.self.invariant c.if-end-self.false c.index.ensures c.index-2.ensures

pub part-requires-clause-within : goal.part-requires-clause-within
part-requires-clause-within c =
    omega (arith, part-within _ _ _ c.args.run.first c.args.run.len _ _ c.self.invariant c.if-end-self.false c.index.ensures c.index-2.ensures, c.deref.ensures.len)

pub returns : goal.returns
returns c = grind (arith, common_steps, c.part.ensures, c.deref.ensures.value, numbers-part, c.self.invariant, c.if-end-self.false, c.index.ensures, c.index-2.ensures)
