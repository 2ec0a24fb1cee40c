use Rattle.std.proofs.Common.{arith}
use Rattle.shb_lines.proofs.text.Alike.{alike_four}
use Rattle.shb_lines.proofs.hashing.same_four.Goals as goal

pub returns : goal.returns
returns c =
    alike_four c.args.a.now c.args.b.now c.args.at c.four.result c.four-2.result (λ i. omega (arith, c.type_inv.a i)) (λ i. omega (arith, c.type_inv.b i))
    c.requires.a c.requires.b c.four.ensures c.four-2.ensures
