use Rattle.std.proofs.Common.{arith}
use Rattle.shb_lines.proofs.text.Alike.{alike_eight}
use Rattle.shb_lines.proofs.hashing.same_eight.Goals as goal

pub returns : goal.returns
returns c =
    alike_eight c.args.a.now c.args.b.now c.args.at c.eight.result c.eight-2.result (λ i. omega (arith, c.type_inv.a i)) (λ i. omega (arith, c.type_inv.b i))
    c.requires.a c.requires.b c.eight.ensures c.eight-2.ensures
