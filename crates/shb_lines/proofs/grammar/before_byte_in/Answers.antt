-- What is found stands in the bytes, or behind them.
use Rattle.std.proofs.Common.{arith}
use Rattle.std.proofs.lemmas.Bool.Decides.{nat_tests}
use Rattle.shb_lines.proofs.text.Wide.{front_behind, front_in, front_nowhere}
use Rattle.shb_lines.proofs.grammar.before_byte_in.Goals as goal

pub returns-then-end-bytes-clause-front : goal.returns-then-end-bytes-clause-front
returns-then-end-bytes-clause-front c =
    front_in c.args.byte c.args.bytes.now c.args.wide.now c.requires c.in-Some.end c.in-Some.ensures (grind (arith, nat_tests, c.if-end-bytes.true))

pub returns-else-end-bytes-clause-front : goal.returns-else-end-bytes-clause-front
returns-else-end-bytes-clause-front c =
    front_behind c.args.byte c.args.bytes.now c.args.wide.now c.requires c.in-Some.end c.in-Some.ensures (grind (arith, nat_tests, c.if-end-bytes.false))

pub returns-in-None-clause-front : goal.returns-in-None-clause-front
returns-in-None-clause-front c = front_nowhere c.args.byte c.args.bytes.now c.args.wide.now c.requires c.in-None.ensures
