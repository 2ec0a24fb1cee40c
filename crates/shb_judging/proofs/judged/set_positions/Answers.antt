-- An edit that makes one of these false is refused at once.
use Rattle.std.proofs.Common.{◌+◌, arith, rules}
use Rattle.shb_judging.proofs.Words.{position_of}
use Rattle.shb_judging.proofs.GoodBlocks.{take_mapped}
use Rattle.shb_judging.proofs.judged.set_positions.Goals as goal

pub loop-number-init : goal.loop-number-init
loop-number-init c = search rules

pub returns : goal.returns
returns c =
    take_mapped (position_of c.args.count) (c.args.count + 1) c.min.result c.loop-number.number-index c.args.numbers.now c.split_at.result.0.now c.loop-number.positions.items
    c.min.ensures c.split_at.ensures.front c.loop-number.invariant (omega (arith))
