use Rattle.std.proofs.Common.{arith, ap, drop, length, length-drop, length-take, refl, ◌*◌, ◌∙◌}
use Rattle.shb_stamps.proofs.Raised.{raised_piece}
use Rattle.shb_stamps.proofs.row.Row.raise_first.Goals as goal

pub raise_from-requires : goal.raise_from-requires
raise_from-requires c =
    let short = ap length c.piece.ensures ∙ length-take 64 (drop (64 * c.loop-k.k) c.args.self.now) in
    let left = length-drop (64 * c.loop-k.k) c.args.self.now in
    let long = c.loop-k.invariant.long in
    let wide = c.requires in
    let within = c.pieces-k-end.ensures.each c.loop-k.k c.loop-k-test.true in
    omega (arith, short, left, long, wide, within)

pub loop-k-preserved : goal.loop-k-preserved
loop-k-preserved c = raised_piece c.args.clock.now c.args.self.now c.loop-k.clock c.raise_from.new.clock c.piece.result.now c.loop-k.k _ c.loop-k.invariant refl c.piece.ensures c.raise_from.ensures.long c.raise_from.ensures.before c.raise_from.ensures.raised
