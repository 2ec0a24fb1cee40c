use Rattle.std.proofs.Common.{◌≡◌, ◌<◌, get_or, true, false, refl, arith, below_more}
use Rattle.shb_orders.proofs.Words.{ShbEdge, step}
use Rattle.shb_orders.proofs.MarksLemmas.{no_reach}
use Rattle.shb_orders.proofs.plain_order.reaches.Goals as goal
use Rattle.shb_orders.proofs.plain_order.reaches.Goals.{else-marks-b-via-then-marks-b+else-is_edge, else-marks-b-via-else-marks-b}

pub returns-then-is_edge : goal.returns-then-is_edge
returns-then-is_edge c = ((λ h. step (c.is_edge.ensures.0 c.if-is_edge.true) ((c.requires.known c.loop-b.b (omega arith) (omega arith)).0 c.if-marks-b.true)), (λ path. refl))

pub loop-b-preserved : goal.loop-b-preserved
loop-b-preserved c m low high mark edge = below_more (λ m. c.args.a < m → get_or c.args.marks.now m false ≡ true → ShbEdge c.args.linked.now.events.now c.args.a m → ⊥) c.loop-b.b (λ k lt above marked leads. c.loop-b.invariant k above lt marked leads) last m high low mark edge
  where
    last : c.args.a < c.loop-b.b → get_or c.args.marks.now c.loop-b.b false ≡ true → ShbEdge c.args.linked.now.events.now c.args.a c.loop-b.b → ⊥
    last above marked leads = elim c.else-marks-b.branch [
      | else-marks-b-via-then-marks-b+else-is_edge w ↦ (let passing = w.is_edge.ensures.1 leads in let fails = w.if-is_edge.false in (let f : ⊥ = cc in f))
      | else-marks-b-via-else-marks-b w ↦ (let fails = w.if-marks-b.false in (let f : ⊥ = cc in f))
    ]

pub returns : goal.returns
returns c = ((λ h. absurd (let f : ⊥ = cc in f)), (λ path. absurd (no_reach c.args.linked.now.events.now c.args.a c.args.p c.args.marks.now c.requires.earlier c.requires.in_range c.requires.known (λ m low high. c.loop-b.invariant m low (omega arith)) path)))
