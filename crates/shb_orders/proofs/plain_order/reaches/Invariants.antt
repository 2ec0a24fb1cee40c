use Rattle.std.proofs.Common.{◌≡◌, ℕ, ◌<◌, true, false, get_or}
use Rattle.shb_orders.proofs.Words.{ShbEdge}
use Rattle.shb_orders.proofs.plain_order.reaches.Given as goal

abbrev pub invariant-loop-b : goal.invariant-loop-b
invariant-loop-b l = (m : ℕ) → l.a < m → m < l.b → get_or l.marks m false ≡ true → ShbEdge l.linked.events.now l.a m → ⊥
