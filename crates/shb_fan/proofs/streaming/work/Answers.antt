use Rattle.std.proofs.Common.{refl}
use Rattle.shb_fan.specs.declared.crew.Worker.{Worker}
use Rattle.shb_fan.proofs.Accounts.{drawn_at, kept_at}
use Rattle.shb_fan.proofs.streaming.work.Goals as goal

pub make-requires-clause-ready : goal.make-requires-clause-ready
make-requires-clause-ready g c =
    let ready = c.loop.invariant.ready in
    let can = ready.0 in
    let draw = c.in-Some-draw.ensures in
    let new : Worker g.row.T.Denot g.row.M.Denot = record { pass = c.draw.new.pass; seat = c.loop.worker.seat } in
    let drawn = drawn_at c.loop.worker new can.1.1 c.in-Some-draw.k refl draw.some.2 draw.some.4 draw.some.1 in
    ((can.0, ((draw.source, can.1.0.1, can.1.0.2), drawn.0)), (draw.some.4, draw.some.5), drawn.1, kept_at c.loop.worker new c.in-Some-draw.k ready.1 refl draw.some.2)
