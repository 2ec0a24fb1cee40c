-- The operation is that of the stored event.
use Rattle.std.proofs.Common.{Some, ap, arith, length, option_and_then, sym, ◌∙◌}
use Rattle.shb_lines.specs.declared.event.Event.{Event}
use Rattle.shb_lines.specs.events.Events.{op_at}
use Rattle.shb_lines.proofs.text.StoredEvents.{event_at, length-events_in}
use Rattle.shb_lines.proofs.stored.Events.op.Goals as goal

pub index-stored-requires : goal.index-stored-requires
index-stored-requires c = omega (arith, c.requires, ap length c.self.view_is, length-events_in c.self.inside.skipped.items c.self.inside.stored.items, c.self.inside.stored.ok.0)

pub returns : goal.returns
unfolding op_at
returns c =
    ap (option_and_then (λ (event : Event). Some event.op))
    (event_at c.self.inside.skipped.items c.self.inside.stored.items c.args.self.now c.args.e c.index-stored.result.now c.self.view_is c.requires c.index-stored.ensures)
    ∙ ap Some (sym c.op_with.ensures)
