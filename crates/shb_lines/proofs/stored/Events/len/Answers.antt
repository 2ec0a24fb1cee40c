-- There is an event for each that is stored.
use Rattle.std.proofs.Common.{ap, arith, length}
use Rattle.shb_lines.proofs.text.StoredEvents.{length-events_in}
use Rattle.shb_lines.proofs.stored.Events.len.Goals as goal

pub returns : goal.returns
returns c = omega (arith, c.len.ensures, length-events_in c.self.inside.skipped.items c.self.inside.stored.items, ap length c.self.view_is, c.self.inside.stored.ok.0)
