-- The events are those of a well-formed trace.
use Rattle.std.proofs.Common.{subst}
use Rattle.shb_lines.specs.events.Sizes.{IsNumberedByAccess}
use Rattle.shb_lines.specs.text.TraceData.{TraceData}
use Rattle.shb_lines.proofs.trace.Trace.events.Goals as goal

pub returns-clause-numbered : goal.returns-clause-numbered
returns-clause-numbered c = subst (λ (t : TraceData). IsNumberedByAccess t.events) c.self.view_is c.self.invariant.well_formed.numbered
