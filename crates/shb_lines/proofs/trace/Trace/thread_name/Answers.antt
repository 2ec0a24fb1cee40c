-- Different numbers are different names.
use Rattle.std.proofs.Common.{◌≡◌, ℕ, Some, slice_get, subst}
use Rattle.shb_lines.specs.text.TraceData.{TraceData}
use Rattle.shb_lines.proofs.text.Named.{alone}
use Rattle.shb_lines.proofs.trace.Trace.thread_name.Goals as goal

pub returns-clause-alone : goal.returns-clause-alone
returns-clause-alone c =
    subst (λ (trace : TraceData). (other : ℕ) → slice_get trace.threads other ≡ Some c.name.result.now → other ≡ c.args.t) c.self.view_is
    (alone c.self.inside.parts.threads c.args.t c.name.result.now c.self.invariant.well_formed.threads_differ c.name.ensures)
