-- Different numbers are different names.
use Rattle.std.proofs.Common.{◌≡◌, ℕ, Some, slice_get, subst}
use Rattle.shb_lines.specs.text.TraceData.{TraceData}
use Rattle.shb_lines.proofs.text.Named.{alone}
use Rattle.shb_lines.proofs.trace.Trace.variable_name.Goals as goal

pub returns-clause-alone : goal.returns-clause-alone
returns-clause-alone c =
    subst (λ (trace : TraceData). (other : ℕ) → slice_get trace.variables other ≡ Some c.name.result.now → other ≡ c.args.x) c.self.view_is
    (alone c.self.inside.parts.variables c.args.x c.name.result.now c.self.invariant.well_formed.variables_differ c.name.ensures)
