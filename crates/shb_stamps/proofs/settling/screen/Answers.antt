use Rattle.std.proofs.Common.{◌≡◌, ◌+◌, ℕ, Some, arith, subst, sym, ◌∙◌}
use Rattle.shb_stamps.proofs.Words.{IsScreened, SweepData, apart, variable_at, variable_known, variable_sized}
use Rattle.shb_stamps.proofs.OpenVariables.{table_access, table_other}
use Rattle.shb_stamps.proofs.settling.screen.Goals as goal

pub index-latest-requires : goal.index-latest-requires
index-latest-requires c =
    let trace = c.args.ordered.now.disciplined.now in
    let low = variable_sized trace.events.now trace.sizes c.args.e c.in-Some.x trace.within (variable_known trace.events.now c.args.e _ c.op.ensures ∙ sym c.in-Some.ensures) in
    omega (arith, low.1, c.requires.screened.as_many, c.args.table.now.ok.0)

pub index_mut-requires : goal.index_mut-requires
index_mut-requires c =
    let trace = c.args.ordered.now.disciplined.now in
    let low = variable_sized trace.events.now trace.sizes c.args.e c.in-Some.x trace.within (variable_known trace.events.now c.args.e _ c.op.ensures ∙ sym c.in-Some.ensures) in
    omega (arith, low.1, c.requires.screened.as_many, c.args.table.now.ok.0)

pub returns-in-Some : goal.returns-in-Some
returns-in-Some c =
    let trace = c.args.ordered.now.disciplined.now in
    let events = trace.events.now in
    let x = c.in-Some.x in
    let access = variable_known events c.args.e _ c.op.ensures ∙ sym c.in-Some.ensures in
    let low = variable_sized events trace.sizes c.args.e x trace.within access in
    let after = subst (λ (s : SweepData). (y : ℕ) → variable_at s.trace s.next ≡ Some y → IsScreened s.trace y s.next c.index-latest.result.now → IsScreened s.trace y (s.next + 1) c.screen.result) c.requires.next c.screen.ensures in
    table_access events c.args.e trace.sizes.variables x _ c.args.table.now.items low.1 access (after x access (subst (IsScreened events x c.args.e) (sym c.index-latest.ensures) (c.requires.screened.each x _ low.1))) c.requires.screened

pub returns-in_default : goal.returns-in_default
returns-in_default c = table_other c.args.ordered.now.disciplined.now.events.now c.args.e c.args.ordered.now.disciplined.now.sizes.variables c.args.table.now.items
    (λ x access. apart x (sym access ∙ (variable_known c.args.ordered.now.disciplined.now.events.now c.args.e _ c.op.ensures ∙ (sym c.variable.ensures ∙ c.in_default.is))))
    c.requires.screened
