use Rattle.std.proofs.Common.{◌≡◌, ℕ, List, length, map, arith, subst, ap, ◌∙◌}
use Rattle.std.proofs.lemmas.Result.{IfOk-weaker}
use Rattle.shb_stamps.proofs.Words.{AreScreened, Latest, is_unknown, variable_sized}
use Rattle.shb_stamps.proofs.OpenVariables.{flags_open}
use Rattle.shb_stamps.proofs.settling.open_variables.Goals as goal

pub returns : goal.returns
returns c =
    let trace = c.args.disciplined.now in
    let all : c.loop-e.e ≡ length trace.events.now = omega arith in
    let last = subst (λ (n : ℕ). AreScreened trace.events.now n trace.sizes.variables c.loop-e.table.items) all c.loop-e.invariant.screened in
    IfOk-weaker c.flags_of.result _ _
    (λ flags is. flags_open trace.events.now trace.sizes.variables c.loop-e.table.items _ (λ k x access. variable_sized trace.events.now trace.sizes k x trace.within access) (is ∙ ap (λ (t : List Latest). map (λ (latest : Latest). is_unknown latest.write) t) c.as_slice.ensures.value) last)
    c.flags_of.ensures
