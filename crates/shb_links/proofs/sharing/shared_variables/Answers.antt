use Rattle.std.proofs.Common.{◌≡◌, ℕ, List, length, map, arith, subst, ap, ◌∙◌}
use Rattle.std.proofs.lemmas.Result.{IfOk-weaker}
use Rattle.shb_links.proofs.Words.{AreOwners, Owner, is_several}
use Rattle.shb_links.proofs.Owners.{shared_flags}
use Rattle.shb_links.proofs.sharing.shared_variables.Goals as goal

pub returns : goal.returns
returns c =
    let trace = c.args.disciplined.now in
    let all : c.loop-e.e ≡ length trace.events.now = omega arith in
    let last = subst (λ (n : ℕ). AreOwners trace.events.now n trace.sizes.variables c.loop-e.owners.items) all c.loop-e.invariant in
    IfOk-weaker c.flags_of.result _ _
    (λ flags is. shared_flags trace.events.now trace.sizes c.loop-e.owners.items _ trace.within (is ∙ ap (λ (os : List Owner). map is_several os) c.as_slice.ensures.value) last)
    c.flags_of.ensures
