use Rattle.std.proofs.Common.{arith, subst, sym, ◌∙◌}
use Rattle.shb_links.proofs.Words.{IsOwner}
use Rattle.shb_links.proofs.Owners.{owners_access, variable_known, variable_sized}
use Rattle.shb_links.proofs.sharing.note_access.Goals as goal

pub index-owner-requires : goal.index-owner-requires
index-owner-requires c =
    let trace = c.args.disciplined.now in
    let low = variable_sized trace.events.now trace.sizes c.args.e c.in-Some.x trace.within (variable_known trace.events.now c.args.e c.op.result c.op.ensures ∙ sym c.in-Some.ensures) in
    omega (arith, low.1, c.requires.owners.as_many, c.args.owners.now.ok.0)

pub index_mut-requires : goal.index_mut-requires
index_mut-requires c =
    let trace = c.args.disciplined.now in
    let low = variable_sized trace.events.now trace.sizes c.args.e c.in-Some.x trace.within (variable_known trace.events.now c.args.e c.op.result c.op.ensures ∙ sym c.in-Some.ensures) in
    omega (arith, low.1, c.requires.owners.as_many, c.args.owners.now.ok.0)

pub returns-in-Some : goal.returns-in-Some
returns-in-Some c =
    let trace = c.args.disciplined.now in
    let events = trace.events.now in
    let e = c.args.e in
    let x = c.in-Some.x in
    let access = variable_known events e c.op.result c.op.ensures ∙ sym c.in-Some.ensures in
    let low = variable_sized events trace.sizes e x trace.within access in
    owners_access events e trace.sizes.variables x _ c.args.owners.now.items low.1 access
    (c.with.ensures events x e access c.thread.ensures (subst (IsOwner events x e) (sym c.index-owner.ensures) (c.requires.owners.each x _ low.1)))
    c.requires.owners
