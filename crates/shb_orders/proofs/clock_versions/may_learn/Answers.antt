use Rattle.std.proofs.Common.{Some, refl, ◌∙◌, ap, sym}
use Rattle.shb_orders.proofs.Words.{Event, Read, acquires, joins, local_is, thread_item}
use Rattle.shb_orders.proofs.MayLearn.{first_from_time, read_test, learning_other}
use Rattle.shb_orders.proofs.clock_versions.may_learn.Goals as goal

pub returns-then-local-eq1 : goal.returns-then-local-eq1
returns-then-local-eq1 c =
    let d : Event = record { thread = 0; op = Read 0; line = 0 } in
    let of_e = thread_item c.args.linked.now.events.now c.args.e d c.requires.in_range in
    let time = local_is c.args.linked.now.events.now c.args.linked.now.links.now c.args.e c.local.result _ c.args.linked.now.of_links c.local.ensures.time of_e in
    ((λ h. first_from_time c.args.linked.now.events.now c.args.e _ of_e (sym time ∙ c.if-local-eq1.true)), (λ l. refl))

pub returns-in-Acquire : goal.returns-in-Acquire
returns-in-Acquire c = ((λ h. acquires _ (c.op.ensures ∙ ap (λ o. Some o) c.in-Acquire.is)), (λ l. refl))

pub returns-in-Join : goal.returns-in-Join
returns-in-Join c = ((λ h. joins _ (c.op.ensures ∙ ap (λ o. Some o) c.in-Join.is)), (λ l. refl))

pub returns-in-Read : goal.returns-in-Read
returns-in-Read c =
    let d : Event = record { thread = 0; op = Read 0; line = 0 } in
    let of_e = thread_item c.args.linked.now.events.now c.args.e d c.requires.in_range in
    let time = local_is c.args.linked.now.events.now c.args.linked.now.links.now c.args.e c.local.result _ c.args.linked.now.of_links c.local.ensures.time of_e in
    read_test c.args.linked.now.events.now c.args.e _ of_e c.args.linked.now.links.now c.in-Read.field-0 c.last_write.result c.is_some.result c.args.linked.now.of_links (c.op.ensures ∙ ap (λ o. Some o) c.in-Read.is) (λ one. c.if-local-eq1.false (time ∙ one)) c.last_write.ensures c.is_some.ensures

pub returns-in_default : goal.returns-in_default
returns-in_default c =
    let d : Event = record { thread = 0; op = Read 0; line = 0 } in
    let of_e = thread_item c.args.linked.now.events.now c.args.e d c.requires.in_range in
    let time = local_is c.args.linked.now.events.now c.args.linked.now.links.now c.args.e c.local.result _ c.args.linked.now.of_links c.local.ensures.time of_e in
    ((λ h. absurd (let f : ⊥ = cc in f)), (λ l. absurd (learning_other c.args.linked.now.events.now c.args.e _ of_e _ c.op.ensures c.in_default.not-Acquire c.in_default.not-Join c.in_default.not-Read (λ one. c.if-local-eq1.false (time ∙ one)) l)))
