use Rattle.std.proofs.Common.{List, refl, sym, ◌∙◌, subst}
use Rattle.shb_orders.proofs.Words.{Event, LastWrite, Read, ShbEdge, edge_by_rule, edge_by_write, eq-eqb, eqb-true, no_edge, read_from}
use Rattle.shb_orders.proofs.MarksLemmas.{rule_read}
use Rattle.shb_orders.proofs.plain_order.is_edge.Goals as goal

abbrev no_event : Event
no_event = record { thread = 0; op = Read 0; line = 0 }

pub returns-then-happens_first : goal.returns-then-happens_first
returns-then-happens_first c = ((λ h. edge_by_rule c.args.linked.now.events.now c.args.a c.args.b no_event c.requires.earlier c.requires.in_range (rule_read c.args.linked.now.events.now c.args.a c.args.b no_event _ _ _ c.event.ensures c.event-2.ensures c.happens_first.ensures ∙ c.if-happens_first.true)), (λ e. refl))

pub returns-in-Some : goal.returns-in-Some
returns-in-Some c =
    let last = subst (λ (tr : List Event). LastWrite tr c.in-Some.w c.args.b) c.args.linked.now.of_links c.in-Some.ensures in
    ((λ h. subst (λ k. ShbEdge c.args.linked.now.events.now k c.args.b) (eqb-true c.in-Some.w c.args.a h) (read_from last)), (λ e. eq-eqb c.in-Some.w c.args.a (edge_by_write c.args.linked.now.events.now c.args.a c.args.b _ no_event c.requires.earlier c.requires.in_range (rule_read c.args.linked.now.events.now c.args.a c.args.b no_event _ _ _ c.event.ensures c.event-2.ensures c.happens_first.ensures ∙ c.if-happens_first.false) last e)))

pub returns-in-None : goal.returns-in-None
returns-in-None c = ((λ h. absurd (let f : ⊥ = cc in f)), (λ e. absurd (no_edge c.args.linked.now.events.now c.args.a c.args.b no_event c.requires.earlier c.requires.in_range (rule_read c.args.linked.now.events.now c.args.a c.args.b no_event _ _ _ c.event.ensures c.event-2.ensures c.happens_first.ensures ∙ c.if-happens_first.false) (λ w last. c.in-None.ensures w (subst (λ (tr : List Event). LastWrite tr w c.args.b) (sym c.args.linked.now.of_links) last)) e)))
