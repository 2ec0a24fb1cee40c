-- The event is the stored one, with its line's number.
use Rattle.std.proofs.Common.{◌≡◌, ◌+◌, ◌<◌, ◌^◌, Some, ap, arith, length, slice_get, subst, sym, ◌∙◌}
use Rattle.std.specs.List.{AllByRecursion}
use Rattle.shb_lines.specs.declared.event.Event.{Event}
use Rattle.shb_lines.specs.text.Stored.{lines_before, with_line}
use Rattle.shb_lines.proofs.text.StoredEvents.{all-at, event_at, length-events_in}
use Rattle.shb_lines.proofs.stored.Events.event.Goals as goal

pub index-stored-requires : goal.index-stored-requires
index-stored-requires c = omega (arith, c.requires, ap length c.self.view_is, length-events_in c.self.inside.skipped.items c.self.inside.stored.items, c.self.inside.stored.ok.0)

-- the event at e, by what is stored
event_is : (c : goal.After-lines_before) → slice_get c.args.self.now c.args.e ≡ Some (with_line c.self.inside.skipped.items (c.args.e, c.index-stored.result.now))
event_is c = event_at c.self.inside.skipped.items c.self.inside.stored.items c.args.self.now c.args.e c.index-stored.result.now c.self.view_is c.requires c.index-stored.ensures

lines_are : (c : goal.After-lines_before) → c.lines_before.result ≡ lines_before c.self.inside.skipped.items c.args.e
lines_are c = c.lines_before.ensures ∙ ap (λ skipped. lines_before skipped c.args.e) c.as_slice.ensures.value

line_fits : (c : goal.After-lines_before) → c.args.e + c.lines_before.result + 1 < 2 ^ 32
line_fits c =
    let fits = all-at (λ (event : Event). event.line < 2 ^ 32) c.args.self.now c.args.e (with_line c.self.inside.skipped.items (c.args.e, c.index-stored.result.now)) (subst (AllByRecursion (λ (event : Event). event.line < 2 ^ 32)) c.self.view_is c.self.invariant) (event_is c) in
    omega (arith, fits, lines_are c)

pub overflow_add-result : goal.overflow_add-result
overflow_add-result c = let small = line_fits c in omega (arith, small)

pub overflow_add-result-2 : goal.overflow_add-result-2
overflow_add-result-2 c = let small = line_fits c in omega (arith, small)

pub returns : goal.returns
returns c =
    event_is c ∙ (λ i. Some (record { thread = sym c.from.ensures i; op = sym c.op_with.ensures i; line = c.args.e + sym (lines_are c) i + 1 }))
