-- The event is stored behind the others, and the lines before it are noted.
use Rattle.std.proofs.lemmas.Grind.{common_steps}
use Rattle.std.proofs.Common.{◌≡◌, ◌-◌, ◌<◌, ◌≤◌, [], ◌∷◌, ◌++◌, ap, arith, length, subst, ◌∙◌}
use Rattle.shb_lines.specs.text.Stored.{events_in, lines_before}
use Rattle.shb_lines.proofs.text.StoredEvents.{all-push, length-events_in, pushed}
use Rattle.shb_lines.proofs.stored.Events.push.Goals as goal

pub overflow_cast-event : goal.overflow_cast-event
overflow_cast-event c = omega (arith, c.ranges.line.fits, c.requires.line, c.len-event.ensures, ap length c.self.view_is, length-events_in c.self.inside.skipped.items c.self.inside.stored.items, c.self.inside.stored.ok.0)

pub overflow_sub-line-2 : goal.overflow_sub-line-2
overflow_sub-line-2 c = omega (arith, c.requires.line, c.len-event.ensures, ap length c.self.view_is, length-events_in c.self.inside.skipped.items c.self.inside.stored.items, c.self.inside.stored.ok.0)

-- what is stored and noted stands for the events and the new one
result_is : (c : goal.In_ok-push) → events_in c.note_lines.new.skipped.items c.push.new.self.items ≡ c.args.self.now ++ record { thread = c.args.thread; op = c.args.op; line = c.args.line } ∷ []
result_is c =
    let stored = c.self.inside.stored in
    let count : c.len-event.result ≡ length stored.items = omega (arith, c.len-event.ensures, stored.ok.0) in
    let few : length stored.items ≤ c.len-event.result = omega (arith, count) in
    let below : length stored.items < c.args.line = omega (arith, c.requires.line, ap length c.self.view_is, length-events_in c.self.inside.skipped.items stored.items) in
    ap (events_in c.note_lines.new.skipped.items) c.in_ok-push.ensures.items
    ∙ pushed c.self.inside.skipped.items c.note_lines.new.skipped.items stored.items (record { operand = c.parts_of-kind.result.1; thread = c.args.thread; kind = c.parts_of-kind.result.0 }) c.args.self.now c.args.line
    c.self.view_is (c.note_lines.ensures.earlier stored.items few)
    (subst (λ n. lines_before c.note_lines.new.skipped.items n ≡ c.args.line - 1 - n) count c.in_ok-note_lines.ensures.noted) below
    ∙ ap (λ o. c.args.self.now ++ record { thread = c.args.thread; op = o; line = c.args.line } ∷ []) c.parts_of-kind.ensures

pub invariant_of-self-2 : goal.invariant_of-self-2
invariant_of-self-2 c = grind (arith, common_steps, result_is, all-push, c.self.view_is, c.self.invariant, c.ranges.line.fits)

pub returns : goal.returns
returns c = result_is c
