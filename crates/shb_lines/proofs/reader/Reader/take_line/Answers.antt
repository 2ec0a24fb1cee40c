-- A line with no fault keeps or lengthens the trace.
use Rattle.std.proofs.Common.{◌≡◌, ◌-◌, ◌==◌, [], ◌∷◌, ◌++◌, Ok, ap, arith, drop, subst, take}
use Rattle.std.specs.List.{position_or_len}
use Rattle.std.specs.Str.Lines.{strip_carriage_return}
use Rattle.shb_lines.specs.text.Numbering.{IsFound, IsKept, event_of}
use Rattle.shb_lines.specs.text.Numbers.{events_of}
use Rattle.shb_lines.specs.text.Stored.{part}
use Rattle.shb_lines.proofs.text.Held.{read_none, read_some}
use Rattle.shb_lines.proofs.reader.Reader.take_line.Goals as goal

pub returns-in-Ok-None-clause-read : goal.returns-in-Ok-None-clause-read
returns-in-Ok-None-clause-read c = λ lines h line_is.
    let raw = part c.args.text.now c.args.start c.args.end in
    let new = c.take_line.new.self in
    let found = subst (λ o. IsFound c.args.limits.now (events_of lines) raw new (Ok o)) c.in-Ok-None.field-0-is (subst (IsFound c.args.limits.now (events_of lines) raw new) c.in-Ok-None.is (c.in_ok-take_line.ensures.found (events_of lines) raw h.numbered c.without_carriage_return-bytes.ensures.value (omega (arith, c.if-raw-limits.false)))) in
    read_none c.args.text.now c.args.self.now new lines raw found.meaning_is (subst (λ o. IsKept c.args.self.now.numbering new (Ok o)) c.in-Ok-None.field-0-is (subst (IsKept c.args.self.now.numbering new) c.in-Ok-None.is c.in_ok-take_line.ensures.kept)) h

pub returns-clause-read : goal.returns-clause-read
returns-clause-read c = λ lines h line_is.
    let text = c.args.text.now in
    let start = c.args.start in
    let raw = part text start c.args.end in
    let step = c.in-Ok-Some.step in
    let found = subst (λ o. IsFound c.args.limits.now (events_of lines) raw c.take_line.new.self (Ok o)) c.in-Ok-Some.field-0-is (subst (IsFound c.args.limits.now (events_of lines) raw c.take_line.new.self) c.in-Ok-Some.is (c.in_ok-take_line.ensures.found (events_of lines) raw h.numbered c.without_carriage_return-bytes.ensures.value (omega (arith, c.if-raw-limits.false)))) in
    let ends : position_or_len (λ b. b == 10) (drop start text) ≡ c.args.end - start = let e = c.requires.ends in omega arith in
    read_some text c.args.self.now (record { events = c.push.new.self; starts = c.push-2.new.self; numbering = c.take_line.new.self }) lines raw start step c.args.limits.now found
    (subst (λ n. c.push.new.self ≡ c.args.self.now.events ++ event_of step n ∷ []) line_is c.in_ok-push.ensures) c.in_ok-push-2.ensures.items
    (ap (λ n. strip_carriage_return (take n (drop start text))) ends) (let order = c.requires.order in let within = c.requires.within in omega arith) h
