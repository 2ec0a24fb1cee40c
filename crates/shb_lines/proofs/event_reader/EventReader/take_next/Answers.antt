-- What is taken next is the next line of the text.
use Rattle.std.proofs.Common.{◌+◌, [], false, arith, subst}
use Rattle.shb_lines.specs.text.Lines.{IsNext}
use Rattle.shb_lines.specs.text.Taken.{AreLinesOf}
use Rattle.shb_lines.proofs.text.LinesRead.{moves_none, moves_of}
use Rattle.shb_lines.proofs.text.TakenEvents.{last_taken, line_taken, taken_end, taken_too_long}
use Rattle.shb_lines.proofs.event_reader.EventReader.take_next.Goals as goal

pub returns-then-self-clause-taken : goal.returns-then-self-clause-taken
returns-then-self-clause-taken g c = λ read lines h.
    ([], moves_none _ _, taken_end c.args.limits.now read lines (g.S.Source.remaining c.args.source.now) c.args.self.now c.if-self.true h)

pub returns-in_ok-take_given-in-Ok-Line-clause-taken : goal.returns-in_ok-take_given-in-Ok-Line-clause-taken
returns-in_ok-take_given-in-Ok-Line-clause-taken g c = λ read lines h.
    let next = c.in-Ok-Line.ensures.next in
    let is = subst (λ f. IsNext c.args.limits.now.line next.0 c.next.new.self (g.S.Source.remaining c.next.new.source) f) c.in-Ok-Line.field-0-is next.3 in
    let given = c.in_ok-take_given-in-Ok-Line.ensures in (
      next.2.bytes,
      moves_of _ _ _ _ _ _ _ next.2,
      line_taken c.args.limits.now read lines (g.S.Source.remaining c.args.source.now) (g.S.Source.remaining c.next.new.source) c.args.self.now c.next.new.self c.take_given.new.self _ _ _ _ next.2 is h c.if-self.false
          given.lines given.line given.ended c.in_ok-take_given-in-Ok-Line.field-0 given.taken,
    )

pub returns-in_ok-take_given-in-Ok-Last-clause-taken : goal.returns-in_ok-take_given-in-Ok-Last-clause-taken
returns-in_ok-take_given-in-Ok-Last-clause-taken g c = λ read lines h.
    let next = c.in-Ok-Last.ensures.next in
    let is = subst (λ f. IsNext c.args.limits.now.line next.0 c.next.new.self (g.S.Source.remaining c.next.new.source) f) c.in-Ok-Last.field-0-is next.3 in
    let given = c.in_ok-take_given-in-Ok-Last.ensures in (
      next.2.bytes,
      moves_of _ _ _ _ _ _ _ next.2,
      last_taken c.args.limits.now read lines (g.S.Source.remaining c.args.source.now) (g.S.Source.remaining c.next.new.source) c.args.self.now c.next.new.self c.take_given-in-Ok-Last.new.self _ _ _ _ next.2 is h c.if-self.false
          given.lines given.line given.ended c.in_ok-take_given-in-Ok-Last.field-0 given.taken,
    )

pub returns-in-Ok-TooLong-clause-taken : goal.returns-in-Ok-TooLong-clause-taken
returns-in-Ok-TooLong-clause-taken g c = λ read lines h.
    let next = c.in-Ok-TooLong.ensures.next in
    let is = subst (λ f. IsNext c.args.limits.now.line next.0 c.next.new.self (g.S.Source.remaining c.next.new.source) f) c.in-Ok-TooLong.field-0-is next.3 in
    let before = subst (λ b. AreLinesOf b read lines c.args.self.now.lines.held (g.S.Source.remaining c.args.source.now)) c.if-self.false h.lines_are in
    (next.2.bytes, moves_of _ _ _ _ _ _ _ next.2, taken_too_long c.args.limits.now read lines (g.S.Source.remaining c.next.new.source) (record { lines = c.args.self.now.lines; numbering = c.args.self.now.numbering; line = c.args.self.now.line + 1; ended = false }) c.args.self.now.lines.held next.2.bytes next.0 before next.2.joined is h.one_line_each h.faultless (omega (arith, h.line_is)))
