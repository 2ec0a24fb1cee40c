-- Each line that is taken is the next one of the text.
use Rattle.std.proofs.Common.{◌<◌, ◌≤◌, None, Some, arith, length, refl, subst, sym, take}
use Rattle.shb_lines.specs.declared.fault.Fault.TheVariants as faults
use Rattle.shb_lines.specs.text.Faults.{HasLineFault, number_of}
use Rattle.shb_lines.specs.text.Parsed.{HasRead, lines_read}
use Rattle.shb_lines.specs.text.Stored.{part}
use Rattle.shb_lines.specs.text.Numbers.{events_of}
use Rattle.shb_lines.specs.text.Text.{lines_of}
use Rattle.shb_lines.proofs.text.FirstFault.{HasNoLineFaultBefore-more}
use Rattle.shb_lines.proofs.text.Taken.{taken}
use Rattle.shb_lines.proofs.reader.Reader.take_lines.Goals as goal
use Rattle.shb_lines.specs.Lowest.{IsLowest}

pub returns-in-Some-clause-reading : goal.returns-in-Some-clause-reading
returns-in-Some-clause-reading c =
    let loop = c.loop-start in
    let limits = c.args.limits.now in
    let text = c.args.text.now in
    let end = c.line_end-end.result in
    let lines = take loop.line (lines_of text) in
    let line = taken limits text loop.line loop.start end loop.invariant.begins c.loop-start-test.true c.line_end-end.ensures.within c.line_end-end.ensures.offset loop.invariant.inside in
    let lowest = subst (IsLowest number_of (HasLineFault limits ((limits.text ≤ end) × (limits.text < length text)) (events_of lines) (part text loop.start end))) c.in-Some.is (c.in_ok-fault.ensures.fault lines loop.invariant.read) in (
      loop.line,
      refl,
      record {
        within = line.within;
        lowest = line.lowest (Some c.in-Some.fault) lowest;
        earlier = loop.invariant.faultless;
      },
      subst (λ o. HasRead text c.take_line.new.self (lines_read lines o (part text loop.start end))) c.in-Some.is (c.in_ok-fault.ensures.read lines loop.invariant.read line.number),
    )

pub loop-start-preserved : goal.loop-start-preserved
loop-start-preserved c =
    let loop = c.loop-start in
    let limits = c.args.limits.now in
    let text = c.args.text.now in
    let end = c.line_end-end.result in
    let end_within : end ≤ length text = c.line_end-end.ensures.within in
    let lines = take loop.line (lines_of text) in
    let line = taken limits text loop.line loop.start end loop.invariant.begins c.loop-start-test.true end_within c.line_end-end.ensures.offset loop.invariant.inside in
    let lowest = subst (IsLowest number_of (HasLineFault limits ((limits.text ≤ end) × (limits.text < length text)) (events_of lines) (part text loop.start end))) c.in_default.is (c.in_ok-fault.ensures.fault lines loop.invariant.read) in
    record {
      counted = omega (arith, line.order, loop.invariant.counted);
      within = omega (arith, end_within);
      names = c.in_ok-fault.ensures.names;
      each = c.in_ok-fault.ensures.each;
      begins = line.next;
      read = subst (HasRead text c.take_line.new.self) (sym line.with_it) (subst (λ o. HasRead text c.take_line.new.self (lines_read lines o (part text loop.start end))) c.in_default.is (c.in_ok-fault.ensures.read lines loop.invariant.read line.number));
      faultless = HasNoLineFaultBefore-more limits text loop.line loop.invariant.faultless (line.lowest None lowest);
      inside = λ l. let no : limits.text ≤ end → ⊥ = λ p. lowest faults.TextTooLong (p, l) in omega arith;
    }
