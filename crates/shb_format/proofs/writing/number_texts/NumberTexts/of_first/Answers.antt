use Rattle.std.proofs.Common.{arith}
use Rattle.shb_format.proofs.writing.RunTexts.{numbers-pushed}
use Rattle.shb_format.proofs.writing.number_texts.NumberTexts.of_first.Goals as goal

pub loop-event-preserved : goal.loop-event-preserved
loop-event-preserved c = record {
  texts = numbers-pushed c.loop-event.event _ c.loop-event.text.items c.loop-event.starts.items _ _ c.loop-event.invariant.texts c.in_ok-push_event.ensures.text c.in_ok-push-2.ensures.items (omega (arith, c.len.ensures, c.push_event.new.text.ok.0));
  short = omega (arith, c.loop-event.invariant.short, c.in_ok-push_event.ensures.short);
}
