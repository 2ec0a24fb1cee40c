use Rattle.std.proofs.Common.{◌*◌, ◌≤◌, length}
use Rattle.shb_format.proofs.Words.{HasNumbers}
use Rattle.shb_format.proofs.writing.number_texts.NumberTexts.of_first.Given as goal

abbrev pub invariant-loop-event : goal.invariant-loop-event
invariant-loop-event l = record {
  texts : HasNumbers l.event l.text.items l.starts.items;
  short : length l.text.items ≤ 21 * l.event;
}
