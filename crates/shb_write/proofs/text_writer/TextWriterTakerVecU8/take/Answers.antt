use Rattle.std.proofs.Common.{◌+◌, ◌∙◌, ap, refl, subst}
use Rattle.shb_write.proofs.Words.{AppendsPrefix}
use Rattle.shb_write.proofs.TextLemmas.{text_cut}
use Rattle.shb_write.proofs.text_writer.TextWriterTakerVecU8.take.Goals as goal

pub returns-clause-refused : goal.returns-clause-refused
returns-clause-refused g c start given long has may = record {
  same_sink = has.same_sink;
  front = text_cut _ _ _ given c.args.text has.appended (subst (AppendsPrefix _ _) c.as_slice.ensures.value c.in-Err.ensures.err);
  counted = c.in-Err.ensures.counted ∙ ap (λ n. n + 1) has.counted;
  named = refl;
}
