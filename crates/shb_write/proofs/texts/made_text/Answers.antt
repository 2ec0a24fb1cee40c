use Rattle.std.proofs.Common.{◌∙◌, All, ap, map, subst, sym}
use Rattle.shb_write.proofs.Words.{IsRaceOf, ends}
use Rattle.shb_write.proofs.Counting.{pairs_of_trace}
use Rattle.shb_write.proofs.texts.made_text.Goals as goal

pub write_listed-requires-clause-in_range : goal.write_listed-requires-clause-in_range
write_listed-requires-clause-in_range c =
    pairs_of_trace c.args.trace.now c.deref.result.now (subst (All (IsRaceOf c.args.trace.now)) (sym (ap (map ends) c.deref.ensures.value ∙ c.in_ok-pairs.ensures.ends)) c.requires.in_range)
