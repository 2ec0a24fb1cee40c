-- One block more was judged.
use Rattle.std.proofs.Common.{sym, ◌∙◌, refl}
use Rattle.shb_judging.proofs.Words.{block_with}
use Rattle.shb_judging.proofs.JudgedBlocks.{bad_before, first_bad, none_bad}
use Rattle.shb_judging.proofs.judged.judge_block.Goals as goal

pub returns-then-is_some-clause-judged : goal.returns-then-is_some-clause-judged
returns-then-is_some-clause-judged c = λ blocks numbers same h.
    bad_before c.args.disciplined.now.trace.now blocks (block_with c.args.listed numbers) c.args.judged.now (sym c.is_some.ensures ∙ c.if-is_some.true) h

pub returns-in-Err-clause-judged : goal.returns-in-Err-clause-judged
returns-in-Err-clause-judged c = λ blocks numbers same h.
    let trace = c.args.disciplined.now.trace.now in
    let judged = c.args.judged.now in
    first_bad trace blocks (block_with c.args.listed numbers) judged _ c.in-Err.why (none_bad judged.bad (sym c.is_some.ensures ∙ c.if-is_some.false)) refl refl (c.in-Err.ensures.fault numbers same) h
