use Rattle.std.proofs.Common.{◌≡◌, ℕ, ◌+◌, List, ap, map, take, subst, sym, ◌∙◌}
use Rattle.shb_judging.proofs.Words.{AreJudged, Block, block_in, first_positions, position_of}
use Rattle.shb_judging.proofs.GoodBlocks.{take_push}
use Rattle.shb_judging.proofs.checking.judge_listed.Goals as goal

pub loop-k-preserved : goal.loop-k-preserved
loop-k-preserved c =
    let trace = c.args.disciplined.now.trace.now in
    let block = block_in c.listed-listed.result in
    let next = take_push c.args.report.now.blocks c.loop-k.k block c.listed-listed.ensures in
    let first : ℕ → List ℕ = λ count. take (count + 1) (map (position_of count) block.schedule) in
    let positions : c.as_slice.result.now ≡ first_positions trace block.schedule = c.as_slice.ensures.value ∙ c.in_ok-set_positions.ensures ∙ ap first c.len.ensures in record {
      judge = c.judge_block.ensures.kept ∙ c.loop-k.invariant.judge;
      judged = subst (λ (blocks : List Block). AreJudged trace blocks c.judge_block.new.judged) (sym next) (c.in_ok-judge_block.ensures.judged _ block.schedule positions c.loop-k.invariant.judged);
    }
