-- Each block is the next one, and is judged.
use Rattle.std.proofs.Common.{◌≡◌, ℕ, List, [], ◌∷◌, ◌+◌, ◌-◌, ◌++◌, ap, arith, map, take, sym, subst, ◌∙◌}
use Rattle.shb_judging.proofs.Words.{AreJudged, Block, Form, IsBadFrom, bad_weaker, block_forms, block_with, blocks_left, bytes_from, first_positions, position_of, taken_more}
use Rattle.shb_judging.proofs.text.judge_blocks.Goals as goal

pub returns-in_err-entry-clause-bad : goal.returns-in_err-entry-clause-bad
returns-in_err-entry-clause-bad c = λ forms.
    let loop = c.loop-number in
    let text : List ℕ = c.args.text.now in
    let others : List Form = block_forms (loop.number + 1 + 1) (c.args.count - (loop.number + 1)) ++ forms in
    bad_weaker c.from_residual-in_err-entry.result c.in_err-entry.field-0.0 _ _ c.from_residual-in_err-entry.ensures.1
    (λ n b. loop.invariant.passes forms n (subst (λ (f : List Form). IsBadFrom f loop.at.lines (bytes_from text loop.at) n) (sym (blocks_left loop.number c.args.count forms c.loop-number-test.true)) b))
    (c.in_err-entry.ensures.bad others)

pub loop-number-preserved : goal.loop-number-preserved
loop-number-preserved c =
    let loop = c.loop-number in
    let text : List ℕ = c.args.text.now in
    let trace = c.args.disciplined.now.trace.now in
    let before = loop.invariant.read in
    let read = c.in_ok-entry.ensures.read in
    let first : ℕ → List ℕ = λ count. take (count + 1) (map (position_of count) read.block.schedule) in
    let kept : c.read_block.new.numbers.items ≡ first c.len.result = read.numbers ∙ ap (λ front. front ++ first c.len.result) c.clear.ensures.items in
    let positions : c.as_slice.result.now ≡ first_positions trace read.block.schedule = c.as_slice.ensures.value ∙ kept ∙ ap first c.len.ensures in
    let same : block_with c.lines_at-lines.result read.block.schedule ≡ read.block = c.lines_at-lines.ensures read.block.schedule ∙ read.entry_is in record {
      within = omega arith;
      judge = c.judge_block.ensures.kept ∙ loop.invariant.judge;
      at = c.in_ok-entry.ensures.at;
      read = record {
        blocks = before.blocks ++ read.block ∷ [];
        taken = taken_more text c.args.at.now loop.at c.read_block.new.at loop.number before.blocks read.block before.taken read.in_grammar read.bytes read.lines;
        are_judged = subst (λ (block : Block). AreJudged trace (before.blocks ++ block ∷ []) c.judge_block.new.judged) same (c.in_ok-judge_block.ensures.judged before.blocks read.block.schedule positions before.are_judged);
      };
      passes = λ forms n b.
          loop.invariant.passes forms n (subst (λ (f : List Form). IsBadFrom f loop.at.lines (bytes_from text loop.at) n) (sym (blocks_left loop.number c.args.count forms c.loop-number-test.true))
          (c.in_ok-entry.ensures.passes (block_forms (loop.number + 1 + 1) (c.args.count - (loop.number + 1)) ++ forms) n b));
    }
