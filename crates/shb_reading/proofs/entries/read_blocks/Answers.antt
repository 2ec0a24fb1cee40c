-- Each block is the next one.
use Rattle.std.proofs.Common.{ℕ, List, ◌+◌, ◌-◌, ◌++◌, arith, sym, subst}
use Rattle.shb_reading.proofs.Words.{Form, IsBadFrom, block_forms, bytes_from}
use Rattle.shb_reading.proofs.EntryLemmas.{blocks_more, blocks_left, bad_weaker}
use Rattle.shb_reading.proofs.entries.read_blocks.Goals as goal

pub returns-in_err-entry-clause-bad : goal.returns-in_err-entry-clause-bad
returns-in_err-entry-clause-bad c = λ forms.
    let loop = c.loop-number in
    let text : List ℕ = c.args.text.now in
    let others : List Form = block_forms (loop.number + 1 + 1) (c.args.count - (loop.number + 1)) ++ forms in
    bad_weaker c.from_residual.result c.in_err-entry.field-0.0 _ _ c.from_residual.ensures.1
    (λ n b. loop.invariant.passes forms n (subst (λ (f : List Form). IsBadFrom f loop.at.lines (bytes_from text loop.at) n) (sym (blocks_left loop.number c.args.count forms c.loop-number-test.true)) b))
    (c.in_err-entry.ensures.bad others)

pub loop-number-preserved : goal.loop-number-preserved
loop-number-preserved c =
    let loop = c.loop-number in
    let text : List ℕ = c.args.text.now in record {
      within = omega arith;
      at = c.in_ok-entry.ensures.at;
      read = blocks_more text c.args.at.now loop.at c.read_block.new.at loop.number _ _ _ c.in_ok-entry.entry _ c.in-Ok.ensures.items loop.invariant.read c.in_ok-entry.ensures.read;
      passes = λ forms n b.
          loop.invariant.passes forms n (subst (λ (f : List Form). IsBadFrom f loop.at.lines (bytes_from text loop.at) n) (sym (blocks_left loop.number c.args.count forms c.loop-number-test.true))
          (c.in_ok-entry.ensures.passes (block_forms (loop.number + 1 + 1) (c.args.count - (loop.number + 1)) ++ forms) n b));
    }
