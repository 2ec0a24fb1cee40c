use Rattle.std.proofs.Common.{◌≡◌, ℕ, false, length, arith, subst}
use Rattle.shb_stamps.proofs.Words.{AreListedRows}
use Rattle.shb_stamps.proofs.ListedLemmas.{rising_order}
use Rattle.shb_stamps.proofs.listed_rows.listed_rows.Goals as goal

pub loop-at-init : goal.loop-at-init
loop-at-init c = record {
  before = c.in_ok-clocks.ensures.before c.args.linked.now.events.now false;
  passed = λ i low lt. omega arith;
  kept = c.new-kept.ensures c.args.linked.now.events.now c.args.events.now;
}

pub loop-at-preserved : goal.loop-at-preserved
loop-at-preserved c = record {
  before = c.in_ok-pass_up_to.ensures;
  passed = λ i low lt. rising_order c.args.events.now c.requires.rising c.loop-at.at i 0 (omega (arith, low)) lt;
  kept = c.in_ok-note_listed.ensures;
}

pub returns : goal.returns
returns c =
    let past = c.loop-at-test.false in
    let within = c.loop-at.auto.at-end in
    let same : c.loop-at.at ≡ length c.args.events.now = omega (arith, past, within) in
    subst (λ (n : ℕ). AreListedRows c.args.linked.now.events.now c.args.events.now n c.loop-at.kept) same c.loop-at.invariant.kept
