-- One more block, and after the last one the end.
use Rattle.std.proofs.Common.{◌≡◌, ℕ, suc, ◌+◌, ◌-◌, ◌*◌, ◌/◌, length, arith, refl}
use Rattle.shb_lines.specs.text.Hashing.{long_hash, with_blocks}
use Rattle.shb_lines.proofs.hashing.long_hash.Goals as goal

pub loop-at-init : goal.loop-at-init
unfolding with_blocks
loop-at-init c = (refl, omega (arith, c.requires), refl)

pub loop-at-preserved : goal.loop-at-preserved
unfolding with_blocks
loop-at-preserved c =
    let at : ℕ = c.loop-at.at in
    let whole : at ≡ 16 * (at / 16) = omega (arith, c.loop-at.invariant.0) in
    let more : (at + 16) / 16 ≡ suc (at / 16) = omega arith in (
      omega (arith, c.loop-at.invariant.0),
      omega (arith, c.loop-at-test.true),
      rw (more, c.with_words-mixed.ensures, ← c.loop-at.invariant.2, ← whole),
    )

pub returns : goal.returns
unfolding long_hash
returns c =
    let n : ℕ = length c.args.bytes.now in
    let count : (n - 1) / 16 ≡ c.loop-at.at / 16 = omega (arith, c.loop-at.invariant.0, c.loop-at.invariant.1, c.loop-at-test.false) in
    rw (count, ← c.loop-at.invariant.2, c.with_words.ensures)
