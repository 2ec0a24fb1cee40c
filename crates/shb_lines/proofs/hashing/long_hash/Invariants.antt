-- A whole number of blocks is mixed in.
use Rattle.std.specs.Prelude.{◌≡◌, ◌-◌, ◌/◌, ◌%◌, ◌<◌}
use Rattle.shb_lines.specs.text.Hashing.{with_blocks}
use Rattle.shb_lines.proofs.hashing.long_hash.Given as goal

abbrev pub invariant-loop-at : goal.invariant-loop-at
invariant-loop-at l = (l.at % 16 ≡ 0) × (l.at < l.len) × (l.mixed ≡ with_blocks l.bytes l.fn.key l.fn.state (l.at / 16))

abbrev pub decreases-loop-at : goal.decreases-loop-at
decreases-loop-at l = l.len - l.at
