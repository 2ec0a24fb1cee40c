-- Defaults were put after the list.
use Rattle.std.proofs.Common.{◌≡◌, ◌+◌, ◌-◌, ℕ, get_or}
use Rattle.std.specs.Prelude.{vec_len}
use Rattle.shb_lines.proofs.growing.put.Given as goal

abbrev pub invariant-loop-default : goal.invariant-loop-default
invariant-loop-default g l = (k : ℕ) → get_or l.items.items k l.default ≡ get_or l.fn.items.items k l.default

abbrev pub decreases-loop-default : goal.decreases-loop-default
decreases-loop-default g l = l.at + 1 - vec_len l.items
