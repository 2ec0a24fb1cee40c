-- The entries that are left give what all give.
use Rattle.std.proofs.Common.{◌≡◌, ◌≤◌, length, take}
use Rattle.shb_lines.specs.text.Stored.{lines_before}
use Rattle.shb_lines.proofs.stored.lines_before.Given as goal

abbrev pub invariant-loop-rest : goal.invariant-loop-rest
invariant-loop-rest l = record {
  within : l.rest ≤ length l.skipped;
  same : lines_before (take l.rest l.skipped) l.k ≡ lines_before l.skipped l.k;
}

abbrev pub decreases-loop-rest : goal.decreases-loop-rest
decreases-loop-rest l = l.rest
