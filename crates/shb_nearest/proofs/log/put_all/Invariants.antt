-- The accesses before the index came, and those of other variables stay.
use Rattle.std.proofs.Common.{◌≤◌, ℕ, List, length, take}
use Rattle.std.specs.Prelude.{reverse}
use Rattle.shb_nearest.proofs.Words.{IsChain, Late}
use Rattle.shb_nearest.proofs.log.put_all.Given as goal

abbrev pub invariant-loop-late : goal.invariant-loop-late
invariant-loop-late l = (length l.entries.items ≤ 4294967295 → IsChain l.entries.items l.newest (reverse (take l.late-index l.accesses)))
    × ((place : ℕ) (late : List Late) → IsChain l.fn.entries.items place late → length l.entries.items ≤ 4294967295 → IsChain l.entries.items place late)
    × (length l.fn.entries.items ≤ length l.entries.items)
