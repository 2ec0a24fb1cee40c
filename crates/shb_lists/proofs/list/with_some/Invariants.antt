use Rattle.std.proofs.Common.{◌≡◌, take}
use Rattle.shb_lists.specs.Given.{racing}
use Rattle.shb_lists.proofs.list.with_some.Given as goal

abbrev pub invariant-loop-access : goal.invariant-loop-access
invariant-loop-access l = l.some.items ≡ racing (take l.access-index l.list)
