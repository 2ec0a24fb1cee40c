use Rattle.std.proofs.Common.{◌≡◌, map}
use Rattle.std.specs.Prelude.{take}
use Rattle.shb_links.proofs.Words.{is_several}
use Rattle.shb_links.proofs.sharing.flags_of.Given as goal

abbrev pub invariant-loop-owner : goal.invariant-loop-owner
invariant-loop-owner l = l.flags.items ≡ map is_several (take l.owner-index l.owners)
