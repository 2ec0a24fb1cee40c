use Rattle.std.proofs.Common.{◌≡◌, map}
use Rattle.std.specs.Prelude.{take}
use Rattle.shb_stamps.proofs.Words.{Latest, is_unknown}
use Rattle.shb_stamps.proofs.settling.flags_of.Given as goal

abbrev pub invariant-loop-latest : goal.invariant-loop-latest
invariant-loop-latest l = l.flags.items ≡ map (λ (latest : Latest). is_unknown latest.write) (take l.latest-index l.table)
