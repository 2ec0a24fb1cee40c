use Rattle.std.proofs.Common.{◌≡◌, flat_map, map, take}
use Rattle.shb_write.proofs.Words.{ends}
use Rattle.shb_write.proofs.pieces.joined.Given as goal

abbrev pub invariant-loop-part : goal.invariant-loop-part
invariant-loop-part l = map ends l.pairs.items ≡ flat_map (λ part. map ends part.items) (take l.part-index l.parts)
