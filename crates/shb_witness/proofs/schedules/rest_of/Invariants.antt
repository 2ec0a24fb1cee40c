use Rattle.std.proofs.Common.{ℕ}
use Rattle.std.specs.Prelude.{Contains, ◌↔◌}
use Rattle.shb_witness.proofs.Words.{IsRest}
use Rattle.shb_witness.proofs.schedules.rest_of.Given as goal

abbrev pub invariant-loop-thread : goal.invariant-loop-thread
invariant-loop-thread l = (k : ℕ) → Contains l.rest.items k ↔ IsRest l.fn.threads l.fn.cuts l.fn.front l.thread k
