-- The events before this one were taken.
use Rattle.std.proofs.Common.{◌≡◌}
use Rattle.shb_scan.proofs.Words.{HasTakenTo}
use Rattle.shb_scan.proofs.stored.nearest_races.Given as goal

abbrev pub invariant-loop-e : goal.invariant-loop-e
invariant-loop-e g l = record {
  taken : HasTakenTo l.disciplined.trace.now l.flags l.e l.locations l.nearest;
  form : l.nearest.by_variable ≡ l.by_variable;
}
