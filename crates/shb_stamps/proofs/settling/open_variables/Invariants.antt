use Rattle.std.proofs.Common.{◌≡◌}
use Rattle.shb_stamps.proofs.Words.{AreScreened}
use Rattle.shb_stamps.proofs.settling.open_variables.Given as goal

abbrev pub invariant-loop-e : goal.invariant-loop-e
invariant-loop-e l = record {
  next : l.sweep ≡ record { trace = l.disciplined.events.now; next = l.e };
  screened : AreScreened l.disciplined.events.now l.e l.disciplined.sizes.variables l.table.items;
}
