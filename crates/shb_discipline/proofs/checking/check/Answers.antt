use Rattle.std.proofs.Common.{◌≤◌, length, sym, subst}
use Rattle.shb_lines.specs.events.Discipline.{IsDisciplined}
use Rattle.shb_lines.specs.events.Sizes.{IsNumberedByAccess, IsWithin}
use Rattle.shb_lines.specs.text.Limits.{most_events}
use Rattle.shb_discipline.specs.Faults.{IsFirstIfAny}
use Rattle.shb_discipline.proofs.checking.check.Goals as goal

pub invariant_of-result-clause-few : goal.invariant_of-result-clause-few
invariant_of-result-clause-few c = subst (λ es. length es ≤ most_events) (sym c.events-events.ensures.value) c.events-events.ensures.few

pub invariant_of-result-clause-within : goal.invariant_of-result-clause-within
invariant_of-result-clause-within c = subst (λ es. IsWithin es c.sizes-sizes.result) (sym c.events-events.ensures.value) (subst (IsWithin c.args.trace.now.events) (sym c.sizes-sizes.ensures) c.events-events.ensures.within)

pub invariant_of-result-clause-numbered : goal.invariant_of-result-clause-numbered
invariant_of-result-clause-numbered c = subst IsNumberedByAccess (sym c.events-events.ensures.value) c.events-events.ensures.numbered

pub invariant_of-result-clause-meets : goal.invariant_of-result-clause-meets
invariant_of-result-clause-meets c = subst (IsFirstIfAny c.events-events.result.now) c.in-None.is c.in_ok-first_fault.ensures

pub returns-in-None-clause-disciplined : goal.returns-in-None-clause-disciplined
returns-in-None-clause-disciplined c = subst IsDisciplined c.events-events.ensures.value (subst (IsFirstIfAny c.events-events.result.now) c.in-None.is c.in_ok-first_fault.ensures)
