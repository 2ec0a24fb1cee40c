-- What each of the things that can be taken gives.
use Rattle.std.proofs.Common.{Err, sym, subst}
use Rattle.shb_scan.proofs.Words.{IsNext, IsStepped, ScanError}
use Rattle.shb_scan.proofs.Taking.{end_next, fault_next, nothing_next, step_next, undisciplined_next}
use Rattle.shb_scan.proofs.reading.Scan.take.Goals as goal

pub returns-in-Nothing-clause-stepped : goal.returns-in-Nothing-clause-stepped
returns-in-Nothing-clause-stepped c = λ read lines left before h count. nothing_next read lines left c.args.self.now (subst (IsNext read lines left c.args.self.now) c.in-Nothing.is h)

pub returns-in-Fault-clause-stepped : goal.returns-in-Fault-clause-stepped
returns-in-Fault-clause-stepped c = λ read lines left before h count.
    subst (λ (e : ScanError). IsStepped read left before c.args.self.now (Err e)) (sym c.refused.ensures) (fault_next read lines left c.args.self.now c.in-Fault.fault (subst (IsNext read lines left c.args.self.now) c.in-Fault.is h))

pub returns-in-End-clause-stepped : goal.returns-in-End-clause-stepped
returns-in-End-clause-stepped c = λ read lines left before h count. end_next read lines left c.args.self.now (subst (IsNext read lines left c.args.self.now) c.in-End.is h)

pub returns-in-Some-clause-stepped : goal.returns-in-Some-clause-stepped
returns-in-Some-clause-stepped c = λ read lines left before h count.
    subst (λ (e : ScanError). IsStepped read left before c.args.self.now (Err e)) (sym c.refused-in-Some.ensures)
    (undisciplined_next read lines left c.args.self.now c.in-Step.step (subst (IsNext read lines left c.args.self.now) c.in-Step.is h) c.in-Some.fault c.in-Some.ensures)

pub returns-in_ok-note-in-Step-clause-stepped : goal.returns-in_ok-note-in-Step-clause-stepped
returns-in_ok-note-in-Step-clause-stepped c = λ read lines left before h count.
    step_next read lines left c.args.self.now c.in-Step.step (subst (IsNext read lines left c.args.self.now) c.in-Step.is h) c.note.new.self before count c.in_ok-note-in-Step.ensures.reader c.in_default.ensures c.in_ok-note-in-Step.ensures.noted
