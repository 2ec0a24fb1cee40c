-- Lines are taken up to the next event, which is noted.
use Rattle.std.proofs.Common.{◌++◌, refl, sym, subst}
use Rattle.shb_scan.proofs.Words.{HasTaken, Scan}
use Rattle.shb_scan.proofs.Taking.{count_of, next_of}
use Rattle.shb_scan.proofs.reading.Scan.advance.Goals as goal

pub returns-clause-stepped : goal.returns-clause-stepped
returns-clause-stepped g c = λ read lines h.
    let before = g.S.Source.remaining c.args.source.now in
    let left = g.S.Source.remaining c.next_event.new.source in
    let old : Scan = c.args.self.now in
    let mid : Scan = record { reader = c.next_event.new.self; locations = old.locations; state = old.state; nearest = old.nearest } in
    let taken = c.in_ok-taken.ensures.taken read lines (subst (λ l. HasTaken l read lines before old.reader) (sym c.requires.limits) h.taken) in
    let next = next_of read taken.0 lines taken.1 before left old mid c.args.limits.now c.in_ok-taken.taken h c.requires.limits taken.3 taken.4 c.in_ok-taken.ensures.within c.in_ok-taken.ensures.nothing refl refl refl in
    (taken.0, taken.2, c.take.ensures.stepped (read ++ taken.0) (lines ++ taken.1) left old.reader.numbering.events next (count_of read lines taken.1 before old h taken.3))
