-- The event and its spot are noted.
use Rattle.std.proofs.Common.{◌++◌, ◌∷◌, [], refl, sym, subst, arith}
use Rattle.shb_scan.proofs.Words.{HasSearched, IsStateAfter, event_of, strip_carriage_return}
use Rattle.shb_scan.proofs.Noted.{noted_more, on_ok}
use Rattle.shb_scan.proofs.Pushes.{disciplined_push}
use Rattle.shb_scan.proofs.reading.Scan.note.Goals as goal

pub returns-clause-noted : goal.returns-clause-noted
returns-clause-noted c = λ trace spots tables line h may few.
    let event = event_of c.args.step line in
    let state = subst (IsStateAfter (trace.events ++ event ∷ [])) (sym c.in_ok-spot.ensures.state) (c.in_ok-note.ensures trace.events event refl refl (omega (arith, few)) may h.state_is) in
    on_ok c.take.result (λ searched. (
      c.in_ok-spot.spot,
      noted_more trace tables c.args.step line (strip_carriage_return c.args.self.now.reader.lines.line) spots c.in_ok-spot.spot c.args.self.now.locations c.spot.new.self.locations
          c.args.self.now.locations c.spot.new.self.locations c.args.self.now.state c.spot.new.self.state c.args.self.now.nearest c.take.new.self h may refl refl state searched c.in_ok-spot.ensures.spot,
    ))
    (c.take.ensures.searched trace.events spots event refl refl (omega (arith, few)) (disciplined_push trace.events event h.disciplined may) (subst (HasSearched trace.events spots) (sym c.in_ok-spot.ensures.nearest) h.searched))
