-- The three lines, one after another.
use Rattle.std.proofs.Common.{◌++◌, codes}
use Rattle.shb_format.proofs.Words.{labelled_line, place_line}
use Rattle.shb_format.proofs.writing.HeldLemmas.{Puts-as, Puts-err, Puts-second_failed, Puts-three, PutsPrefix-front}
use Rattle.shb_format.proofs.writing.PlaceText.{place_pieces}
use Rattle.shb_format.proofs.writing.place_writer.put_place.Goals as goal

pub returns-in_err-put_place_line-clause-put : goal.returns-in_err-put_place_line-clause-put
returns-in_err-put_place_line-clause-put g c =
    let line = place_line c.args.number c.args.count ++ codes "\n" in
    let rest = labelled_line (codes "at ") c.args.first.now ++ labelled_line (codes "and ") c.args.second.now in
    Puts-as _ _ _ c.args.held.now _ _ _ (place_pieces c.args.number c.args.count c.args.first.now c.args.second.now)
    (Puts-err _ _ _ _ c.args.held.now _ _ c.from_residual.ensures.1 (PutsPrefix-front _ _ c.args.held.now line rest c.in_err-put_place_line.ensures.put))

pub returns-in_err-put_line-clause-put : goal.returns-in_err-put_line-clause-put
returns-in_err-put_line-clause-put g c =
    let line = place_line c.args.number c.args.count ++ codes "\n" in
    let first = labelled_line (codes "at ") c.args.first.now in
    let second = labelled_line (codes "and ") c.args.second.now in
    Puts-as _ _ _ c.args.held.now _ _ _ (place_pieces c.args.number c.args.count c.args.first.now c.args.second.now)
    (Puts-second_failed _ _ _ _ _ c.args.held.now _ _ line first second c.from_residual-in_err-put_line.ensures.1 c.in_ok-put_place_line.ensures.put c.in_err-put_line.ensures.put)

pub returns-clause-put : goal.returns-clause-put
returns-clause-put g c =
    let line = place_line c.args.number c.args.count ++ codes "\n" in
    let first = labelled_line (codes "at ") c.args.first.now in
    let second = labelled_line (codes "and ") c.args.second.now in
    Puts-as _ _ _ c.args.held.now _ _ _ (place_pieces c.args.number c.args.count c.args.first.now c.args.second.now)
    (Puts-three _ _ _ _ _ c.args.held.now _ _ _ line first second c.in_ok-put_place_line.ensures.put c.in_ok-put_line.ensures.put c.put_line-2.ensures.put)
