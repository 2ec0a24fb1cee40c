-- A line that is written as it stands.
use Rattle.std.proofs.Common.{ℕ, List, Option, Result, Ok, Err, subst, sym}
use Rattle.std.specs.Prelude.{OnOk, OnErr}
use Rattle.shb_judging.proofs.Words.{Appends, BadCounts, BadPlaces, Verdict, verdict_bytes}
use Rattle.shb_io.specs.Devices.{AppendsPrefix, Writes}
use Rattle.shb_judging.proofs.verdict.verdict_line.Goals as goal

writes_by : {T E : Type 0} (old new : Option (List ℕ)) (r : Result T E) (bytes : List ℕ) → OnOk r (Appends old new bytes) → OnErr r (AppendsPrefix old new bytes) → Writes old new r bytes
writes_by old new (Ok x) bytes ok err = ok
writes_by old new (Err e) bytes ok err = err

pub returns-in-BadCounts-clause-written : goal.returns-in-BadCounts-clause-written
returns-in-BadCounts-clause-written g c =
    let write = c.write_all in
    let old = g.S.Sink.taken c.args.sink.now in
    let new = g.S.Sink.taken write.new.sink in
    subst (λ (v : Verdict). Writes old new write.result (verdict_bytes v)) (sym c.in-BadCounts.is) (writes_by old new write.result (verdict_bytes BadCounts) write.ensures.ok write.ensures.err)

pub returns-in-BadPlaces-clause-written : goal.returns-in-BadPlaces-clause-written
returns-in-BadPlaces-clause-written g c =
    let write = c.write_all-in-BadPlaces in
    let old = g.S.Sink.taken c.args.sink.now in
    let new = g.S.Sink.taken write.new.sink in
    subst (λ (v : Verdict). Writes old new write.result (verdict_bytes v)) (sym c.in-BadPlaces.is) (writes_by old new write.result (verdict_bytes BadPlaces) write.ensures.ok write.ensures.err)
