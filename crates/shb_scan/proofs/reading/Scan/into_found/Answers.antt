use Rattle.std.specs.Prelude.{All}
use Rattle.shb_scan.proofs.Words.{AreKeyed, FoundRace, IsDistinct, IsRaceLocated, TraceData, bytes_eq, places_in}
use Rattle.std.proofs.Common.{ℕ, List, refl, subst}
use Rattle.shb_scan.proofs.Places.{found_in}
use Rattle.shb_scan.proofs.reading.Scan.into_found.Goals as goal

pub returns-clause-found : goal.returns-clause-found
returns-clause-found g c = λ text left h. found_in text left c.args.self _ h refl refl c.requires c.in_ok-races.ensures
    (subst (λ (items : List FoundRace). (trace : TraceData) (locations : List (List ℕ)) → IsDistinct bytes_eq locations → All (IsRaceLocated locations trace) items → AreKeyed locations c.in_ok-places.places (places_in trace items))
    c.as_slice.ensures.value c.in_ok-places.ensures)
