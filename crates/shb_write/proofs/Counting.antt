-- The events of races are events of the trace.
use Rattle.std.proofs.Common.{◌≡◌, ℕ, zero, suc, ◌<◌, List, [], ◌∷◌, length, map, All, arith}
use Rattle.shb_write.proofs.Words.{All-nil, AreRaces, Event, IsPairOf, IsRaceOf, Pair, TraceData, ends, race_of_trace}

pub pairs_in_range : (trace : TraceData) (events : List Event) (races : List Pair) → events ≡ trace.events → AreRaces events races → All (IsPairOf trace) races
pairs_in_range trace events races same are k d lt = let both = race_of_trace trace events _ _ same (are k d lt) in record { first = both.0; second = both.1 }

-- the pairs of such races
pub pairs_of_trace : (trace : TraceData) (pairs : List Pair) → All (IsRaceOf trace) (map ends pairs) → All (IsPairOf trace) pairs
pairs_of_trace trace [] are k d lt = All-nil (IsPairOf trace) k d lt
pairs_of_trace trace (pair ∷ pairs) are zero d lt = let both = are 0 (ends d) (omega arith) in record { first = both.0; second = both.1 }
pairs_of_trace trace (pair ∷ pairs) are (suc k) d lt = pairs_of_trace trace pairs (λ j e l. are (suc j) e (omega arith)) k d (omega arith)
