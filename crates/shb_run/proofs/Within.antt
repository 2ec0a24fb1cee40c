-- The races of a list are races of the trace.
use Rattle.std.proofs.Common.{◌≡◌, ℕ, ◌<◌, List, All, length, map, refl}
use Rattle.shb_run.proofs.Words.{Event, Pair, Race, TraceData, ends, pairs_race, race_of_trace}

-- the later event of each is an event
pub seconds_within : (trace : TraceData) (events : List Event) (pairs : List Pair) → events ≡ trace.events → All (λ race. Race events race.0 race.1) (map ends pairs) → All (λ (pair : Pair). pair.second < length events) pairs
seconds_within trace events pairs same are k d lt = rw same ((race_of_trace trace events _ _ same (pairs_race events pairs (map ends pairs) refl are k d lt)).1)
