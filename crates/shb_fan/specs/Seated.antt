-- What a caller knows of a ring and its seats.
use Rattle.std.specs.Prelude.{◌≡◌, ℕ, ◌%◌, ◌^◌, ◌≤◌, List, [], ◌∷◌, Option}
use Rattle.atomic_table.specs.Seated.{TableId}
use Rattle.shb_fan.specs.declared.shares.Ring.{Ring}
use Rattle.shb_fan.specs.declared.shares.Seat.{Seat}
use Rattle.shb_fan.specs.Values.{values_of}

module _ {T M J : Type 0} where
  abbrev pub job_of : Ring T M J → J
  job_of ring = ring.table.shared.key

module _ {T M : Type 0} where
  -- the piece that the seat has claimed and has not placed, if any
  abbrev pub claimed_of : Seat T M → List ℕ
  claimed_of seat = seat.place.me.0.claimed

  -- the pieces that the seat has placed, in order
  abbrev pub placed_of : Seat T M → List ℕ
  placed_of seat = seat.place.me.0.placed

  -- the pieces that the seat has lifted, in order
  abbrev pub lifted_of : Seat T M → List ℕ
  lifted_of seat = seat.place.me.0.lifted

  -- a seat of this table, with the values of all pieces, and with the slot of the piece that it has claimed
  pub record Sits (table : TableId) (wanted : List M) (seat : Seat T M) : Type 0 where
    pub same_table : seat.place.table_id ≡ table
    pub same_values : seat.place.me.0.wanted ≡ wanted
    pub one : seat.place.me.0.parts ≡ 1
    pub lifts_none : seat.place.me.0.lifting ≡ []
    pub free : claimed_of seat ≡ [] → seat.place.me.1 ≡ []
    pub holding : (k : ℕ) → claimed_of seat ≡ k ∷ [] → (x : Option T) × (seat.place.me.1 ≡ (k % 64, x) ∷ [])

module _ {T M J : Type 0} (value : J → ℕ → M) (count : J → ℕ) where
  -- the ring's `new` made the seat
  abbrev pub IsSeatOf : Ring T M J → Seat T M → Type 0
  IsSeatOf ring seat = (count (job_of ring) ≤ 2 ^ 60) × Sits ring.table.shared.table_id (values_of (value (job_of ring)) (count (job_of ring))) seat

  -- and it has claimed, placed and lifted nothing
  abbrev pub IsNewSeat : Ring T M J → Seat T M → Type 0
  IsNewSeat ring seat = IsSeatOf ring seat × (claimed_of seat ≡ []) × (placed_of seat ≡ []) × (lifted_of seat ≡ [])
