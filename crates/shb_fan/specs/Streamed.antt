-- What a taker was given.
use Rattle.std.specs.Prelude.{◌≡◌, ℕ, ◌+◌, ◌<◌, ◌≤◌, ◌⊎◌, Bool, false, IsTrue, All, Any, sum_by, List, [], ◌∷◌, map, Result, Ok, Err}
use Rattle.shb_fan.specs.declared.shares.Ring.{Ring}
use Rattle.shb_fan.specs.declared.shares.Seat.{Seat}
use Rattle.shb_fan.specs.declared.crew.Worker.{Worker}
use Rattle.shb_fan.specs.declared.streaming.Shared.{Shared}
use Rattle.shb_fan.specs.declared.taker.StreamError.{StreamError}
use Rattle.shb_fan.specs.declared.taker.StreamError.TheVariants.{Memory, Taker}
use Rattle.shb_fan.specs.Values.{values_of}
use Rattle.shb_fan.specs.Passes.{TicketSource, PassState, fresh}
use Rattle.shb_fan.specs.Numbers.{times}
use Rattle.shb_fan.specs.Seated.{IsSeatOf, IsNewSeat, job_of, claimed_of, placed_of, lifted_of}

-- the number was drawn, and its piece isn't placed
abbrev pub IsOwed : List ℕ → List ℕ → ℕ → Type 0
IsOwed drawn placed k = (0 < times k drawn) × (times k placed ≡ 0)

-- only pieces that were drawn are placed, and where the draw was stopped some piece that was drawn isn't placed
pub record Accounts (drawn placed : List ℕ) (halted : Bool) : Type 0 where
  pub within : (k : ℕ) → times k placed ≤ times k drawn
  pub owed : IsTrue halted → (k : ℕ) × IsOwed drawn placed k

module _ {T M : Type 0} where
  -- of what a worker's pass drew and its seat placed
  abbrev pub HasAccounts : Worker T M → Type 0
  HasAccounts worker = Accounts worker.pass.drawn (placed_of worker.seat) worker.pass.halted

  -- what the worker drew is placed but for these pieces: each number was drawn as often as it was placed and stands among these
  abbrev pub HasPlacedAllBut : Worker T M → List ℕ → Type 0
  HasPlacedAllBut worker kept = (k : ℕ) → times k worker.pass.drawn ≡ times k (placed_of worker.seat) + times k kept

  -- the pass has not stopped the draw, and has seen no stop
  abbrev pub IsRunning : Worker T M → Type 0
  IsRunning worker = (worker.pass.halted ≡ false) × (worker.pass.seen ≡ false)

  -- the pass has stopped the draw, or has seen that it is stopped
  abbrev pub KnowsStop : Worker T M → Type 0
  KnowsStop worker = IsTrue worker.pass.halted ⊎ IsTrue worker.pass.seen

  -- the pass was told that there is no more, and all that it drew is placed; or it knows a stop
  abbrev pub HasEnded : Worker T M → Type 0
  HasEnded worker = (IsTrue worker.pass.spent × HasPlacedAllBut worker []) ⊎ KnowsStop worker

  -- the seat has lifted each of the first pieces
  abbrev pub HasLifted : Worker T M → ℕ → Type 0
  HasLifted worker count = (k : ℕ) → k < count → 0 < times k (lifted_of worker.seat)

  -- no piece was placed more often than it was drawn, and where a pass stopped the draw some piece was placed less often
  pub record Balanced (passes : List PassState) (seats : List (Seat T M)) : Type 0 where
    pub within : (k : ℕ) → sum_by (λ s. times k (placed_of s)) seats ≤ sum_by (λ p. times k p.drawn) passes
    pub owed : Any (λ p. IsTrue p.halted) passes → (k : ℕ) × (sum_by (λ s. times k (placed_of s)) seats < sum_by (λ p. times k p.drawn) passes)

module _ {T M J : Type 0} (value : J → ℕ → M) (count : J → ℕ) where
  -- a worker of these tickets and this ring that has claimed nothing
  abbrev pub IsIdle : TicketSource → Ring T M J → Worker T M → Type 0
  IsIdle tickets ring worker = (worker.pass.source ≡ tickets) × IsSeatOf value count ring worker.seat × (claimed_of worker.seat ≡ [])

  -- and whose accounts are in order
  abbrev pub HasWorked : TicketSource → Ring T M J → Worker T M → Type 0
  HasWorked tickets ring worker = IsIdle tickets ring worker × HasAccounts worker

  -- and that knows no stop, and has placed all that it drew
  abbrev pub CanBegin : TicketSource → Ring T M J → Worker T M → Type 0
  CanBegin tickets ring worker = HasWorked tickets ring worker × IsRunning worker × HasPlacedAllBut worker []

  -- a worker that has drawn, placed and stopped nothing
  abbrev pub IsNew : TicketSource → Ring T M J → Worker T M → Type 0
  IsNew tickets ring worker = (worker.pass ≡ fresh tickets) × IsNewSeat value count ring worker.seat

  -- passes and seats that have come back from workers, or were never given out
  pub record AreBack (tickets : TicketSource) (ring : Ring T M J) (passes : List PassState) (seats : List (Seat T M)) : Type 0 where
    pub our_passes : All (λ p. p.source ≡ tickets) passes
    pub our_seats : All (λ s. IsSeatOf value count ring s × (claimed_of s ≡ [])) seats
    pub balanced : Balanced passes seats

module _ {T M J G : Type 0} (value : J → ℕ → M) (count : J → ℕ) where
  -- the tickets and the ring are those of the job's pieces
  pub record IsShared (shared : Shared T M J G) : Type 0 where
    pub ring : job_of shared.desk.now.ring ≡ shared.gated.job.now
    pub tickets : shared.desk.now.tickets.limit ≡ count shared.gated.job.now
    pub pieces : shared.pieces ≡ count shared.gated.job.now

  -- the worker is one of these, has claimed nothing, and its accounts are in order
  abbrev pub CanWork : Shared T M J G → Worker T M → Type 0
  CanWork shared worker = IsShared shared × HasWorked value count shared.desk.now.tickets shared.desk.now.ring worker

  -- the worker may draw, since it has placed all that it drew
  abbrev pub CanDraw : Shared T M J G → Worker T M → Type 0
  CanDraw shared worker = CanWork shared worker × HasPlacedAllBut worker []

  -- the worker may run and place piece k, which it drew, and has placed all others that it drew
  abbrev pub CanMake : Shared T M J G → Worker T M → ℕ → Type 0
  CanMake shared worker k = CanWork shared worker × IsRunning worker × IsOwed worker.pass.drawn (placed_of worker.seat) k × HasPlacedAllBut worker (k ∷ [])

  -- the worker may lift, and draw and make what nobody has drawn
  abbrev pub CanTake : Shared T M J G → Worker T M → Type 0
  CanTake shared worker = IsShared shared × CanBegin value count shared.desk.now.tickets shared.desk.now.ring worker

module _ {T M : Type 0} (meaning : T → M) (value : ℕ → M) where
  -- the results of the pieces below k, in order
  abbrev pub AreFirst : ℕ → List T → Type 0
  AreFirst k given = map meaning given ≡ values_of value k

  -- the taker may be given the result of each piece after those of the pieces below it
  abbrev pub MayTake : {K : Type 0} → (K → List T → T → Type 0) → ℕ → K → Type 0
  MayTake may_take count start = (k : ℕ) (given : List T) (out : T) → k < count → AreFirst k given → meaning out ≡ value k → may_take start given out

  -- the taker was given the results of the pieces below k in order
  abbrev pub HasTaken : {K : Type 0} → (K → List T → K → Type 0) → K → ℕ → K → Type 0
  HasTaken takes start k end = (given : List T) × AreFirst k given × takes start given end

  -- and then refused that of piece k with the answer e
  abbrev pub HasRefused : {K E : Type 0} → (K → List T → T → E → K → Type 0) → K → ℕ → E → K → Type 0
  HasRefused refuses start k e end = (given : List T) × (out : T) × AreFirst k given × (meaning out ≡ value k) × refuses start given out e end

  abbrev pub Ended : {K E A : Type 0} → (K → List T → K → Type 0) → (K → List T → T → E → K → Type 0) → ℕ → K → Result A (StreamError E) → K → Type 0
  Ended takes refuses count start (Ok _) end = HasTaken takes start count end
  Ended takes refuses count start (Err (Memory _)) end = (k : ℕ) × (k ≤ count) × HasTaken takes start k end
  Ended takes refuses count start (Err (Taker e)) end = (k : ℕ) × (k < count) × HasRefused refuses start k e end
