-- What a caller sees of tickets and of a pass.
use Rattle.std.specs.Prelude.{◌≡◌, ℕ, ◌≤◌, Bool, false, ltb, List, []}
use Rattle.std.specs.List.Sorted.{IsStrictlyIncreasing}
use base.Stored.{Coded, coded×, coded_ℕ, coded_list, coded_via}
use Rattle.std.specs.Coded.{coded_bool}
use Rattle.atomic_table.specs.Seated.{TableId, table_id_coded}
use Rattle.atomic_table.specs.declared.shared.Seat.{Seat}
use Rattle.shb_fan.specs.declared.ticket_table.Plan.{Plan}
use Rattle.shb_fan.specs.declared.ticket_table.PassView.{PassView}
use Rattle.shb_fan.specs.Numbers.{weight}

-- which tickets these are, how many numbers they have, and how many passes draw them
pub record TicketSource : Type 0 where
  pub table : TableId
  pub limit : ℕ
  pub passes : ℕ

-- the tickets that made the pass, the numbers that it drew in order, whether it was told that there is no more, whether it has stopped the draw, and whether it has looked for a stop and seen one
pub record PassState : Type 0 where
  pub source : TicketSource
  pub drawn : List ℕ
  pub spent : Bool
  pub halted : Bool
  pub seen : Bool

abbrev pub source_coded : Coded TicketSource
source_coded = coded_via (coded× table_id_coded (coded× coded_ℕ coded_ℕ)) (λ (z : TicketSource). (z.table, (z.limit, z.passes))) (λ x y e i. record { table = (e i).0; limit = (e i).1.0; passes = (e i).1.1 })

abbrev pub pass_coded : Coded PassState
pass_coded = coded_via (coded× source_coded (coded× (coded_list coded_ℕ) (coded× coded_bool (coded× coded_bool coded_bool)))) (λ (z : PassState). (z.source, (z.drawn, (z.spent, (z.halted, z.seen))))) (λ x y e i. record { source = (e i).0; drawn = (e i).1.0; spent = (e i).1.1.0; halted = (e i).1.1.1.0; seen = (e i).1.1.1.1 })

abbrev pub fresh : TicketSource → PassState
fresh z = record { source = z; drawn = []; spent = false; halted = false; seen = false }

abbrev pub source_of : TableId → Plan → TicketSource
source_of z plan = record { table = z; limit = plan.limit; passes = plan.passes }

abbrev pub state_of : Seat (Unit {0}) PassView → Bool → PassState
state_of seat spent = record { source = source_of seat.table_id seat.me.0.plan; drawn = seat.me.0.drawn; spent = spent; halted = ltb 0 seat.me.0.halted; seen = ltb 0 seat.me.0.seen }

-- a pass has one part, holds no slot, its numbers rise, and its flag says whether it is spent
pub record IsPass (seat : Seat (Unit {0}) PassView) (spent : Bool) : Type 0 where
  pub one : seat.me.0.parts ≡ 1
  pub flag : seat.me.0.spent ≡ weight spent
  pub marked : (seat.me.0.halted ≤ 1) × (seat.me.0.seen ≤ 1)
  pub slots : seat.me.1 ≡ []
  pub rising : IsStrictlyIncreasing seat.me.0.drawn
