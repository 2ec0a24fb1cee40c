-- What becomes of a list of steps; and the draws, one after the other, that lists of drawn numbers tell of.
use Rattle.std.specs.Prelude.{◌≡◌, ℕ, ◌+◌, ◌<◌, Bool, MatchBool, false, cond, List, [], ◌∷◌, ◌++◌, Some, length, map, replicate, slice_get, slice_index_or, sum_by, take, Contains, IsTrue, IsFalse}
use Rattle.std.specs.List.Sorted.{IsStrictlyIncreasing}
use Rattle.shb_fan.specs.declared.machine.Replayed.{Replayed}
use Rattle.shb_fan.specs.declared.machine.Replayed.TheVariants.{Ended, Refused}
use Rattle.shb_fan.specs.declared.step.PieceState.TheVariants.{Empty}
use Rattle.shb_fan.specs.declared.step.Step.{Step}
use Rattle.shb_fan.specs.declared.step.Step.TheVariants.{Draw, Stop}
use Rattle.shb_fan.specs.Machine.{Allowed, Facts, State, Runs, start}
use Rattle.shb_fan.specs.Numbers.{weight, times, once_below}
use Rattle.shb_fan.specs.Passes.{PassState}

-- the step at this index isn't allowed, and all before it are
pub record IsRefusedAt (actors pieces : ℕ) (steps : List Step) (at : ℕ) : Type 0 where
  pub state : State
  pub step : Step
  pub runs : Runs (start actors pieces) (take at steps) state
  pub there : slice_get steps at ≡ Some step
  pub refused : ¬ Allowed state step

-- all steps are allowed and led here, where the facts hold; or this is the index of the first that isn't allowed
abbrev pub HasReplayed : ℕ → ℕ → List Step → Replayed → Type 0
HasReplayed actors pieces steps (Ended fan) = Runs (start actors pieces) steps fan × Facts fan
HasReplayed actors pieces steps (Refused at) = IsRefusedAt actors pieces steps at

-- each list rises, and together they are the numbers below `drawn`, each once
pub record AreDrawn (lists : List (List ℕ)) (drawn : ℕ) : Type 0 where
  pub rising : (a : ℕ) → IsStrictlyIncreasing (slice_index_or lists a [])
  pub each_once : (x : ℕ) → sum_by (times x) lists ≡ once_below x drawn

-- the actor whose list has m
pub record IsDrawer (lists : List (List ℕ)) (m a : ℕ) : Type 0 where
  pub actor : a < length lists
  pub drew : Contains (slice_index_or lists a []) m

-- for each m below `drawn`, rising, a draw by the actor whose list has m
pub record AreDraws (lists : List (List ℕ)) (drawn : ℕ) (steps : List Step) : Type 0 where
  pub as_long : length steps ≡ drawn
  pub each : (m : ℕ) → m < drawn → (a : ℕ) × (slice_get steps m ≡ Some (Draw a)) × IsDrawer lists m a

-- the actors drew these lists, one perhaps asked to stop, and nothing else happened
abbrev pub drawn_state : List (List ℕ) → ℕ → ℕ → Bool → State
drawn_state lists drawn pieces stopped = record { next = drawn; actors = map (λ xs. record { drawn = xs; spent = false }) lists; pieces = replicate pieces Empty; taken = 0; stopped = stopped }

-- the list of each pass, in the order of the passes
abbrev pub lists_of : List PassState → List (List ℕ)
lists_of passes = map (λ p. p.drawn) passes

-- one draw more for each spent pass, in the order of the passes, the first of which is actor a
abbrev pub spent_draws : ℕ → List PassState → List Step
spent_draws a [] = []
spent_draws a (p ∷ ps) = cond p.spent (Draw a ∷ spent_draws (a + 1) ps) (spent_draws (a + 1) ps)

-- the actors drew the passes' lists, those of spent passes were told that there is no more, and nothing else happened
abbrev pub spent_state : List PassState → ℕ → ℕ → State
spent_state passes next pieces = record { next = next; actors = map (λ p. record { drawn = p.drawn; spent = p.spent }) passes; pieces = replicate pieces Empty; taken = 0; stopped = false }

-- the machine with one actor for each pass comes to the passes' lists and to `stopped` by these steps: for each m below `drawn`, rising, a draw by the actor whose list has m; then, where the draw was stopped, a stop by a halted actor; and where it wasn't, one draw more for each spent pass leads it to the passes as they are
pub record IsMachineRun (limit : ℕ) (passes : List PassState) (drawn : ℕ) (stopped : Bool) : Type 0 where
  pub draws : List Step
  pub stops : List Step
  pub are_draws : AreDraws (lists_of passes) drawn draws
  pub are_stops : MatchBool stopped ((a : ℕ) × (p : PassState) × (slice_get passes a ≡ Some p) × IsTrue p.halted × (stops ≡ Stop a ∷ [])) (stops ≡ [])
  pub ends : Runs (start (length passes) limit) (draws ++ stops) (drawn_state (lists_of passes) drawn limit stopped)
  pub spends : IsFalse stopped → Runs (start (length passes) limit) (draws ++ spent_draws 0 passes) (spent_state passes (drawn + sum_by (λ p. weight p.spent) passes) limit)
