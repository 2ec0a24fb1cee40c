-- The state of the fan's core, its steps, and what holds after every list of allowed steps.
use Rattle.std.specs.Prelude.{◌≡◌, ℕ, ◌+◌, ◌-◌, ◌<◌, ◌≤◌, ◌^◌, Bool, true, false, ltb, List, [], ◌∷◌, ◌++◌, length, min, cond, sum_by, replicate, slice_index_or, slice_set, Contains, IsTrue, IsFalse}
use Rattle.shb_fan.specs.declared.step.PieceState.{PieceState}
use Rattle.shb_fan.specs.declared.step.PieceState.TheVariants.{Empty, Claimed, Placed, Lifted, Freed}
use Rattle.shb_fan.specs.declared.step.Step.{Step}
use Rattle.shb_fan.specs.declared.step.Step.TheVariants.{Draw, Claim, Place, Lift, Free, Stop}
use Rattle.shb_fan.specs.Numbers.{weight, times, once_below}

-- the numbers that an actor drew, in order, and whether it was told that there is no more
pub record ActorState : Type 0 where
  pub drawn : List ℕ
  pub spent : Bool

pub record State : Type 0 where
  pub next : ℕ
  pub actors : List ActorState
  pub pieces : List PieceState
  pub taken : ℕ
  pub stopped : Bool

abbrev pub new_actor : ActorState
new_actor = record { drawn = []; spent = false }

abbrev pub actor_of : State → ℕ → ActorState
actor_of s a = slice_index_or s.actors a new_actor

abbrev pub piece_of : State → ℕ → PieceState
piece_of s k = slice_index_or s.pieces k Empty

abbrev pub start : ℕ → ℕ → State
start actors pieces = record { next = 0; actors = replicate actors new_actor; pieces = replicate pieces Empty; taken = 0; stopped = false }

abbrev pub Allowed : State → Step → Type 0
Allowed s (Draw a) = (a < length s.actors) × ((actor_of s a).spent ≡ false)
Allowed s (Claim a k) = (a < length s.actors) × (k < length s.pieces) × Contains (actor_of s a).drawn k × (piece_of s k ≡ Empty) × (64 ≤ k → piece_of s (k - 64) ≡ Freed)
Allowed s (Place a k) = (a < length s.actors) × (k < length s.pieces) × (piece_of s k ≡ Claimed a)
Allowed s (Lift k) = (k < length s.pieces) × (piece_of s k ≡ Placed) × (k ≡ s.taken)
Allowed s (Free k) = (k < length s.pieces) × (piece_of s k ≡ Lifted)
Allowed s (Stop a) = a < length s.actors

-- of the next number and how many pieces there are
abbrev pub after_draw : ℕ → ℕ → ActorState → ActorState
after_draw next pieces x = cond (ltb next pieces) (record x { drawn = x.drawn ++ next ∷ [] }) (record x { spent = true })

abbrev pub with_piece : State → ℕ → PieceState → State
with_piece s k p = record s { pieces = slice_set s.pieces k p }

abbrev pub after : State → Step → State
after s (Draw a) = record s { next = s.next + 1; actors = slice_set s.actors a (after_draw s.next (length s.pieces) (actor_of s a)) }
after s (Claim a k) = with_piece s k (Claimed a)
after s (Place a k) = with_piece s k Placed
after s (Lift k) = record (with_piece s k Lifted) { taken = s.taken + 1 }
after s (Free k) = with_piece s k Freed
after s (Stop a) = record s { stopped = true }

-- whether the step x was allowed at s, with what it left
abbrev pub HasAdvanced : State → Step → Bool → State → Type 0
HasAdvanced s x allowed t = (IsTrue allowed → Allowed s x × (t ≡ after s x)) × (IsFalse allowed → ¬ (Allowed s x) × (t ≡ s))

-- all steps are allowed, one after the other, and lead from s to t
abbrev pub Runs : State → List Step → State → Type 0
Runs s [] t = t ≡ s
Runs s (x ∷ xs) t = Allowed s x × Runs (after s x) xs t

abbrev pub is_taken : PieceState → Bool
is_taken Lifted = true
is_taken Freed = true
is_taken _ = false

abbrev pub is_busy : PieceState → Bool
is_busy Empty = false
is_busy Freed = false
is_busy _ = true

pub record Facts (s : State) : Type 0 where
  -- the lists together are the numbers below the lesser of `next` and the number of pieces, each once
  pub each_once : (x : ℕ) → sum_by (λ a. times x a.drawn) s.actors ≡ once_below x (min s.next (length s.pieces))
  -- the pieces that are lifted or freed are those below `taken`
  pub in_order : (k : ℕ) → is_taken (piece_of s k) ≡ ltb k s.taken
  -- at most 64 pieces are claimed, placed or lifted
  pub few : sum_by (λ p. weight (is_busy p)) s.pieces ≤ 64

abbrev pub state_from : ℕ → List ActorState → List PieceState → ℕ → Bool → State
state_from next actors pieces taken stopped = record { next = next; actors = actors; pieces = pieces; taken = taken; stopped = stopped }

-- the numbers stay small
pub record IsInBounds (s : State) : Type 0 where
  pub few_actors : length s.actors ≤ 65
  pub few_pieces : length s.pieces ≤ 2 ^ 60
  pub next_low : s.next ≤ length s.pieces + sum_by (λ a. weight a.spent) s.actors
