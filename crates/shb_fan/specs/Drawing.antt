-- The rule of the ticket table, and what each step tells. Word 0 is the ticket, word 1 the stop word.
use Rattle.std.specs.Prelude.{◌≡◌, ◌≢◌, ℕ, ◌+◌, ◌-◌, ◌^◌, ◌<◌, ◌≤◌, List, [], ◌∷◌, ◌++◌, length, min, slice_index, All}
use mathlib.Core.Option.{some}
use lib.ListN.{get_elem?}
use Rattle.atomic_table.specs.Table.{State, Me, Step}
use Rattle.shb_fan.specs.declared.ticket_table.Plan.{Plan}
use Rattle.shb_fan.specs.declared.ticket_table.PassView.{PassView}
use Rattle.shb_fan.specs.Numbers.{times, once_below, total}

abbrev pub pass_view : ℕ → Plan → List ℕ → ℕ → ℕ → ℕ → PassView
pass_view parts plan drawn spent halted seen = record { parts = parts; plan = plan; drawn = drawn; spent = spent; halted = halted; seen = seen }

-- a view is spent no more often than it has parts, and with no part it has drawn nothing, stopped nothing and seen no stop
pub record Sound (v : PassView) : Type 0 where
  pub once : v.spent ≤ v.parts
  pub nothing : v.parts ≡ 0 → (v.drawn ≡ []) × (v.halted ≡ 0) × (v.seen ≡ 0)

-- what holds between any two steps, of the ticket, the stop word and all views
pub record Holds (plan : Plan) (ticket stop : ℕ) (views : List PassView) : Type 0 where
  pub small : (plan.limit ≤ 2 ^ 60) × (plan.passes ≤ 65)
  pub parts : total (λ v. v.parts) views ≡ plan.passes
  -- the numbers below the lesser of the ticket and the limit are drawn, each once, and no others
  pub each : (x : ℕ) → total (λ v. times x v.drawn) views ≡ once_below x (min plan.limit ticket)
  pub low : ticket ≤ plan.limit + total (λ v. v.spent) views
  -- the stop word is 1 where some view is halted, else 0
  pub halted : stop ≡ min 1 (total (λ v. v.halted) views)
  -- and where some view has seen a stop it isn't 0
  pub seen : stop ≡ 0 → total (λ v. v.seen) views ≡ 0
  -- where a view is spent, the stop word isn't 0 or the ticket is at the limit or above
  pub ended : 0 < total (λ v. v.spent) views → stop ≡ 0 → plan.limit ≤ ticket
  pub sound : (id : ℕ) (v : PassView) → get_elem? views id ≡ some v → Sound v

abbrev pub KeepsDrawing : Plan → State (Unit {0}) PassView → Type 0
KeepsDrawing plan s = (length s.words ≡ 2) × Holds plan (slice_index s.words 0) (slice_index s.words 1) s.views

abbrev M : Type 0
M = Me (Unit {0}) PassView

abbrev pub gained : PassView → ℕ → PassView
gained v k = record v { drawn = v.drawn ++ k ∷ [] }

abbrev pub used_up : PassView → PassView
used_up v = record v { spent = v.spent + 1 }

-- the number found is the pass's, where it is below the limit, and above all that it drew; else the pass is spent
abbrev pub drew : Step (Unit {0}) → M → ℕ → M → Type 0
drew st m r m' = (r < m.0.plan.limit → All (λ x. x < r) m.0.drawn × (m' ≡ (gained m.0 r, m.1))) × (m.0.plan.limit ≤ r → m' ≡ (used_up m.0, m.1))

-- where the number was found as the caller said, it is the pass's, and above all that it drew; else nothing changes
abbrev pub drew_this : Step (Unit {0}) → M → ℕ → M → Type 0
drew_this st m r m' = (r ≡ st.first → All (λ x. x < st.first) m.0.drawn × (m' ≡ (gained m.0 st.first, m.1))) × (r ≢ st.first → m' ≡ m)

-- where the word isn't 0 the pass is left so, and it isn't 0 where the pass is halted or has seen a stop before
abbrev pub saw : (PassView → PassView) → Step (Unit {0}) → M → ℕ → M → Type 0
saw left st m r m' = (r ≡ 0 → (m.0.halted ≡ 0) × (m.0.seen ≡ 0) × (m' ≡ m)) × (0 < r → m' ≡ (left m.0, m.1))

abbrev pub left_over : PassView → PassView
left_over v = record v { parts = v.parts - 1 }

abbrev pub one_part : PassView → PassView
one_part v = pass_view 1 v.plan [] 0 0 0

abbrev pub joined : PassView → PassView → PassView
joined v w = pass_view (v.parts + w.parts) v.plan (v.drawn ++ w.drawn) (v.spent + w.spent) (v.halted + w.halted) (v.seen + w.seen)

abbrev pub spent_pass_view : PassView
spent_pass_view = pass_view 0 (record { limit = 0; passes = 0 }) [] 0 0 0
