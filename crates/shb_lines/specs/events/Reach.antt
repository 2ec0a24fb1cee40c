-- The relations as tests that compute, so that a value of work on a trace can be named. The relations say what the tests mean.
use Rattle.std.specs.Prelude.{ℕ, zero, suc, Bool, false, cond, not, ◌&&◌, ◌||◌, ◌==◌, nat_lt, List, [], ◌∷◌, ◌++◌, length, Option, Some, None, slice_get}
use Rattle.shb_lines.specs.declared.event.Event.{Event}
use Rattle.shb_lines.specs.declared.event.Op.{Op}
use Rattle.shb_lines.specs.declared.event.Op.TheVariants.{Read}
use Rattle.shb_lines.specs.events.Events.{thread_at, op_at}
use Rattle.shb_lines.specs.events.Discipline.{op_is_fork}
use Rattle.shb_lines.specs.events.Tests.{is_hb_rule, writes_variable, is_conflict}

-- whether a number below n passes
unfoldable pub any_below : (ℕ → Bool) → ℕ → Bool
any_below f zero = false
any_below f (suc n) = f n || any_below f n

-- the numbers below n that pass, rising
unfoldable pub numbers_where : (ℕ → Bool) → ℕ → List ℕ
numbers_where f zero = []
numbers_where f (suc n) = numbers_where f n ++ cond (f n) (n ∷ []) []

-- whether the event at a position is of thread t
unfoldable pub of_thread : List Event → ℕ → ℕ → Bool
of_thread trace t k = elim (thread_at trace k) [ Some u ↦ u == t | None ↦ false ]

-- whether the event at a position writes x
unfoldable pub writes_at : List Event → ℕ → ℕ → Bool
writes_at trace x k = elim (op_at trace k) [ Some op ↦ writes_variable op x | None ↦ false ]

-- whether the event at a position forks t
unfoldable pub forks_at : List Event → ℕ → ℕ → Bool
forks_at trace t k = elim (op_at trace k) [ Some op ↦ op_is_fork t op | None ↦ false ]

-- a test of the events at two positions
unfoldable pub both_events : (Event → Event → Bool) → Option Event → Option Event → Bool
both_events f (Some e) (Some d) = f e d
both_events f _ _ = false

-- whether the write w is the last one before r, where r does this
unfoldable pub is_last_write : List Event → ℕ → ℕ → Option Op → Bool
is_last_write trace w r (Some (Read x)) = nat_lt w r && (writes_at trace x w && not (any_below (λ k. nat_lt w k && writes_at trace x k) r))
is_last_write trace w r _ = false

unfoldable pub is_shb_edge : List Event → ℕ → ℕ → Bool
is_shb_edge trace a b = (nat_lt a b && both_events is_hb_rule (slice_get trace a) (slice_get trace b)) || is_last_write trace a b (op_at trace b)

-- whether a path of at most n edges leads from a to b
unfoldable pub is_shb_below : List Event → ℕ → ℕ → ℕ → Bool
is_shb_below trace zero a b = a == b
is_shb_below trace (suc n) a b = (a == b) || any_below (λ c. is_shb_edge trace a c && is_shb_below trace n c b) (suc b)

-- whether p is the predecessor of e, where e is of this thread
unfoldable pub is_pred : List Event → ℕ → ℕ → Option ℕ → Bool
is_pred trace p e (Some t) = (of_thread trace t p && (nat_lt p e && not (any_below (λ k. nat_lt p k && of_thread trace t k) e))) || (forks_at trace t p && not (any_below (of_thread trace t) e))
is_pred trace p e None = false

unfoldable pub is_below_pred : List Event → ℕ → ℕ → Bool
is_below_pred trace a e = any_below (λ p. is_pred trace p e (thread_at trace e) && is_shb_below trace p a p) (length trace)

unfoldable pub is_race : List Event → ℕ → ℕ → Bool
is_race trace i j = nat_lt i j && (both_events is_conflict (slice_get trace i) (slice_get trace j) && not (is_below_pred trace i j))
