-- Local times along a thread, and which accesses race by them.
use Rattle.std.proofs.Common.{◌≡◌, ℕ, ◌+◌, ◌<◌, inl, inr, List, Some, arith, subst, sym}
use Rattle.std.specs.Prelude.{◌↔◌}
use Rattle.shb_stamps.proofs.Words.{Conflict, Event, IsBelowPredCount, Race, below_from_local, cases_lt, count_mono, count_more_yes, event_of_thread, is_of, is_of_true, local_from_below, local_time, thread_at}

-- i conflicts with the later j and is of thread t
pub record IsRival (trace : List Event) (t j i : ℕ) : Type 0 where
  pub earlier : i < j
  pub thread : thread_at trace i ≡ Some t
  pub conflict : Conflict trace i j

-- a rival races exactly where its local time is above what is below the predecessor of j
pub rival_races : (trace : List Event) (t j n i : ℕ) → IsBelowPredCount trace t j n → IsRival trace t j i → Race trace i j ↔ (n < local_time trace t i)
rival_races trace t j n i count rival = (
  (λ race. elim (cases_lt n (local_time trace t i)) [ inl lt ↦ lt | inr le ↦ absurd (race.unordered (below_from_local trace t j n count i rival.thread le)) ]),
  (λ lt. record {
    conflict = rival.conflict;
    earlier = rival.earlier;
    unordered = λ below. let le = local_from_below trace t j n count i rival.thread below in omega (arith, le);
  }),
)

-- local times rise along a thread
pub times_rise : (trace : List Event) (t a b : ℕ) → a < b → thread_at trace b ≡ Some t → local_time trace t a < local_time trace t b
times_rise trace t a b lt of_b =
    let e = event_of_thread trace b t of_b in
    let own = count_more_yes (is_of t) trace b e.0 e.1 (is_of_true t e.0 e.2) in
    let more = count_mono (is_of t) trace (a + 1) b (omega arith) in
    omega (arith, own, more)

-- what an order answers, of the trace that it orders
pub count_seen : (trace ordered : List Event) (t u e n : ℕ) → ordered ≡ trace → t ≡ u → IsBelowPredCount ordered u e n → IsBelowPredCount trace t e n
count_seen trace ordered t u e n same is h = subst (λ (tr : List Event). IsBelowPredCount tr t e n) same (subst (λ (v : ℕ). IsBelowPredCount ordered v e n) (sym is) h)
