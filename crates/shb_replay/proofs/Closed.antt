-- Where no index up to n has a reason: what must stand before an event does.
use Rattle.std.proofs.Common.{◌≡◌, ℕ, zero, suc, ◌<◌, ◌≤◌, ◌⊎◌, inl, inr, false, List, Some, length, refl, sym, arith, subst}
use Rattle.std.specs.Prelude.{slice_get}
use Rattle.shb_replay.proofs.Words.{Acquire, Event, Fork, HbBelow, HbEdge, HbRule, IsBeforeInThread, IsForkOfFirst, IsLatest, IsUnbroken, Join, Release, StandsEarlier, cases_lt, cases_order, forked, here, joined, latest_below, lock_passed, of_thread, of_thread_at, of_thread_false, of_thread_true, op_at, same_thread, step, thread_at}
use Rattle.shb_replay.specs.declared.broken.Why.TheVariants as whys
use Rattle.shb_replay.proofs.Standing.{widen, decide_stands}

-- the latest event of the thread before b is the one before it in the thread
latest_is_before : (trace : List Event) (t p b : ℕ) → thread_at trace b ≡ Some t → IsLatest (of_thread trace t) b p → IsBeforeInThread trace p b
latest_is_before trace t p b of_b found = record {
  thread = t;
  before_of = of_thread_true trace t p found.passing;
  of = of_b;
  earlier = found.below;
  last = λ k low high. of_thread_false trace t k (found.last k low high);
}

module _ (trace : List Event) (s : List ℕ) (n : ℕ) (unbroken : IsUnbroken trace s n) where
  pub in_trace : (q b : ℕ) → q < n → slice_get s q ≡ Some b → b < length trace
  in_trace q b lt at = elim (cases_lt b (length trace)) [ inl h ↦ h | inr h ↦ absurd (unbroken q b whys.NoSuchEvent lt at h) ]

  pub once : (q b : ℕ) → q < n → slice_get s q ≡ Some b → StandsEarlier s q b → ⊥
  once q b lt at h = unbroken q b whys.Repeated lt at h

  -- the event before it in its thread
  before_stands : (q b a : ℕ) → q < n → slice_get s q ≡ Some b → IsBeforeInThread trace a b → StandsEarlier s q a
  before_stands q b a lt at before = elim (decide_stands s q a) [ inl h ↦ h | inr none ↦ absurd (unbroken q b whys.ThreadOrder lt at (a, before, none)) ]

  fork_of_first_stands : (q b f : ℕ) → q < n → slice_get s q ≡ Some b → IsForkOfFirst trace f b → StandsEarlier s q f
  fork_of_first_stands q b f lt at before = elim (decide_stands s q f) [ inl h ↦ h | inr none ↦ absurd (unbroken q b whys.ForkMissing lt at (f, before, none)) ]

  thread_within : (m q b a t : ℕ) → b ≤ m → q < n → slice_get s q ≡ Some b → a < b → thread_at trace a ≡ Some t → thread_at trace b ≡ Some t → StandsEarlier s q a
  thread_within zero q b a t le lq at lt of_a of_b = absurd (omega arith)
  thread_within (suc m) q b a t le lq at lt of_a of_b = go (latest_below (of_thread trace t) b) (λ r p low within at_r later of_p. thread_within m r p a t low within at_r later of_a of_p)
    where
      reach : (p : ℕ) → IsLatest (of_thread trace t) b p → StandsEarlier s q p → ((r : ℕ) → r < n → slice_get s r ≡ Some p → a < p → StandsEarlier s r a) → (a ≡ p) ⊎ ((a < p) ⊎ (p < a)) → StandsEarlier s q a
      reach p found stands rest (inl same) = subst (λ (k : ℕ). StandsEarlier s q k) (sym same) stands
      reach p found stands rest (inr (inl later)) = widen s stands.index q a (let e = stands.earlier in omega arith) (rest stands.index (let e = stands.earlier in omega (arith, e, lq)) stands.at later)
      reach p found stands rest (inr (inr earlier)) = absurd (let fails = found.last a earlier lt in let passes = of_thread_at trace t a of_a in (let f : ⊥ = cc in f))

      go : ((p : ℕ) × IsLatest (of_thread trace t) b p) ⊎ ((k : ℕ) → k < b → of_thread trace t k ≡ false) → ((r p : ℕ) → p ≤ m → r < n → slice_get s r ≡ Some p → a < p → thread_at trace p ≡ Some t → StandsEarlier s r a) → StandsEarlier s q a
      go (inl (p, found)) rest = reach p found (before_stands q b p lq at (latest_is_before trace t p b of_b found)) (λ r within at_r later. rest r p (let below = found.below in omega (arith, below, le)) within at_r later (of_thread_true trace t p found.passing)) (cases_order a p)
      go (inr none) rest = absurd (let fails = none a lt in let passes = of_thread_at trace t a of_a in (let f : ⊥ = cc in f))

  -- each earlier event of its thread
  pub thread_stands : (q b a t : ℕ) → q < n → slice_get s q ≡ Some b → a < b → thread_at trace a ≡ Some t → thread_at trace b ≡ Some t → StandsEarlier s q a
  thread_stands q b a t = thread_within b q b a t (omega arith)

  fork_within : (m q b f u : ℕ) → b ≤ m → q < n → slice_get s q ≡ Some b → op_at trace f ≡ Some (Fork u) → thread_at trace b ≡ Some u → (found : ((p : ℕ) × IsLatest (of_thread trace u) b p) ⊎ ((k : ℕ) → k < b → of_thread trace u k ≡ false)) → StandsEarlier s q f
  fork_within m q b f u le lq at forks of_b (inr none) = fork_of_first_stands q b f lq at (record { thread = u; forks = forks; of = of_b; first = λ k low. of_thread_false trace u k (none k low) })
  fork_within zero q b f u le lq at forks of_b (inl (p, found)) = absurd (let below = found.below in omega (arith, below, le))
  fork_within (suc m) q b f u le lq at forks of_b (inl (p, found)) =
      let stands = before_stands q b p lq at (latest_is_before trace u p b of_b found) in
      widen s stands.index q f (let e = stands.earlier in omega arith) (fork_within m stands.index p f u (let below = found.below in omega (arith, below, le)) (let e = stands.earlier in omega (arith, e, lq)) stands.at forks (of_thread_true trace u p found.passing) (latest_below (of_thread trace u) p))

  -- the fork of its thread
  pub fork_stands : (q b f u : ℕ) → q < n → slice_get s q ≡ Some b → op_at trace f ≡ Some (Fork u) → thread_at trace b ≡ Some u → StandsEarlier s q f
  fork_stands q b f u lq at forks of_b = fork_within b q b f u (omega arith) lq at forks of_b (latest_below (of_thread trace u) b)

  -- what a join waits for
  pub joined_stands : (q b a u : ℕ) → q < n → slice_get s q ≡ Some b → op_at trace b ≡ Some (Join u) → thread_at trace a ≡ Some u → StandsEarlier s q a
  joined_stands q b a u lq at joins of_a = elim (decide_stands s q a) [ inl h ↦ h | inr none ↦ absurd (unbroken q b whys.JoinEarly lq at (inl (a, record { thread = u; joins = joins; of = of_a; absent = none }))) ]

  -- each earlier release of the lock
  pub release_stands : (q b a l : ℕ) → q < n → slice_get s q ≡ Some b → op_at trace b ≡ Some (Acquire l) → op_at trace a ≡ Some (Release l) → a < b → StandsEarlier s q a
  release_stands q b a l lq at acquires releases lt = elim (decide_stands s q a) [ inl h ↦ h | inr none ↦ absurd (unbroken q b whys.LockOrder lq at (a, record { lock = l; acquires = acquires; releases = releases; earlier = lt; absent = none })) ]

  edge_by : (q a b : ℕ) → q < n → slice_get s q ≡ Some b → a < b → HbRule trace a b → StandsEarlier s q a
  edge_by q a b lq at lt (same_thread t of_a of_b) = thread_stands q b a t lq at lt of_a of_b
  edge_by q a b lq at lt (lock_passed l releases acquires) = release_stands q b a l lq at acquires releases lt
  edge_by q a b lq at lt (forked u forks of_b) = fork_stands q b a u lq at forks of_b
  edge_by q a b lq at lt (joined u of_a joins) = joined_stands q b a u lq at joins of_a

  -- whatever happens before it
  pub edge_stands : (q a b : ℕ) → q < n → slice_get s q ≡ Some b → HbEdge trace a b → StandsEarlier s q a
  edge_stands q a b lq at edge = edge_by q a b lq at edge.earlier edge.rule

  pub path_stands : (q a b : ℕ) → q < n → slice_get s q ≡ Some b → HbBelow trace a b → (a ≡ b) ⊎ StandsEarlier s q a
  path_stands q a b lq at here = inl refl
  path_stands q a c lq at (step {b = m} edge rest) = go (path_stands q m c lq at rest)
    where
      go : (m ≡ c) ⊎ StandsEarlier s q m → (a ≡ c) ⊎ StandsEarlier s q a
      go (inl same) = inr (edge_stands q a c lq at (subst (λ (k : ℕ). HbEdge trace a k) same edge))
      go (inr stands) = inr (widen s stands.index q a (let e = stands.earlier in omega arith) (edge_stands stands.index a m (let e = stands.earlier in omega (arith, e, lq)) stands.at edge))
