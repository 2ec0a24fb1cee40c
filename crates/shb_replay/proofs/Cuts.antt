-- The events of a thread that stand before an index of an unbroken list are those before a position of the trace.
use Rattle.std.proofs.Common.{◌≡◌, ℕ, zero, suc, ◌+◌, ◌<◌, ◌≤◌, ◌⊎◌, inl, inr, Bool, true, false, List, Some, length, take, get_or, refl, sym, ◌∙◌, ap, arith, subst, add-one}
use Rattle.std.specs.Prelude.{slice_get, count_by, Contains}
use Rattle.shb_replay.proofs.Words.{Event, IsUnbroken, StandsEarlier, cases_Bool, cases_eq, cases_lt, cases_order, count_gap, count_more_no, count_more_yes, event_at_index, events_at, index_of, length_events, slice_get-get_or, slice_get_cases, slice_get_within, thread_at, thread_is}
use Rattle.shb_replay.proofs.Standing.{widen, stands_next, stands_here}
use Rattle.shb_replay.proofs.Closed.{in_trace, once, thread_stands}

-- only events of the thread pass the test
abbrev pub TestsThread : ℕ → (Event → Bool) → Type 0
TestsThread t f = (e : Event) → f e ≡ true → e.thread ≡ t

-- the events of thread t that stand before index q are those before position m
pub record IsCut (trace : List Event) (s : List ℕ) (q t m : ℕ) : Type 0 where
  pub standing : (k : ℕ) → thread_at trace k ≡ Some t → k < m → StandsEarlier s q k
  pub alone : (k : ℕ) → thread_at trace k ≡ Some t → StandsEarlier s q k → k < m
  pub counts : (f : Event → Bool) → TestsThread t f → count_by f (take q (events_at trace s)) ≡ count_by f (take m trace)

-- an event of the list
pub record IsEventAt (trace : List Event) (s : List ℕ) (q b : ℕ) (e : Event) : Type 0 where
  pub at : slice_get s q ≡ Some b
  pub there : slice_get (events_at trace s) q ≡ Some e
  pub is : slice_get trace b ≡ Some e

module _ (trace : List Event) (s : List ℕ) (unbroken : IsUnbroken trace s (length s)) where
  pub members_in_trace : (a : ℕ) → Contains s a → a < length trace
  members_in_trace a c = let index = index_of s a c in in_trace trace s (length s) unbroken index.0 a (slice_get_within s index.0 a index.1) index.1

  pub event_at : (q b : ℕ) → slice_get s q ≡ Some b → (e : Event) × IsEventAt trace s q b e
  event_at q b at = let e = event_at_index trace s members_in_trace q b at in (e.0, record { at = at; there = e.1; is = e.2 })

  pub index_of_event : (q : ℕ) (e : Event) → slice_get (events_at trace s) q ≡ Some e → (b : ℕ) × IsEventAt trace s q b e
  index_of_event q e there =
      let within = slice_get_within (events_at trace s) q e there in
      let same_length = length_events trace s members_in_trace in
      let at = slice_get-get_or s q 0 (omega (arith, within, same_length)) in
      let found = event_at q (get_or s q 0) at in
      let same : Some found.0 ≡ Some e = sym found.1.there ∙ there in
      let equal : found.0 ≡ e = cc in
      (get_or s q 0, record { at = at; there = there; is = found.1.is ∙ ap (λ (d : Event). Some d) equal })

  module _ (q b : ℕ) (e : Event) (here : IsEventAt trace s q b e) where
    within : q < length s
    within = slice_get_within s q b here.at

    of_thread : thread_at trace b ≡ Some e.thread
    of_thread = thread_is trace b e here.is

    -- the cut of the event's own thread ends at it
    pub cut_below : (t m : ℕ) → IsCut trace s q t m → e.thread ≡ t → m ≤ b
    cut_below t m cut is = elim (cases_lt b m) [ inl lt ↦ absurd (once trace s (length s) unbroken q b within here.at (cut.standing b (of_thread ∙ ap (λ (n : ℕ). Some n) is) lt)) | inr le ↦ le ]

    pub own_count : (t m : ℕ) → IsCut trace s q t m → e.thread ≡ t → (f : Event → Bool) → TestsThread t f → count_by f (take b trace) ≡ count_by f (take m trace)
    own_count t m cut is f tests = count_gap f trace m b (cut_below t m cut is) (λ k d from below at. go k d from below at (cases_Bool (f d)))
      where
        refuse : (k : ℕ) (d : Event) → m ≤ k → k < b → slice_get trace k ≡ Some d → f d ≡ true → ⊥
        refuse k d from below at passes =
            let of_t : thread_at trace k ≡ Some t = thread_is trace k d at ∙ ap (λ (n : ℕ). Some n) (tests d passes) in
            let stands = thread_stands trace s (length s) unbroken q b k t within here.at below of_t (of_thread ∙ ap (λ (n : ℕ). Some n) is) in
            let low = cut.alone k of_t stands in
            omega (arith, low, from)

        go : (k : ℕ) (d : Event) → m ≤ k → k < b → slice_get trace k ≡ Some d → (f d ≡ true) ⊎ (f d ≡ false) → f d ≡ false
        go k d from below at (inl passes) = absurd (refuse k d from below at passes)
        go k d from below at (inr fails) = fails

    both_more : (t m : ℕ) → IsCut trace s q t m → e.thread ≡ t → (f : Event → Bool) → TestsThread t f → (f e ≡ true) ⊎ (f e ≡ false) → count_by f (take (q + 1) (events_at trace s)) ≡ count_by f (take (b + 1) trace)
    both_more t m cut is f tests (inl passes) =
        let x = count_more_yes f (events_at trace s) q e here.there passes in
        let y = count_more_yes f trace b e here.is passes in
        let same = own_count t m cut is f tests in
        let before = cut.counts f tests in
        omega (arith, x, y, same, before)
    both_more t m cut is f tests (inr fails) =
        let x = count_more_no f (events_at trace s) q e here.there fails in
        let y = count_more_no f trace b e here.is fails in
        let same = own_count t m cut is f tests in
        let before = cut.counts f tests in
        omega (arith, x, y, same, before)

    cut_own : (t m : ℕ) → IsCut trace s q t m → e.thread ≡ t → IsCut trace s (q + 1) t (b + 1)
    cut_own t m cut is = record {
      standing = λ k of_t below. low k of_t (cases_order k b) below;
      alone = λ k of_t stands. high k of_t (cases_order k b) (stands_next s q b k here.at stands);
      counts = λ f tests. both_more t m cut is f tests (cases_Bool (f e));
    }
      where
        of_own : thread_at trace b ≡ Some t
        of_own = of_thread ∙ ap (λ (n : ℕ). Some n) is

        low : (k : ℕ) → thread_at trace k ≡ Some t → (k ≡ b) ⊎ ((k < b) ⊎ (b < k)) → k < b + 1 → StandsEarlier s (q + 1) k
        low k of_t (inl same) below = subst (λ (j : ℕ). StandsEarlier s (q + 1) j) (sym same) (stands_here s q b here.at)
        low k of_t (inr (inl lt)) below = widen s q (q + 1) k (omega arith) (thread_stands trace s (length s) unbroken q b k t within here.at lt of_t of_own)
        low k of_t (inr (inr gt)) below = absurd (omega (arith, gt, below))

        high : (k : ℕ) → thread_at trace k ≡ Some t → (k ≡ b) ⊎ ((k < b) ⊎ (b < k)) → StandsEarlier s q k ⊎ (k ≡ b) → k < b + 1
        high k of_t (inl same) stands = omega (arith, same)
        high k of_t (inr (inl lt)) stands = omega (arith, lt)
        high k of_t (inr (inr gt)) (inr same) = omega (arith, same)
        high k of_t (inr (inr gt)) (inl stands) =
            let prior = thread_stands trace s (length s) unbroken stands.index k b t (let lt = stands.earlier in omega (arith, lt, within)) stands.at gt of_own of_t in
            absurd (once trace s (length s) unbroken q b within here.at (widen s stands.index q b (let lt = stands.earlier in omega (arith, lt)) prior))

    cut_other : (t m : ℕ) → IsCut trace s q t m → (e.thread ≡ t → ⊥) → IsCut trace s (q + 1) t m
    cut_other t m cut ne = record {
      standing = λ k of_t below. widen s q (q + 1) k (omega arith) (cut.standing k of_t below);
      alone = λ k of_t stands. high k of_t (stands_next s q b k here.at stands);
      counts = λ f tests. count_more_no f (events_at trace s) q e here.there (fails f tests (cases_Bool (f e))) ∙ cut.counts f tests;
    }
      where
        high : (k : ℕ) → thread_at trace k ≡ Some t → StandsEarlier s q k ⊎ (k ≡ b) → k < m
        high k of_t (inl stands) = cut.alone k of_t stands
        high k of_t (inr same) = absurd (ne (let own : thread_at trace k ≡ Some e.thread = subst (λ (j : ℕ). thread_at trace j ≡ Some e.thread) (sym same) of_thread in let is : Some e.thread ≡ Some t = sym own ∙ of_t in cc))

        fails : (f : Event → Bool) → TestsThread t f → (f e ≡ true) ⊎ (f e ≡ false) → f e ≡ false
        fails f tests (inl passes) = absurd (ne (tests e passes))
        fails f tests (inr not) = not

    cut_more : (t m : ℕ) → IsCut trace s q t m → (e.thread ≡ t) ⊎ (e.thread ≡ t → ⊥) → (n : ℕ) × IsCut trace s (q + 1) t n
    cut_more t m cut (inl is) = (b + 1, cut_own t m cut is)
    cut_more t m cut (inr ne) = (m, cut_other t m cut ne)

  cut_start : (t : ℕ) → IsCut trace s 0 t 0
  cut_start t = record {
    standing = λ k of_t below. absurd (omega (arith, below));
    alone = λ k of_t stands. absurd (let lt = stands.earlier in omega (arith, lt));
    counts = λ f tests. refl;
  }

  pub cut_of : (q t : ℕ) → q ≤ length s → (m : ℕ) × IsCut trace s q t m
  cut_of zero t le = (0, cut_start t)
  cut_of (suc q) t le =
      let before = cut_of q t (omega (arith, le)) in
      elim (slice_get_cases s q).1 [
        | inl c ↦ (let found = event_at q c.0 c.2 in rw add-one at (cut_more q c.0 found.0 found.1 t before.0 before.1 (cases_eq found.0.thread t)))
        | inr c ↦ (let past = c.0 in absurd (omega (arith, past, le)))
      ]
