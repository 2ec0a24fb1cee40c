-- The events of an unbroken list are disciplined.
use Rattle.shb_replay.proofs.Words.{Acquire, Event, Fork, HasHolder, IsDisciplined, IsPassing, IsUnbroken, Join, MayCome, MayDo, MayFork, Op, Release, StandsEarlier, acquires, acquires_yes, cases_Bool, cases_lt, cases_order, common_steps, count_mono, disciplined_below, eq-eqb, eqb-true, events_at, fork_op, fork_unique, holder_after, is_acquire, is_acquire_parts, is_of, is_release, is_release_parts, join_op, only, op_at, op_is, op_is_acquire, op_is_release, other_than, others_balanced, releases, releases_no, slice_get_within, some_counted, thread_at, thread_is}
use Rattle.shb_lines.specs.events.Discipline.{is_fork, is_join}
use Rattle.std.proofs.Common.{◌≡◌, ◌≢◌, ℕ, zero, suc, ◌+◌, ◌<◌, ◌≤◌, ◌⊎◌, inl, inr, Bool, true, false, List, Some, length, take, refl, sym, ◌∙◌, ap, arith, subst}
use Rattle.std.specs.Prelude.{count_by, cond, ◌==◌}
use Rattle.shb_lines.proofs.events.Locks.{DisciplinedBelow, releases_le}
use Rattle.shb_lines.proofs.events.Prefix.{is_of_thread}
use Rattle.shb_replay.specs.declared.broken.Why.TheVariants as whys
use Rattle.shb_replay.proofs.Standing.{widen}
use Rattle.shb_replay.proofs.Closed.{once, thread_stands, fork_stands, joined_stands, release_stands}
use Rattle.shb_replay.proofs.Cuts.{IsCut, IsEventAt, index_of_event, own_count, cut_of}

is_fork_op : (u : ℕ) (e : Event) → is_fork u e ≡ true → e.op ≡ Fork u
unfolding is_fork
is_fork_op u e h = fork_op u e.op h

pub is_join_op : (u : ℕ) (e : Event) → is_join u e ≡ true → e.op ≡ Join u
unfolding is_join
is_join_op u e h = join_op u e.op h

acquire_tests : (h l : ℕ) (e : Event) → is_acquire (only h) l e ≡ true → e.thread ≡ h
acquire_tests h l e is = sym (eqb-true h e.thread (is_acquire_parts (only h) l e is).0)

release_tests : (h l : ℕ) (e : Event) → is_release (only h) l e ≡ true → e.thread ≡ h
release_tests h l e is = sym (eqb-true h e.thread (is_release_parts (only h) l e is).0)

-- a thread has one fork
pub one_fork : (trace : List Event) → IsDisciplined trace → (u a b : ℕ) → op_at trace a ≡ Some (Fork u) → op_at trace b ≡ Some (Fork u) → a ≡ b
one_fork trace disciplined u a b fork_a fork_b = grind (arith, common_steps, cases_order, fork_unique)

module _ (trace : List Event) (disciplined : IsDisciplined trace) (s : List ℕ) (unbroken : IsUnbroken trace s (length s)) where
  none_counted : (f : Event → Bool) (q : ℕ) → ((k a : ℕ) (d : Event) → k < q → IsEventAt trace s k a d → f d ≡ true → ⊥) → count_by f (take q (events_at trace s)) ≡ 0
  none_counted f q none = elim (cases_lt 0 (count_by f (take q (events_at trace s)))) [
    | inl some ↦ absurd (refuse (some_counted f (events_at trace s) 0 q some))
    | inr le ↦ omega (arith, le)
  ]
    where
      refuse : (k : ℕ) × IsPassing f (events_at trace s) 0 q k → ⊥
      refuse (k, found) = let index = index_of_event trace s unbroken k found.event found.at in none k index.0 found.event found.below index.1 found.passes

  module _ (q b : ℕ) (e : Event) (here : IsEventAt trace s q b e) where
    within : q < length s
    within = slice_get_within s q b here.at

    of_thread : thread_at trace b ≡ Some e.thread
    of_thread = thread_is trace b e here.is

    -- it doesn't stand earlier, and not at an index before one of those before
    not_before : (k : ℕ) → k < q → StandsEarlier s k b → ⊥
    not_before k lt stands = once trace s (length s) unbroken q b within here.at (widen s k q b (omega (arith, lt)) stands)

    not_joined : (u : ℕ) → e.thread ≡ u → count_by (is_join u) (take q (events_at trace s)) ≡ 0
    not_joined u is = none_counted (is_join u) q (λ k a d lt index passes. not_before k lt (joined_stands trace s (length s) unbroken k a b u (omega (arith, lt, within)) index.at (op_is trace a d index.is ∙ ap (λ (o : Op). Some o) (is_join_op u d passes)) (of_thread ∙ ap (λ (n : ℕ). Some n) is)))

    may_fork : (u : ℕ) → e.op ≡ Fork u → MayFork (take b trace) e.thread u → MayFork (take q (events_at trace s)) e.thread u
    may_fork u is may = record {
      other = may.other;
      not_started = none_counted (is_of u) q (λ k a d lt index passes. not_before k lt (fork_stands trace s (length s) unbroken k a b u (omega (arith, lt, within)) index.at forks (thread_is trace a d index.is ∙ ap (λ (n : ℕ). Some n) (is_of_thread u d passes))));
      not_forked = none_counted (is_fork u) q (λ k a d lt index passes. (let same = one_fork trace disciplined u a b (op_is trace a d index.is ∙ ap (λ (o : Op). Some o) (is_fork_op u d passes)) forks in once trace s (length s) unbroken q b within here.at (record { index = k; earlier = lt; at = index.at ∙ ap (λ (n : ℕ). Some n) same })));
      not_joined = none_counted (is_join u) q (λ k a d lt index passes. unbroken q b whys.JoinEarly within here.at (inr (a, record { thread = u; forks = forks; joins = op_is trace a d index.is ∙ ap (λ (o : Op). Some o) (is_join_op u d passes); stands = record { index = k; earlier = lt; at = index.at } })));
    }
      where
        forks : op_at trace b ≡ Some (Fork u)
        forks = op_is trace b e here.is ∙ ap (λ (o : Op). Some o) is

    may_release : (l : ℕ) → releases (only e.thread) l (take b trace) < acquires (only e.thread) l (take b trace) → releases (only e.thread) l (take q (events_at trace s)) < acquires (only e.thread) l (take q (events_at trace s))
    may_release l may =
        let cut = cut_of trace s unbroken q e.thread (omega (arith, within)) in
        let a = cut.1.counts (is_acquire (only e.thread) l) (acquire_tests e.thread l) in
        let r = cut.1.counts (is_release (only e.thread) l) (release_tests e.thread l) in
        let own_a = own_count trace s unbroken q b e here e.thread cut.0 cut.1 refl (is_acquire (only e.thread) l) (acquire_tests e.thread l) in
        let own_r = own_count trace s unbroken q b e here e.thread cut.0 cut.1 refl (is_release (only e.thread) l) (release_tests e.thread l) in
        omega (arith, a, r, own_a, own_r, may)

    module _ (l : ℕ) (is : e.op ≡ Acquire l) (may : acquires (other_than e.thread) l (take b trace) ≡ releases (other_than e.thread) l (take b trace)) (h : ℕ) (ne : h ≢ e.thread) (m : ℕ) (cut : IsCut trace s q h m) where
      takes : op_at trace b ≡ Some (Acquire l)
      takes = op_is trace b e here.is ∙ ap (λ (o : Op). Some o) is

      -- another thread would have released the lock before
      released_before : (k : ℕ) → IsPassing (is_release (only h) l) trace m b k → ⊥
      released_before k found =
          let parts = is_release_parts (only h) l found.event found.passes in
          let gives : op_at trace k ≡ Some (Release l) = op_is trace k found.event found.at ∙ ap (λ (o : Op). Some o) parts.1 in
          let of_h : thread_at trace k ≡ Some h = thread_is trace k found.event found.at ∙ ap (λ (n : ℕ). Some n) (release_tests h l found.event found.passes) in
          let stands = release_stands trace s (length s) unbroken q b k l within here.at takes gives found.below in
          let low = cut.alone k of_h stands in
          let from = found.from in
          omega (arith, low, from)

      -- this thread would have released the lock before the other one acquired it
      given_on : (k r : ℕ) → thread_at trace k ≡ Some h → op_at trace k ≡ Some (Acquire l) → StandsEarlier s q k → IsPassing (is_release (only e.thread) l) trace (b + 1) k r → ⊥
      given_on k r of_h acquires_k stands found =
          let parts = is_release_parts (only e.thread) l found.event found.passes in
          let gives : op_at trace r ≡ Some (Release l) = op_is trace r found.event found.at ∙ ap (λ (o : Op). Some o) parts.1 in
          let of_t : thread_at trace r ≡ Some e.thread = thread_is trace r found.event found.at ∙ ap (λ (n : ℕ). Some n) (release_tests e.thread l found.event found.passes) in
          let first = stands.earlier in
          let given = release_stands trace s (length s) unbroken stands.index k r l (omega (arith, first, within)) stands.at acquires_k gives found.below in
          let second = given.earlier in
          let from = found.from in
          let prior = thread_stands trace s (length s) unbroken given.index r b e.thread (omega (arith, first, second, within)) given.at (omega (arith, from)) of_thread of_t in
          not_before given.index (omega (arith, first, second)) prior

      acquired_later : (k : ℕ) → IsPassing (is_acquire (only h) l) trace b m k → ⊥
      acquired_later k found =
          let parts = is_acquire_parts (only h) l found.event found.passes in
          let acquires_k : op_at trace k ≡ Some (Acquire l) = op_is trace k found.event found.at ∙ ap (λ (o : Op). Some o) parts.1 in
          let of_event = acquire_tests h l found.event found.passes in
          let of_h : thread_at trace k ≡ Some h = thread_is trace k found.event found.at ∙ ap (λ (n : ℕ). Some n) of_event in
          let stands = cut.standing k of_h found.below in
          let free : acquires (other_than found.event.thread) l (take k trace) ≡ releases (other_than found.event.thread) l (take k trace) = subst (MayDo (take k trace) found.event.thread) parts.1 (disciplined k found.event found.at).may_do in
          let free_t = others_balanced (take k trace) l found.event.thread e.thread (holder_after trace l k (disciplined_below trace k disciplined)) (λ same. ne (sym (same ∙ of_event))) free in
          let later = apart k of_h found.from in
          let one = acquires_yes trace b e here.is (only e.thread) l (ap (op_is_acquire l) is ∙ eq-eqb l l refl) in
          let own : ◌≡◌ {A = ℕ} (cond (only e.thread e.thread) 1 0) 1 = rw (eq-eqb e.thread e.thread refl) refl in
          let kept = releases_no trace b e here.is (only e.thread) l (ap (op_is_release l) is) in
          let le = releases_le trace l b (disciplined_below trace b disciplined) (only e.thread) in
          let mono = count_mono (is_acquire (only e.thread) l) trace (b + 1) k (omega (arith, later)) in
          let more : releases (only e.thread) l (take (b + 1) trace) < releases (only e.thread) l (take k trace) = omega (arith, free_t, one, own, kept, le, mono) in
          let released = some_counted (is_release (only e.thread) l) trace (b + 1) k more in
          given_on k released.0 of_h acquires_k stands released.1
        where
          apart : (k : ℕ) → thread_at trace k ≡ Some h → b ≤ k → b < k
          apart k of_h le = elim (cases_lt b k) [ inl lt ↦ lt | inr ge ↦ absurd (ne (let same : k ≡ b = omega (arith, le, ge) in let at_b : thread_at trace b ≡ Some h = subst (λ (j : ℕ). thread_at trace j ≡ Some h) same of_h in let both : Some h ≡ Some e.thread = sym at_b ∙ of_thread in cc)) ]

      -- so no other thread holds the lock
      not_held : (d : ℕ) → 0 < d → acquires (only h) l (take q (events_at trace s)) ≡ releases (only h) l (take q (events_at trace s)) + d → ⊥
      not_held d some held = go (cases_lt b m)
        where
          at_cut : acquires (only h) l (take m trace) ≡ releases (only h) l (take m trace) + d
          at_cut =
              let a = cut.counts (is_acquire (only h) l) (acquire_tests h l) in
              let r = cut.counts (is_release (only h) l) (release_tests h l) in
              omega (arith, a, r, held)

          at_event : acquires (only h) l (take b trace) ≡ releases (only h) l (take b trace)
          at_event = others_balanced (take b trace) l e.thread h (holder_after trace l b (disciplined_below trace b disciplined)) ne may

          go : (b < m) ⊎ (m ≤ b) → ⊥
          go (inl lt) =
              let mono = count_mono (is_release (only h) l) trace b m (omega (arith, lt)) in
              let cut_is = at_cut in
              let event_is = at_event in
              let found = some_counted (is_acquire (only h) l) trace b m (omega (arith, mono, cut_is, event_is, some)) in
              acquired_later found.0 found.1
          go (inr le) =
              let mono = count_mono (is_acquire (only h) l) trace m b le in
              let cut_is = at_cut in
              let event_is = at_event in
              let found = some_counted (is_release (only h) l) trace m b (omega (arith, mono, cut_is, event_is, some)) in
              released_before found.0 found.1

    may_acquire : (l : ℕ) → e.op ≡ Acquire l → DisciplinedBelow (events_at trace s) q → acquires (other_than e.thread) l (take b trace) ≡ releases (other_than e.thread) l (take b trace) → acquires (other_than e.thread) l (take q (events_at trace s)) ≡ releases (other_than e.thread) l (take q (events_at trace s))
    may_acquire l is below may = go (holder_after (events_at trace s) l q below)
      where
        go : HasHolder (take q (events_at trace s)) l → acquires (other_than e.thread) l (take q (events_at trace s)) ≡ releases (other_than e.thread) l (take q (events_at trace s))
        go held = by_holder (cases_Bool (e.thread == held.holder)) (cases_lt 0 held.depth)
          where
            by_holder : ((e.thread == held.holder) ≡ true) ⊎ ((e.thread == held.holder) ≡ false) → (0 < held.depth) ⊎ (held.depth ≤ 0) → acquires (other_than e.thread) l (take q (events_at trace s)) ≡ releases (other_than e.thread) l (take q (events_at trace s))
            by_holder (inl own) _ =
                let balance = held.balance (other_than e.thread) in
                let none : cond (other_than e.thread held.holder) held.depth 0 ≡ 0 = rw own refl in
                omega (arith, balance, none)
            by_holder (inr other) (inr free) =
                let balance = held.balance (other_than e.thread) in
                let none : cond (other_than e.thread held.holder) held.depth 0 ≡ held.depth = rw other refl in
                omega (arith, balance, none, free)
            by_holder (inr other) (inl some) =
                let cut = cut_of trace s unbroken q held.holder (omega (arith, within)) in
                let balance = held.balance (only held.holder) in
                let all : cond (only held.holder held.holder) held.depth 0 ≡ held.depth = rw (eq-eqb held.holder held.holder refl) refl in
                absurd (not_held l is may held.holder (λ same. (let own = eq-eqb e.thread held.holder (sym same) in (let f : ⊥ = cc in f))) cut.0 cut.1 held.depth some (omega (arith, balance, all)))

    may_do : DisciplinedBelow (events_at trace s) q → (op : Op) → e.op ≡ op → MayDo (take b trace) e.thread op → MayDo (take q (events_at trace s)) e.thread op
    may_do below (Acquire l) is may = may_acquire l is below may
    may_do below (Release l) is may = may_release l may
    may_do below (Fork u) is may = may_fork u is may
    may_do below (Join u) is may = may
    may_do below _ is may = tt

    may_come : DisciplinedBelow (events_at trace s) q → MayCome (take q (events_at trace s)) e
    may_come below = record {
      not_joined = not_joined e.thread refl;
      may_do = may_do below e.op refl (disciplined b e here.is).may_do;
    }

  below_all : (n : ℕ) → DisciplinedBelow (events_at trace s) n
  below_all zero k e lt at = absurd (omega (arith, lt))
  below_all (suc n) k e lt at = go (cases_lt k n) (below_all n)
    where
      go : (k < n) ⊎ (n ≤ k) → DisciplinedBelow (events_at trace s) n → MayCome (take k (events_at trace s)) e
      go (inl low) below = below k e low at
      go (inr high) below = let index = index_of_event trace s unbroken k e at in may_come k index.0 e index.1 (λ j d small at_j. below j d (omega (arith, small, lt)) at_j)

  pub front_disciplined : IsDisciplined (events_at trace s)
  front_disciplined k e at = below_all (suc k) k e (omega arith) at
