-- No index of a list has a reason exactly where the list is a correct reordering that keeps happens-before.
use Rattle.std.proofs.Common.{◌≡◌, ℕ, ◌<◌, ◌⊎◌, inl, inr, List, Some, length, take, refl, sym, ◌∙◌, arith}
use Rattle.std.specs.Prelude.{slice_get, Contains, ◌↔◌}
use Rattle.shb_replay.proofs.Words.{Event, Fork, ForksAfterJoin, IsCorrectReordering, IsDisciplined, IsLatestWrite, IsNext, IsSchedule, IsUnbroken, Join, KeepsHb, LastWrite, LastWriteIn, Read, StandsBefore, StandsEarlier, contains_at, counted_before, event_at_index, events_at, fork_allowed, here, index_of, is_join, is_join_true, lock_passed, op_at, op_is, slice_get_within, step}
use Rattle.shb_replay.specs.declared.broken.Why.TheVariants as whys
use Rattle.shb_replay.proofs.Standing.{stands_before, before_stands_earlier}
use Rattle.shb_replay.proofs.Closed.{once, thread_stands, fork_stands, joined_stands, path_stands}
use Rattle.shb_replay.proofs.Cuts.{members_in_trace}
use Rattle.shb_replay.proofs.FrontDiscipline.{front_disciplined}
use Rattle.shb_replay.proofs.LastWrites.{decide_agree, latest_in, latest_out}

module _ (trace : List Event) (disciplined : IsDisciplined trace) (s : List ℕ) where
  module _ (unbroken : IsUnbroken trace s (length s)) where
    distinct : (a : ℕ) → ¬ StandsBefore s a a
    distinct a h = once trace s (length s) unbroken h.later_index a (slice_get_within s h.later_index a h.second) h.second (record { index = h.index; earlier = h.before; at = h.first })

    -- what stands before the index of a member stands before the member
    before_member : (a b : ℕ) → Contains s b → ((q : ℕ) → q < length s → slice_get s q ≡ Some b → StandsEarlier s q a) → StandsBefore s a b
    before_member a b c stands = let index = index_of s b c in stands_before s index.0 a b index.1 (stands index.0 (slice_get_within s index.0 b index.1) index.1)

    agree_at : (q r x : ℕ) → slice_get s q ≡ Some r → op_at trace r ≡ Some (Read x) → (w : ℕ) → IsLatestWrite trace s q x w ↔ LastWrite trace w r
    agree_at q r x at reads = elim (decide_agree trace s q x r) [ inl h ↦ h | inr not ↦ absurd (unbroken q r whys.LastWrite (slice_get_within s q r at) at (x, record { reads = reads; differ = not })) ]

    reads_same : (w r : ℕ) → Contains s r → LastWriteIn trace s w r ↔ LastWrite trace w r
    reads_same w r c =
        let index = index_of s r c in (
          (λ h. (agree_at index.0 r h.variable index.1 h.reads w).0 (latest_out trace s distinct index.0 h.variable r index.1 w h refl)),
          (λ h. latest_in trace s distinct index.0 h.variable r index.1 w h.reads ((agree_at index.0 r h.variable index.1 h.reads w).1 h)),
        )

    correct : IsCorrectReordering trace s
    correct = record {
      positions = record { in_range = members_in_trace trace s unbroken; distinct = distinct };
      prefixes = λ t a b lt of_a of_b c. before_member a b c (λ q within at. thread_stands trace s (length s) unbroken q b a t within at lt of_a of_b);
      disciplined = front_disciplined trace disciplined s unbroken;
      forks = λ u a b forks of_b c. before_member a b c (λ q within at. fork_stands trace s (length s) unbroken q b a u within at forks of_b);
      joins = λ u a b of_a joins c. before_member a b c (λ q within at. joined_stands trace s (length s) unbroken q b a u within at joins of_a);
      reads = reads_same;
    }

    keeps : KeepsHb trace s
    keeps a b path c = let index = index_of s b c in go index.0 index.1 (path_stands trace s (length s) unbroken index.0 a b (slice_get_within s index.0 b index.1) index.1 path)
      where
        go : (q : ℕ) → slice_get s q ≡ Some b → (a ≡ b) ⊎ StandsEarlier s q a → (a ≡ b) ⊎ StandsBefore s a b
        go q at (inl same) = inl same
        go q at (inr stands) = inr (stands_before s q a b at stands)

    pub reordering : IsCorrectReordering trace s × KeepsHb trace s
    reordering = (correct, keeps)

  module _ (both : IsCorrectReordering trace s × KeepsHb trace s) where
    apart : (a : ℕ) → ¬ StandsBefore s a a
    apart = both.0.positions.distinct

    earlier : (p a e : ℕ) → slice_get s p ≡ Some e → StandsBefore s a e → StandsEarlier s p a
    earlier p a e at h = before_stands_earlier s apart p a e at h

    -- a fork doesn't stand after a join of its thread, since the list is disciplined
    no_join : (p e j : ℕ) → slice_get s p ≡ Some e → ForksAfterJoin trace s p e j → ⊥
    no_join p e j at h =
        let fork = event_at_index trace s both.0.positions.in_range p e at in
        let join = event_at_index trace s both.0.positions.in_range h.stands.index j h.stands.at in
        let fork_op : Some fork.0.op ≡ Some (Fork h.thread) = sym (op_is trace e fork.0 fork.2) ∙ h.forks in
        let join_op : Some join.0.op ≡ Some (Join h.thread) = sym (op_is trace j join.0 join.2) ∙ h.joins in
        let may = fork_allowed (take p (events_at trace s)) fork.0 h.thread (both.0.disciplined p fork.0 fork.1) (let g : fork.0.op ≡ Fork h.thread = cc in g) in
        let some = counted_before (is_join h.thread) (events_at trace s) h.stands.index p join.0 join.1 (is_join_true h.thread join.0 (let g : join.0.op ≡ Join h.thread = cc in g)) h.stands.earlier in
        let none = may.not_joined in
        omega (arith, some, none)

    pub unbroken : IsUnbroken trace s (length s)
    unbroken p e whys.NoSuchEvent lt at h = let low = both.0.positions.in_range e (contains_at s p e at) in omega (arith, low, h)
    unbroken p e whys.Repeated lt at h = apart e (stands_before s p e e at h)
    unbroken p e whys.ThreadOrder lt at (a, before, absent) = absent (earlier p a e at (both.0.prefixes before.thread a e before.earlier before.before_of before.of (contains_at s p e at)))
    unbroken p e whys.ForkMissing lt at (f, before, absent) = absent (earlier p f e at (both.0.forks before.thread f e before.forks before.of (contains_at s p e at)))
    unbroken p e whys.JoinEarly lt at (inl (a, h)) = h.absent (earlier p a e at (both.0.joins h.thread a e h.of h.joins (contains_at s p e at)))
    unbroken p e whys.JoinEarly lt at (inr (j, h)) = no_join p e j at h
    unbroken p e whys.LockOrder lt at (r, h) = go (both.1 r e (step (record { earlier = h.earlier; rule = lock_passed h.lock h.releases h.acquires }) here) (contains_at s p e at))
      where
        go : (r ≡ e) ⊎ StandsBefore s r e → ⊥
        go (inl same) = let low = h.earlier in omega (arith, same, low)
        go (inr before) = h.absent (earlier p r e at before)
    unbroken p e whys.LastWrite lt at (x, h) = h.differ (λ w. (
      (λ latest. (both.0.reads w e (contains_at s p e at)).0 (latest_in trace s apart p x e at w h.reads latest)),
      (λ last. from w ((both.0.reads w e (contains_at s p e at)).1 last)),
    ))
      where
        from : (w : ℕ) → LastWriteIn trace s w e → IsLatestWrite trace s p x w
        from w last = latest_out trace s apart p x e at w last (let same : Some (Read last.variable) ≡ Some (Read x) = sym last.reads ∙ h.reads in cc)
    unbroken p e whys.NotNext lt at h = h

-- where and after which nothing is missing, the list is a schedule
pub schedule_of : (trace : List Event) → IsDisciplined trace → (s : List ℕ) (i j : ℕ) → IsUnbroken trace s (length s) × IsNext trace s i × IsNext trace s j → IsSchedule trace s i j
schedule_of trace disciplined s i j h =
    let both = reordering trace disciplined s h.0 in
    record { reordering = both.0; keeps_hb = both.1; first_next = h.1; second_next = h.2 }

pub of_schedule : (trace : List Event) → IsDisciplined trace → (s : List ℕ) (i j : ℕ) → IsSchedule trace s i j → IsUnbroken trace s (length s) × IsNext trace s i × IsNext trace s j
of_schedule trace disciplined s i j h = (unbroken trace disciplined s (h.reordering, h.keeps_hb), h.first_next, h.second_next)
