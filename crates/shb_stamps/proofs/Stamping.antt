-- What an event learns of others, and the row and the stamps after it.
use Rattle.shb_stamps.proofs.Words.{Acquire, AreMore, BelowPred, BelowRelease, Event, Fork, IsDisciplined, IsFrontBut, IsKnown, IsLatestBefore, IsLatestStamp, IsPred, IsRowFor, IsShared, IsSource, IsStampOf, KeepsWrite, Learns, MayDo, OfThread, Op, Read, Release, ReleasesLock, ShbBelow, Stamp, Write, acquires, by_fork, cases_Bool, cases_eq, cases_lt, cases_order, common_steps, count_mono, counted_before, eqb-true, event_of_op, fork_allowed, fork_below_pred, fork_earlier, forked, from_event, get_or_append_left, get_or_push, happens_before, here, in_thread, is_acquire, is_acquire_parts, is_fork, is_fork_true, is_release, length_push, lock_passed, ne_eqb, nothing_new, of_event, of_none, only, op_at, op_is, pred_earlier, releases, same_thread, step, thread_at, thread_below_pred, thread_is, variable_of}
use Rattle.std.proofs.Common.{◌≡◌, length, ◌≢◌, ℕ, ◌+◌, ◌<◌, ◌≤◌, ◌⊎◌, inl, inr, Bool, true, false, List, [], ◌∷◌, ◌++◌, Option, Some, get_or, take, arith, subst, ap, sym, ◌∙◌, refl}
use Rattle.std.specs.Prelude.{◌↔◌, ◌==◌, option_and_then, slice_get}
use Rattle.shb_links.proofs.Balance.{HasHolder, IsPassing, balanced, disciplined_below, holder_after, some_counted}
use Rattle.shb_stamps.proofs.Fronts.{front_but_same, thread_same}
use Rattle.shb_stamps.proofs.Sources.{StrictlyBelow, acquire_learns, learns_read, read_learns, path_append, edge_path, strictly_below_below, below_cases}

-- rows that grow
pub more_same : (rows : List (List ℕ)) → AreMore rows rows
more_same rows = record { as_long = omega arith; same = λ i lt. refl }

pub more_push : (rows new : List (List ℕ)) (row : List ℕ) → new ≡ rows ++ row ∷ [] → AreMore rows new
more_push rows new row is = grind (arith, common_steps, length_push, get_or_append_left)

-- a row that is added is the last one
pub row_pushed : (rows new : List (List ℕ)) (row : List ℕ) (number : ℕ) → new ≡ rows ++ row ∷ [] → number ≡ length rows → (number < length new) × (get_or new number [] ≡ row)
row_pushed rows new row number is at_end = grind (arith, common_steps, length_push, get_or_push)

module _ (trace : List Event) where
  -- what is known of the rows stays known as they grow
  pub row_more : (rows more : List (List ℕ)) (t r : ℕ) (P : ℕ → Type 0) → AreMore rows more → IsRowFor trace rows t P r → IsRowFor trace more t P r
  row_more rows more t r P grown h = record {
    in_range = (let long = grown.as_long in let low = h.in_range in omega (arith, long, low));
    front = subst (IsFrontBut trace t P) (sym (grown.same r h.in_range)) h.front;
  }

  pub row_same : (rows : List (List ℕ)) (t r : ℕ) (P Q : ℕ → Type 0) → ((s k : ℕ) → thread_at trace k ≡ Some s → s ≢ t → P k ↔ Q k) → IsRowFor trace rows t P r → IsRowFor trace rows t Q r
  row_same rows t r P Q same h = record { in_range = h.in_range; front = front_but_same trace t P Q (get_or rows r []) same h.front }

  pub stamp_more : (rows more : List (List ℕ)) (e : ℕ) (stamp : Stamp) → AreMore rows more → IsStampOf trace rows e stamp → IsStampOf trace more e stamp
  stamp_more rows more e stamp grown h = record { of_thread = h.of_thread; time_is = h.time_is; row_is = row_more rows more stamp.thread stamp.row _ grown h.row_is }

  pub latest_more : (rows more : List (List ℕ)) (P : ℕ → Type 0) (n : ℕ) (stamp : Stamp) → AreMore rows more → IsLatestStamp trace rows P n stamp → IsLatestStamp trace more P n stamp
  latest_more rows more P n stamp grown (of_event e latest is) = of_event e latest (stamp_more rows more e stamp grown is)
  latest_more rows more P n stamp grown (of_none absent zero) = of_none absent zero

  -- the stamp of event n is that of the latest of x, and of no other number
  pub latest_skip : (rows : List (List ℕ)) (P : ℕ → Type 0) (n : ℕ) (stamp : Stamp) → (P n → ⊥) → IsLatestStamp trace rows P n stamp → IsLatestStamp trace rows P (n + 1) stamp
  latest_skip rows P n stamp fails (of_event e latest is) = of_event e (record {
    earlier = (let lt = latest.earlier in omega (arith, lt));
    holds = latest.holds;
    last = λ m low high h. elim (cases_lt m n) [ inl lt ↦ latest.last m low lt h | inr le ↦ fails (subst P (let g : m ≡ n = omega (arith, high, le) in g) h) ];
  }) is
  latest_skip rows P n stamp fails (of_none absent zero) = of_none (λ k lt h. elim (cases_lt k n) [ inl low ↦ absent k low h | inr le ↦ fails (subst P (let g : k ≡ n = omega (arith, lt, le) in g) h) ]) zero

module _ (trace : List Event) (disciplined : IsDisciplined trace) where
  -- a later release of a lock is above an earlier one
  module _ (l k r : ℕ) (e d : Event) (at_r : slice_get trace r ≡ Some e) (at_k : slice_get trace k ≡ Some d) (releases_r : e.op ≡ Release l) (releases_k : d.op ≡ Release l) (lt : k < r) where
    may : (b : ℕ) (f : Event) → slice_get trace b ≡ Some f → f.op ≡ Release l → releases (only f.thread) l (take b trace) < acquires (only f.thread) l (take b trace)
    may b f at is = subst (MayDo (take b trace) f.thread) is (disciplined b f at).may_do

    free : d.thread ≢ e.thread → acquires (only e.thread) l (take k trace) ≡ releases (only e.thread) l (take k trace)
    free ne = by_holder (holder_after trace l k (disciplined_below trace k disciplined))
      where
        by_thread : (held : HasHolder (take k trace) l) → ((d.thread == held.holder) ≡ true) ⊎ ((d.thread == held.holder) ≡ false) → acquires (only e.thread) l (take k trace) ≡ releases (only e.thread) l (take k trace)
        by_thread held (inl own) = balanced (take k trace) l e.thread held (ne_eqb e.thread held.holder (λ same. ne (eqb-true d.thread held.holder own ∙ sym same)))
        by_thread held (inr other) =
            let none = balanced (take k trace) l d.thread held other in
            let some = may k d at_k releases_k in
            absurd (omega (arith, none, some))

        by_holder : HasHolder (take k trace) l → acquires (only e.thread) l (take k trace) ≡ releases (only e.thread) l (take k trace)
        by_holder held = by_thread held (cases_Bool (d.thread == held.holder))

    -- by another thread it comes after an acquire of that thread
    taken_between : d.thread ≢ e.thread → (a : ℕ) × IsPassing (is_acquire (only e.thread) l) trace k r a
    taken_between ne = some_counted (is_acquire (only e.thread) l) trace k r (let some = may r e at_r releases_r in let same = free ne in let mono = count_mono (is_release (only e.thread) l) trace k r (omega (arith, lt)) in omega (arith, some, same, mono))

    gives : op_at trace k ≡ Some (Release l)
    gives = op_is trace k d at_k ∙ ap (λ (o : Op). Some o) releases_k

    apart : (a : ℕ) → op_at trace a ≡ Some (Acquire l) → k ≤ a → k < a
    apart a takes le = elim (cases_lt k a) [ inl low ↦ low | inr ge ↦ absurd (let same : a ≡ k = omega (arith, le, ge) in let both : Some (Acquire l) ≡ Some (Release l) = sym takes ∙ (ap (op_at trace) same ∙ gives) in (let f : ⊥ = cc in f)) ]

    events_chain : (d.thread ≡ e.thread) ⊎ (d.thread ≢ e.thread) → ShbBelow trace k r
    events_chain (inl same) = edge_path trace k r (happens_before (record { earlier = lt; rule = same_thread e.thread (thread_is trace k d at_k ∙ ap (λ (n : ℕ). Some n) same) (thread_is trace r e at_r) }))
    events_chain (inr ne) =
        let found = taken_between ne in
        let a = found.0 in
        let parts = is_acquire_parts (only e.thread) l found.1.event found.1.passes in
        let own : found.1.event.thread ≡ e.thread = sym (eqb-true e.thread found.1.event.thread parts.0) in
        let of_t : thread_at trace a ≡ Some e.thread = thread_is trace a found.1.event found.1.at ∙ ap (λ (n : ℕ). Some n) own in
        let takes : op_at trace a ≡ Some (Acquire l) = op_is trace a found.1.event found.1.at ∙ ap (λ (o : Op). Some o) parts.1 in
        step (happens_before (record { earlier = apart a takes found.1.from; rule = lock_passed l gives takes })) (edge_path trace a r (happens_before (record { earlier = found.1.below; rule = same_thread e.thread of_t (thread_is trace r e at_r) })))

  pub release_chain : (l k r : ℕ) → op_at trace k ≡ Some (Release l) → op_at trace r ≡ Some (Release l) → k < r → ShbBelow trace k r
  release_chain l k r releases_k releases_r lt =
      let e = event_of_op trace r (Release l) releases_r in
      let d = event_of_op trace k (Release l) releases_k in
      events_chain l k r e.0 d.0 e.1 d.1 e.2 d.2 lt (cases_eq d.0.thread e.0.thread)

  -- so what is below a release of the lock is below the last one
  below_last_release : (l n r k : ℕ) → IsLatestBefore (ReleasesLock trace l) n r → ShbBelow trace k r ↔ BelowRelease trace l n k
  below_last_release l n r k latest = (
    (λ path. record { release = r; releases = latest.holds; earlier = latest.earlier; below = path }),
    (λ h. path_append trace k h.release r h.below (up h.release h.releases h.earlier (cases_order h.release r))),
  )
    where
      up : (c : ℕ) → op_at trace c ≡ Some (Release l) → c < n → (c ≡ r) ⊎ ((c < r) ⊎ (r < c)) → ShbBelow trace c r
      up c releases lt (inl same) = subst (λ (x : ℕ). ShbBelow trace c x) same here
      up c releases lt (inr (inl low)) = release_chain l c r releases latest.holds low
      up c releases lt (inr (inr high)) = absurd (latest.last c high lt releases)

  -- what a thread knows in front of its own event, and after it
  pub known_pred : (e t : ℕ) → thread_at trace e ≡ Some t → (k : ℕ) → IsKnown trace t e k ↔ BelowPred trace k e
  known_pred e t of_e k = ((λ h. down h h.of_or_forks), (λ below. up below.0 below.2 below.1))
    where
      -- what the thread knows is below an event before e that is of the thread or forks it, and so below e's predecessor
      down : (h : IsKnown trace t e k) → (thread_at trace h.event ≡ Some t) ⊎ (op_at trace h.event ≡ Some (Fork t)) → BelowPred trace k e
      down h (inl of_t) = let below = thread_below_pred trace t h.event e h.earlier of_t of_e in (below.0, below.1, path_append trace k h.event below.0 h.below below.2)
      down h (inr forks) = let below = fork_below_pred trace disciplined t h.event e forks of_e in (below.0, below.1, path_append trace k h.event below.0 h.below below.2)

      -- the predecessor is of the thread, or forks it, so the thread knows what is below it
      up : (p : ℕ) → ShbBelow trace k p → IsPred trace p e → IsKnown trace t e k
      up p path (in_thread u of_p of_u lt last) = record { event = p; earlier = lt; of_or_forks = inl (of_p ∙ ap (λ (n : ℕ). Some n) (thread_same trace e u t of_u of_e)); below = path }
      up p path (by_fork u forks of_u none) = record { event = p; earlier = pred_earlier trace disciplined p e (by_fork u forks of_u none); of_or_forks = inr (forks ∙ ap (λ (n : ℕ). Some (Fork n)) (thread_same trace e u t of_u of_e)); below = path }

  -- what thread t knows where its latest event is e is what is below e
  pub known_latest : (n e t : ℕ) → IsLatestBefore (OfThread trace t) n e → (k : ℕ) → IsKnown trace t n k ↔ ShbBelow trace k e
  known_latest n e t latest k = (
    (λ h. path_append trace k h.event e h.below (reach h.event h.earlier h.of_or_forks (cases_order h.event e))),
    (λ path. record { event = e; earlier = latest.earlier; of_or_forks = inl latest.holds; below = path }),
  )
    where
      reach : (c : ℕ) → c < n → (thread_at trace c ≡ Some t) ⊎ (op_at trace c ≡ Some (Fork t)) → (c ≡ e) ⊎ ((c < e) ⊎ (e < c)) → ShbBelow trace c e
      reach c lt is (inl same) = subst (λ (x : ℕ). ShbBelow trace c x) same here
      reach c lt (inl of_t) (inr (inl low)) = edge_path trace c e (happens_before (record { earlier = low; rule = same_thread t of_t latest.holds }))
      reach c lt (inl of_t) (inr (inr high)) = absurd (latest.last c high lt of_t)
      reach c lt (inr forks) (inr order) = edge_path trace c e (happens_before (record { earlier = fork_earlier trace disciplined t c e forks latest.holds; rule = forked t forks latest.holds }))

  fork_unique : (t a b : ℕ) → op_at trace a ≡ Some (Fork t) → op_at trace b ≡ Some (Fork t) → a < b → ⊥
  fork_unique t a b fork_a fork_b lt =
      let e = event_of_op trace a (Fork t) fork_a in
      let d = event_of_op trace b (Fork t) fork_b in
      let may_fork = fork_allowed _ d.0 t (disciplined b d.0 d.1) d.2 in
      let some = counted_before (is_fork t) trace a b e.0 e.1 (is_fork_true t e.0 e.2) lt in
      let none = may_fork.not_forked in
      omega (arith, some, none)

  -- what a forked thread knows at first is what is below its fork
  pub known_forked : (n t : ℕ) → op_at trace n ≡ Some (Fork t) → (k : ℕ) → ShbBelow trace k n ↔ IsKnown trace t (n + 1) k
  known_forked n t forks k = (
    (λ path. record { event = n; earlier = omega arith; of_or_forks = inr forks; below = path }),
    (λ h. subst (λ (x : ℕ). ShbBelow trace k x) (only_fork h.event h.earlier h.of_or_forks) h.below),
  )
    where
      only_fork : (c : ℕ) → c < n + 1 → (thread_at trace c ≡ Some t) ⊎ (op_at trace c ≡ Some (Fork t)) → c ≡ n
      only_fork c lt (inl of_t) = let later = fork_earlier trace disciplined t n c forks of_t in absurd (omega (arith, lt, later))
      only_fork c lt (inr again) = elim (cases_lt c n) [ inl low ↦ absurd (fork_unique t c n again forks low) | inr le ↦ omega (arith, lt, le) ]

  -- what another thread knows stays
  pub known_other : (n t : ℕ) → thread_at trace n ≢ Some t → op_at trace n ≢ Some (Fork t) → (k : ℕ) → IsKnown trace t n k ↔ IsKnown trace t (n + 1) k
  known_other n t other no_fork k = (
    (λ h. record { event = h.event; earlier = (let lt = h.earlier in omega (arith, lt)); of_or_forks = h.of_or_forks; below = h.below }),
    (λ h. record { event = h.event; earlier = low h.event h.earlier h.of_or_forks (cases_lt h.event n); of_or_forks = h.of_or_forks; below = h.below }),
  )
    where
      low : (c : ℕ) → c < n + 1 → (thread_at trace c ≡ Some t) ⊎ (op_at trace c ≡ Some (Fork t)) → (c < n) ⊎ (n ≤ c) → c < n
      low c lt is (inl less) = less
      low c lt (inl of_t) (inr le) = absurd (other (subst (λ (x : ℕ). thread_at trace x ≡ Some t) (let g : c ≡ n = omega (arith, lt, le) in g) of_t))
      low c lt (inr forks) (inr le) = absurd (no_fork (subst (λ (x : ℕ). op_at trace x ≡ Some (Fork t)) (let g : c ≡ n = omega (arith, lt, le) in g) forks))

  -- the stamp of all that an event learns
  pub source_acquire : (rows : List (List ℕ)) (e l : ℕ) (stamp : Stamp) → op_at trace e ≡ Some (Acquire l) → IsLatestStamp trace rows (ReleasesLock trace l) e stamp → IsSource trace rows e stamp
  source_acquire rows e l stamp takes (of_event r latest is) = from_event r latest.earlier is (λ k. let one = below_last_release l e r k latest in let two = acquire_learns trace disciplined e l k takes in ((λ path. two.0 (one.0 path)), (λ learns. one.1 (two.1 learns))))
  source_acquire rows e l stamp takes (of_none absent zero) = nothing_new (λ k learns. absurd (let h = (acquire_learns trace disciplined e l k takes).1 learns in absent h.release h.earlier h.releases)) zero

  -- a variable that one thread writes and another reads is shared
  write_shared : (w e x : ℕ) → op_at trace w ≡ Some (Write x) → op_at trace e ≡ Some (Read x) → thread_at trace w ≢ thread_at trace e → IsShared trace x
  write_shared w e x writes reads other = record {
    first = w;
    second = e;
    first_accesses = ap (λ (o : Option Op). option_and_then variable_of o) writes;
    second_accesses = ap (λ (o : Option Op). option_and_then variable_of o) reads;
    other_thread = other;
  }

  -- a read of a variable of which no write is kept learns nothing that its thread doesn't know
  pub read_known : (all : Bool) (e x k : ℕ) → op_at trace e ≡ Some (Read x) → ((w : ℕ) → w < e → ¬ KeepsWrite all trace x w) → Learns trace e k → BelowPred trace k e
  read_known all e x k reads absent learns =
      let from = learns_read trace disciplined e x k reads learns in
      let w = from.write in
      let writes : op_at trace w ≡ Some (Write x) = from.last.writes ∙ ap (λ (y : ℕ). Some (Write y)) (let h = from.last.reads in let s : Some (Read from.last.variable) ≡ Some (Read x) = sym h ∙ reads in cc) in
      let a = event_of_op trace w (Write x) writes in
      let b = event_of_op trace e (Read x) reads in
      let of_w = thread_is trace w a.0 a.1 in
      let of_e = thread_is trace e b.0 b.1 in
      let below : BelowPred trace w e = elim (cases_eq a.0.thread b.0.thread) [
        | inl same ↦ thread_below_pred trace b.0.thread w e from.last.earlier (of_w ∙ ap (λ (n : ℕ). Some n) same) of_e
        | inr ne ↦ absurd (absent w from.last.earlier (inr (write_shared w e x writes reads (λ one. ne (let s : Some a.0.thread ≡ Some b.0.thread = sym of_w ∙ (one ∙ of_e) in cc))), writes))
      ] in
      (below.0, below.1, path_append trace k w below.0 from.below below.2)

  pub source_read : (all : Bool) (rows : List (List ℕ)) (e x : ℕ) (stamp : Stamp) → op_at trace e ≡ Some (Read x) → IsLatestStamp trace rows (KeepsWrite all trace x) e stamp → IsSource trace rows e stamp
  source_read all rows e x stamp reads (of_event w latest is) = from_event w latest.earlier is (λ k. read_learns trace disciplined e x w k reads (record { variable = x; reads = reads; writes = latest.holds.1; earlier = latest.earlier; latest = λ m low high writes. latest.last m low high (latest.holds.0, writes) }))
  source_read all rows e x stamp reads (of_none absent zero) = nothing_new (λ k learns. read_known all e x k reads absent learns) zero

  -- the row after an event of thread u
  module _ (rows : List (List ℕ)) (e u before : ℕ) (of_e : thread_at trace e ≡ Some u) (row : IsRowFor trace rows u (λ k. BelowPred trace k e) before) where
    from_others : (P : ℕ → Type 0) (t k : ℕ) → thread_at trace k ≡ Some t → t ≢ u → (StrictlyBelow trace e k → P k) → ShbBelow trace k e → P k
    from_others P t k of_k ne go path = elim (below_cases trace disciplined k e path) [
      | inl same ↦ absurd (ne (thread_same trace e t u (subst (λ (m : ℕ). thread_at trace m ≡ Some t) same of_k) of_e))
      | inr strictly ↦ go strictly
    ]

    pred_below : (t k : ℕ) → ((j : ℕ) → Learns trace e j → BelowPred trace j e) → thread_at trace k ≡ Some t → t ≢ u → BelowPred trace k e ↔ ShbBelow trace k e
    pred_below t k nothing of_k ne = (
      (λ below. strictly_below_below trace disciplined k e (inl below)),
      (λ path. from_others (λ j. BelowPred trace j e) t k of_k ne (λ h. elim h [ inl below ↦ below | inr learns ↦ nothing k learns ]) path),
    )

    pub row_nothing_new : ((k : ℕ) → Learns trace e k → BelowPred trace k e) → IsRowFor trace rows u (λ k. ShbBelow trace k e) before
    row_nothing_new nothing = row_same trace rows u before (λ k. BelowPred trace k e) (λ k. ShbBelow trace k e) (λ t k of_k ne. pred_below t k nothing of_k ne) row

    source_known : (r : ℕ) (source : Stamp) → r < e → IsStampOf trace rows r source → (source.thread ≡ u) ⊎ (source.time ≤ get_or (get_or rows before []) source.thread 0) → (source.thread ≡ u) ⊎ (source.thread ≢ u) → BelowPred trace r e
    source_known r source lt is known (inl same) = thread_below_pred trace u r e lt (is.of_thread ∙ ap (λ (n : ℕ). Some n) same) of_e
    source_known r source lt is (inl same) (inr ne) = absurd (ne same)
    source_known r source lt is (inr le) (inr ne) = (row.front.exact source.thread r is.of_thread ne).0 (let time = is.time_is in omega (arith, le, time))

    pub row_known : (source : Stamp) → IsSource trace rows e source → (source.thread ≡ u) ⊎ (source.time ≤ get_or (get_or rows before []) source.thread 0) → IsRowFor trace rows u (λ k. ShbBelow trace k e) before
    row_known source (nothing_new known zero) is = row_nothing_new known
    row_known source (from_event r lt is same) known =
        let below = source_known r source lt is known (cases_eq source.thread u) in
        row_nothing_new (λ k learns. (below.0, below.1, path_append trace k r below.0 ((same k).1 learns) below.2))

    -- the source, where it isn't known
    pub source_new : (source : Stamp) → IsSource trace rows e source → ((source.thread ≡ u) ⊎ (source.time ≤ get_or (get_or rows before []) source.thread 0) → ⊥) → (r : ℕ) × (r < e) × IsStampOf trace rows r source × ((k : ℕ) → ShbBelow trace k r ↔ Learns trace e k)
    source_new source (from_event r lt is same) unknown = (r, lt, is, same)
    source_new source (nothing_new nothing zero) unknown = absurd (unknown (inr (omega (arith, zero))))
