-- What is kept of the order of a trace, an event more.
use Rattle.std.proofs.Common.{◌≡◌, ◌≢◌, ℕ, ◌+◌, ◌-◌, ◌<◌, ◌≤◌, ◌^◌, ◌⊎◌, inl, inr, Bool, true, false, List, [], ◌∷◌, ◌++◌, Some, length, get_or, take, arith, refl, sym, subst, ◌∙◌, ap, get_or-set_same, get_or-set_other}
use Rattle.std.specs.Prelude.{◌↔◌, count_by, max, slice_get, replicate}
use Rattle.shb_stamps.proofs.Words.{Acquire, AreAlike, AreClocks, AreMore, BelowPred, Covers, Event, Fork, HasMoved, HasRowAfter, IsDisciplined, IsFrontBut, IsKnown, IsLatest, IsLatestBefore, IsLatestStamp, IsMovedRow, IsMovedStamp, IsNext, IsPut, IsRowFor, IsSource, IsStampOf, Join, KeepsWrite, KnowsStamp, Learns, MovesRow, OfThread, Op, Read, Release, ReleasesLock, ShbBelow, Stamp, Write, cases_Bool, cases_eq, cases_lt, count_gap, counted_before, empty_stamp, event_of_thread, from_event, get_or-replicate, get_or_past, get_or_push, is_of, is_of_thread, is_of_true, latest_below, length-append, length-replicate, length_push, local_time, nothing_new, of_event, of_none, of_thread, of_thread_at, of_thread_true, op_at, set, thread_at, thread_is}
use Rattle.shb_stamps.specs.declared.clocks.AfterSource.{AfterSource}
use Rattle.shb_stamps.proofs.Fronts.{IsFront, front_whole, thread_in_range, thread_same, zero_entry}
use Rattle.shb_stamps.proofs.Locals.{time_at}
use Rattle.shb_stamps.proofs.MovedLemmas.{latest_moved, row_moved}
use Rattle.shb_stamps.proofs.Raised.{zeros_after}
use Rattle.shb_stamps.proofs.Sources.{join_learns, learns_join, learns_nothing, path_append, strictly_below_below, below_cases}
use Rattle.shb_stamps.proofs.Stamping.{known_forked, known_latest, known_other, known_pred, latest_more, latest_skip, more_push, more_same, read_known, row_known, row_more, row_nothing_new, row_same, source_acquire, source_new, source_read}

-- a clock whose entries are those of another
front_alike : (trace : List Event) (P : ℕ → Type 0) (one two : List ℕ) → ((t : ℕ) → get_or two t 0 ≡ get_or one t 0) → IsFront trace P one → IsFront trace P two
front_alike trace P one two same h = record {
  within = λ t. (let le = h.within t in let s = same t in omega (arith, le, s));
  exact = λ t k of_k. (let known = h.exact t k of_k in let s = same t in ((λ le. known.0 (omega (arith, le, s))), (λ p. let le = known.1 p in omega (arith, le, s))));
}

-- the clock of an event: the row, with the event's local time put at its thread
pub front_put : (trace : List Event) (b u : ℕ) (row clock : List ℕ) → thread_at trace b ≡ Some u → IsPut 0 u (local_time trace u b) row clock → IsFrontBut trace u (λ k. ShbBelow trace k b) row → IsFront trace (λ k. ShbBelow trace k b) clock
front_put trace b u row clock of_b put but = front_alike trace (λ k. ShbBelow trace k b) (set wide u (local_time trace u b)) clock (λ t. go t (cases_eq t u)) (front_whole trace b u wide of_b low (record {
  within = λ t ne. (let le = but.within t ne in let s = zeros_after row (u + 1) t in omega (arith, le, s));
  exact = λ t k of_k ne. (let known = but.exact t k of_k ne in let s = zeros_after row (u + 1) t in ((λ le. known.0 (omega (arith, le, s))), (λ p. let le = known.1 p in omega (arith, le, s))));
}))
  where
    wide : List ℕ
    wide = row ++ replicate (u + 1) 0

    low : u < length wide
    low = let long = length-append row (replicate (u + 1) 0) in let zeros = length-replicate {A = ℕ} (u + 1) 0 in omega (arith, long, zeros)

    go : (t : ℕ) → (t ≡ u) ⊎ (t ≢ u) → get_or clock t 0 ≡ get_or (set wide u (local_time trace u b)) t 0
    go t (inl same) = ap (λ (v : ℕ). get_or clock v 0) same ∙ (put.there ∙ (sym (get_or-set_same wide u (local_time trace u b) 0 low) ∙ ap (λ (v : ℕ). get_or (set wide u (local_time trace u b)) v 0) (sym same)))
    go t (inr ne) = put.others t ne ∙ (sym (zeros_after row (u + 1) t) ∙ sym (get_or-set_other wide u t (local_time trace u b) 0 ne))

module _ (trace : List Event) (disciplined : IsDisciplined trace) where
  -- the last event of a thread that had some
  pub last_event : (v e time : ℕ) → e ≤ length trace → time ≡ count_by (is_of v) (take e trace) → 0 < time → (b : ℕ) × IsLatestBefore (OfThread trace v) e b × (time ≡ local_time trace v b)
  last_event v e time within is some = elim (latest_below (of_thread trace v) e) [
    | inl last_one ↦ (last_one.0, latest last_one.0 last_one.1, time_of last_one.0 last_one.1)
    | inr none ↦ absurd (let gap = count_gap (is_of v) trace 0 e (omega arith) (λ k d low high at. fails k d at (none k high)) in let zero_count : count_by (is_of v) (take 0 trace) ≡ 0 = refl in omega (arith, gap, zero_count, is, some))
  ]
    where
      fails : (k : ℕ) (d : Event) → slice_get trace k ≡ Some d → of_thread trace v k ≡ false → is_of v d ≡ false
      fails k d at none = elim (cases_Bool (is_of v d)) [
        | inr fails_it ↦ fails_it
        | inl passes ↦ absurd (let of_v : of_thread trace v k ≡ true = of_thread_at trace v k (thread_is trace k d at ∙ ap (λ (t : ℕ). Some t) (is_of_thread v d passes)) in (let f : ⊥ = cc in f))
      ]

      latest : (b : ℕ) → IsLatest (of_thread trace v) e b → IsLatestBefore (OfThread trace v) e b
      latest b h = record { earlier = h.below; holds = of_thread_true trace v b h.passing; last = λ m low high of_m. (let fails_it = h.last m low high in let passes_it = of_thread_at trace v m of_m in (let f : ⊥ = cc in f)) }

      time_of : (b : ℕ) → IsLatest (of_thread trace v) e b → time ≡ local_time trace v b
      time_of b h = is ∙ count_gap (is_of v) trace (b + 1) e (let lt = h.below in omega (arith, lt)) (λ k d low high at. fails k d at (h.last k (omega (arith, low)) high))

  -- the row after an event that learns of others: the clock of the source
  module _ (rows : List (List ℕ)) (e u before : ℕ) (of_e : thread_at trace e ≡ Some u) (row : IsRowFor trace rows u (λ k. BelowPred trace k e) before) (source : Stamp) (is : IsSource trace rows e source)
      (unknown : (source.thread ≡ u) ⊎ (source.time ≤ get_or (get_or rows before []) source.thread 0) → ⊥) (clock : List ℕ) (put : IsPut 0 source.thread source.time (get_or rows source.row []) clock) where
    found : (r : ℕ) × (r < e) × IsStampOf trace rows r source × ((k : ℕ) → ShbBelow trace k r ↔ Learns trace e k)
    found = source_new trace disciplined rows e u before of_e row source is unknown

    front : IsFront trace (λ k. ShbBelow trace k found.0) clock
    front = front_put trace found.0 source.thread (get_or rows source.row []) clock found.2.of_thread (subst (λ (n : ℕ). IsPut 0 source.thread n (get_or rows source.row []) clock) found.2.time_is put) found.2.row_is.front

    by_learning : (t k : ℕ) → thread_at trace k ≡ Some t → local_time trace t k ≤ get_or clock t 0 → ShbBelow trace k e
    by_learning t k of_k le = strictly_below_below trace disciplined k e (inr ((found.3 k).0 ((front.exact t k of_k).0 le)))

    -- to which the row before was joined
    module _ (joined : List ℕ) (each : (t : ℕ) → get_or joined t 0 ≡ max (get_or (get_or rows before []) t 0) (get_or clock t 0)) where
      down : (t k : ℕ) → thread_at trace k ≡ Some t → t ≢ u → local_time trace t k ≤ get_or joined t 0 → ShbBelow trace k e
      down t k of_k ne le = elim (cases_lt (get_or (get_or rows before []) t 0) (local_time trace t k)) [
        | inr low ↦ strictly_below_below trace disciplined k e (inl ((row.front.exact t k of_k ne).0 low))
        | inl high ↦ by_learning t k of_k (let m = each t in omega (arith, m, high, le))
      ]

      up : (t k : ℕ) → thread_at trace k ≡ Some t → t ≢ u → ShbBelow trace k e → local_time trace t k ≤ get_or joined t 0
      up t k of_k ne path = elim (below_cases trace disciplined k e path) [
        | inl same ↦ absurd (ne (let one : Some t ≡ Some u = sym (subst (λ (m : ℕ). thread_at trace m ≡ Some t) same of_k) ∙ of_e in cc))
        | inr strictly ↦ elim strictly [
          | inl below ↦ (let le = (row.front.exact t k of_k ne).1 below in let m = each t in omega (arith, m, le))
          | inr learned ↦ (let le = (front.exact t k of_k).1 ((found.3 k).1 learned) in let m = each t in omega (arith, m, le))
        ]
      ]

      pub joined_front : IsFrontBut trace u (λ k. ShbBelow trace k e) joined
      joined_front = record {
        within = λ t ne. (let a = row.front.within t ne in let b = front.within t in let m = each t in omega (arith, a, b, m));
        exact = λ t k of_k ne. (down t k of_k ne, up t k of_k ne);
      }

    -- which has all that the thread knew, if the source's row has each of its events
    module _ (time : ℕ) (time_is : time ≡ local_time trace u e) (covers : Covers (get_or rows source.row []) u time) where
      last : (b : ℕ) × IsLatestBefore (OfThread trace u) e b × (time - 1 ≡ local_time trace u b)
      last = last_event u e (time - 1) (let low = thread_in_range trace e u of_e in omega (arith, low)) (let at = time_at trace u e of_e in omega (arith, at, time_is)) (let some = covers.some in omega (arith, some))

      reached : ShbBelow trace last.0 found.0
      reached = (found.2.row_is.front.exact u last.0 last.1.holds (λ same. unknown (inl (sym same)))).0 (let time_of = last.2 in let all = covers.all in omega (arith, time_of, all))

      known : (k : ℕ) → BelowPred trace k e → ShbBelow trace k found.0
      known k below = path_append trace k last.0 found.0 ((known_latest trace disciplined e last.0 u last.1 k).0 ((known_pred trace disciplined e u of_e k).1 below)) reached

      covered : (t k : ℕ) → thread_at trace k ≡ Some t → t ≢ u → ShbBelow trace k e → local_time trace t k ≤ get_or clock t 0
      covered t k of_k ne path = elim (below_cases trace disciplined k e path) [
        | inl same ↦ absurd (ne (let one : Some t ≡ Some u = sym (subst (λ (m : ℕ). thread_at trace m ≡ Some t) same of_k) ∙ of_e in cc))
        | inr strictly ↦ (front.exact t k of_k).1 (elim strictly [ inl below ↦ known k below | inr learned ↦ (found.3 k).1 learned ])
      ]

      pub covered_front : IsFrontBut trace u (λ k. ShbBelow trace k e) clock
      covered_front = record {
        within = λ t ne. front.within t;
        exact = λ t k of_k ne. (by_learning t k of_k, covered t k of_k ne);
      }

-- the row of what a thread knows before its next event
pub row_at : (trace : List Event) → IsDisciplined trace → (n thread : ℕ) (all : Bool) (rows : List (List ℕ)) (current : List ℕ) (locks variables : List Stamp) → thread_at trace n ≡ Some thread → AreClocks trace n all rows current locks variables → (before : ℕ) → before ≡ get_or current thread 0 → IsRowFor trace rows thread (λ k. BelowPred trace k n) before
row_at trace disciplined n thread all rows current locks variables of_thread old before is = subst (IsRowFor trace rows thread (λ k. BelowPred trace k n)) (sym is)
    (row_same trace rows thread (get_or current thread 0) (IsKnown trace thread n) (λ k. BelowPred trace k n) (λ s k of_k ne. known_pred trace disciplined n thread of_thread k) (old.current_are thread))

-- an event more
module _ (trace : List Event) (n thread time joined : ℕ) (op : Op) (next : IsNext trace n thread op time joined) (all : Bool) (rows : List (List ℕ)) (current : List ℕ) (locks variables : List Stamp) (old : AreClocks trace n all rows current locks variables) where
  within : n < length trace
  within = thread_in_range trace n thread next.of_thread

  does : (o : Op) → op ≡ o → op_at trace n ≡ Some o
  does o is = next.does ∙ ap (λ (p : Op). Some p) is

  apart : (o p : Op) → op ≡ o → (o ≡ p → ⊥) → op_at trace n ≡ Some p → ⊥
  apart o p is ne at = ne (let one : Some o ≡ Some p = sym (does o is) ∙ at in cc)

  not_at : (p : Op) → (op ≡ p → ⊥) → op_at trace n ≡ Some p → ⊥
  not_at p ne at = ne (let one : Some op ≡ Some p = sym next.does ∙ at in cc)

  few_rows : length rows < 2 ^ 32
  few_rows = let a = old.few in let b = next.few in omega (arith, a, b)

  row_before : (before : ℕ) → before ≡ get_or current thread 0 → IsRowFor trace rows thread (λ k. BelowPred trace k n) before
  row_before = row_at trace next.disciplined n thread all rows current locks variables next.of_thread old

  -- what it learns of others
  pub acquire_source : (l : ℕ) → op ≡ Acquire l → IsSource trace rows n (get_or locks l empty_stamp)
  acquire_source l is = source_acquire trace next.disciplined rows n l (get_or locks l empty_stamp) (does (Acquire l) is) (old.locks_are l)

  pub read_source : (x : ℕ) → op ≡ Read x → IsSource trace rows n (get_or variables x empty_stamp)
  read_source x is = source_read trace next.disciplined all rows n x (get_or variables x empty_stamp) (does (Read x) is) (old.variables_are x)

  pub join_source : (v : ℕ) → op ≡ Join v → (stamp : Stamp) → stamp.row ≡ get_or current v 0 → stamp.thread ≡ v → stamp.time ≡ joined → IsSource trace rows n stamp
  join_source v is stamp row_is thread_is_v time_is = go (cases_lt 0 stamp.time)
    where
      joins : op_at trace n ≡ Some (Join v)
      joins = does (Join v) is

      counted : stamp.time ≡ count_by (is_of v) (take n trace)
      counted = time_is ∙ next.joined_is v is

      nothing : stamp.time ≡ 0 → (k : ℕ) → Learns trace n k → ⊥
      nothing none k learned =
          let from = learns_join trace next.disciplined n v k joins learned in
          let d = event_of_thread trace from.event v from.of_thread in
          let some = counted_before (is_of v) trace from.event n d.0 d.1 (is_of_true v d.0 d.2) from.earlier in
          omega (arith, some, counted, none)

      go : (0 < stamp.time) ⊎ (stamp.time ≤ 0) → IsSource trace rows n stamp
      go (inr zero_time) = (let none : stamp.time ≡ 0 = omega (arith, zero_time) in nothing_new (λ k learned. absurd (nothing none k learned)) none)
      go (inl some) =
          let last = last_event trace next.disciplined v n stamp.time (omega (arith, within)) counted some in
          from_event last.0 last.1.earlier (record {
            of_thread = last.1.holds ∙ ap (λ (t : ℕ). Some t) (sym thread_is_v);
            time_is = last.2 ∙ ap (λ (t : ℕ). local_time trace t last.0) (sym thread_is_v);
            row_is = subst (λ (r : ℕ). IsRowFor trace rows stamp.thread (λ k. ShbBelow trace k last.0) r) (sym row_is) (subst (λ (t : ℕ). IsRowFor trace rows t (λ k. ShbBelow trace k last.0) (get_or current v 0)) (sym thread_is_v)
                (row_same trace rows v (get_or current v 0) (IsKnown trace v n) (λ k. ShbBelow trace k last.0) (λ s k of_k ne. known_latest trace next.disciplined n last.0 v last.1 k) (old.current_are v)));
          }) (λ k. join_learns trace next.disciplined n v last.0 k joins last.1)

  pub no_source : ((l : ℕ) → op ≡ Acquire l → ⊥) → ((u : ℕ) → op ≡ Join u → ⊥) → ((x : ℕ) → op ≡ Read x → ⊥) → IsSource trace rows n empty_stamp
  no_source no_acquire no_join no_read = nothing_new (λ k learned. absurd (learns_nothing trace next.disciplined n op k next.does no_acquire no_join no_read learned)) refl

  -- the row after the event
  module _ (more : List (List ℕ)) (before : ℕ) (source : Stamp) (after : AfterSource) (before_is : before ≡ get_or current thread 0) (is_source : IsSource trace rows n source) where
    -- whether the thread knew the source
    asked : KnowsStamp (get_or rows before []) thread source ⊎ (KnowsStamp (get_or rows before []) thread source → ⊥)
    asked = elim (cases_eq source.thread thread) [
      | inl same ↦ inl (inl same)
      | inr ne ↦ elim (cases_lt (get_or (get_or rows before []) source.thread 0) source.time) [
        | inr le ↦ inl (inr le)
        | inl high ↦ inr (λ knows. elim knows [ inl same ↦ ne same | inr le ↦ absurd (omega (arith, high, le)) ])
      ]
    ]

    own_row : HasRowAfter rows more thread time before source after → KnowsStamp (get_or rows before []) thread source ⊎ (KnowsStamp (get_or rows before []) thread source → ⊥) → IsRowFor trace more thread (λ k. ShbBelow trace k n) after.row
    own_row has (inl known) = subst (IsRowFor trace more thread (λ k. ShbBelow trace k n)) (sym (has.knew known))
        (row_more trace rows more thread before (λ k. ShbBelow trace k n) has.more (row_known trace next.disciplined rows n thread before next.of_thread (row_before before before_is) source is_source known))
    own_row has (inr unknown) =
        let known_row = (source_new trace next.disciplined rows n thread before next.of_thread (row_before before before_is) source is_source unknown).2.row_is in
        let joined = has.learned unknown few_rows known_row.in_range in
        record {
          in_range = joined.0;
          front = elim joined.1.each [
            | inl raised ↦ joined_front trace next.disciplined rows n thread before next.of_thread (row_before before before_is) source is_source unknown joined.1.clock joined.1.clock_is (get_or more after.row []) raised
            | inr clock ↦ subst (IsFrontBut trace thread (λ k. ShbBelow trace k n)) (sym clock.1) (covered_front trace next.disciplined rows n thread before next.of_thread (row_before before before_is) source is_source unknown joined.1.clock joined.1.clock_is time next.time_is clock.0)
          ];
        }

    renamed_stamp : (P : ℕ → Type 0) → HasRowAfter rows more thread time before source after → after.renames ≡ true → IsLatestStamp trace rows P n source → IsLatestStamp trace more P n (record { row = after.row; thread = source.thread; time = source.time })
    renamed_stamp P has renames (of_none absent zero) = of_none absent zero
    renamed_stamp P has renames (of_event w latest is) = of_event w latest (record { of_thread = is.of_thread; time_is = is.time_is; row_is = record { in_range = put.0; front = record { within = λ t ne. front.within t; exact = λ t k of_k ne. front.exact t k of_k } } })
      where
        put : (after.row < length more) × IsPut 0 source.thread source.time (get_or rows source.row []) (get_or more after.row [])
        put = has.renames renames few_rows

        front : IsFront trace (λ k. ShbBelow trace k w) (get_or more after.row [])
        front = front_put trace w source.thread (get_or rows source.row []) (get_or more after.row []) is.of_thread (subst (λ (m : ℕ). IsPut 0 source.thread m (get_or rows source.row []) (get_or more after.row [])) is.time_is put.1) is.row_is.front

  -- the tables, where the row after the event is known
  module _ (more : List (List ℕ)) (grown : AreMore rows more) (wide : length more ≤ length rows + 1) (row : ℕ) (own : IsRowFor trace more thread (λ k. ShbBelow trace k n) row) (after : List ℕ) (put_row : IsPut 0 thread row current after) where
    abbrev stamp : Stamp
    stamp = record { row = row; thread = thread; time = time }

    last_stamp : IsStampOf trace more n stamp
    last_stamp = record { of_thread = next.of_thread; time_is = next.time_is; row_is = own }

    own_latest : IsLatestBefore (OfThread trace thread) (n + 1) n
    own_latest = record { earlier = omega arith; holds = next.of_thread; last = λ m above below of_m. omega (arith, above, below) }

    -- the row of a thread that the event doesn't fork
    row_of : (t : ℕ) → (op_at trace n ≡ Some (Fork t) → ⊥) → IsRowFor trace more t (IsKnown trace t (n + 1)) (get_or after t 0)
    row_of t no_fork = go (cases_eq t thread)
      where
        go : (t ≡ thread) ⊎ (t ≢ thread) → IsRowFor trace more t (IsKnown trace t (n + 1)) (get_or after t 0)
        go (inl same) = subst (λ (v : ℕ). IsRowFor trace more v (IsKnown trace v (n + 1)) (get_or after v 0)) (sym same) (subst (IsRowFor trace more thread (IsKnown trace thread (n + 1))) (sym put_row.there)
            (row_same trace more thread row (λ k. ShbBelow trace k n) (IsKnown trace thread (n + 1)) (λ s k of_k ne. (let h = known_latest trace next.disciplined (n + 1) n thread own_latest k in (h.1, h.0))) own))
        go (inr ne) = subst (IsRowFor trace more t (IsKnown trace t (n + 1))) (sym (put_row.others t ne))
            (row_same trace more t (get_or current t 0) (IsKnown trace t n) (IsKnown trace t (n + 1)) (λ s k of_k other. known_other trace next.disciplined n t (λ of_t. ne (thread_same trace n t thread of_t next.of_thread)) no_fork k)
            (row_more trace rows more t (get_or current t 0) (IsKnown trace t n) grown (old.current_are t)))

    -- the stamps of a table, of which one was put at the number that the event names
    latest_put : (P : ℕ → ℕ → Type 0) (stamps put_stamps : List Stamp) (x : ℕ) → IsPut empty_stamp x stamp stamps put_stamps → P x n → ((y : ℕ) → P y n → y ≡ x) → ((y : ℕ) → IsLatestStamp trace rows (P y) n (get_or stamps y empty_stamp)) → (y : ℕ) → IsLatestStamp trace more (P y) (n + 1) (get_or put_stamps y empty_stamp)
    latest_put P stamps put_stamps x put holds alone before y = go (cases_eq y x)
      where
        go : (y ≡ x) ⊎ (y ≢ x) → IsLatestStamp trace more (P y) (n + 1) (get_or put_stamps y empty_stamp)
        go (inl same) = subst (λ (z : ℕ). IsLatestStamp trace more (P z) (n + 1) (get_or put_stamps z empty_stamp)) (sym same) (subst (IsLatestStamp trace more (P x) (n + 1)) (sym put.there) (of_event n (record { earlier = omega arith; holds = holds; last = λ m above below g. absurd (omega (arith, above, below)) }) last_stamp))
        go (inr ne) = subst (IsLatestStamp trace more (P y) (n + 1)) (sym (put.others y ne)) (latest_skip trace more (P y) n (get_or stamps y empty_stamp) (λ h. ne (alone y h)) (latest_more trace rows more (P y) n (get_or stamps y empty_stamp) grown (before y)))

    latest_same : (P : ℕ → ℕ → Type 0) (stamps : List Stamp) → ((y : ℕ) → P y n → ⊥) → ((y : ℕ) → IsLatestStamp trace rows (P y) n (get_or stamps y empty_stamp)) → (y : ℕ) → IsLatestStamp trace more (P y) (n + 1) (get_or stamps y empty_stamp)
    latest_same P stamps none before y = latest_skip trace more (P y) n (get_or stamps y empty_stamp) (none y) (latest_more trace rows more (P y) n (get_or stamps y empty_stamp) grown (before y))

    -- all that is kept, one event more
    built : (rows_after : List (List ℕ)) (current_after : List ℕ) (locks_after variables_after : List Stamp) → length more ≤ length rows_after → length rows_after ≤ length rows + 1
        → ((t : ℕ) → IsRowFor trace rows_after t (IsKnown trace t (n + 1)) (get_or current_after t 0))
        → ((l : ℕ) → IsLatestStamp trace rows_after (ReleasesLock trace l) (n + 1) (get_or locks_after l empty_stamp)) → ((x : ℕ) → IsLatestStamp trace rows_after (KeepsWrite all trace x) (n + 1) (get_or variables_after x empty_stamp))
        → AreClocks trace (n + 1) all rows_after current_after locks_after variables_after
    built rows_after current_after locks_after variables_after low high rows_are locks_are variables_are = record {
      some = (let s = old.some in let g = grown.as_long in omega (arith, s, g, low));
      few = (let f = old.few in omega (arith, f, high));
      current_are = rows_are;
      locks_are = locks_are;
      variables_are = variables_are;
    }

    locks_same : ((l : ℕ) → op_at trace n ≡ Some (Release l) → ⊥) → (l : ℕ) → IsLatestStamp trace more (ReleasesLock trace l) (n + 1) (get_or locks l empty_stamp)
    locks_same none = latest_same (λ l k. ReleasesLock trace l k) locks none old.locks_are

    variables_same : ((x : ℕ) → KeepsWrite all trace x n → ⊥) → (x : ℕ) → IsLatestStamp trace more (KeepsWrite all trace x) (n + 1) (get_or variables x empty_stamp)
    variables_same none = latest_same (λ x k. KeepsWrite all trace x k) variables none old.variables_are

    after_release : (l : ℕ) → op ≡ Release l → (locks_after : List Stamp) → IsPut empty_stamp l stamp locks locks_after → AreClocks trace (n + 1) all more after locks_after variables
    after_release l is locks_after put = built more after locks_after variables (omega arith) wide
        (λ t. row_of t (apart (Release l) (Fork t) is (λ h. (let f : ⊥ = cc in f))))
        (latest_put (λ m k. ReleasesLock trace m k) locks locks_after l put (does (Release l) is) (λ m releases. (let one : Some (Release m) ≡ Some (Release l) = sym releases ∙ does (Release l) is in cc)) old.locks_are)
        (variables_same (λ x kept. apart (Release l) (Write x) is (λ h. (let f : ⊥ = cc in f)) kept.1))

    after_write : (x : ℕ) → op ≡ Write x → KeepsWrite all trace x n → (variables_after : List Stamp) → IsPut empty_stamp x stamp variables variables_after → AreClocks trace (n + 1) all more after locks variables_after
    after_write x is kept variables_after put = built more after locks variables_after (omega arith) wide
        (λ t. row_of t (apart (Write x) (Fork t) is (λ h. (let f : ⊥ = cc in f))))
        (locks_same (λ l. apart (Write x) (Release l) is (λ h. (let f : ⊥ = cc in f))))
        (latest_put (λ y k. KeepsWrite all trace y k) variables variables_after x put kept (λ y writes. (let one : Some (Write y) ≡ Some (Write x) = sym writes.1 ∙ does (Write x) is in cc)) old.variables_are)

    after_other : ((t : ℕ) → op_at trace n ≡ Some (Fork t) → ⊥) → ((l : ℕ) → op_at trace n ≡ Some (Release l) → ⊥) → ((x : ℕ) → KeepsWrite all trace x n → ⊥) → AreClocks trace (n + 1) all more after locks variables
    after_other no_fork no_release no_write = built more after locks variables (omega arith) wide (λ t. row_of t (no_fork t)) (locks_same no_release) (variables_same no_write)

    -- a read, after which the variables have stamps of the same events
    after_read : (x : ℕ) → op ≡ Read x → (variables_after : List Stamp) → ((y : ℕ) → IsLatestStamp trace more (KeepsWrite all trace y) n (get_or variables_after y empty_stamp)) → AreClocks trace (n + 1) all more after locks variables_after
    after_read x is variables_after are = built more after locks variables_after (omega arith) wide
        (λ t. row_of t (apart (Read x) (Fork t) is (λ h. (let f : ⊥ = cc in f))))
        (locks_same (λ l. apart (Read x) (Release l) is (λ h. (let f : ⊥ = cc in f))))
        (λ y. latest_skip trace more (KeepsWrite all trace y) n (get_or variables_after y empty_stamp) (λ kept. apart (Read x) (Write y) is (λ h. (let f : ⊥ = cc in f)) kept.1) (are y))

    after_fork : (child : ℕ) → op ≡ Fork child → more ≡ rows → (clock : List ℕ) → IsPut 0 thread time (get_or more row []) clock → (rows_after : List (List ℕ)) → rows_after ≡ more ++ clock ∷ [] → (current_after : List ℕ) → IsPut 0 child (length more) after current_after
        → AreClocks trace (n + 1) all rows_after current_after locks variables
    after_fork child is same_rows clock put_clock rows_after rows_are current_after put_child = built rows_after current_after locks variables (omega (arith, size)) (omega (arith, size, ap length same_rows)) (λ t. go t (cases_eq t child))
        (λ l. latest_more trace more rows_after (ReleasesLock trace l) (n + 1) (get_or locks l empty_stamp) grown_again (locks_same (λ m. apart (Fork child) (Release m) is (λ h. (let f : ⊥ = cc in f))) l))
        (λ x. latest_more trace more rows_after (KeepsWrite all trace x) (n + 1) (get_or variables x empty_stamp) grown_again (variables_same (λ y kept. apart (Fork child) (Write y) is (λ h. (let f : ⊥ = cc in f)) kept.1) x))
      where
        size : length rows_after ≡ length more + 1
        size = ap length rows_are ∙ length_push more clock

        grown_again : AreMore more rows_after
        grown_again = more_push more rows_after clock rows_are

        there : get_or rows_after (length more) [] ≡ clock
        there = ap (λ (rs : List (List ℕ)). get_or rs (length more) []) rows_are ∙ get_or_push more clock [] (length more) refl

        front : IsFront trace (λ k. ShbBelow trace k n) clock
        front = front_put trace n thread (get_or more row []) clock next.of_thread (subst (λ (m : ℕ). IsPut 0 thread m (get_or more row []) clock) next.time_is put_clock) own.front

        child_row : IsRowFor trace rows_after child (IsKnown trace child (n + 1)) (length more)
        child_row = record {
          in_range = omega (arith, size);
          front = subst (IsFrontBut trace child (IsKnown trace child (n + 1))) (sym there) (record {
            within = λ t ne. front.within t;
            exact = λ t k of_k ne. (let h = front.exact t k of_k in let both = known_forked trace next.disciplined n child (does (Fork child) is) k in ((λ le. both.0 (h.0 le)), (λ known. h.1 (both.1 known))));
          });
        }

        go : (t : ℕ) → (t ≡ child) ⊎ (t ≢ child) → IsRowFor trace rows_after t (IsKnown trace t (n + 1)) (get_or current_after t 0)
        go t (inl same) = subst (λ (v : ℕ). IsRowFor trace rows_after v (IsKnown trace v (n + 1)) (get_or current_after v 0)) (sym same) (subst (IsRowFor trace rows_after child (IsKnown trace child (n + 1))) (sym put_child.there) child_row)
        go t (inr ne) = subst (IsRowFor trace rows_after t (IsKnown trace t (n + 1))) (sym (put_child.others t ne)) (row_more trace more rows_after t (get_or after t 0) (IsKnown trace t (n + 1)) grown_again (row_of t (λ again. ne (let one : Some (Fork t) ≡ Some (Fork child) = sym again ∙ does (Fork child) is in cc))))

  -- an event after which nothing has changed
  unchanged : IsRowFor trace rows thread (λ k. ShbBelow trace k n) (get_or current thread 0) → ((t : ℕ) → op_at trace n ≡ Some (Fork t) → ⊥) → ((l : ℕ) → op_at trace n ≡ Some (Release l) → ⊥) → ((x : ℕ) → KeepsWrite all trace x n → ⊥) → AreClocks trace (n + 1) all rows current locks variables
  unchanged own = after_other rows (more_same rows) (omega arith) (get_or current thread 0) own current (record { there = refl; others = λ k ne. refl })

  -- what a thread knows after an event by which it learns nothing
  quiet_row : (o : Op) → op ≡ o → ((l : ℕ) → o ≡ Acquire l → ⊥) → ((u : ℕ) → o ≡ Join u → ⊥) → ((x : ℕ) → o ≡ Read x → ⊥) → (row : ℕ) → row ≡ get_or current thread 0 → IsRowFor trace rows thread (λ k. ShbBelow trace k n) row
  quiet_row o is no_acquire no_join no_read row row_is = row_nothing_new trace next.disciplined rows n thread row next.of_thread (row_before row row_is)
      (λ k learned. absurd (learns_nothing trace next.disciplined n o k (does o is) no_acquire no_join no_read learned))

  put_itself : (row : ℕ) → row ≡ get_or current thread 0 → IsPut 0 thread row current current
  put_itself row is = record { there = sym is; others = λ k ne. refl }

  pub taken_release : (l row : ℕ) → op ≡ Release l → row ≡ get_or current thread 0 → (default : Stamp) → default ≡ empty_stamp → (locks_after : List Stamp) → IsPut default l (record { row = row; thread = thread; time = time }) locks locks_after → AreClocks trace (n + 1) all rows current locks_after variables
  taken_release l row is row_is default none locks_after put = after_release rows (more_same rows) (omega arith) row (quiet_row (Release l) is (λ m h. (let f : ⊥ = cc in f)) (λ u h. (let f : ⊥ = cc in f)) (λ x h. (let f : ⊥ = cc in f)) row row_is) current (put_itself row row_is) l is locks_after
      (subst (λ (d : Stamp). IsPut d l (record { row = row; thread = thread; time = time }) locks locks_after) none put)

  pub taken_fork : (child row : ℕ) → op ≡ Fork child → row ≡ get_or current thread 0 → (given clock : List ℕ) → given ≡ get_or rows row [] → IsPut 0 thread time given clock → (rows_after : List (List ℕ)) → rows_after ≡ rows ++ clock ∷ [] → (forked : ℕ) → (length rows < 2 ^ 32 → forked ≡ length rows) → (current_after : List ℕ) → IsPut 0 child forked current current_after
      → AreClocks trace (n + 1) all rows_after current_after locks variables
  taken_fork child row is row_is given clock given_is put rows_after rows_are forked number current_after put_child = after_fork rows (more_same rows) (omega arith) row (quiet_row (Fork child) is (λ l h. (let f : ⊥ = cc in f)) (λ u h. (let f : ⊥ = cc in f)) (λ x h. (let f : ⊥ = cc in f)) row row_is) current (put_itself row row_is) child is refl clock
      (subst (λ (xs : List ℕ). IsPut 0 thread time xs clock) given_is put) rows_after rows_are current_after (subst (λ (r : ℕ). IsPut 0 child r current current_after) (number few_rows) put_child)

  write_row : (x : ℕ) → op ≡ Write x → (row : ℕ) → row ≡ get_or current thread 0 → IsRowFor trace rows thread (λ k. ShbBelow trace k n) row
  write_row x is = quiet_row (Write x) is (λ l h. (let f : ⊥ = cc in f)) (λ u h. (let f : ⊥ = cc in f)) (λ y h. (let f : ⊥ = cc in f))

  pub taken_write : (x row : ℕ) → op ≡ Write x → KeepsWrite all trace x n → row ≡ get_or current thread 0 → (default : Stamp) → default ≡ empty_stamp → (variables_after : List Stamp) → IsPut default x (record { row = row; thread = thread; time = time }) variables variables_after → AreClocks trace (n + 1) all rows current locks variables_after
  taken_write x row is kept row_is default none variables_after put = after_write rows (more_same rows) (omega arith) row (write_row x is row row_is) current (put_itself row row_is) x is kept variables_after
      (subst (λ (d : Stamp). IsPut d x (record { row = row; thread = thread; time = time }) variables variables_after) none put)

  pub passed_write : (x : ℕ) → op ≡ Write x → (KeepsWrite all trace x n → ⊥) → AreClocks trace (n + 1) all rows current locks variables
  passed_write x is none = unchanged (write_row x is (get_or current thread 0) refl) (λ t. apart (Write x) (Fork t) is (λ h. (let f : ⊥ = cc in f))) (λ l. apart (Write x) (Release l) is (λ h. (let f : ⊥ = cc in f)))
      (λ y kept. none (subst (λ (z : ℕ). KeepsWrite all trace z n) (let one : Some (Write y) ≡ Some (Write x) = sym kept.1 ∙ does (Write x) is in cc) kept))

  read_unchanged : (x : ℕ) → op ≡ Read x → IsRowFor trace rows thread (λ k. ShbBelow trace k n) (get_or current thread 0) → AreClocks trace (n + 1) all rows current locks variables
  read_unchanged x is own = unchanged own (λ t. apart (Read x) (Fork t) is (λ h. (let f : ⊥ = cc in f))) (λ l. apart (Read x) (Release l) is (λ h. (let f : ⊥ = cc in f))) (λ y kept. apart (Read x) (Write y) is (λ h. (let f : ⊥ = cc in f)) kept.1)

  pub taken_known : (x : ℕ) → op ≡ Read x → KnowsStamp (get_or rows (get_or current thread 0) []) thread (get_or variables x empty_stamp) → AreClocks trace (n + 1) all rows current locks variables
  taken_known x is known = read_unchanged x is (row_known trace next.disciplined rows n thread (get_or current thread 0) next.of_thread (row_before (get_or current thread 0) refl) (get_or variables x empty_stamp) (read_source x is) known)

  pub passed_read : (x : ℕ) → op ≡ Read x → ((w : ℕ) → KeepsWrite all trace x w → ⊥) → AreClocks trace (n + 1) all rows current locks variables
  passed_read x is none = read_unchanged x is (row_nothing_new trace next.disciplined rows n thread (get_or current thread 0) next.of_thread (row_before (get_or current thread 0) refl) (λ k learned. read_known trace next.disciplined all n x k (does (Read x) is) (λ w lt. none w) learned))

  -- the event was taken, as the code names what it did
  module _ (before : ℕ) (source : Stamp) (after : AfterSource) (more : List (List ℕ)) (current_after : List ℕ) (before_is : before ≡ get_or current thread 0) (is_source : IsSource trace rows n source) (has : HasRowAfter rows more thread time before source after) (put_row : IsPut 0 thread after.row current current_after) where
    own : IsRowFor trace more thread (λ k. ShbBelow trace k n) after.row
    own = own_row more before source after before_is is_source has (asked more before source after before_is is_source)

    pub taken_other : ((u : ℕ) → op ≡ Fork u → ⊥) → ((l : ℕ) → op ≡ Release l → ⊥) → ((x : ℕ) → op ≡ Write x → ⊥) → AreClocks trace (n + 1) all more current_after locks variables
    taken_other no_fork no_release no_write = after_other more has.more has.few after.row own current_after put_row (λ t. not_at (Fork t) (no_fork t)) (λ l. not_at (Release l) (no_release l)) (λ x kept. not_at (Write x) (no_write x) kept.1)

    pub taken_read : (x : ℕ) → op ≡ Read x → source ≡ get_or variables x empty_stamp → (variables_after : List Stamp) → (after.renames ≡ false → variables_after ≡ variables) → (after.renames ≡ true → IsPut empty_stamp x (record { row = after.row; thread = source.thread; time = source.time }) variables variables_after) → AreClocks trace (n + 1) all more current_after locks variables_after
    taken_read x is source_is variables_after kept named = after_read more has.more has.few after.row own current_after put_row x is variables_after (λ y. go y (cases_Bool after.renames))
      where
        as_before : (y : ℕ) → IsLatestStamp trace more (KeepsWrite all trace y) n (get_or variables y empty_stamp)
        as_before y = latest_more trace rows more (KeepsWrite all trace y) n (get_or variables y empty_stamp) has.more (old.variables_are y)

        put_at : IsPut empty_stamp x (record { row = after.row; thread = source.thread; time = source.time }) variables variables_after → after.renames ≡ true → (y : ℕ) → (y ≡ x) ⊎ (y ≢ x) → IsLatestStamp trace more (KeepsWrite all trace y) n (get_or variables_after y empty_stamp)
        put_at put renames y (inl same) = subst (λ (z : ℕ). IsLatestStamp trace more (KeepsWrite all trace z) n (get_or variables_after z empty_stamp)) (sym same) (subst (IsLatestStamp trace more (KeepsWrite all trace x) n) (sym put.there)
            (renamed_stamp more before source after before_is is_source (KeepsWrite all trace x) has renames (subst (IsLatestStamp trace rows (KeepsWrite all trace x) n) (sym source_is) (old.variables_are x))))
        put_at put renames y (inr ne) = subst (IsLatestStamp trace more (KeepsWrite all trace y) n) (sym (put.others y ne)) (as_before y)

        go : (y : ℕ) → (after.renames ≡ true) ⊎ (after.renames ≡ false) → IsLatestStamp trace more (KeepsWrite all trace y) n (get_or variables_after y empty_stamp)
        go y (inl renames) = put_at (named renames) renames y (cases_eq y x)
        go y (inr plain) = subst (IsLatestStamp trace more (KeepsWrite all trace y) n) (ap (λ (xs : List Stamp). get_or xs y empty_stamp) (sym (kept plain))) (as_before y)

-- before the first event
empty_stamps : (size x : ℕ) → (get_or (replicate size empty_stamp) x empty_stamp).time ≡ 0
empty_stamps size x = elim (cases_lt x size) [
  | inl low ↦ ap (λ (s : Stamp). s.time) (get_or-replicate size x empty_stamp empty_stamp low)
  | inr ge ↦ ap (λ (s : Stamp). s.time) (get_or_past (replicate size empty_stamp) x empty_stamp (let long = length-replicate size empty_stamp in omega (arith, long, ge)))
]

pub clocks_none : (trace : List Event) (all : Bool) (rows : List (List ℕ)) (current : List ℕ) (locks variables : List Stamp) (threads many_locks many_variables : ℕ) → rows ≡ [] ∷ [] → current ≡ replicate threads 0 → locks ≡ replicate many_locks empty_stamp → variables ≡ replicate many_variables empty_stamp → AreClocks trace 0 all rows current locks variables
clocks_none trace all rows current locks variables threads many_locks many_variables is none no_locks no_variables = record {
  some = omega (arith, ap length is);
  few = omega (arith, ap length is);
  current_are = λ t. subst (IsRowFor trace rows t (IsKnown trace t 0)) (sym (ap (λ (xs : List ℕ). get_or xs t 0) none ∙ zero_entry threads t)) (first t);
  locks_are = λ l. of_none (λ k lt. absurd (omega (arith, lt))) (ap (λ (xs : List Stamp). (get_or xs l empty_stamp).time) no_locks ∙ empty_stamps many_locks l);
  variables_are = λ x. of_none (λ k lt. absurd (omega (arith, lt))) (ap (λ (xs : List Stamp). (get_or xs x empty_stamp).time) no_variables ∙ empty_stamps many_variables x);
}
  where
    no_entry : (u : ℕ) → ◌≡◌ {A = ℕ} (get_or (get_or rows 0 []) u 0) 0
    no_entry u = ap (λ (rs : List (List ℕ)). get_or (get_or rs 0 []) u 0) is

    first : (t : ℕ) → IsRowFor trace rows t (IsKnown trace t 0) 0
    first t = record {
      in_range = omega (arith, ap length is);
      front = record {
        within = λ u ne. (let none_there = no_entry u in omega (arith, none_there));
        exact = λ u k of_k ne. (
          (λ le. absurd (let none_there = no_entry u in let time = time_at trace u k of_k in omega (arith, none_there, le, time))),
          (λ known. absurd (let lt = known.earlier in omega (arith, lt))),
        );
      };
    }

-- the rows were moved, and the first stayed the first
pub clocks_moved : (trace : List Event) (n : ℕ) (all : Bool) (rows new : List (List ℕ)) (current after : List ℕ) (locks locks_after variables variables_after : List Stamp) → HasMoved rows new current after locks locks_after variables variables_after → AreClocks trace n all rows current locks variables
    → AreClocks trace n all new after locks_after variables_after
clocks_moved trace n all rows new current after locks locks_after variables variables_after moved old = record {
  some = moved.first.in_range;
  few = (let fewer = moved.few in let few = old.few in omega (arith, fewer, few));
  current_are = λ t. (let row = old.current_are t in row_moved trace rows new t (get_or current t 0) (get_or after t 0) (IsKnown trace t n) (elim (cases_lt t (length current)) [
    | inl low ↦ moved.numbers.each t low row.in_range
    | inr ge ↦ subst (λ (m : ℕ). IsMovedRow rows new m (get_or after t 0)) (sym (get_or_past current t 0 ge)) (subst (IsMovedRow rows new 0) (sym (get_or_past after t 0 (let many = moved.numbers.as_many in omega (arith, many, ge)))) moved.first)
  ]) row);
  locks_are = λ l. latest_moved trace rows new (ReleasesLock trace l) n (get_or locks l empty_stamp) (get_or locks_after l empty_stamp) (stamp locks locks_after moved.releases l) (old.locks_are l);
  variables_are = λ x. latest_moved trace rows new (KeepsWrite all trace x) n (get_or variables x empty_stamp) (get_or variables_after x empty_stamp) (stamp variables variables_after moved.writes x) (old.variables_are x);
}
  where
    stamp : (before stamps : List Stamp) → AreAlike empty_stamp (IsMovedStamp (MovesRow rows new)) before stamps → (x : ℕ) → IsMovedStamp (MovesRow rows new) (get_or before x empty_stamp) (get_or stamps x empty_stamp)
    stamp before stamps alike x = elim (cases_lt x (length before)) [
      | inl low ↦ alike.each x low
      | inr ge ↦ subst (λ (s : Stamp). IsMovedStamp (MovesRow rows new) s (get_or stamps x empty_stamp)) (sym (get_or_past before x empty_stamp ge)) (subst (IsMovedStamp (MovesRow rows new) empty_stamp) (sym (get_or_past stamps x empty_stamp (let many = alike.as_many in omega (arith, many, ge))))
          (record { thread = refl; time = refl; row = λ low. moved.first }))
    ]
