-- The reasons of an event by its operation, where no index before it has a reason.
use Rattle.std.proofs.Common.{◌≡◌, ℕ, ◌<◌, ◌≤◌, ◌⊎◌, inl, inr, Bool, true, false, List, Option, Some, None, length, take, get_or, refl, sym, ◌∙◌, ap, arith, subst}
use Rattle.std.specs.Prelude.{slice_get, ◌==◌, ◌↔◌, IfSome}
use Rattle.shb_replay.proofs.Words.{Acquire, AreLatestWrites, Event, Exactly, Fork, HasHolder, HasReason, IsDisciplined, IsLatestWrite, IsLowestIn, IsPassing, IsUnbroken, Join, JoinStands, LastWrite, Latest, MayDo, OfThread, Op, Read, Release, ReleasesLock, StandsEarlier, Tells, TellsLack, Why, acquires, balanced, cases_Bool, cases_eq, cases_lt, cases_order, count_mono, disciplined_below, eq-eqb, eqb-true, event_of_op, event_of_thread, get_or_read, holder_after, is_acquire, is_acquire_parts, is_release, ne_eqb, number_of, only, op_at, op_is, releases, slice_get_within, some_counted, then_some, thread_at, thread_is}
use Rattle.std.specs.Option.{option_eq}
use Rattle.std.proofs.Math.Dec.{eqb}
use Rattle.shb_replay.specs.declared.broken.Why.TheVariants as whys
use Rattle.shb_replay.proofs.Standing.{widen}
use Rattle.shb_replay.proofs.Closed.{thread_stands, release_stands}
use Rattle.shb_replay.proofs.Lowest.{same_why}
use Rattle.shb_replay.proofs.LastWrites.{writes_agree, writes_differ}

-- the number of the only reason that an operation can have, and 9 for one that can have none
abbrev number_for : Op → ℕ
number_for (Join t) = 5
number_for (Fork t) = 5
number_for (Acquire l) = 6
number_for (Read y) = 7
number_for _ = 9

other_number : (op : Op) → ((t : ℕ) → op ≡ Join t → ⊥) → ((t : ℕ) → op ≡ Fork t → ⊥) → ((l : ℕ) → op ≡ Acquire l → ⊥) → ((y : ℕ) → op ≡ Read y → ⊥) → number_for op ≡ 9
other_number (Join t) no_join no_fork no_acquire no_read = absurd (no_join t refl)
other_number (Fork t) no_join no_fork no_acquire no_read = absurd (no_fork t refl)
other_number (Acquire l) no_join no_fork no_acquire no_read = absurd (no_acquire l refl)
other_number (Read y) no_join no_fork no_acquire no_read = absurd (no_read y refl)
other_number _ no_join no_fork no_acquire no_read = refl

module _ (trace : List Event) (disciplined : IsDisciplined trace) (s : List ℕ) (p : ℕ) (unbroken : IsUnbroken trace s p) where
  -- the last event of a thread stands only where all of them do
  ended_by : (q t a b : ℕ) → q < p → slice_get s q ≡ Some b → thread_at trace b ≡ Some t → thread_at trace a ≡ Some t → (b < a → ⊥) → (a ≡ b) ⊎ ((a < b) ⊎ (b < a)) → StandsEarlier s p a
  ended_by q t a b lt at of_b of_a last (inl same) = record { index = q; earlier = lt; at = at ∙ ap (λ (n : ℕ). Some n) (sym same) }
  ended_by q t a b lt at of_b of_a last (inr (inl low)) = widen s q p a (omega (arith, lt)) (thread_stands trace s p unbroken q b a t lt at low of_a of_b)
  ended_by q t a b lt at of_b of_a last (inr (inr high)) = absurd (last high)

  thread_ended : (t : ℕ) (o : Option ℕ) → Latest (OfThread trace t) (length trace) o → ((b : ℕ) → o ≡ Some b → StandsEarlier s p b) → (a : ℕ) → thread_at trace a ≡ Some t → StandsEarlier s p a
  thread_ended t (Some b) latest stands a of_a =
      let there = stands b refl in
      let e = event_of_thread trace a t of_a in
      ended_by there.index t a b there.earlier there.at latest.holds of_a (λ high. latest.last a high (slice_get_within trace a e.0 e.1) of_a) (cases_order a b)
  thread_ended t None none stands a of_a = absurd (let e = event_of_thread trace a t of_a in none a (slice_get_within trace a e.0 e.1) of_a)

  -- between two releases by different threads the later one acquires the lock
  taken_between : (l r k : ℕ) (e d : Event) → slice_get trace r ≡ Some e → slice_get trace k ≡ Some d → e.op ≡ Release l → d.op ≡ Release l → k < r → (d.thread ≡ e.thread → ⊥) → (a : ℕ) × IsPassing (is_acquire (only e.thread) l) trace k r a
  taken_between l r k e d at_r at_k releases_r releases_k lt ne = some_counted (is_acquire (only e.thread) l) trace k r more
    where
      may : (b : ℕ) (f : Event) → slice_get trace b ≡ Some f → f.op ≡ Release l → releases (only f.thread) l (take b trace) < acquires (only f.thread) l (take b trace)
      may b f at is = subst (MayDo (take b trace) f.thread) is (disciplined b f at).may_do

      free : acquires (only e.thread) l (take k trace) ≡ releases (only e.thread) l (take k trace)
      free = go (holder_after trace l k (disciplined_below trace k disciplined))
        where
          go : HasHolder (take k trace) l → acquires (only e.thread) l (take k trace) ≡ releases (only e.thread) l (take k trace)
          go held = by_holder (cases_Bool (d.thread == held.holder))
            where
              by_holder : ((d.thread == held.holder) ≡ true) ⊎ ((d.thread == held.holder) ≡ false) → acquires (only e.thread) l (take k trace) ≡ releases (only e.thread) l (take k trace)
              by_holder (inl own) = balanced (take k trace) l e.thread held (ne_eqb e.thread held.holder (λ same. ne (eqb-true d.thread held.holder own ∙ sym same)))
              by_holder (inr other) =
                  let none = balanced (take k trace) l d.thread held other in
                  let some = may k d at_k releases_k in
                  absurd (omega (arith, none, some))

      more : acquires (only e.thread) l (take k trace) < acquires (only e.thread) l (take r trace)
      more =
          let some = may r e at_r releases_r in
          let same = free in
          let mono = count_mono (is_release (only e.thread) l) trace k r (omega (arith, lt)) in
          omega (arith, some, same, mono)

  -- so an earlier release of the lock stands where a later one does
  handed_by : (q l r k : ℕ) (e d : Event) → q < p → slice_get s q ≡ Some r → slice_get trace r ≡ Some e → slice_get trace k ≡ Some d → e.op ≡ Release l → d.op ≡ Release l → k < r → (d.thread ≡ e.thread) ⊎ (d.thread ≡ e.thread → ⊥) → StandsEarlier s q k
  handed_by q l r k e d lq at at_r at_k releases_r releases_k lt (inl same) = thread_stands trace s p unbroken q r k e.thread lq at lt (thread_is trace k d at_k ∙ ap (λ (n : ℕ). Some n) same) (thread_is trace r e at_r)
  handed_by q l r k e d lq at at_r at_k releases_r releases_k lt (inr ne) =
      let found = taken_between l r k e d at_r at_k releases_r releases_k lt ne in
      let a = found.0 in
      let parts = is_acquire_parts (only e.thread) l found.1.event found.1.passes in
      let own : found.1.event.thread ≡ e.thread = sym (eqb-true e.thread found.1.event.thread parts.0) in
      let of_t : thread_at trace a ≡ Some e.thread = thread_is trace a found.1.event found.1.at ∙ ap (λ (n : ℕ). Some n) own in
      let takes : op_at trace a ≡ Some (Acquire l) = op_is trace a found.1.event found.1.at ∙ ap (λ (o : Op). Some o) parts.1 in
      let gives : op_at trace k ≡ Some (Release l) = op_is trace k d at_k ∙ ap (λ (o : Op). Some o) releases_k in
      let stands = thread_stands trace s p unbroken q r a e.thread lq at found.1.below of_t (thread_is trace r e at_r) in
      let first = stands.earlier in
      widen s stands.index q k (omega (arith, first)) (release_stands trace s p unbroken stands.index a k l (omega (arith, first, lq)) stands.at takes gives (apart a takes gives found.1.from))
    where
      apart : (a : ℕ) → op_at trace a ≡ Some (Acquire l) → op_at trace k ≡ Some (Release l) → k ≤ a → k < a
      apart a takes gives le = elim (cases_lt k a) [ inl low ↦ low | inr ge ↦ absurd (let same : a ≡ k = omega (arith, le, ge) in let both : Some (Acquire l) ≡ Some (Release l) = sym takes ∙ (ap (op_at trace) same ∙ gives) in (let f : ⊥ = cc in f)) ]

  handed_on : (l r k : ℕ) → StandsEarlier s p r → op_at trace r ≡ Some (Release l) → op_at trace k ≡ Some (Release l) → k < r → StandsEarlier s p k
  handed_on l r k stands releases_r releases_k lt =
      let e = event_of_op trace r (Release l) releases_r in
      let d = event_of_op trace k (Release l) releases_k in
      widen s stands.index p k (let low = stands.earlier in omega (arith, low)) (handed_by stands.index l r k e.0 d.0 stands.earlier stands.at e.1 d.1 e.2 d.2 lt (cases_eq d.0.thread e.0.thread))

  released_before : (l x : ℕ) (o : Option ℕ) → Latest (ReleasesLock trace l) x o → ((r : ℕ) → o ≡ Some r → StandsEarlier s p r) → (k : ℕ) → k < x → op_at trace k ≡ Some (Release l) → StandsEarlier s p k
  released_before l x (Some r) latest stands k lt gives = go (cases_order k r)
    where
      go : (k ≡ r) ⊎ ((k < r) ⊎ (r < k)) → StandsEarlier s p k
      go (inl same) = subst (λ (n : ℕ). StandsEarlier s p n) (sym same) (stands r refl)
      go (inr (inl low)) = handed_on l r k (stands r refl) latest.holds gives low
      go (inr (inr high)) = absurd (latest.last k high lt gives)
  released_before l x None none stands k lt gives = absurd (none k lt gives)

  module _ (x : ℕ) (op : Op) (does : op_at trace x ≡ Some op) where
    is_op : (other : Op) → op_at trace x ≡ Some other → op ≡ other
    is_op other is = let both : Some op ≡ Some other = sym does ∙ is in cc

    -- a reason that an operation has is that of its kind
    own_number : (other : Why) → 5 ≤ number_of other → HasReason trace s p x other → number_for op ≡ number_of other
    own_number whys.JoinEarly low (inl (a, h)) = ap number_for (is_op (Join h.thread) h.joins)
    own_number whys.JoinEarly low (inr (j, h)) = ap number_for (is_op (Fork h.thread) h.forks)
    own_number whys.LockOrder low (r, h) = ap number_for (is_op (Acquire h.lock) h.acquires)
    own_number whys.LastWrite low (y, h) = ap number_for (is_op (Read y) h.reads)
    own_number whys.NotNext low h = absurd h
    own_number whys.NoSuchEvent low h = absurd (omega (arith, low))
    own_number whys.Repeated low h = absurd (omega (arith, low))
    own_number whys.ThreadOrder low h = absurd (omega (arith, low))
    own_number whys.ForkMissing low h = absurd (omega (arith, low))

    has_own : (why : Why) → 5 ≤ number_of why → HasReason trace s p x why → IsLowestIn 5 8 (HasReason trace s p x) (Some why)
    has_own why low h = (h, low, λ other more has. let own = own_number why low h in let same = own_number other more has in omega (arith, own, same))

    lacks_own : (why : Why) → number_for op ≡ number_of why → (HasReason trace s p x why → ⊥) → IsLowestIn 5 8 (HasReason trace s p x) None
    lacks_own why own none = λ other low high has. none (subst (HasReason trace s p x) (same_why other why (sym (own_number other low has) ∙ own)) has)

    pub other_operation : ((t : ℕ) → op ≡ Join t → ⊥) → ((t : ℕ) → op ≡ Fork t → ⊥) → ((l : ℕ) → op ≡ Acquire l → ⊥) → ((y : ℕ) → op ≡ Read y → ⊥) → IsLowestIn 5 8 (HasReason trace s p x) None
    other_operation no_join no_fork no_acquire no_read = λ other low high has. let own = own_number other low has in let past = other_number op no_join no_fork no_acquire no_read in omega (arith, own, past, high)

  module _ (x : ℕ) where
    pub join_told : (t : ℕ) (o : Option ℕ) (b : Bool) → op_at trace x ≡ Some (Join t) → Latest (OfThread trace t) (length trace) o → TellsLack s p o b → IsLowestIn 5 8 (HasReason trace s p x) (then_some b whys.JoinEarly)
    join_told t (Some b) true joins latest (a, is, absent) = has_own x (Join t) joins whys.JoinEarly (omega arith) (inl (a, record { thread = t; joins = joins; of = (let same : b ≡ a = cc in subst (λ (k : ℕ). thread_at trace k ≡ Some t) same latest.holds); absent = absent }))
    join_told t None true joins latest (a, is, absent) = absurd (let f : ⊥ = cc in f)
    join_told t o false joins latest all = lacks_own x (Join t) joins whys.JoinEarly refl five
      where
        five : HasReason trace s p x whys.JoinEarly → ⊥
        five (inl (a, h)) = h.absent (thread_ended t o latest all a (h.of ∙ ap (λ (n : ℕ). Some n) (let same = is_op x (Join t) joins (Join h.thread) h.joins in let g : h.thread ≡ t = cc in g)))
        five (inr (j, h)) = let same = is_op x (Join t) joins (Fork h.thread) h.forks in (let f : ⊥ = cc in f)

    pub fork_told : (t : ℕ) (b : Bool) → op_at trace x ≡ Some (Fork t) → Tells b (JoinStands trace s p t) → IsLowestIn 5 8 (HasReason trace s p x) (then_some b whys.JoinEarly)
    fork_told t true forks h = has_own x (Fork t) forks whys.JoinEarly (omega arith) (inr (h.event, record { thread = t; forks = forks; joins = h.joins; stands = h.stands }))
    fork_told t false forks none = lacks_own x (Fork t) forks whys.JoinEarly refl five
      where
        five : HasReason trace s p x whys.JoinEarly → ⊥
        five (inl (a, h)) = let same = is_op x (Fork t) forks (Join h.thread) h.joins in (let f : ⊥ = cc in f)
        five (inr (j, h)) = none (record { event = j; joins = (let same = is_op x (Fork t) forks (Fork h.thread) h.forks in let g : h.thread ≡ t = cc in subst (λ (u : ℕ). op_at trace j ≡ Some (Join u)) g h.joins); stands = h.stands })

    pub lock_told : (l : ℕ) (o : Option ℕ) (b : Bool) → op_at trace x ≡ Some (Acquire l) → Latest (ReleasesLock trace l) x o → TellsLack s p o b → IsLowestIn 5 8 (HasReason trace s p x) (then_some b whys.LockOrder)
    lock_told l (Some b) true takes latest (a, is, absent) =
        let same : b ≡ a = cc in
        has_own x (Acquire l) takes whys.LockOrder (omega arith) (b, record { lock = l; acquires = takes; releases = latest.holds; earlier = latest.earlier; absent = subst (λ (k : ℕ). ¬ StandsEarlier s p k) (sym same) absent })
    lock_told l None true takes latest (a, is, absent) = absurd (let f : ⊥ = cc in f)
    lock_told l o false takes latest all = lacks_own x (Acquire l) takes whys.LockOrder refl six
      where
        six : HasReason trace s p x whys.LockOrder → ⊥
        six (r, h) =
            let same = is_op x (Acquire l) takes (Acquire h.lock) h.acquires in
            let g : h.lock ≡ l = cc in
            h.absent (released_before l x o latest all r h.earlier (subst (λ (m : ℕ). op_at trace r ≡ Some (Release m)) g h.releases))

    pub read_reason : (y : ℕ) (o last : Option ℕ) → op_at trace x ≡ Some (Read y) → Exactly (IsLatestWrite trace s p y) o → Exactly (λ w. LastWrite trace w x) last → (o ≡ last → ⊥) → IsLowestIn 5 8 (HasReason trace s p x) (Some whys.LastWrite)
    read_reason y o last reads latest known ne = has_own x (Read y) reads whys.LastWrite (omega arith) (y, record { reads = reads; differ = writes_differ trace s p y x o last latest known ne })

    pub read_no_reason : (y : ℕ) (o last : Option ℕ) → op_at trace x ≡ Some (Read y) → Exactly (IsLatestWrite trace s p y) o → Exactly (λ w. LastWrite trace w x) last → o ≡ last → IsLowestIn 5 8 (HasReason trace s p x) None
    read_no_reason y o last reads latest known same = lacks_own x (Read y) reads whys.LastWrite refl seven
      where
        seven : HasReason trace s p x whys.LastWrite → ⊥
        seven (z, h) =
            let is = is_op x (Read y) reads (Read z) h.reads in
            let g : z ≡ y = cc in
            h.differ (subst (λ (v : ℕ). (w : ℕ) → IsLatestWrite trace s p v w ↔ LastWrite trace w x) (sym g) (writes_agree trace s p y x o last latest known same))

pub write_is : (trace : List Event) (s : List ℕ) (p size y : ℕ) (writes : List (Option ℕ)) (x : Option ℕ) → AreLatestWrites trace s p size writes → y < size → x ≡ get_or writes y x → Exactly (IsLatestWrite trace s p y) x
write_is trace s p size y writes x has lt is = subst (λ (o : Option ℕ). Exactly (IsLatestWrite trace s p y) o) (sym (get_or_read writes y x (let long = has.as_long in omega (arith, long, lt)) is None)) (has.each y lt)

-- an earlier release is an event of the trace
pub handover_in_trace : (trace : List Event) (l e n : ℕ) (o : Option ℕ) → Latest (ReleasesLock trace l) e o → e < n → IfSome o (λ r. r < n)
handover_in_trace trace l e n (Some r) latest lt = let low = latest.earlier in omega (arith, low, lt)
handover_in_trace trace l e n None none lt = tt

-- the test of two options
pub options_same : (o l : Option ℕ) → true ≡ option_eq eqb o l → o ≡ l
options_same None None h = refl
options_same None (Some w) h = absurd (let f : ⊥ = cc in f)
options_same (Some v) None h = absurd (let f : ⊥ = cc in f)
options_same (Some v) (Some w) h = ap (λ (n : ℕ). Some n) (eqb-true v w (sym h))

pub options_differ : (o l : Option ℕ) → false ≡ option_eq eqb o l → o ≡ l → ⊥
options_differ None None h same = (let f : ⊥ = cc in f)
options_differ None (Some w) h same = (let f : ⊥ = cc in f)
options_differ (Some v) None h same = (let f : ⊥ = cc in f)
options_differ (Some v) (Some w) h same = let is : v ≡ w = cc in let passes = eq-eqb v w is in (let f : ⊥ = cc in f)
