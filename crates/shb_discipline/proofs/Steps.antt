-- What one event more does to what is known of locks and threads.
use Rattle.std.proofs.lemmas.Grind.{common_steps, take_at_read}
use Rattle.std.proofs.Common.{◌≡◌, ◌≢◌, ℕ, ◌+◌, ◌-◌, ◌<◌, ◌≤◌, ◌⊎◌, inl, inr, Bool, true, false, List, [], ◌∷◌, ◌++◌, ◌^◌, Some, take, length, get_or, refl, sym, ◌∙◌, ap, arith, subst, get_or-set_same, get_or-set_other}
use Rattle.std.specs.Prelude.{count_by, cond, not, ◌==◌, ◌&&◌, slice_get}
use Rattle.std.proofs.lemmas.List.{length-take}
use Rattle.std.proofs.Math.ListN.{set, length-set}
use Rattle.std.proofs.lemmas.Option.{slice_get_within, get_or_from_slice_get, slice_get-get_or}
use Rattle.shb_lines.specs.text.Limits.{most_events}
use Rattle.std.proofs.Math.Bool.{and-false, and-true}
use Rattle.std.proofs.lemmas.Bool.{cases_eq, eqb-true, eq-eqb, ne_eqb}
use Rattle.std.proofs.lemmas.List.Sums.{count_by-le-length, sum_by_push}
use Rattle.shb_lines.specs.Growing.{IsPut}
use Rattle.shb_lines.specs.declared.event.Event.{Event}
use Rattle.shb_lines.specs.declared.event.Op.{Op}
use Rattle.shb_lines.specs.declared.event.Op.TheVariants.{Read, Write, Acquire, Release, Fork, Join}
use Rattle.shb_lines.specs.events.Discipline.{acquires, is_acquire, is_fork, is_join, is_of, is_release, op_is_acquire, op_is_fork, op_is_join, op_is_release, other_than, only, releases, MayCome, MayDo}
use Rattle.shb_discipline.specs.declared.state.LockState.{LockState}
use Rattle.shb_discipline.specs.declared.state.State.{State}
use Rattle.shb_discipline.specs.State.{AreFlags, AreLocks, IsGoingOn, IsLockAfter, IsStateAfter, Tells, free_lock}

-- what stands at an index after a write
pub set_cases : {X : Type 0} (xs : List X) (i j : ℕ) (y z : X) → i < length xs → slice_get (set xs i y) j ≡ Some z → ((j ≡ i) × (z ≡ y)) ⊎ ((j ≢ i) × (slice_get xs j ≡ Some z))
set_cases xs i j y z lt at = go (cases_eq j i)
  where
    within : j < length xs
    within = let long = length-set xs i y in let low = slice_get_within (set xs i y) j z at in omega (arith, long, low)

    go : (j ≡ i) ⊎ (j ≡ i → ⊥) → ((j ≡ i) × (z ≡ y)) ⊎ ((j ≢ i) × (slice_get xs j ≡ Some z))
    go (inl e) = inl (e, sym (get_or_from_slice_get (set xs i y) j z z at) ∙ (ap (λ n. get_or (set xs i y) n z) e ∙ get_or-set_same xs i y z lt))
    go (inr ne) = inr (ne, slice_get-get_or xs j z within ∙ ap (λ x. Some x) (sym (get_or-set_other xs i j y z ne) ∙ get_or_from_slice_get (set xs i y) j z z at))

pub acquire_test : (who : ℕ → Bool) (l : ℕ) (e : Event) (b : Bool) → op_is_acquire l e.op ≡ b → is_acquire who l e ≡ (who e.thread && b)
unfolding is_acquire
acquire_test who l e b is = ap (λ x. who e.thread && x) is

pub release_test : (who : ℕ → Bool) (l : ℕ) (e : Event) (b : Bool) → op_is_release l e.op ≡ b → is_release who l e ≡ (who e.thread && b)
unfolding is_release
release_test who l e b is = ap (λ x. who e.thread && x) is

is_of_test : (u : ℕ) (e : Event) (b : Bool) → (u == e.thread) ≡ b → is_of u e ≡ b
unfolding is_of
is_of_test u e b is = is

is_fork_test : (u : ℕ) (e : Event) (b : Bool) → op_is_fork u e.op ≡ b → is_fork u e ≡ b
unfolding is_fork
is_fork_test u e b is = is

is_join_test : (u : ℕ) (e : Event) (b : Bool) → op_is_join u e.op ≡ b → is_join u e ≡ b
unfolding is_join
is_join_test u e b is = is

-- w and v say whether the thread and the holder are of a set, s whether they are one
acquire_cases : (w v s : Bool) (d : ℕ) → (s ≡ true → v ≡ w) → cond (not s) d 0 ≡ 0 → cond w 1 0 + cond v d 0 ≡ 0 + cond w (d + 1) 0
acquire_cases w v s d h also = grind (arith, common_steps)

release_cases : (w v s : Bool) (d : ℕ) → (s ≡ true → v ≡ w) → 0 < cond s d 0 → 0 + cond v d 0 ≡ cond w 1 0 + cond v (d - 1) 0
release_cases w v s d h also = grind (arith, common_steps)

module _ (past : List Event) (e : Event) where
  abbrev now : List Event
  now = past ++ e ∷ []

  pub count_more : (f : Event → Bool) → count_by f now ≡ count_by f past + cond (f e) 1 0
  count_more f = sum_by_push (λ (x : Event). cond (f x) 1 0) past e

  -- the flags of a test that the event passes for one thread, and for none
  tells_more : (f : Event → Bool) (flag : Bool) → f e ≡ false → Tells flag (count_by f past) → Tells flag (count_by f now)
  tells_more f flag fails h = subst (Tells flag) (let more = count_more f in let none : ◌≡◌ {A = ℕ} (cond (f e) 1 0) 0 = ap (λ (b : Bool). cond {A = ℕ} b 1 0) fails in omega (arith, more, none)) h

  flags_put : (test : ℕ → Event → Bool) (flags new : List Bool) (t : ℕ) → IsPut false t true flags new → test t e ≡ true → ((u : ℕ) → u ≢ t → test u e ≡ false) → AreFlags test past flags → AreFlags test now new
  flags_put test flags new t written passes alone old u = go (cases_eq u t)
    where
      some : 0 < count_by (test t) now
      some = let more = count_more (test t) in let one : ◌≡◌ {A = ℕ} (cond (test t e) 1 0) 1 = ap (λ (b : Bool). cond {A = ℕ} b 1 0) passes in omega (arith, more, one)

      go : (u ≡ t) ⊎ (u ≢ t) → Tells (get_or new u false) (count_by (test u) now)
      go (inl same) = subst (λ (v : ℕ). Tells (get_or new v false) (count_by (test v) now)) (sym same) (subst (λ (flag : Bool). Tells flag (count_by (test t) now)) (sym written.there) some)
      go (inr ne) = subst (λ (flag : Bool). Tells flag (count_by (test u) now)) (sym (written.others u ne)) (tells_more (test u) (get_or flags u false) (alone u ne) (old u))

  flags_same : (test : ℕ → Event → Bool) (flags : List Bool) → ((u : ℕ) → test u e ≡ false) → AreFlags test past flags → AreFlags test now flags
  flags_same test flags none old u = tells_more (test u) (get_or flags u false) (none u) (old u)

  -- the flags of threads that had an event, were forked and were joined
  started_more : (flags new : List Bool) → IsPut false e.thread true flags new → AreFlags is_of past flags → AreFlags is_of now new
  started_more flags new written = flags_put is_of flags new e.thread written (is_of_test e.thread e true (eq-eqb e.thread e.thread refl)) (λ u ne. is_of_test u e false (ne_eqb u e.thread ne))

  forked_more : (flags new : List Bool) (u : ℕ) → e.op ≡ Fork u → IsPut false u true flags new → AreFlags is_fork past flags → AreFlags is_fork now new
  forked_more flags new u is written = flags_put is_fork flags new u written (is_fork_test u e true (ap (op_is_fork u) is ∙ eq-eqb u u refl)) (λ v ne. is_fork_test v e false (ap (op_is_fork v) is ∙ ne_eqb v u ne))

  joined_more : (flags new : List Bool) (u : ℕ) → e.op ≡ Join u → IsPut false u true flags new → AreFlags is_join past flags → AreFlags is_join now new
  joined_more flags new u is written = flags_put is_join flags new u written (is_join_test u e true (ap (op_is_join u) is ∙ eq-eqb u u refl)) (λ v ne. is_join_test v e false (ap (op_is_join v) is ∙ ne_eqb v u ne))

  forked_same : (flags : List Bool) → ((u : ℕ) → op_is_fork u e.op ≡ false) → AreFlags is_fork past flags → AreFlags is_fork now flags
  forked_same flags none = flags_same is_fork flags (λ u. is_fork_test u e false (none u))

  joined_same : (flags : List Bool) → ((u : ℕ) → op_is_join u e.op ≡ false) → AreFlags is_join past flags → AreFlags is_join now flags
  joined_same flags none = flags_same is_join flags (λ u. is_join_test u e false (none u))

  -- the state of a lock, before and after
  lock_more : (l : ℕ) (old new : LockState) → ((who : ℕ → Bool) → cond (is_acquire who l e) 1 0 + cond (who old.holder) old.depth 0 ≡ cond (is_release who l e) 1 0 + cond (who new.holder) new.depth 0) → IsLockAfter past l old → IsLockAfter now l new
  lock_more l old new step known who = let a = count_more (is_acquire who l) in let r = count_more (is_release who l) in let s = step who in let h = known who in omega (arith, a, r, s, h)

  -- a lock that the event doesn't name
  pub other_lock : (l : ℕ) (lock : LockState) → op_is_acquire l e.op ≡ false → op_is_release l e.op ≡ false → IsLockAfter past l lock → IsLockAfter now l lock
  other_lock l lock no_acquire no_release = lock_more l lock lock (λ who. rw (acquire_test who l e false no_acquire, release_test who l e false no_release, and-false) refl)

  locks_same : (locks : List LockState) → ((l : ℕ) → op_is_acquire l e.op ≡ false) → ((l : ℕ) → op_is_release l e.op ≡ false) → AreLocks past locks → AreLocks now locks
  locks_same locks no_acquire no_release old l = other_lock l (get_or locks l free_lock) (no_acquire l) (no_release l) (old l)

  locks_put : (locks new : List LockState) (l : ℕ) (lock : LockState) → IsPut free_lock l lock locks new → IsLockAfter now l lock → ((m : ℕ) → m ≢ l → op_is_acquire m e.op ≡ false) → ((m : ℕ) → m ≢ l → op_is_release m e.op ≡ false) → AreLocks past locks → AreLocks now new
  locks_put locks new l lock written here no_acquire no_release old m = go (cases_eq m l)
    where
      go : (m ≡ l) ⊎ (m ≢ l) → IsLockAfter now m (get_or new m free_lock)
      go (inl same) = subst (λ (n : ℕ). IsLockAfter now n (get_or new n free_lock)) (sym same) (subst (IsLockAfter now l) (sym written.there) here)
      go (inr ne) = subst (IsLockAfter now m) (sym (written.others m ne)) (other_lock m (get_or locks m free_lock) (no_acquire m ne) (no_release m ne) (old m))

  -- the lock that is acquired
  pub acquired_lock : (l : ℕ) (lock : LockState) → e.op ≡ Acquire l → acquires (other_than e.thread) l past ≡ releases (other_than e.thread) l past → IsLockAfter past l lock → IsLockAfter now l record { holder = e.thread; depth = lock.depth + 1 }
  acquired_lock l lock is may known = lock_more l lock record { holder = e.thread; depth = lock.depth + 1 } step known
    where
      step : (who : ℕ → Bool) → cond (is_acquire who l e) 1 0 + cond (who lock.holder) lock.depth 0 ≡ cond (is_release who l e) 1 0 + cond (who e.thread) (lock.depth + 1) 0
      step who =
          let no_other : cond (not (e.thread == lock.holder)) lock.depth 0 ≡ 0 = let h = known (other_than e.thread) in omega (arith, h, may) in
          rw (acquire_test who l e true (ap (op_is_acquire l) is ∙ eq-eqb l l refl), release_test who l e false (ap (op_is_release l) is), and-false, and-true) (acquire_cases (who e.thread) (who lock.holder) (e.thread == lock.holder) lock.depth (λ h. ap who (sym (eqb-true e.thread lock.holder h))) no_other)

  -- the lock that is released
  pub released_lock : (l : ℕ) (lock : LockState) → e.op ≡ Release l → releases (only e.thread) l past < acquires (only e.thread) l past → IsLockAfter past l lock → IsLockAfter now l record { holder = lock.holder; depth = lock.depth - 1 }
  released_lock l lock is may known = lock_more l lock record { holder = lock.holder; depth = lock.depth - 1 } step known
    where
      step : (who : ℕ → Bool) → cond (is_acquire who l e) 1 0 + cond (who lock.holder) lock.depth 0 ≡ cond (is_release who l e) 1 0 + cond (who lock.holder) (lock.depth - 1) 0
      step who =
          let held : 0 < cond (e.thread == lock.holder) lock.depth 0 = let h = known (only e.thread) in omega (arith, h, may) in
          rw (acquire_test who l e false (ap (op_is_acquire l) is), release_test who l e true (ap (op_is_release l) is ∙ eq-eqb l l refl), and-false, and-true) (release_cases (who e.thread) (who lock.holder) (e.thread == lock.holder) lock.depth (λ h. ap who (sym (eqb-true e.thread lock.holder h))) held)

-- a depth counts acquires, so it is at most the number of events
pub depth_few : (past : List Event) (l : ℕ) (lock : LockState) → IsLockAfter past l lock → lock.depth ≤ length past
depth_few past l lock known =
    let all = known (λ u. true) in
    let most = count_by-le-length (is_acquire (λ u. true) l) past in
    omega (arith, all, most)

-- operations of other kinds
pub no_acquire : (op : Op) → ((m : ℕ) → op ≡ Acquire m → ⊥) → (l : ℕ) → op_is_acquire l op ≡ false
no_acquire op h l = grind (arith, common_steps)

pub no_release : (op : Op) → ((m : ℕ) → op ≡ Release m → ⊥) → (l : ℕ) → op_is_release l op ≡ false
no_release op h l = grind (arith, common_steps)

pub no_fork : (op : Op) → ((m : ℕ) → op ≡ Fork m → ⊥) → (u : ℕ) → op_is_fork u op ≡ false
no_fork op h u = grind (arith, common_steps)

pub no_join : (op : Op) → ((m : ℕ) → op ≡ Join m → ⊥) → (u : ℕ) → op_is_join u op ≡ false
no_join op h u = grind (arith, common_steps)

abbrev pub held_by : ℕ → ℕ → LockState
held_by t depth = record { holder = t; depth = depth }

pub put_same : (l : ℕ) (default item wanted : LockState) (old new : List LockState) → default ≡ free_lock → item ≡ wanted → IsPut default l item old new → IsPut free_lock l wanted old new
put_same l default item wanted old new d i h = subst (λ (x : LockState). IsPut x l wanted old new) d (subst (λ (x : LockState). IsPut default l x old new) i h)

pub flag_put : (t u : ℕ) (old new : List Bool) → t ≡ u → IsPut false u true old new → IsPut false t true old new
flag_put t u old new same h = subst (λ (v : ℕ). IsPut false v true old new) (sym same) h

-- no thread joins itself
no_own_join : (past : List Event) (t : ℕ) (op : Op) → MayDo past t op → op_is_join t op ≡ false
no_own_join past t (Join u) other = ne_eqb t u (λ same. other (sym same))
no_own_join past t _ may = refl

-- the thread of an event goes on
goes_on : (past : List Event) (e : Event) → MayCome past e → IsGoingOn (past ++ e ∷ []) (Some e.thread)
goes_on past e may =
    let begun = count_more past e (is_of e.thread) in
    let one : ◌≡◌ {A = ℕ} (cond (is_of e.thread e) 1 0) 1 = ap (λ (b : Bool). cond {A = ℕ} b 1 0) (is_of_test e.thread e true (eq-eqb e.thread e.thread refl)) in
    let joined = count_more past e (is_join e.thread) in
    let none : ◌≡◌ {A = ℕ} (cond (is_join e.thread e) 1 0) 0 = ap (λ (b : Bool). cond {A = ℕ} b 1 0) (is_join_test e.thread e false (no_own_join past e.thread e.op may.may_do)) in
    let before = may.not_joined in
    (omega (arith, begun, one), omega (arith, joined, none, before))

-- a flag that is set already
flag_set : (flag : Bool) (n : ℕ) → Tells flag n → 0 < n → flag ≡ true
flag_set true n tells some = refl
flag_set false n tells some = absurd (omega (arith, tells, some))

-- all that is known, after the event
module _ (past : List Event) (e : Event) (may : MayCome past e) (state : State) (known : IsStateAfter past state) where
  module _ (started : List Bool) (start : IsPut false e.thread true state.started.items started) where
    started_now : AreFlags is_of (past ++ e ∷ []) started
    started_now = started_more past e state.started.items started start known.started

    last_now : (new : State) → new.last ≡ Some e.thread → IsGoingOn (past ++ e ∷ []) new.last
    last_now new last = subst (IsGoingOn (past ++ e ∷ [])) (sym last) (goes_on past e may)

    pub acquired : (new : State) (l : ℕ) (lock : LockState) → e.op ≡ Acquire l → lock ≡ get_or state.locks.items l free_lock → (depth : ℕ) → depth ≡ lock.depth + 1
        → IsPut free_lock l record { holder = e.thread; depth = depth } state.locks.items new.locks.items → new.started.items ≡ started → new.forked.items ≡ state.forked.items → new.joined.items ≡ state.joined.items → new.last ≡ Some e.thread → IsStateAfter (past ++ e ∷ []) new
    acquired new l lock is read depth one_more written s f j last = record {
      last = last_now new last;
      locks = locks_put past e state.locks.items new.locks.items l record { holder = e.thread; depth = depth } written
          (subst (λ (d : ℕ). IsLockAfter (past ++ e ∷ []) l record { holder = e.thread; depth = d }) (sym one_more) (acquired_lock past e l lock is (subst (MayDo past e.thread) is may.may_do) (subst (IsLockAfter past l) (sym read) (known.locks l))))
          (λ m ne. ap (op_is_acquire m) is ∙ ne_eqb m l ne) (λ m ne. ap (op_is_release m) is) known.locks;
      started = subst (AreFlags is_of (past ++ e ∷ [])) (sym s) started_now;
      forked = subst (AreFlags is_fork (past ++ e ∷ [])) (sym f) (forked_same past e state.forked.items (λ u. ap (op_is_fork u) is) known.forked);
      joined = subst (AreFlags is_join (past ++ e ∷ [])) (sym j) (joined_same past e state.joined.items (λ u. ap (op_is_join u) is) known.joined);
    }

    pub released : (new : State) (l : ℕ) (lock : LockState) → e.op ≡ Release l → lock ≡ get_or state.locks.items l free_lock → (depth : ℕ) → depth ≡ lock.depth - 1
        → IsPut free_lock l record { holder = lock.holder; depth = depth } state.locks.items new.locks.items → new.started.items ≡ started → new.forked.items ≡ state.forked.items → new.joined.items ≡ state.joined.items → new.last ≡ Some e.thread → IsStateAfter (past ++ e ∷ []) new
    released new l lock is read depth one_less written s f j last = record {
      last = last_now new last;
      locks = locks_put past e state.locks.items new.locks.items l record { holder = lock.holder; depth = depth } written
          (subst (λ (d : ℕ). IsLockAfter (past ++ e ∷ []) l record { holder = lock.holder; depth = d }) (sym one_less) (released_lock past e l lock is (subst (MayDo past e.thread) is may.may_do) (subst (IsLockAfter past l) (sym read) (known.locks l))))
          (λ m ne. ap (op_is_acquire m) is) (λ m ne. ap (op_is_release m) is ∙ ne_eqb m l ne) known.locks;
      started = subst (AreFlags is_of (past ++ e ∷ [])) (sym s) started_now;
      forked = subst (AreFlags is_fork (past ++ e ∷ [])) (sym f) (forked_same past e state.forked.items (λ u. ap (op_is_fork u) is) known.forked);
      joined = subst (AreFlags is_join (past ++ e ∷ [])) (sym j) (joined_same past e state.joined.items (λ u. ap (op_is_join u) is) known.joined);
    }

    pub forks : (new : State) (u : ℕ) → e.op ≡ Fork u → IsPut false u true state.forked.items new.forked.items → new.locks.items ≡ state.locks.items → new.started.items ≡ started → new.joined.items ≡ state.joined.items → new.last ≡ Some e.thread → IsStateAfter (past ++ e ∷ []) new
    forks new u is written l s j last = record {
      last = last_now new last;
      locks = subst (AreLocks (past ++ e ∷ [])) (sym l) (locks_same past e state.locks.items (λ l. ap (op_is_acquire l) is) (λ l. ap (op_is_release l) is) known.locks);
      started = subst (AreFlags is_of (past ++ e ∷ [])) (sym s) started_now;
      forked = forked_more past e state.forked.items new.forked.items u is written known.forked;
      joined = subst (AreFlags is_join (past ++ e ∷ [])) (sym j) (joined_same past e state.joined.items (λ u. ap (op_is_join u) is) known.joined);
    }

    pub joins : (new : State) (u : ℕ) → e.op ≡ Join u → IsPut false u true state.joined.items new.joined.items → new.locks.items ≡ state.locks.items → new.started.items ≡ started → new.forked.items ≡ state.forked.items → new.last ≡ Some e.thread → IsStateAfter (past ++ e ∷ []) new
    joins new u is written l s f last = record {
      last = last_now new last;
      locks = subst (AreLocks (past ++ e ∷ [])) (sym l) (locks_same past e state.locks.items (λ l. ap (op_is_acquire l) is) (λ l. ap (op_is_release l) is) known.locks);
      started = subst (AreFlags is_of (past ++ e ∷ [])) (sym s) started_now;
      forked = subst (AreFlags is_fork (past ++ e ∷ [])) (sym f) (forked_same past e state.forked.items (λ u. ap (op_is_fork u) is) known.forked);
      joined = joined_more past e state.joined.items new.joined.items u is written known.joined;
    }

    pub others : (new : State) → ((m : ℕ) → e.op ≡ Acquire m → ⊥) → ((m : ℕ) → e.op ≡ Release m → ⊥) → ((m : ℕ) → e.op ≡ Fork m → ⊥) → ((m : ℕ) → e.op ≡ Join m → ⊥)
        → new.locks.items ≡ state.locks.items → new.started.items ≡ started → new.forked.items ≡ state.forked.items → new.joined.items ≡ state.joined.items → new.last ≡ Some e.thread → IsStateAfter (past ++ e ∷ []) new
    others new not_acquire not_release not_fork not_join l s f j last = record {
      last = last_now new last;
      locks = subst (AreLocks (past ++ e ∷ [])) (sym l) (locks_same past e state.locks.items (no_acquire e.op not_acquire) (no_release e.op not_release) known.locks);
      started = subst (AreFlags is_of (past ++ e ∷ [])) (sym s) started_now;
      forked = subst (AreFlags is_fork (past ++ e ∷ [])) (sym f) (forked_same past e state.forked.items (no_fork e.op not_fork) known.forked);
      joined = subst (AreFlags is_join (past ++ e ∷ [])) (sym j) (joined_same past e state.joined.items (no_join e.op not_join) known.joined);
    }

  -- an access by the thread of the last event changes nothing
  plain : state.last ≡ Some e.thread → ((m : ℕ) → e.op ≡ Acquire m → ⊥) → ((m : ℕ) → e.op ≡ Release m → ⊥) → ((m : ℕ) → e.op ≡ Fork m → ⊥) → ((m : ℕ) → e.op ≡ Join m → ⊥) → IsStateAfter (past ++ e ∷ []) state
  plain last not_acquire not_release not_fork not_join =
      let begun : 0 < count_by (is_of e.thread) past = (subst (IsGoingOn past) last known.last).0 in
      let written : IsPut false e.thread true state.started.items state.started.items = record { there = flag_set _ _ (known.started e.thread) begun; others = λ k ne. refl } in
      others state.started.items written state not_acquire not_release not_fork not_join refl refl refl refl last

  pub plain_read : (x : ℕ) → e.op ≡ Read x → state.last ≡ Some e.thread → IsStateAfter (past ++ e ∷ []) state
  plain_read x reads last =
      plain last (λ m is. (let h : Read x ≡ Acquire m = sym reads ∙ is in let f : ⊥ = cc in f)) (λ m is. (let h : Read x ≡ Release m = sym reads ∙ is in let f : ⊥ = cc in f))
      (λ m is. (let h : Read x ≡ Fork m = sym reads ∙ is in let f : ⊥ = cc in f)) (λ m is. (let h : Read x ≡ Join m = sym reads ∙ is in let f : ⊥ = cc in f))

  pub plain_write : (x : ℕ) → e.op ≡ Write x → state.last ≡ Some e.thread → IsStateAfter (past ++ e ∷ []) state
  plain_write x writes last =
      plain last (λ m is. (let h : Write x ≡ Acquire m = sym writes ∙ is in let f : ⊥ = cc in f)) (λ m is. (let h : Write x ≡ Release m = sym writes ∙ is in let f : ⊥ = cc in f))
      (λ m is. (let h : Write x ≡ Fork m = sym writes ∙ is in let f : ⊥ = cc in f)) (λ m is. (let h : Write x ≡ Join m = sym writes ∙ is in let f : ⊥ = cc in f))

-- what stands past the end of a list of events
abbrev pub no_event : Event
no_event = record { thread = 0; op = Read 0; line = 0 }

-- the front of a trace with one event more
pub front_more : (events : List Event) (k : ℕ) (e : Event) → slice_get events k ≡ Some e → take (k + 1) events ≡ take k events ++ e ∷ []
front_more events k e at = (take_at_read events k e (slice_get_within events k e at)).1 ∙ ap (λ (x : Event). take k events ++ x ∷ []) (get_or_from_slice_get events k e e at)

pub front_few : (events : List Event) (k : ℕ) → k < length events → length events ≤ most_events → length (take k events) + 1 < 2 ^ 32
front_few events k lt few = let front = length-take {A = Event} k events in omega (arith, front, lt, few)
