-- A lock after disciplined events has at most one holder, and what follows from that between two positions.
use Rattle.shb_links.proofs.Words.{Acquire, Decided, Event, IsDisciplined, MayCome, MayDo, Op, Release, acquires, cases_Bool, cases_eq, cases_lt, common_steps, count_gap, count_mono, count_more_no, eqb-true, is_acquire, is_release, ne_eqb, only, op_is_acquire, op_is_release, other_than, releases, slice_get_cases, some_below, take_more_past}
use Rattle.std.proofs.Common.{◌≡◌, ◌≢◌, ℕ, zero, suc, ◌+◌, ◌-◌, ◌<◌, ◌≤◌, ◌⊎◌, inl, inr, Bool, true, false, List, [], ◌∷◌, ◌++◌, Some, take, refl, sym, ◌∙◌, ap, arith, subst, add-one}
use Rattle.std.specs.Prelude.{slice_get, count_by, cond, ◌==◌}
use Rattle.std.proofs.Math.Bool.{and-false, and-true}
use Rattle.shb_lines.proofs.events.Locks.{DisciplinedBelow}
use Rattle.shb_discipline.proofs.Steps.{acquire_test, acquired_lock, count_more, front_more, other_lock, release_test, released_lock}
use Rattle.shb_discipline.specs.State.{IsLockAfter}
use Rattle.shb_discipline.specs.declared.state.LockState.{LockState}

-- every set of threads acquired the lock as often as it released it, and depth times more where the holder is of the set
pub record HasHolder (past : List Event) (l : ℕ) : Type 0 where
  pub holder : ℕ
  pub depth : ℕ
  pub balance : (who : ℕ → Bool) → acquires who l past ≡ releases who l past + cond (who holder) depth 0

cond_zero : (b : Bool) → ◌≡◌ {A = ℕ} (cond b 0 0) 0
cond_zero b = grind (arith, common_steps)

module _ (trace : List Event) (k : ℕ) (e : Event) (at : slice_get trace k ≡ Some e) where
  -- how the counts of a lock's acquires and releases go on
  pub acquires_yes : (who : ℕ → Bool) (l : ℕ) → op_is_acquire l e.op ≡ true → acquires who l (take (k + 1) trace) ≡ acquires who l (take k trace) + cond (who e.thread) 1 0
  acquires_yes who l is = ap (λ (past : List Event). acquires who l past) (front_more trace k e at) ∙ count_more (take k trace) e (is_acquire who l) ∙ ap (λ (b : Bool). acquires who l (take k trace) + cond b 1 0) (acquire_test who l e true is ∙ and-true (who e.thread))

  pub releases_no : (who : ℕ → Bool) (l : ℕ) → op_is_release l e.op ≡ false → releases who l (take (k + 1) trace) ≡ releases who l (take k trace)
  releases_no who l is = count_more_no (is_release who l) trace k e at (release_test who l e false is ∙ and-false (who e.thread))

  module _ (l : ℕ) (held : HasHolder (take k trace) l) where
    after : (lock : LockState) → IsLockAfter (take k trace ++ e ∷ []) l lock → IsLockAfter (take (k + 1) trace) l lock
    after lock h = subst (λ (past : List Event). IsLockAfter past l lock) (sym (front_more trace k e at)) h

    -- an event that doesn't name the lock
    passed_by : op_is_acquire l e.op ≡ false → op_is_release l e.op ≡ false → HasHolder (take (k + 1) trace) l
    passed_by no_acquire no_release = record {
      holder = held.holder;
      depth = held.depth;
      balance = after record { holder = held.holder; depth = held.depth } (other_lock (take k trace) e l record { holder = held.holder; depth = held.depth } no_acquire no_release held.balance);
    }

    acquired : e.op ≡ Acquire l → MayCome (take k trace) e → HasHolder (take (k + 1) trace) l
    acquired is may = record {
      holder = e.thread;
      depth = held.depth + 1;
      balance = after record { holder = e.thread; depth = held.depth + 1 } (acquired_lock (take k trace) e l record { holder = held.holder; depth = held.depth } is (subst (MayDo (take k trace) e.thread) is may.may_do) held.balance);
    }

    released : e.op ≡ Release l → MayCome (take k trace) e → HasHolder (take (k + 1) trace) l
    released is may = record {
      holder = held.holder;
      depth = held.depth - 1;
      balance = after record { holder = held.holder; depth = held.depth - 1 } (released_lock (take k trace) e l record { holder = held.holder; depth = held.depth } is (subst (MayDo (take k trace) e.thread) is may.may_do) held.balance);
    }

    pub holder_more : MayCome (take k trace) e → HasHolder (take (k + 1) trace) l
    holder_more may = go e.op refl
      where
        of_acquire : (m : ℕ) → e.op ≡ Acquire m → (m ≡ l) ⊎ (m ≡ l → ⊥) → HasHolder (take (k + 1) trace) l
        of_acquire m is (inl same) = acquired (is ∙ ap (λ n. Acquire n) same) may
        of_acquire m is (inr ne) = passed_by (ap (op_is_acquire l) is ∙ ne_eqb l m (λ h. ne (sym h))) (ap (op_is_release l) is)

        of_release : (m : ℕ) → e.op ≡ Release m → (m ≡ l) ⊎ (m ≡ l → ⊥) → HasHolder (take (k + 1) trace) l
        of_release m is (inl same) = released (is ∙ ap (λ n. Release n) same) may
        of_release m is (inr ne) = passed_by (ap (op_is_acquire l) is) (ap (op_is_release l) is ∙ ne_eqb l m (λ h. ne (sym h)))

        go : (op : Op) → e.op ≡ op → HasHolder (take (k + 1) trace) l
        go (Acquire m) is = of_acquire m is (cases_eq m l)
        go (Release m) is = of_release m is (cases_eq m l)
        go _ is = passed_by (ap (op_is_acquire l) is) (ap (op_is_release l) is)

pub holder_after : (trace : List Event) (l n : ℕ) → DisciplinedBelow trace n → HasHolder (take n trace) l
holder_after trace l zero below = record { holder = 0; depth = 0; balance = λ who. (let z = cond_zero (who 0) in omega (arith, z)) }
holder_after trace l (suc n) below =
    let before = holder_after trace l n (λ k e lt at. below k e (omega arith) at) in
    elim (slice_get_cases trace n).1 [
      | inl c ↦ rw add-one at (holder_more trace n c.0 c.2 l before (below n c.0 (omega arith) c.2))
      | inr c ↦ rw add-one at (subst (λ (past : List Event). HasHolder past l) (sym (take_more_past trace n c.0)) before)
    ]

pub disciplined_below : (trace : List Event) (n : ℕ) → IsDisciplined trace → DisciplinedBelow trace n
disciplined_below trace n disciplined k e lt at = disciplined k e at

-- the event at k passes the test, from a on and before b
pub record IsPassing (f : Event → Bool) (trace : List Event) (a b k : ℕ) : Type 0 where
  pub event : Event
  pub at : slice_get trace k ≡ Some event
  pub passes : f event ≡ true
  pub from : a ≤ k
  pub below : k < b

-- where the count grew, some event between was counted
pub some_counted : (f : Event → Bool) (trace : List Event) (a b : ℕ) → count_by f (take a trace) < count_by f (take b trace) → (k : ℕ) × IsPassing f trace a b k
some_counted f trace a b more = go (some_below (λ k. IsPassing f trace a b k) decide b)
  where
    by_event : (k : ℕ) (e : Event) → slice_get trace k ≡ Some e → (a ≤ k) → (k < b) → (f e ≡ true) ⊎ (f e ≡ false) → Decided (IsPassing f trace a b k)
    by_event k e at from below (inl passes) = inl (record { event = e; at = at; passes = passes; from = from; below = below })
    by_event k e at from below (inr fails) = inr (λ h. (let same : Some h.event ≡ Some e = sym h.at ∙ at in let is : h.event ≡ e = cc in let passes : f e ≡ true = subst (λ (d : Event). f d ≡ true) is h.passes in (let g : ⊥ = cc in g)))

    within : (k : ℕ) → (k < a) ⊎ (a ≤ k) → (k < b) ⊎ (b ≤ k) → Decided (IsPassing f trace a b k)
    within k (inl low) _ = inr (λ h. let from = h.from in omega arith)
    within k (inr from) (inr high) = inr (λ h. let below = h.below in omega arith)
    within k (inr from) (inl below) = elim (slice_get_cases trace k).1 [ inl c ↦ by_event k c.0 c.2 from below (cases_Bool (f c.0)) | inr c ↦ inr (λ h. let gone = c.1 in let there = h.at in (let g : ⊥ = cc in g)) ]

    decide : (k : ℕ) → Decided (IsPassing f trace a b k)
    decide k = within k (cases_lt k a) (cases_lt k b)

    fails_between : ((k : ℕ) → k < b → IsPassing f trace a b k → ⊥) → (k : ℕ) (e : Event) → a ≤ k → k < b → slice_get trace k ≡ Some e → (f e ≡ true) ⊎ (f e ≡ false) → f e ≡ false
    fails_between none k e from below at (inl passes) = absurd (none k below (record { event = e; at = at; passes = passes; from = from; below = below }))
    fails_between none k e from below at (inr fails) = fails

    refuse : ((k : ℕ) → k < b → IsPassing f trace a b k → ⊥) → (a ≤ b) ⊎ (b < a) → ⊥
    refuse none (inl le) = let gap = count_gap f trace a b le (λ k e from below at. fails_between none k e from below at (cases_Bool (f e))) in omega (arith, gap, more)
    refuse none (inr gt) = let mono = count_mono f trace b a (omega arith) in omega (arith, mono, more)

    order : (b < a) ⊎ (a ≤ b) → (a ≤ b) ⊎ (b < a)
    order (inl lt) = inr lt
    order (inr le) = inl le

    go : ((k : ℕ) × (k < b) × IsPassing f trace a b k) ⊎ ((k : ℕ) → k < b → IsPassing f trace a b k → ⊥) → (k : ℕ) × IsPassing f trace a b k
    go (inl found) = (found.0, found.2)
    go (inr none) = absurd (refuse none (order (cases_lt b a)))

-- who isn't the holder has released what it acquired
pub balanced : (past : List Event) (l h : ℕ) (held : HasHolder past l) → (h == held.holder) ≡ false → acquires (only h) l past ≡ releases (only h) l past
balanced past l h held other = let b = held.balance (only h) in let none : cond (only h held.holder) held.depth 0 ≡ 0 = rw other refl in omega (arith, b, none)

-- where the threads other than t have released what they acquired, each of them has
pub others_balanced : (past : List Event) (l t h : ℕ) → HasHolder past l → h ≢ t → acquires (other_than t) l past ≡ releases (other_than t) l past → acquires (only h) l past ≡ releases (only h) l past
others_balanced past l t h held ne same = grind (arith, common_steps, cases_Bool, balanced, eqb-true, ne_eqb)
