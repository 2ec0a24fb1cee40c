-- What is kept of a variable, an access at a time.
use Rattle.std.proofs.Common.{◌≡◌, ℕ, ◌+◌, ◌<◌, inl, inr, Bool, false, List, [], ◌∷◌, ◌++◌, Some, length, arith, refl, sym, ap, subst, ◌∙◌}
use Rattle.std.specs.Prelude.{option_and_then}
use Rattle.shb_stamps.proofs.Words.{BelowPred, Event, HasLatest, IsAccess, IsDisciplined, IsEpoch, IsMarked, IsPast, IsScreened, Latest, Race, ShbBelow, Write, below_longer, cases_eq, here, is_unknown, op_at, op_longer, race_longer, thread_longer, time_longer, variable_at, variable_of}
use Rattle.shb_stamps.specs.declared.screen.Epoch.{Epoch}
use Rattle.shb_stamps.proofs.Sources.{path_append, strictly_below_below}

-- the events that an epoch may be that of are SHB-below the predecessor of n
pub past_where : (trace : List Event) (n : ℕ) (epoch : Epoch) → is_unknown epoch ≡ false → ((m : ℕ) → m < n → IsEpoch trace m epoch → BelowPred trace m n) → IsPast trace n epoch
past_where trace n epoch known below = (known, λ k h. let after = below h.event h.past h.is in (after.0, after.1, path_append trace k h.event after.0 h.ordered after.2))

accesses_too : (trace : List Event) (x k : ℕ) → op_at trace k ≡ Some (Write x) → variable_at trace k ≡ Some x
accesses_too trace x k writes = ap (option_and_then variable_of) writes

-- no event before n accesses the variable
pub screened_never : (trace : List Event) (x n : ℕ) (latest : Latest) → ((k : ℕ) → k < n → variable_at trace k ≡ Some x → ⊥) → IsScreened trace x n latest
screened_never trace x n latest never known = record {
  free = λ i j lt of_j race. never j lt of_j;
  writes = λ k lt writes. absurd (never k lt (accesses_too trace x k writes));
  accesses = λ also k lt of_k. absurd (never k lt of_k);
}

-- the accesses of the variable before m are those before n of an older trace
screened_over : (old now : List Event) (x n m : ℕ) (latest : Latest) → ((k : ℕ) → k < m → variable_at now k ≡ Some x → (k < n) × (op_at old k ≡ op_at now k)) → ((i j : ℕ) → j < n → Race now i j → Race old i j)
    → ((epoch : Epoch) (k : ℕ) → IsMarked old n epoch k → IsMarked now m epoch k) → IsScreened old x n latest → IsScreened now x m latest
screened_over old now x n m latest before races marks h known =
    let was = h known in
    record {
      free = λ i j lt of_j race. (let b = before j lt of_j in was.free i j b.0 (ap (option_and_then variable_of) b.1 ∙ of_j) (races i j b.0 race));
      writes = λ k lt writes. (let b = before k lt (accesses_too now x k writes) in marks latest.write k (was.writes k b.0 (b.1 ∙ writes)));
      accesses = λ also k lt of_k. (let b = before k lt of_k in elim (was.accesses also k b.0 (ap (option_and_then variable_of) b.1 ∙ of_k)) [
        | inl w ↦ inl (marks latest.write k w)
        | inr r ↦ inr (marks latest.read k r)
      ]);
    }

-- an event more in the trace
pub screened_longer : (past : List Event) (e : Event) → IsDisciplined (past ++ e ∷ []) → (x : ℕ) (latest : Latest) → IsScreened past x (length past) latest → IsScreened (past ++ e ∷ []) x (length past) latest
screened_longer past e disciplined x latest h = screened_over past (past ++ e ∷ []) x (length past) (length past) latest
    (λ k lt of_k. (lt, sym (op_longer past (e ∷ []) k lt)))
    (λ i j lt race. (race_longer past (e ∷ []) disciplined i j lt).0 race)
    (λ epoch k h. record {
      event = h.event;
      past = h.past;
      is = record { thread_is = thread_longer past (e ∷ []) h.event h.past ∙ h.is.thread_is; time_is = h.is.time_is ∙ sym (time_longer past (e ∷ []) epoch.thread h.event h.past) };
      ordered = (below_longer past (e ∷ []) k h.event h.past).1 h.ordered;
    })
    h

module _ (trace : List Event) (x n : ℕ) where
  marked_later : (epoch : Epoch) (k : ℕ) → IsMarked trace n epoch k → IsMarked trace (n + 1) epoch k
  marked_later epoch k h = record { event = h.event; past = (let lt = h.past in omega (arith, lt)); is = h.is; ordered = h.ordered }

  -- an event that doesn't access the variable
  pub screened_later : (latest : Latest) → (variable_at trace n ≡ Some x → ⊥) → IsScreened trace x n latest → IsScreened trace x (n + 1) latest
  screened_later latest never h = screened_over trace trace x n (n + 1) latest (λ k lt of_k. (before k lt of_k, refl)) (λ i j lt race. race) marked_later h
    where
      before : (k : ℕ) → k < n + 1 → variable_at trace k ≡ Some x → k < n
      before k lt of_k = elim (cases_eq k n) [
        | inl same ↦ absurd (never (subst (λ (m : ℕ). variable_at trace m ≡ Some x) same of_k))
        | inr other ↦ omega (arith, lt, other)
      ]

  -- an access of it after its last write
  module _ (disciplined : IsDisciplined trace) (own : Epoch) (writes : Bool) (access : IsAccess trace n x own writes) (latest : Latest) (h : IsScreened trace x n latest) (past : IsPast trace n latest.write) where
    was : HasLatest trace x n latest
    was = h past.0

    pub access_below : IsPast trace n latest.read → (k : ℕ) → k < n → variable_at trace k ≡ Some x → BelowPred trace k n
    access_below also k lt of_k = elim (was.accesses also.0 k lt of_k) [ inl w ↦ past.1 k w | inr r ↦ also.1 k r ]

    -- the access stands for all
    marked_all : (epoch : Epoch) → epoch ≡ own → IsPast trace n latest.read → (k : ℕ) → k < n + 1 → variable_at trace k ≡ Some x → IsMarked trace (n + 1) epoch k
    marked_all epoch same also k lt of_k = record {
      event = n;
      past = omega arith;
      is = subst (IsEpoch trace n) (sym same) access.own_is;
      ordered = elim (cases_eq k n) [
        | inl last ↦ subst (λ (m : ℕ). ShbBelow trace m n) (sym last) here
        | inr other ↦ strictly_below_below trace disciplined k n (inl (access_below also k (omega (arith, lt, other)) of_k))
      ];
    }

    race_variable : (i : ℕ) → (race : Race trace i n) → race.conflict.variable ≡ x
    race_variable i race = (let s : Some race.conflict.variable ≡ Some x = sym race.conflict.second_accesses ∙ access.accesses in cc)

    none_more : ((i : ℕ) → Race trace i n → BelowPred trace i n) → (i j : ℕ) → j < n + 1 → variable_at trace j ≡ Some x → Race trace i j → ⊥
    none_more below i j lt of_j race = elim (cases_eq j n) [
      | inl same ↦ (let last = subst (Race trace i) same race in last.unordered (below i last))
      | inr other ↦ was.free i j (omega (arith, lt, other)) of_j race
    ]

    -- a write, or any access: after all others, or nothing is known
    pub screened_write : (next : Latest) → (is_unknown next.write ≡ false → (next.write ≡ own) × IsPast trace n latest.read) → IsScreened trace x (n + 1) next
    screened_write next after known =
        let all = marked_all next.write (after known).0 (after known).1 in
        record {
          free = none_more (λ i race. access_below (after known).1 i race.earlier (race.conflict.first_accesses ∙ ap (λ (y : ℕ). Some y) (race_variable i race)));
          writes = λ k lt is. all k lt (accesses_too trace x k is);
          accesses = λ also k lt of_k. inl (all k lt of_k);
        }

    -- a read
    pub screened_read : writes ≡ false → (next : Latest) → next.write ≡ latest.write → (is_unknown next.read ≡ false → (next.read ≡ own) × IsPast trace n latest.read) → IsScreened trace x (n + 1) next
    screened_read reads next same after known = record {
      free = none_more (λ i race. elim race.conflict.one_writes [
        | inl w ↦ past.1 i (was.writes i race.earlier (w ∙ ap (λ (y : ℕ). Some (Write y)) (race_variable i race)))
        | inr w ↦ absurd (access.reads reads (w ∙ ap (λ (y : ℕ). Some (Write y)) (race_variable i race)))
      ]);
      writes = λ k lt is. elim (cases_eq k n) [
        | inl last ↦ absurd (access.reads reads (subst (λ (m : ℕ). op_at trace m ≡ Some (Write x)) last is))
        | inr other ↦ subst (λ (e : Epoch). IsMarked trace (n + 1) e k) (sym same) (marked_later latest.write k (was.writes k (omega (arith, lt, other)) is))
      ];
      accesses = λ also k lt of_k. inr (marked_all next.read (after also).0 (after also).1 k lt of_k);
    }
