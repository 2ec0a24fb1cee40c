-- Tables of latest positions, an event at a time.
use Rattle.shb_links.proofs.Words.{Event, Exactly, Fork, ForksThread, IsLatestTable, IsOpWithin, IsWithin, Latest, OfThread, Sizes, cases_eq, cases_lt, common_steps, event_of_op, event_of_thread, get_or_past, length-set, set, slice_get_within}
use Rattle.std.proofs.Common.{◌≡◌, ℕ, ◌+◌, ◌<◌, ◌≤◌, ◌⊎◌, inl, inr, List, Option, Some, None, length, get_or, arith, subst, sym, ◌∙◌, get_or-set_same, get_or-set_other}

-- one more position that has the property not
pub latest_skip : (P : ℕ → Type 0) (n : ℕ) (o : Option ℕ) → (P n → ⊥) → Latest P n o → Latest P (n + 1) o
latest_skip P n None fails none = λ k lt h. elim (cases_lt k n) [ inl low ↦ none k low h | inr le ↦ fails (subst P (let g : k ≡ n = omega arith in g) h) ]
latest_skip P n (Some p) fails latest = record {
  earlier = (let lt = latest.earlier in omega arith);
  holds = latest.holds;
  last = λ m low high h. elim (cases_lt m n) [ inl lt ↦ latest.last m low lt h | inr le ↦ fails (subst P (let g : m ≡ n = omega arith in g) h) ];
}

-- the thread and the operation of one event
pub thread_alone : (trace : List Event) (e t u : ℕ) → OfThread trace t e → OfThread trace u e → u ≡ t
thread_alone trace e t u h g = let s : Some t ≡ Some u = sym h ∙ g in cc

-- a table of forks over the whole trace
pub forks_whole : (trace : List Event) (sizes : Sizes) (table : List (Option ℕ)) → IsWithin trace sizes → IsLatestTable (ForksThread trace) (length trace) sizes.threads table → (t : ℕ) → Exactly (ForksThread trace t) (get_or table t None)
forks_whole trace sizes table within has t = go t (cases_lt t sizes.threads)
  where
    no_later : (t : ℕ) (o : Option ℕ) → Latest (ForksThread trace t) (length trace) o → Exactly (ForksThread trace t) o
    no_later t (Some f) latest = latest.holds
    no_later t None none = λ k forks. (let e = event_of_op trace k (Fork t) forks in none k (slice_get_within trace k e.0 e.1) forks)

    absent : (t : ℕ) → sizes.threads ≤ t → (k : ℕ) → ForksThread trace t k → ⊥
    absent t le k forks = let e = event_of_op trace k (Fork t) forks in let low : t < sizes.threads = subst (IsOpWithin sizes) e.2 (within k e.0 e.1).operation in omega (arith, low, le)

    go : (t : ℕ) → (t < sizes.threads) ⊎ (sizes.threads ≤ t) → Exactly (ForksThread trace t) (get_or table t None)
    go t (inl lt) = no_later t (get_or table t None) (has.each t lt)
    go t (inr le) = subst (λ (o : Option ℕ). Exactly (ForksThread trace t) o) (sym (get_or_past table t None (let long = has.as_long in omega (arith, long, le)))) (absent t le)

-- a table of last events over the whole trace
pub last_whole : (trace : List Event) (sizes : Sizes) (table : List (Option ℕ)) → IsWithin trace sizes → IsLatestTable (OfThread trace) (length trace) sizes.threads table → (t : ℕ) → Latest (OfThread trace t) (length trace) (get_or table t None)
last_whole trace sizes table within has t = go t (cases_lt t sizes.threads)
  where
    absent : (t : ℕ) → sizes.threads ≤ t → (k : ℕ) → k < length trace → OfThread trace t k → ⊥
    absent t le k lt of_k = let e = event_of_thread trace k t of_k in let low = (within k e.0 e.1).thread in let is = e.2 in omega (arith, low, is, le)

    go : (t : ℕ) → (t < sizes.threads) ⊎ (sizes.threads ≤ t) → Latest (OfThread trace t) (length trace) (get_or table t None)
    go t (inl lt) = has.each t lt
    go t (inr le) = subst (λ (o : Option ℕ). Latest (OfThread trace t) (length trace) o) (sym (get_or_past table t None (let long = has.as_long in omega (arith, long, le)))) (absent t le)
