-- A trace has one race list.
use Rattle.std.proofs.lemmas.Grind.{common_steps}
use Rattle.std.proofs.Common.{◌≡◌, ◌≢◌, ℕ, zero, suc, ◌<◌, ◌⊎◌, inl, inr, List, Option, None, Some, ap, arith, subst}
use Rattle.std.proofs.lemmas.Bool.{cases_lt, cases_order}
use Rattle.shb_lines.specs.declared.event.Event.{Event}
use Rattle.shb_lines.specs.events.Race.{variable_at, Race, FirstAccess, KeyBefore, RaceBefore, IsRaceList}
use Rattle.shb_lines.proofs.events.Increasing.{same_in_order}

is_or_not : (v : Option ℕ) (x : ℕ) → (v ≡ Some x) ⊎ (v ≢ Some x)
is_or_not None x = inr (λ h. (let f : ⊥ = cc in f))
is_or_not (Some y) x = elim (cases_order y x) [
  | inl same ↦ inl (ap Some same)
  | inr other ↦ inr (λ h. let same : y ≡ x = cc in elim other [ inl lt ↦ omega (arith, same, lt) | inr gt ↦ omega (arith, same, gt) ])
]

-- first accesses
pub first_unique : (trace : List Event) (x f g : ℕ) → FirstAccess trace x f → FirstAccess trace x g → f ≡ g
first_unique trace x f g hf hg = grind (arith, common_steps, cases_order)

first_below : (trace : List Event) (x n : ℕ) → ((f : ℕ) × FirstAccess trace x f) ⊎ ((k : ℕ) → k < n → variable_at trace k ≢ Some x)
first_below trace x zero = inr (λ k lt h. omega arith)
first_below trace x (suc n) = go (first_below trace x n) (is_or_not (variable_at trace n) x)
  where
    go : ((f : ℕ) × FirstAccess trace x f) ⊎ ((k : ℕ) → k < n → variable_at trace k ≢ Some x) → (variable_at trace n ≡ Some x) ⊎ (variable_at trace n ≢ Some x) → ((f : ℕ) × FirstAccess trace x f) ⊎ ((k : ℕ) → k < suc n → variable_at trace k ≢ Some x)
    go (inl found) here = inl found
    go (inr none) (inl is_it) = inl (n, record { accesses = is_it; first = none })
    go (inr none) (inr not_it) = inr (λ k lt h. elim (cases_lt k n) [ inl below ↦ none k below h | inr at ↦ not_it (let e : k ≡ n = omega arith in subst (λ (m : ℕ). variable_at trace m ≡ Some x) e h) ])

first_exists : (trace : List Event) (x k : ℕ) → variable_at trace k ≡ Some x → (f : ℕ) × FirstAccess trace x f
first_exists trace x k h = elim (first_below trace x (suc k)) [ inl found ↦ found | inr none ↦ absurd (none k (omega arith) h) ]

-- the order of races is strict
key_strict : (p q : ℕ × ℕ × ℕ) → KeyBefore p q → KeyBefore q p → ⊥
key_strict p q (inl a) (inl b) = omega arith
key_strict p q (inl a) (inr b) = let e = b.0 in omega arith
key_strict p q (inr a) (inl b) = let e = a.0 in omega arith
key_strict p q (inr a) (inr b) = elim a.1 [
  | inl lt ↦ elim b.1 [ inl gt ↦ omega arith | inr h ↦ (let e = h.0 in omega arith) ]
  | inr g ↦ (let e = g.0 in let lt = g.1 in elim b.1 [ inl gt ↦ omega arith | inr h ↦ (let gt = h.1 in omega arith) ])
]

race_order_strict : (trace : List Event) (p q : ℕ × ℕ) → Race trace p.0 p.1 → Race trace q.0 q.1 → RaceBefore trace p q → RaceBefore trace q p → ⊥
race_order_strict trace p q race_p race_q before after =
    let x = race_p.conflict.variable in
    let y = race_q.conflict.variable in
    let at_p : variable_at trace p.1 ≡ Some x = race_p.conflict.second_accesses in
    let at_q : variable_at trace q.1 ≡ Some y = race_q.conflict.second_accesses in
    let f = first_exists trace x p.1 at_p in
    let g = first_exists trace y q.1 at_q in
    key_strict (f.0, p.1, p.0) (g.0, q.1, q.0) (before x y f.0 g.0 at_p at_q f.1 g.1) (after y x g.0 f.0 at_q at_p g.1 f.1)

pub race_list_unique : (trace : List Event) (races others : List (ℕ × ℕ)) → IsRaceList trace races → IsRaceList trace others → races ≡ others
race_list_unique trace races others h g = same_in_order (RaceBefore trace) races others
    (λ p q cp cq. race_order_strict trace p q ((h.all p.0 p.1).0 cp) ((h.all q.0 q.1).0 cq))
    h.in_order
    g.in_order
    (λ p. ((λ c. (g.all p.0 p.1).1 ((h.all p.0 p.1).0 c)), (λ c. (h.all p.0 p.1).1 ((g.all p.0 p.1).0 c))))
