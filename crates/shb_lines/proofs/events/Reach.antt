-- The tests that compute are true exactly where the relations hold.
use Rattle.std.proofs.Common.{◌≡◌, ℕ, zero, suc, ◌+◌, ◌<◌, ◌≤◌, ◌⊎◌, inl, inr, Bool, true, false, List, [], ◌∷◌, ◌++◌, Option, Some, None, length, refl, arith, subst, ap, sym, ◌∙◌, add-one}
use Rattle.std.specs.Prelude.{slice_get, ◌↔◌, ◌==◌, nat_lt, ◌&&◌, ◌||◌, not, cond, option_and_then}
use Rattle.std.proofs.lemmas.Bool.{cases_Bool, cases_lt, eqb-true, eq-eqb, ltb-true, lt-ltb}
use Rattle.std.proofs.lemmas.List.{append-nil}
use Rattle.std.proofs.lemmas.Option.{slice_get_within}
use Rattle.shb_lines.specs.declared.event.Event.{Event}
use Rattle.shb_lines.specs.declared.event.Op.{Op}
use Rattle.shb_lines.specs.declared.event.Op.TheVariants.{Read, Write, Fork}
use Rattle.shb_lines.specs.events.Events.{thread_at, op_at, variable_of}
use Rattle.shb_lines.specs.events.Discipline.{op_is_fork}
use Rattle.shb_lines.specs.events.Tests.{is_hb_rule, is_conflict}
use Rattle.shb_lines.specs.events.Reach.{any_below, numbers_where, of_thread, writes_at, forks_at, both_events, is_last_write, is_shb_edge, is_shb_below, is_pred, is_below_pred, is_race}
use Rattle.shb_lines.specs.events.Order.{HbRule, LastWrite, ShbEdge, happens_before, read_from, here, step, ShbBelow, IsPred, in_thread, by_fork, BelowPred}
use Rattle.shb_lines.specs.events.Race.{Conflict, Race, variable_at}
use Rattle.shb_lines.proofs.events.ConflictTests.{conflict_from_test, test_from_conflict}
use Rattle.shb_lines.proofs.events.EdgeTests.{rule_from_test, test_from_rule, rule_ends}
use Rattle.shb_lines.proofs.events.Events.{event_of_thread, event_of_op, fork_op}
use Rattle.shb_lines.proofs.events.Listed.{IsListed, listed_none, listed_more_yes, listed_more_no}
use Rattle.shb_lines.proofs.events.Schedulable.{path_forward, edge_earlier}
use Rattle.shb_lines.proofs.events.Search.{of_thread_true, of_thread_at, writes_at_true, writes_at_is}

-- b is true exactly where P holds
abbrev pub Reflects : Bool → Type 0 → Type 0
Reflects b P = (b ≡ true) ↔ P

pub reflect_same : (b : Bool) (P Q : Type 0) → Reflects b P → P ↔ Q → Reflects b Q
reflect_same b P Q h same = ((λ e. same.0 (h.0 e)), (λ q. h.1 (same.1 q)))

pub reflect_and : (a b : Bool) (P Q : Type 0) → Reflects a P → Reflects b Q → Reflects (a && b) (P × Q)
reflect_and true b P Q ha hb = ((λ h. (ha.0 refl, hb.0 h)), (λ h. hb.1 h.1))
reflect_and false b P Q ha hb = ((λ h. absurd (let f : ⊥ = cc in f)), (λ h. ha.1 h.0))

pub reflect_or : (a b : Bool) (P Q : Type 0) → Reflects a P → Reflects b Q → Reflects (a || b) (P ⊎ Q)
reflect_or true b P Q ha hb = ((λ h. inl (ha.0 refl)), (λ h. refl))
reflect_or false b P Q ha hb = ((λ h. inr (hb.0 h)), (λ h. elim h [ inl p ↦ absurd (let e = ha.1 p in let f : ⊥ = cc in f) | inr q ↦ hb.1 q ]))

pub reflect_not : (a : Bool) (P : Type 0) → Reflects a P → Reflects (not a) (P → ⊥)
reflect_not true P h = ((λ e. absurd (let f : ⊥ = cc in f)), (λ none. absurd (none (h.0 refl))))
reflect_not false P h = ((λ e p. let g = h.1 p in (let f : ⊥ = cc in f)), (λ none. refl))

pub reflect_lt : (a b : ℕ) → Reflects (nat_lt a b) (a < b)
reflect_lt a b = (ltb-true a b, lt-ltb a b)

pub reflect_eq : (a b : ℕ) → Reflects (a == b) (a ≡ b)
reflect_eq a b = (eqb-true a b, eq-eqb a b)

pub any_below_true : (f : ℕ → Bool) (n : ℕ) → any_below f n ≡ true → (k : ℕ) × (k < n) × (f k ≡ true)
unfolding any_below
any_below_true f zero h = absurd (let g : ⊥ = cc in g)
any_below_true f (suc n) h = go (cases_Bool (f n)) h (any_below_true f n)
  where
    go : (f n ≡ true) ⊎ (f n ≡ false) → (f n || any_below f n) ≡ true → (any_below f n ≡ true → (k : ℕ) × (k < n) × (f k ≡ true)) → (k : ℕ) × (k < suc n) × (f k ≡ true)
    go (inl e) g ih = (n, omega arith, e)
    go (inr e) g ih = let rest : any_below f n ≡ true = rw e at g in let found = ih rest in (found.0, (let lt = found.1 in omega arith), found.2)

same : (b : Bool) → Reflects b (b ≡ true)
same b = ((λ e. e), (λ e. e))

pub any_below_is : (f : ℕ → Bool) (n k : ℕ) → k < n → f k ≡ true → any_below f n ≡ true
unfolding any_below
any_below_is f zero k lt h = absurd (omega arith)
any_below_is f (suc n) k lt h = (reflect_or (f n) (any_below f n) _ _ (same (f n)) (same (any_below f n))).1 (elim (cases_lt k n) [ inl below ↦ inr (any_below_is f n k below h) | inr at ↦ inl (let e : k ≡ n = omega arith in rw (← e) h) ])

pub reflect_any : (f : ℕ → Bool) (P : ℕ → Type 0) (n : ℕ) → ((k : ℕ) → Reflects (f k) (P k)) → Reflects (any_below f n) ((k : ℕ) × (k < n) × P k)
reflect_any f P n each = (
  (λ h. let found = any_below_true f n h in (found.0, found.1, (each found.0).0 found.2)),
  (λ h. any_below_is f n h.0 h.1 ((each h.0).1 h.2)),
)

reflect_none : (f g : ℕ → Bool) (P : ℕ → Type 0) (low n : ℕ) → ((k : ℕ) → Reflects (g k) (P k)) → Reflects (not (any_below (λ k. nat_lt low k && g k) n)) ((k : ℕ) → low < k → k < n → P k → ⊥)
reflect_none f g P low n each = reflect_same _ _ _
    (reflect_not _ _ (reflect_any (λ k. nat_lt low k && g k) (λ k. (low < k) × P k) n (λ k. reflect_and _ _ _ _ (reflect_lt low k) (each k))))
    ((λ none k above below p. none (k, below, (above, p))), (λ none h. none h.0 h.2.0 h.1 h.2.1))

-- the numbers that pass are listed
pub numbers_listed : (f : ℕ → Bool) (n : ℕ) → IsListed (λ k. f k ≡ true) n (numbers_where f n)
unfolding numbers_where
numbers_listed f zero = listed_none (λ k. f k ≡ true)
numbers_listed f (suc n) = go (cases_Bool (f n)) (numbers_listed f n)
  where
    go : (f n ≡ true) ⊎ (f n ≡ false) → IsListed (λ k. f k ≡ true) n (numbers_where f n) → IsListed (λ k. f k ≡ true) (suc n) (numbers_where f n ++ cond (f n) (n ∷ []) [])
    go (inl e) ih = rw (e, ← add-one) (listed_more_yes (λ k. f k ≡ true) n (numbers_where f n) e ih)
    go (inr e) ih = rw (e, append-nil, ← add-one) (listed_more_no (λ k. f k ≡ true) n (numbers_where f n) (λ h. (let g : ⊥ = cc in g)) ih)

-- by what the test stands for
pub listed_by_test : (f : ℕ → Bool) (P : ℕ → Type 0) (n : ℕ) → ((k : ℕ) → Reflects (f k) (P k)) → IsListed P n (numbers_where f n)
listed_by_test f P n each =
    let found = numbers_listed f n in
    record {
      rising = found.rising;
      members = λ k. ((λ c. let m = (found.members k).0 c in (m.0, (each k).0 m.1)), (λ h. (found.members k).1 (h.0, (each k).1 h.1)));
    }

-- the tests of events at positions
reflect_of_thread : (trace : List Event) (t k : ℕ) → Reflects (of_thread trace t k) (thread_at trace k ≡ Some t)
reflect_of_thread trace t k = (of_thread_true trace t k, of_thread_at trace t k)

reflect_writes : (trace : List Event) (x k : ℕ) → Reflects (writes_at trace x k) (op_at trace k ≡ Some (Write x))
reflect_writes trace x k = (writes_at_true trace x k, writes_at_is trace x k)

some_fork : (t : ℕ) (o : Option Op) → (elim o [ Some op ↦ op_is_fork t op | None ↦ false ]) ≡ true → o ≡ Some (Fork t)
some_fork t (Some op) h = ap (λ p. Some p) (fork_op t op h)
some_fork t None h = absurd (let f : ⊥ = cc in f)

reflect_forks : (trace : List Event) (t k : ℕ) → Reflects (forks_at trace t k) (op_at trace k ≡ Some (Fork t))
unfolding forks_at
reflect_forks trace t k = (some_fork t (op_at trace k), (λ h. rw (h, forks_at) (eq-eqb t t refl)))

-- a test of two events, by what it says of the events at the positions
reflect_both : (trace : List Event) (a b : ℕ) (f : Event → Event → Bool) (P : Type 0) → ((e d : Event) → slice_get trace a ≡ Some e → slice_get trace b ≡ Some d → Reflects (f e d) P) → (P → ((e : Event) × (slice_get trace a ≡ Some e)) × ((d : Event) × (slice_get trace b ≡ Some d))) → Reflects (both_events f (slice_get trace a) (slice_get trace b)) P
unfolding both_events
reflect_both trace a b f P test ends = go (slice_get trace a) (slice_get trace b) refl refl
  where
    go : (o p : Option Event) → slice_get trace a ≡ o → slice_get trace b ≡ p → Reflects (both_events f o p) P
    go (Some e) (Some d) at_a at_b = test e d at_a at_b
    go (Some e) None at_a at_b = ((λ h. absurd (let g : ⊥ = cc in g)), (λ p. absurd (let at = (ends p).1.1 in let g : ⊥ = cc in g)))
    go None p at_a at_b = ((λ h. absurd (let g : ⊥ = cc in g)), (λ q. absurd (let at = (ends q).0.1 in let g : ⊥ = cc in g)))

-- last writes and edges
reflect_last_write : (trace : List Event) (w r : ℕ) → Reflects (is_last_write trace w r (op_at trace r)) (LastWrite trace w r)
unfolding is_last_write
reflect_last_write trace w r = go (op_at trace r) refl
  where
    read : (x : ℕ) → op_at trace r ≡ Some (Read x) → ((w < r) × (op_at trace w ≡ Some (Write x)) × ((k : ℕ) → w < k → k < r → op_at trace k ≡ Some (Write x) → ⊥)) ↔ LastWrite trace w r
    read x reads = (
      (λ h. record { variable = x; reads = reads; writes = h.1; earlier = h.0; latest = h.2 }),
      (λ l. let same : l.variable ≡ x = (let other = l.reads in cc) in (l.earlier, rw (← same) l.writes, (λ k low high. rw (← same) (l.latest k low high)))),
    )

    parts : (x : ℕ) → ((w < r) × ((op_at trace w ≡ Some (Write x)) × ((k : ℕ) → w < k → k < r → op_at trace k ≡ Some (Write x) → ⊥))) ↔ ((w < r) × (op_at trace w ≡ Some (Write x)) × ((k : ℕ) → w < k → k < r → op_at trace k ≡ Some (Write x) → ⊥))
    parts x = ((λ h. (h.0, h.1.0, h.1.1)), (λ h. (h.0, (h.1, h.2))))

    other : (o : Option Op) → op_at trace r ≡ o → ((x : ℕ) → o ≡ Some (Read x) → ⊥) → LastWrite trace w r → ⊥
    other o is none l = none l.variable (sym is ∙ l.reads)

    go : (o : Option Op) → op_at trace r ≡ o → Reflects (is_last_write trace w r o) (LastWrite trace w r)
    go (Some (Read x)) is = reflect_same _ _ _ (reflect_same _ _ _ (reflect_and _ _ _ _ (reflect_lt w r) (reflect_and _ _ _ _ (reflect_writes trace x w) (reflect_none (writes_at trace x) (writes_at trace x) (λ k. op_at trace k ≡ Some (Write x)) w r (reflect_writes trace x)))) (parts x)) (read x is)
    go o is = ((λ h. absurd (let f : ⊥ = cc in f)), (λ l. absurd (other o is (λ x h. (let f : ⊥ = cc in f)) l)))

reflect_edge : (trace : List Event) (a b : ℕ) → Reflects (is_shb_edge trace a b) (ShbEdge trace a b)
unfolding is_shb_edge
reflect_edge trace a b = reflect_same _ _ _ (reflect_or _ _ _ _ (reflect_and _ _ _ _ (reflect_lt a b) (reflect_both trace a b is_hb_rule (HbRule trace a b) (λ e d at_a at_b. (rule_from_test trace a b e d at_a at_b, test_from_rule trace a b e d at_a at_b)) (rule_ends trace a b))) (reflect_last_write trace a b)) (
  (λ h. elim h [ inl e ↦ happens_before (record { earlier = e.0; rule = e.1 }) | inr w ↦ read_from w ]),
  back,
)
  where
    back : ShbEdge trace a b → ((a < b) × HbRule trace a b) ⊎ LastWrite trace a b
    back (happens_before e) = inl (e.earlier, e.rule)
    back (read_from w) = inr w

-- paths
-- a path of at most n + 1 edges is empty, or an edge and a path of at most n
reflect_step : (trace : List Event) (n a b : ℕ) → Reflects (is_shb_below trace (suc n) a b) ((a ≡ b) ⊎ ((c : ℕ) × (c < suc b) × (ShbEdge trace a c × (is_shb_below trace n c b ≡ true))))
unfolding is_shb_below
reflect_step trace n a b = reflect_or (a == b) _ (a ≡ b) _ (reflect_eq a b) (reflect_any (λ c. is_shb_edge trace a c && is_shb_below trace n c b) (λ c. ShbEdge trace a c × (is_shb_below trace n c b ≡ true)) (suc b) (λ c. reflect_and _ _ _ _ (reflect_edge trace a c) (same (is_shb_below trace n c b))))

below_sound : (trace : List Event) (n a b : ℕ) → is_shb_below trace n a b ≡ true → ShbBelow trace a b
unfolding is_shb_below
below_sound trace zero a b h = subst (λ x. ShbBelow trace a x) (eqb-true a b h) here
below_sound trace (suc n) a b h = elim ((reflect_step trace n a b).0 h) [
  | inl e ↦ subst (λ x. ShbBelow trace a x) e here
  | inr found ↦ step found.2.0 (below_sound trace n found.0 b found.2.1)
]

below_complete : (trace : List Event) (n a b : ℕ) → b ≤ a + n → ShbBelow trace a b → is_shb_below trace n a b ≡ true
unfolding is_shb_below
below_complete trace zero a b close path = eq-eqb a b (let le = path_forward trace a b path in omega arith)
below_complete trace (suc n) a b close here = (reflect_step trace n a b).1 (inl refl)
below_complete trace (suc n) a b close (step {b = c} edge rest) =
    let low = edge_earlier trace a c edge in
    let high = path_forward trace c b rest in
    (reflect_step trace n a b).1 (inr (c, omega arith, (edge, below_complete trace n c b (omega arith) rest)))

reflect_below : (trace : List Event) (a p : ℕ) → Reflects (is_shb_below trace p a p) (ShbBelow trace a p)
reflect_below trace a p = (below_sound trace p a p, below_complete trace p a p (omega arith))

-- predecessors
pred_in_range : (trace : List Event) (p e : ℕ) → IsPred trace p e → p < length trace
pred_in_range trace p e (in_thread t of_p of_e lt none) = let d = event_of_thread trace p t of_p in slice_get_within trace p d.0 d.1
pred_in_range trace p e (by_fork t fork_p of_e none) = let d = event_of_op trace p (Fork t) fork_p in slice_get_within trace p d.0 d.1

-- p is the event of thread t before e, or a fork of t where e is its first
abbrev Before : List Event → ℕ → ℕ → ℕ → Type 0
Before trace p e t = (thread_at trace p ≡ Some t) × ((p < e) × ((k : ℕ) → p < k → k < e → thread_at trace k ≡ Some t → ⊥))

abbrev Forked : List Event → ℕ → ℕ → ℕ → Type 0
Forked trace p e t = (op_at trace p ≡ Some (Fork t)) × ((k : ℕ) × (k < e) × (thread_at trace k ≡ Some t) → ⊥)

reflect_pred : (trace : List Event) (p e : ℕ) → Reflects (is_pred trace p e (thread_at trace e)) (IsPred trace p e)
unfolding is_pred
reflect_pred trace p e = go (thread_at trace e) refl
  where
    forth : (t : ℕ) → thread_at trace e ≡ Some t → Before trace p e t ⊎ Forked trace p e t → IsPred trace p e
    forth t is (inl h) = in_thread t h.0 is h.1.0 h.1.1
    forth t is (inr h) = by_fork t h.0 is (λ k lt of_k. h.1 (k, lt, of_k))

    back : (t : ℕ) → thread_at trace e ≡ Some t → IsPred trace p e → Before trace p e t ⊎ Forked trace p e t
    back t is (in_thread u of_p of_e lt none) = let same : u ≡ t = cc in inl (rw (← same) (of_p, (lt, none)))
    back t is (by_fork u fork_p of_e none) = let same : u ≡ t = cc in inr (rw (← same) (fork_p, (λ h. none h.0 h.1 h.2)))

    no_thread : thread_at trace e ≡ None → IsPred trace p e → ⊥
    no_thread is (in_thread t of_p of_e lt none) = (let f : ⊥ = cc in f)
    no_thread is (by_fork t fork_p of_e none) = (let f : ⊥ = cc in f)

    go : (o : Option ℕ) → thread_at trace e ≡ o → Reflects (is_pred trace p e o) (IsPred trace p e)
    go (Some t) is = reflect_same _ (Before trace p e t ⊎ Forked trace p e t) _ (reflect_or _ _ (Before trace p e t) (Forked trace p e t)
        (reflect_and _ _ _ _ (reflect_of_thread trace t p) (reflect_and _ _ _ _ (reflect_lt p e) (reflect_none (of_thread trace t) (of_thread trace t) (λ k. thread_at trace k ≡ Some t) p e (reflect_of_thread trace t))))
        (reflect_and _ _ _ _ (reflect_forks trace t p) (reflect_not _ _ (reflect_any (of_thread trace t) (λ k. thread_at trace k ≡ Some t) e (reflect_of_thread trace t))))) (forth t is, back t is)
    go None is = ((λ h. absurd (let f : ⊥ = cc in f)), (λ pred. absurd (no_thread is pred)))

pub reflect_below_pred : (trace : List Event) (a e : ℕ) → Reflects (is_below_pred trace a e) (BelowPred trace a e)
unfolding is_below_pred
reflect_below_pred trace a e = reflect_same _ _ _ (reflect_any (λ p. is_pred trace p e (thread_at trace e) && is_shb_below trace p a p) (λ p. IsPred trace p e × ShbBelow trace a p) (length trace) (λ p. reflect_and _ _ _ _ (reflect_pred trace p e) (reflect_below trace a p))) (
  (λ h. (h.0, h.2.0, h.2.1)),
  (λ h. (h.0, pred_in_range trace h.0 e h.1, (h.1, h.2))),
)

-- races
pub event_at_access : (trace : List Event) (k x : ℕ) → variable_at trace k ≡ Some x → (e : Event) × (slice_get trace k ≡ Some e)
unfolding op_at
event_at_access trace k x h = go (slice_get trace k) refl h
  where
    go : (o : Option Event) → slice_get trace k ≡ o → option_and_then variable_of (option_and_then (λ e. Some e.op) o) ≡ Some x → (e : Event) × (slice_get trace k ≡ Some e)
    go (Some e) is g = (e, is)
    go None is g = absurd (let f : ⊥ = cc in f)

conflict_ends : (trace : List Event) (i j : ℕ) → Conflict trace i j → ((e : Event) × (slice_get trace i ≡ Some e)) × ((d : Event) × (slice_get trace j ≡ Some d))
conflict_ends trace i j h = (event_at_access trace i h.variable h.first_accesses, event_at_access trace j h.variable h.second_accesses)

pub reflect_race : (trace : List Event) (i j : ℕ) → Reflects (is_race trace i j) (Race trace i j)
unfolding is_race
reflect_race trace i j = reflect_same _ _ _ (reflect_and _ _ _ _ (reflect_lt i j) (reflect_and _ _ _ _ (reflect_both trace i j is_conflict (Conflict trace i j) (λ e d at_i at_j. (conflict_from_test trace i j e d at_i at_j, test_from_conflict trace i j e d at_i at_j)) (conflict_ends trace i j)) (reflect_not _ _ (reflect_below_pred trace i j)))) (
  (λ h. record { conflict = h.1.0; earlier = h.0; unordered = h.1.1 }),
  (λ r. (r.earlier, (r.conflict, r.unordered))),
)
