-- What is below an event comes from itself, from its predecessor, or from what the event learns of other threads.
use Rattle.std.proofs.Common.{◌≡◌, ℕ, ◌<◌, ◌≤◌, ◌⊎◌, inl, inr, List, Some, length, arith, subst, sym, ◌∙◌, refl}
use Rattle.std.specs.Prelude.{◌↔◌}
use Rattle.shb_stamps.proofs.Words.{Acquire, BelowLastWrite, BelowPred, BelowRelease, BelowThread, Event, HbRule, IsDisciplined, IsLatestBefore, IsPred, Join, LastWrite, Learns, OfThread, Op, Read, ShbBelow, ShbEdge, by_acquire, by_fork, by_join, by_read, cases_lt, fork_below_pred, forked, happens_before, here, in_thread, join_later, joined, lock_passed, op_at, pred_earlier, read_from, same_thread, step, thread_at, thread_below_pred}
use Rattle.shb_lines.proofs.events.Decide.{last_write_unique}
use Rattle.shb_stamps.proofs.Fronts.{thread_in_range}

-- what is below e beside e itself
abbrev pub StrictlyBelow : List Event → ℕ → ℕ → Type 0
StrictlyBelow trace e k = BelowPred trace k e ⊎ Learns trace e k

-- two paths in a row
pub path_append : (trace : List Event) (a b c : ℕ) → ShbBelow trace a b → ShbBelow trace b c → ShbBelow trace a c
path_append trace a b c here rest = rest
path_append trace a b c (step {b = m} e path) rest = step e (path_append trace m b c path rest)

pub edge_path : (trace : List Event) (a b : ℕ) → ShbEdge trace a b → ShbBelow trace a b
edge_path trace a b e = step e here

-- a path ends with an edge, or is empty
pub path_last : (trace : List Event) (a b : ℕ) → ShbBelow trace a b → (a ≡ b) ⊎ ((c : ℕ) × ShbBelow trace a c × ShbEdge trace c b)
path_last trace a b here = inl refl
path_last trace a b (step {b = m} e rest) = go (path_last trace m b rest)
  where
    go : (m ≡ b) ⊎ ((c : ℕ) × ShbBelow trace m c × ShbEdge trace c b) → (a ≡ b) ⊎ ((c : ℕ) × ShbBelow trace a c × ShbEdge trace c b)
    go (inl same) = inr (a, here, subst (λ x. ShbEdge trace a x) same e)
    go (inr last) = inr (last.0, step e last.1, last.2)

module _ (trace : List Event) (disciplined : IsDisciplined trace) (k e : ℕ) where
  -- by the last edge of a path
  from_rule : (c : ℕ) → c < e → ShbBelow trace k c → HbRule trace c e → StrictlyBelow trace e k
  from_rule c lt path (same_thread t of_c of_e) = let below = thread_below_pred trace t c e lt of_c of_e in inl (below.0, below.1, path_append trace k c below.0 path below.2)
  from_rule c lt path (forked u forks of_e) = let below = fork_below_pred trace disciplined u c e forks of_e in inl (below.0, below.1, path_append trace k c below.0 path below.2)
  from_rule c lt path (lock_passed l releases acquires) = inr (by_acquire l acquires (record { release = c; releases = releases; earlier = lt; below = path }))
  from_rule c lt path (joined u of_c joins) = inr (by_join u joins (record { event = c; of_thread = of_c; earlier = lt; below = path }))

  from_edge : (c : ℕ) → ShbBelow trace k c → ShbEdge trace c e → StrictlyBelow trace e k
  from_edge c path (happens_before edge) = from_rule c edge.earlier path edge.rule
  from_edge c path (read_from last) = inr (by_read (record { write = c; last = last; below = path }))

  pred_edge : (p : ℕ) → IsPred trace p e → ShbEdge trace p e
  pred_edge p (in_thread t of_p of_e lt none) = happens_before (record { earlier = lt; rule = same_thread t of_p of_e })
  pred_edge p (by_fork t forks of_e none) = happens_before (record { earlier = pred_earlier trace disciplined p e (by_fork t forks of_e none); rule = forked t forks of_e })

  learns_below : Learns trace e k → ShbBelow trace k e
  learns_below (by_acquire l acquires from) = path_append trace k from.release e from.below (edge_path trace from.release e (happens_before (record { earlier = from.earlier; rule = lock_passed l from.releases acquires })))
  learns_below (by_join u joins from) = path_append trace k from.event e from.below (edge_path trace from.event e (happens_before (record { earlier = from.earlier; rule = joined u from.of_thread joins })))
  learns_below (by_read from) = path_append trace k from.write e from.below (edge_path trace from.write e (read_from from.last))

  pub strictly_below_below : StrictlyBelow trace e k → ShbBelow trace k e
  strictly_below_below (inl below) = path_append trace k below.0 e below.2 (edge_path trace below.0 e (pred_edge below.0 below.1))
  strictly_below_below (inr learns) = learns_below learns

  pub below_cases : ShbBelow trace k e → (k ≡ e) ⊎ StrictlyBelow trace e k
  below_cases path = go (path_last trace k e path)
    where
      go : (k ≡ e) ⊎ ((c : ℕ) × ShbBelow trace k c × ShbEdge trace c e) → (k ≡ e) ⊎ StrictlyBelow trace e k
      go (inl same) = inl same
      go (inr last) = inr (from_edge last.0 last.1 last.2)

-- one predecessor after the other
pub chain_below : (trace : List Event) → IsDisciplined trace → (i w j : ℕ) → BelowPred trace i w → BelowPred trace w j → BelowPred trace i j
chain_below trace disciplined i w j below after = (after.0, after.1, path_append trace i w after.0 (strictly_below_below trace disciplined i w (inl below)) after.2)

module _ (trace : List Event) (disciplined : IsDisciplined trace) (e : ℕ) where
  -- what an event learns, by its operation
  learns_acquire : (l k : ℕ) → op_at trace e ≡ Some (Acquire l) → Learns trace e k → BelowRelease trace l e k
  learns_acquire l k acquires (by_acquire m h from) = let s : Some (Acquire m) ≡ Some (Acquire l) = sym h ∙ acquires in subst (λ (x : ℕ). BelowRelease trace x e k) (let g : m ≡ l = cc in g) from
  learns_acquire l k acquires (by_join u h from) = absurd (let f : ⊥ = cc in f)
  learns_acquire l k acquires (by_read from) = let h = from.last.reads in absurd (let f : ⊥ = cc in f)

  pub learns_join : (u k : ℕ) → op_at trace e ≡ Some (Join u) → Learns trace e k → BelowThread trace u e k
  learns_join u k joins (by_acquire m h from) = absurd (let f : ⊥ = cc in f)
  learns_join u k joins (by_join v h from) = let s : Some (Join v) ≡ Some (Join u) = sym h ∙ joins in subst (λ (x : ℕ). BelowThread trace x e k) (let g : v ≡ u = cc in g) from
  learns_join u k joins (by_read from) = let h = from.last.reads in absurd (let f : ⊥ = cc in f)

  -- what a read learns is below its last write
  pub learns_read : (x k : ℕ) → op_at trace e ≡ Some (Read x) → Learns trace e k → BelowLastWrite trace e k
  learns_read x k reads (by_acquire m h from) = absurd (let f : ⊥ = cc in f)
  learns_read x k reads (by_join v h from) = absurd (let f : ⊥ = cc in f)
  learns_read x k reads (by_read from) = from

  pub learns_nothing : (o : Op) (k : ℕ) → op_at trace e ≡ Some o → ((l : ℕ) → o ≡ Acquire l → ⊥) → ((u : ℕ) → o ≡ Join u → ⊥) → ((x : ℕ) → o ≡ Read x → ⊥) → Learns trace e k → ⊥
  learns_nothing o k is no_acquire no_join no_read (by_acquire m h from) = no_acquire m (let s : Some o ≡ Some (Acquire m) = sym is ∙ h in cc)
  learns_nothing o k is no_acquire no_join no_read (by_join v h from) = no_join v (let s : Some o ≡ Some (Join v) = sym is ∙ h in cc)
  learns_nothing o k is no_acquire no_join no_read (by_read from) = no_read from.last.variable (let s : Some o ≡ Some (Read from.last.variable) = sym is ∙ from.last.reads in cc)

  pub acquire_learns : (l k : ℕ) → op_at trace e ≡ Some (Acquire l) → BelowRelease trace l e k ↔ Learns trace e k
  acquire_learns l k acquires = ((λ h. by_acquire l acquires h), learns_acquire l k acquires)

  pub join_learns : (u b k : ℕ) → op_at trace e ≡ Some (Join u) → IsLatestBefore (OfThread trace u) e b → ShbBelow trace k b ↔ Learns trace e k
  join_learns u b k joins latest = (
    (λ path. by_join u joins (record { event = b; of_thread = latest.holds; earlier = latest.earlier; below = path })),
    (λ learns. let from = learns_join u k joins learns in path_append trace k from.event b from.below (reach from.event from.of_thread from.earlier (cases_lt from.event b))),
  )
    where
      reach : (c : ℕ) → thread_at trace c ≡ Some u → c < e → (c < b) ⊎ (b ≤ c) → ShbBelow trace c b
      reach c of_c lt (inl low) = step (happens_before (record { earlier = low; rule = same_thread u of_c latest.holds })) here
      reach c of_c lt (inr le) = last c of_c lt le (cases_lt b c)
        where
          last : (c : ℕ) → thread_at trace c ≡ Some u → c < e → b ≤ c → (b < c) ⊎ (c ≤ b) → ShbBelow trace c b
          last c of_c lt le (inl above) = absurd (latest.last c above lt of_c)
          last c of_c lt le (inr ge) = subst (λ (x : ℕ). ShbBelow trace x b) (let g : b ≡ c = omega arith in g) here

  pub read_learns : (x w k : ℕ) → op_at trace e ≡ Some (Read x) → LastWrite trace w e → ShbBelow trace k w ↔ Learns trace e k
  read_learns x w k reads last = (
    (λ path. by_read (record { write = w; last = last; below = path })),
    (λ learns. let from = learns_read x k reads learns in subst (λ (v : ℕ). ShbBelow trace k v) (last_write_unique trace from.write w e from.last last) from.below),
  )

-- the last event of a thread, at a join of it
pub latest_join : (trace seen : List Event) → IsDisciplined trace → (e v last : ℕ) → seen ≡ trace → op_at trace e ≡ Some (Join v) → IsLatestBefore (OfThread seen v) (length seen) last → IsLatestBefore (OfThread trace v) e last
latest_join trace seen disciplined e v last same joins h =
    let latest : IsLatestBefore (OfThread trace v) (length trace) last = subst (λ (tr : List Event). IsLatestBefore (OfThread tr v) (length tr) last) same h in
    record {
      earlier = join_later trace disciplined v last e latest.holds joins;
      holds = latest.holds;
      last = λ m low high of_m. latest.last m low (thread_in_range trace m v of_m) of_m;
    }
