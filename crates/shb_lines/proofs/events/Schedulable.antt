-- The printed schedule of a race is a schedule of it.
use Rattle.std.proofs.Common.{◌≡◌, ℕ, ◌<◌, ◌≤◌, ◌⊎◌, inl, inr, false, List, Some, length, arith, subst}
use Rattle.std.specs.Prelude.{Contains}
use Rattle.std.specs.List.Sorted.{IsStrictlyIncreasing}
use Rattle.std.proofs.lemmas.Bool.{cases_lt, cases_order}
use Rattle.std.proofs.lemmas.Option.{slice_get_within}
use Rattle.shb_lines.specs.declared.event.Event.{Event}
use Rattle.shb_lines.specs.declared.event.Op.{Op}
use Rattle.shb_lines.specs.declared.event.Op.TheVariants.{Write, Fork}
use Rattle.shb_lines.specs.events.Events.{thread_at, op_at}
use Rattle.shb_lines.specs.events.Discipline.{IsDisciplined}
use Rattle.shb_lines.specs.events.Order.{HbEdge, same_thread, forked, joined, LastWrite, ShbEdge, happens_before, read_from, here, step, HbBelow, ShbBelow, IsPred, in_thread, by_fork, BelowPred}
use Rattle.shb_lines.specs.events.Race.{Race}
use Rattle.shb_lines.specs.events.Schedule.{StandsBefore, LastWriteIn, IsCorrectReordering, KeepsHb, IsSchedule, IsPrintedSchedule}
use Rattle.shb_lines.proofs.events.Events.{event_of_thread, event_of_op, fork_earlier, join_later}
use Rattle.shb_lines.proofs.events.Indices.{contains_first, stands_in_order, smaller_stands_before}
use Rattle.shb_lines.proofs.events.Reordered.{reordered_disciplined}
use Rattle.shb_lines.specs.events.Reach.{of_thread, writes_at}
use Rattle.shb_lines.proofs.events.Search.{IsLatest, latest_below, of_thread_true, of_thread_at, of_thread_false, writes_at_true, writes_at_is, writes_at_false}

-- edges and paths go forward in the trace
pub edge_earlier : (trace : List Event) (a b : ℕ) → ShbEdge trace a b → a < b
edge_earlier trace a b (happens_before e) = e.earlier
edge_earlier trace a b (read_from w) = w.earlier

pub path_forward : (trace : List Event) (a b : ℕ) → ShbBelow trace a b → a ≤ b
path_forward trace a b here = omega arith
path_forward trace a c (step {b = m} e rest) =
    let first = edge_earlier trace a m e in
    let later = path_forward trace m c rest in
    omega arith

-- the ends of an edge are events
thread_in_range : (trace : List Event) (k t : ℕ) → thread_at trace k ≡ Some t → k < length trace
thread_in_range trace k t h = let e = event_of_thread trace k t h in slice_get_within trace k e.0 e.1

op_in_range : (trace : List Event) (k : ℕ) (op : Op) → op_at trace k ≡ Some op → k < length trace
op_in_range trace k op h = let e = event_of_op trace k op h in slice_get_within trace k e.0 e.1

pred_in_range : (trace : List Event) (p e : ℕ) → IsPred trace p e → p < length trace
pred_in_range trace p e (in_thread t at_p at_e lt none) = thread_in_range trace p t at_p
pred_in_range trace p e (by_fork t at_p at_e none) = op_in_range trace p (Fork t) at_p

pub pred_earlier : (trace : List Event) → IsDisciplined trace → (p e : ℕ) → IsPred trace p e → p < e
pred_earlier trace disciplined p e (in_thread t at_p at_e lt none) = lt
pred_earlier trace disciplined p e (by_fork t at_p at_e none) = fork_earlier trace disciplined t p e at_p at_e

pub below_pred_earlier : (trace : List Event) → IsDisciplined trace → (a e : ℕ) → BelowPred trace a e → a < e
below_pred_earlier trace disciplined a e below =
    let forward = path_forward trace a below.0 below.2 in
    let lt = pred_earlier trace disciplined below.0 e below.1 in
    omega arith

pub below_pred_in_range : (trace : List Event) (a e : ℕ) → BelowPred trace a e → a < length trace
below_pred_in_range trace a e below =
    let forward = path_forward trace a below.0 below.2 in
    let within = pred_in_range trace below.0 e below.1 in
    omega arith

-- what is below a predecessor is closed under edges
pub below_pred_closed : (trace : List Event) (a b e : ℕ) → ShbEdge trace a b → BelowPred trace b e → BelowPred trace a e
below_pred_closed trace a b e edge below = (below.0, below.1, step edge below.2)

-- an earlier event of its thread is below the predecessor of e
pub thread_below_pred : (trace : List Event) (t a e : ℕ) → a < e → thread_at trace a ≡ Some t → thread_at trace e ≡ Some t → BelowPred trace a e
thread_below_pred trace t a e lt of_a of_e = go (latest_below (of_thread trace t) e)
  where
    reach : (p : ℕ) → IsPred trace p e → thread_at trace p ≡ Some t → (a ≡ p) ⊎ ((a < p) ⊎ (p < a)) → (p < a → ⊥) → BelowPred trace a e
    reach p pred of_p (inl same) later = (p, pred, subst (λ x. ShbBelow trace a x) same here)
    reach p pred of_p (inr (inl before)) later = (p, pred, step (happens_before (record { earlier = before; rule = same_thread t of_a of_p })) here)
    reach p pred of_p (inr (inr after)) later = absurd (later after)

    go : ((p : ℕ) × IsLatest (of_thread trace t) e p) ⊎ ((m : ℕ) → m < e → of_thread trace t m ≡ false) → BelowPred trace a e
    go (inl found) =
        let p = found.0 in
        let of_p = of_thread_true trace t p found.1.passing in
        reach p (in_thread t of_p of_e found.1.below (λ k low high. of_thread_false trace t k (found.1.last k low high))) of_p (cases_order a p)
        (λ after. let fails = found.1.last a after lt in let passes = of_thread_at trace t a of_a in (let f : ⊥ = cc in f))
    go (inr none) = absurd (let fails = none a lt in let passes = of_thread_at trace t a of_a in (let f : ⊥ = cc in f))

-- the fork of its thread is below the predecessor of e
pub fork_below_pred : (trace : List Event) → IsDisciplined trace → (t a e : ℕ) → op_at trace a ≡ Some (Fork t) → thread_at trace e ≡ Some t → BelowPred trace a e
fork_below_pred trace disciplined t a e forks of_e = go (latest_below (of_thread trace t) e)
  where
    go : ((p : ℕ) × IsLatest (of_thread trace t) e p) ⊎ ((m : ℕ) → m < e → of_thread trace t m ≡ false) → BelowPred trace a e
    go (inl found) =
        let p = found.0 in
        let of_p = of_thread_true trace t p found.1.passing in
        below_pred_closed trace a p e (happens_before (record { earlier = fork_earlier trace disciplined t a p forks of_p; rule = forked t forks of_p })) (thread_below_pred trace t p e found.1.below of_p of_e)
    go (inr none) = (a, by_fork t forks of_e (λ k lt. of_thread_false trace t k (none k lt)), here)

-- a list in trace order, closed under SHB edges, of positions of the trace
module _ (trace : List Event) (disciplined : IsDisciplined trace) (s : List ℕ) (rising : IsStrictlyIncreasing s) (in_range : (a : ℕ) → Contains s a → a < length trace) (closed : (a b : ℕ) → ShbEdge trace a b → Contains s b → Contains s a) where
  hb_closed : (a b : ℕ) → HbEdge trace a b → Contains s b → Contains s a
  hb_closed a b e member = closed a b (happens_before e) member

  edge_in_order : (a b : ℕ) → ShbEdge trace a b → Contains s b → StandsBefore s a b
  edge_in_order a b e member = stands_in_order s a b rising (closed a b e member) member (edge_earlier trace a b e)

  hb_below_closed : (a b : ℕ) → HbBelow trace a b → Contains s b → Contains s a × (a ≤ b)
  hb_below_closed a b here member = (member, omega arith)
  hb_below_closed a c (step {b = m} e rest) member =
      let later = hb_below_closed m c rest member in
      (hb_closed a m e later.0, (let lt = e.earlier in let le = later.1 in omega arith))

  keeps_hb : KeepsHb trace s
  keeps_hb a b path member = go (cases_order a b) (hb_below_closed a b path member)
    where
      go : (a ≡ b) ⊎ ((a < b) ⊎ (b < a)) → Contains s a × (a ≤ b) → (a ≡ b) ⊎ StandsBefore s a b
      go (inl same) below = inl same
      go (inr (inl lt)) below = inr (stands_in_order s a b rising below.0 member lt)
      go (inr (inr gt)) below = absurd (let le = below.1 in omega arith)

  -- the last write of a member in the trace is its last write in the list
  write_in : (w r : ℕ) → Contains s r → LastWrite trace w r → LastWriteIn trace s w r
  write_in w r member last = record {
    variable = last.variable;
    reads = last.reads;
    writes = last.writes;
    earlier = edge_in_order w r (read_from last) member;
    latest = λ k after before. last.latest k (smaller_stands_before s w k rising after) (smaller_stands_before s k r rising before);
  }

  -- and the other way round: a later write of the trace would be in the list too
  write_out : (w r : ℕ) → Contains s r → LastWriteIn trace s w r → LastWrite trace w r
  write_out w r member last = record {
    variable = x;
    reads = last.reads;
    writes = last.writes;
    earlier = smaller_stands_before s w r rising last.earlier;
    latest = λ k after before writes_k. refused k after before writes_k (latest_below (writes_at trace x) r);
  }
    where
      x : ℕ
      x = last.variable

      refused : (k : ℕ) → w < k → k < r → op_at trace k ≡ Some (Write x) → ((v : ℕ) × IsLatest (writes_at trace x) r v) ⊎ ((m : ℕ) → m < r → writes_at trace x m ≡ false) → ⊥
      refused k after before writes_k (inr none) = let fails = none k before in let passes = writes_at_is trace x k writes_k in (let f : ⊥ = cc in f)
      refused k after before writes_k (inl found) = later (cases_lt w found.0)
        where
          v : ℕ
          v = found.0

          writes_v : op_at trace v ≡ Some (Write x)
          writes_v = writes_at_true trace x v found.1.passing

          in_trace : LastWrite trace v r
          in_trace = record { variable = x; reads = last.reads; writes = writes_v; earlier = found.1.below; latest = λ m low high. writes_at_false trace x m (found.1.last m low high) }

          later : (w < v) ⊎ (v ≤ w) → ⊥
          later (inl lt) = last.latest v (stands_in_order s w v rising (contains_first s w r last.earlier) (closed v r (read_from in_trace) member) lt) (edge_in_order v r (read_from in_trace) member) writes_v
          later (inr le) =
              let fails = found.1.last k (omega arith) before in
              let passes = writes_at_is trace x k writes_k in
              (let f : ⊥ = cc in f)

  correct_reordering : IsCorrectReordering trace s
  correct_reordering = record {
    positions = record { in_range = in_range; distinct = λ a h. (let lt = smaller_stands_before s a a rising h in omega arith) };
    prefixes = λ t a b lt of_a of_b member. edge_in_order a b (happens_before (record { earlier = lt; rule = same_thread t of_a of_b })) member;
    disciplined = reordered_disciplined trace disciplined s rising in_range hb_closed;
    forks = λ u a b forks of_u member. edge_in_order a b (happens_before (record { earlier = fork_earlier trace disciplined u a b forks of_u; rule = forked u forks of_u })) member;
    joins = λ u a b of_u joins member. edge_in_order a b (happens_before (record { earlier = join_later trace disciplined u a b of_u joins; rule = joined u of_u joins })) member;
    reads = λ w r member. (write_out w r member, write_in w r member);
  }

pub printed_is_schedule : (trace : List Event) (s : List ℕ) (i j : ℕ) → IsDisciplined trace → Race trace i j → IsPrintedSchedule trace s i j → IsSchedule trace s i j
printed_is_schedule trace s i j disciplined race printed = record {
  reordering = correct_reordering trace disciplined s printed.in_order in_range closed;
  keeps_hb = keeps_hb trace disciplined s printed.in_order in_range closed;
  first_next = record {
    absent = λ member. first_absent ((printed.members i).0 member);
    thread_done = λ t a lt of_a of_i. (printed.members a).1 (inl (thread_below_pred trace t a i lt of_a of_i));
    thread_forked = λ t a forks of_i. (printed.members a).1 (inl (fork_below_pred trace disciplined t a i forks of_i));
  };
  second_next = record {
    absent = λ member. second_absent ((printed.members j).0 member);
    thread_done = λ t a lt of_a of_j. (printed.members a).1 (inr (thread_below_pred trace t a j lt of_a of_j));
    thread_forked = λ t a forks of_j. (printed.members a).1 (inr (fork_below_pred trace disciplined t a j forks of_j));
  };
}
  where
    range_of : (a : ℕ) → BelowPred trace a i ⊎ BelowPred trace a j → a < length trace
    range_of a (inl below) = below_pred_in_range trace a i below
    range_of a (inr below) = below_pred_in_range trace a j below

    in_range : (a : ℕ) → Contains s a → a < length trace
    in_range a member = range_of a ((printed.members a).0 member)

    down : (a b : ℕ) → ShbEdge trace a b → BelowPred trace b i ⊎ BelowPred trace b j → BelowPred trace a i ⊎ BelowPred trace a j
    down a b edge (inl below) = inl (below_pred_closed trace a b i edge below)
    down a b edge (inr below) = inr (below_pred_closed trace a b j edge below)

    closed : (a b : ℕ) → ShbEdge trace a b → Contains s b → Contains s a
    closed a b edge member = (printed.members a).1 (down a b edge ((printed.members b).0 member))

    first_absent : BelowPred trace i i ⊎ BelowPred trace i j → ⊥
    first_absent (inl below) = let lt = below_pred_earlier trace disciplined i i below in omega arith
    first_absent (inr below) = race.unordered below

    second_absent : BelowPred trace j i ⊎ BelowPred trace j j → ⊥
    second_absent (inl below) = let lt = below_pred_earlier trace disciplined j i below in let earlier = race.earlier in omega arith
    second_absent (inr below) = let lt = below_pred_earlier trace disciplined j j below in omega arith
