-- Last writes and predecessors are unique, and what is decided of schedules.
use Rattle.std.proofs.lemmas.Grind.{common_steps}
use Rattle.std.proofs.Common.{◌≡◌, ℕ, ◌<◌, ◌⊎◌, inl, inr, false, List, Option, Some, length, refl, arith, sym, ◌∙◌}
use Rattle.std.specs.Prelude.{◌↔◌, ◌||◌}
use Rattle.std.proofs.lemmas.Bool.{cases_order, cases_Bool}
use Rattle.shb_lines.specs.declared.event.Event.{Event}
use Rattle.shb_lines.specs.declared.event.Op.{Op}
use Rattle.shb_lines.specs.declared.event.Op.TheVariants.{Read, Fork}
use Rattle.shb_lines.specs.events.Events.{op_at}
use Rattle.shb_lines.specs.events.Discipline.{IsDisciplined, is_fork}
use Rattle.shb_lines.specs.events.Order.{LastWrite, ShbEdge, here, step, ShbBelow, IsPred, in_thread, by_fork, BelowPred}
use Rattle.shb_lines.specs.events.Race.{Conflict, Race}
use Rattle.shb_lines.specs.events.Schedule.{IsSchedule, IsPrintedSchedule}
use Rattle.shb_lines.proofs.events.Counts.{counted_before}
use Rattle.shb_lines.proofs.events.Events.{event_of_op, fork_allowed, is_fork_true}
use Rattle.shb_lines.proofs.events.Listed.{Decided, IsListed}
use Rattle.shb_lines.proofs.events.Schedulable.{below_pred_in_range, printed_is_schedule}
use Rattle.shb_lines.proofs.events.Unschedulable.{race_of_schedule}
use Rattle.shb_lines.specs.events.Reach.{is_below_pred, numbers_where, writes_at}
use Rattle.shb_lines.proofs.events.Reach.{listed_by_test, reflect_below_pred, reflect_or}
use Rattle.shb_lines.proofs.events.Search.{IsLatest, latest_below, writes_at_true, writes_at_false}

-- last writes
pub last_write_unique : (trace : List Event) (v w r : ℕ) → LastWrite trace v r → LastWrite trace w r → v ≡ w
last_write_unique trace v w r hv hw = grind (arith, common_steps, cases_order)

pub find_last_write : (trace : List Event) (r : ℕ) → ((w : ℕ) × LastWrite trace w r) ⊎ ((w : ℕ) → LastWrite trace w r → ⊥)
find_last_write trace r = go (op_at trace r) refl
  where
    none : (o : Option Op) → op_at trace r ≡ o → ((x : ℕ) → o ≡ Some (Read x) → ⊥) → (w : ℕ) → LastWrite trace w r → ⊥
    none o is other w last = other last.variable (sym is ∙ last.reads)

    search_write : (x : ℕ) → op_at trace r ≡ Some (Read x) → ((w : ℕ) × IsLatest (writes_at trace x) r w) ⊎ ((m : ℕ) → m < r → writes_at trace x m ≡ false) → ((w : ℕ) × LastWrite trace w r) ⊎ ((w : ℕ) → LastWrite trace w r → ⊥)
    search_write x reads (inl found) = inl (
      found.0,
      record {
        variable = x;
        reads = reads;
        writes = writes_at_true trace x found.0 found.1.passing;
        earlier = found.1.below;
        latest = λ k low high. writes_at_false trace x k (found.1.last k low high);
      },
    )
    search_write x reads (inr nothing) = inr (λ w last.
        let a = last.reads in
        let same : last.variable ≡ x = cc in
        writes_at_false trace x w (nothing w last.earlier) (rw (← same) last.writes))

    go : (o : Option Op) → op_at trace r ≡ o → ((w : ℕ) × LastWrite trace w r) ⊎ ((w : ℕ) → LastWrite trace w r → ⊥)
    go (Some (Read x)) is = search_write x is (latest_below (writes_at trace x) r)
    go o is = inr (none o is (λ x h. (let f : ⊥ = cc in f)))

-- a path begins with an edge, or is empty
pub path_cases : (trace : List Event) (a b : ℕ) → ShbBelow trace a b → (a ≡ b) ⊎ ((c : ℕ) × ShbEdge trace a c × ShbBelow trace c b)
path_cases trace a b here = inl refl
path_cases trace a b (step {b = c} e rest) = inr (c, e, rest)

-- a thread has one fork
pub fork_unique : (trace : List Event) → IsDisciplined trace → (t a b : ℕ) → op_at trace a ≡ Some (Fork t) → op_at trace b ≡ Some (Fork t) → a < b → ⊥
fork_unique trace disciplined t a b fork_a fork_b lt =
    let e = event_of_op trace a (Fork t) fork_a in
    let d = event_of_op trace b (Fork t) fork_b in
    let may = fork_allowed _ d.0 t (disciplined b d.0 d.1) d.2 in
    let some = counted_before (is_fork t) trace a b e.0 e.1 (is_fork_true t e.0 e.2) lt in
    let none = may.not_forked in
    omega arith

-- an event has at most one predecessor
pub pred_unique : (trace : List Event) → IsDisciplined trace → (p q e : ℕ) → IsPred trace p e → IsPred trace q e → p ≡ q
pred_unique trace disciplined p q e (in_thread t of_p of_e lt none) (in_thread u of_q of_e' lt' none') =
    let same : t ≡ u = cc in
    elim (cases_order p q) [
      | inl h ↦ h
      | inr h ↦ elim h [ inl low ↦ absurd (none q low lt' (rw same of_q)) | inr low ↦ absurd (none' p low lt (rw (← same) of_p)) ]
    ]
pred_unique trace disciplined p q e (in_thread t of_p of_e lt none) (by_fork u fork_q of_e' none') =
    let same : t ≡ u = cc in
    absurd (none' p lt (rw (← same) of_p))
pred_unique trace disciplined p q e (by_fork t fork_p of_e none) (in_thread u of_q of_e' lt' none') =
    let same : t ≡ u = cc in
    absurd (none q lt' (rw same of_q))
pred_unique trace disciplined p q e (by_fork t fork_p of_e none) (by_fork u fork_q of_e' none') =
    let same : t ≡ u = cc in
    elim (cases_order p q) [
      | inl h ↦ h
      | inr h ↦ elim h [ inl low ↦ absurd (fork_unique trace disciplined t p q fork_p (rw same fork_q) low) | inr low ↦ absurd (fork_unique trace disciplined t q p (rw same fork_q) fork_p low) ]
    ]

pub decide_below_pred : (trace : List Event) → IsDisciplined trace → (a e : ℕ) → Decided (BelowPred trace a e)
decide_below_pred trace disciplined a e = elim (cases_Bool (is_below_pred trace a e)) [
  | inl passes ↦ inl ((reflect_below_pred trace a e).0 passes)
  | inr fails ↦ inr (λ below. let passes = (reflect_below_pred trace a e).1 below in (let f : ⊥ = cc in f))
]

-- a list of all that is below either predecessor is the printed schedule
pub printed_from_listed : (trace : List Event) (s : List ℕ) (i j : ℕ) → IsListed (λ k. BelowPred trace k i ⊎ BelowPred trace k j) (length trace) s → IsPrintedSchedule trace s i j
printed_from_listed trace s i j h = record { in_order = h.rising; members = λ k. ((λ c. ((h.members k).0 c).1), (λ m. (h.members k).1 (within k m, m))) }
  where
    within : (k : ℕ) → BelowPred trace k i ⊎ BelowPred trace k j → k < length trace
    within k (inl h) = below_pred_in_range trace k i h
    within k (inr h) = below_pred_in_range trace k j h

-- every pair has a printed schedule
pub printed_exists : (trace : List Event) → IsDisciplined trace → (i j : ℕ) → (s : List ℕ) × IsPrintedSchedule trace s i j
printed_exists trace disciplined i j = (
  numbers_where (λ k. is_below_pred trace k i || is_below_pred trace k j) (length trace),
  printed_from_listed trace _ i j (listed_by_test _ (λ k. BelowPred trace k i ⊎ BelowPred trace k j) (length trace) (λ k. reflect_or _ _ _ _ (reflect_below_pred trace k i) (reflect_below_pred trace k j))),
)

-- a race has a schedule
pub schedule_of_race : (trace : List Event) → IsDisciplined trace → (i j : ℕ) → Race trace i j → (s : List ℕ) × IsSchedule trace s i j
schedule_of_race trace disciplined i j race = let printed = printed_exists trace disciplined i j in (printed.0, printed_is_schedule trace printed.0 i j disciplined race printed.1)

-- a pair is a race exactly where it conflicts and has a schedule
pub race_iff_schedulable : (trace : List Event) → IsDisciplined trace → (i j : ℕ) → i < j → Race trace i j ↔ (Conflict trace i j × ((s : List ℕ) × IsSchedule trace s i j))
race_iff_schedulable trace disciplined i j earlier = (
  (λ race. (race.conflict, schedule_of_race trace disciplined i j race)),
  (λ h. race_of_schedule trace h.1.0 i j h.0 earlier h.1.1),
)
