-- The list of the members found is the printed schedule, and there is just one.
use Rattle.std.proofs.Common.{◌≡◌, ℕ, ◌<◌, List, Some, Vec, Global, Result, Ok, Err, length, subst, sym}
use Rattle.std.specs.Prelude.{◌||◌, IfOk, slice_get, slice_index_or}
use Rattle.shb_witness.proofs.Words.{Asked, BelowEither, Event, IsDisciplined, IsListed, IsPrintedSchedule, IsSchedule, NoMemory, Pair, Race, event_at_access, get_or_from_slice_get, increasing_equal, is_below_pred, numbers_listed, printed_is_schedule, reflect_below_pred, reflect_or, schedule_at, slice_get_within}
use Rattle.shb_witness.specs.Schedules.{printed_schedule}
use Rattle.shb_lines.proofs.events.Decide.{printed_from_listed}

-- the members are all found before the end
pub printed_before : (trace : List Event) (i j end : ℕ) (s : List ℕ) → ((k : ℕ) → BelowEither trace i j k → k < end) → IsListed (BelowEither trace i j) end s → IsPrintedSchedule trace s i j
printed_before trace i j end s above found = record {
  in_order = found.rising;
  members = λ k. ((λ c. ((found.members k).0 c).1), (λ h. (found.members k).1 (above k h, h)));
}

pub computed_is_printed : (trace : List Event) (p : Pair) → IsPrintedSchedule trace (printed_schedule trace p) p.first p.second
unfolding printed_schedule
computed_is_printed trace p =
    let found = numbers_listed (λ k. is_below_pred trace k p.first || is_below_pred trace k p.second) (length trace) in
    let same = λ (k : ℕ). reflect_or (is_below_pred trace k p.first) (is_below_pred trace k p.second) _ _ (reflect_below_pred trace k p.first) (reflect_below_pred trace k p.second) in
    printed_from_listed trace (printed_schedule trace p) p.first p.second (record {
      rising = found.rising;
      members = λ k. (
        (λ c. let m = (found.members k).0 c in (m.0, (same k).0 m.1)),
        (λ h. (found.members k).1 (h.0, (same k).1 h.1)),
      );
    })

pub printed_unique : (trace : List Event) (s other : List ℕ) (i j : ℕ) → IsPrintedSchedule trace s i j → IsPrintedSchedule trace other i j → s ≡ other
printed_unique trace s other i j h g = increasing_equal s other h.in_order g.in_order (λ k. ((λ c. (g.members k).1 ((h.members k).0 c)), (λ c. (h.members k).1 ((g.members k).0 c))))

pub piece_is_printed : (trace : List Event) (races : List Pair) (k : ℕ) (p : Pair) → slice_get races k ≡ Some p → IsPrintedSchedule trace (schedule_at trace races k) p.first p.second
piece_is_printed trace races k p at =
    let same = get_or_from_slice_get races k p (record { first = 0; second = 0 }) at in
    subst (λ (q : Pair). IsPrintedSchedule trace (printed_schedule trace q) p.first p.second) (sym same) (computed_is_printed trace p)

-- the ends of a race are events
pub race_ends : (trace : List Event) (i j : ℕ) → Race trace i j → (i < length trace) × (j < length trace)
race_ends trace i j race =
    let first = event_at_access trace i race.conflict.variable race.conflict.first_accesses in
    let second = event_at_access trace j race.conflict.variable race.conflict.second_accesses in
    (slice_get_within trace i first.0 first.1, slice_get_within trace j second.0 second.1)

-- a schedule that was made is the value of its piece
pub piece_value : (asked : Asked) (trace : List Event) (races : List Pair) (k : ℕ) (r : Result (List ℕ) NoMemory) → record { trace = trace; races = races } ≡ asked → (let p = slice_index_or races k (record { first = 0; second = 0 }) in IfOk r (λ s. IsPrintedSchedule trace s p.first p.second)) → IfOk r (λ s. s ≡ schedule_at asked.trace asked.races k)
piece_value asked trace races k (Ok s) same printed = subst (λ (a : Asked). s ≡ schedule_at a.trace a.races k) same (printed_unique trace s (schedule_at trace races k) _ _ printed (computed_is_printed trace (slice_index_or races k (record { first = 0; second = 0 }))))
piece_value asked trace races k (Err e) same printed = tt

-- a printed schedule, in a list of its own, is a schedule
pub listed_is_schedule : (trace : List Event) (s : List ℕ) (i j : ℕ) (r : Result (Vec ℕ Global) NoMemory) → IsDisciplined trace → Race trace i j → IsPrintedSchedule trace s i j → IfOk r (λ v. v.items ≡ s) → IfOk r (λ v. IsSchedule trace v.items i j)
listed_is_schedule trace s i j (Ok v) disciplined race printed same = subst (λ (l : List ℕ). IsSchedule trace l i j) (sym same) (printed_is_schedule trace s i j disciplined race printed)
listed_is_schedule trace s i j (Err e) disciplined race printed same = tt
