-- Blocks that are written as their schedules come.
use Rattle.std.proofs.Common.{◌≡◌, ℕ, zero, suc, ◌+◌, ◌-◌, ◌^◌, ◌<◌, ◌≤◌, List, [], ◌∷◌, ◌++◌, length, map, take, drop, get_or, All, Option, refl, sym, ap, subst, ◌∙◌, arith}
use Rattle.shb_write.proofs.Words.{Appends, AppendsFront, Asked, Event, HasScheduled, IsPairOf, MaySchedule, Pair, TraceData, blocks_from, ends, length-values, map-append, map-id, map_more, map_push, schedule_at, scheduled, scheduled_in, shown_from, take-append-drop, take_all, values_of, with_schedule}
use Rattle.shb_write.specs.declared.schedule_writer.ScheduleWriter.{ScheduleWriter}
use Rattle.shb_write.proofs.Blocks.{blocks_front}

abbrev pub none : Pair
none = record { first = 0; second = 0 }

-- as many races are shown as there are schedules
pub length-shown : (n : ℕ) (races : List Pair) (schedules : List (List ℕ)) → length (shown_from n races schedules) ≡ length schedules
length-shown n races [] = refl
length-shown n races (s ∷ schedules) = omega (arith, length-shown (n + 1) races schedules)

-- one schedule more shows the next race
pub shown-push : (n : ℕ) (races : List Pair) (schedules : List (List ℕ)) (s : List ℕ) (place : ℕ) → place ≡ length schedules + n
    → shown_from n races (schedules ++ s ∷ []) ≡ shown_from n races schedules ++ with_schedule (get_or races place none) s ∷ []
shown-push n races [] s place is = ap (λ k. with_schedule (get_or races k none) s ∷ []) (let same : n ≡ place = omega (arith, is) in same)
shown-push n races (first ∷ schedules) s place is = ap (λ l. with_schedule (get_or races n none) first ∷ l) (shown-push (n + 1) races schedules s place (omega (arith, is)))

-- the first k schedules show the first k races as they are to be shown
pub first_shown : (trace : TraceData) (races : List Pair) (k : ℕ) → k ≤ length races → shown_from 0 races (values_of (schedule_at trace.events races) k) ≡ map (scheduled trace) (map ends (take k races))
first_shown trace races zero le = refl
first_shown trace races (suc k) le =
    let lt : k < length races = omega (arith, le) in
    let up : k + 1 ≡ suc k = omega arith in
    shown-push 0 races (values_of (schedule_at trace.events races) k) (schedule_at trace.events races k) k (omega (arith, length-values (schedule_at trace.events races) k))
    ∙ ap (λ l. l ++ scheduled trace (ends (get_or races k none)) ∷ []) (first_shown trace races k (omega (arith, le)))
    ∙ sym (ap (map (scheduled trace)) (map_more ends races k none lt) ∙ map_push (scheduled trace) (map ends (take k races)) (ends (get_or races k none)))
    ∙ ap (λ n. map (scheduled trace) (map ends (take n races))) up

-- the schedules that came, of a trace whose events may have another name
pub came_shown : (trace : TraceData) (events : List Event) (races : List Pair) (asked : Asked) → events ≡ trace.events → asked ≡ record { trace = events; races = races } → (k : ℕ) (given : List (List ℕ)) → k ≤ length asked.races
    → map (λ s. s) given ≡ values_of (schedule_at asked.trace asked.races) k → shown_from 0 races given ≡ map (scheduled trace) (map ends (take k races))
came_shown trace events races asked same is k given le first =
    ap (shown_from 0 races) (sym (map-id given) ∙ first ∙ ap (λ (a : Asked). values_of (schedule_at a.trace a.races) k) is ∙ ap (λ (e : List Event). values_of (schedule_at e races) k) same)
    ∙ first_shown trace races k (omega (arith, le, ap (λ (a : Asked). length a.races) is))

-- of all, the first k
pub scheduled_split : (trace : TraceData) (races : List Pair) (k : ℕ) → map (scheduled trace) (map ends races) ≡ map (scheduled trace) (map ends (take k races)) ++ map (scheduled trace) (map ends (drop k races))
scheduled_split trace races k =
    ap (λ l. map (scheduled trace) (map ends l)) (sym (take-append-drop k races))
    ∙ ap (map (scheduled trace)) (map-append ends (take k races) (drop k races))
    ∙ map-append (scheduled trace) (map ends (take k races)) (map ends (drop k races))

module _ {K : Type 0} (taken : K → Option (List ℕ)) (failures : K → ℕ) (start before : ScheduleWriter K) (given : List (List ℕ)) (k : ℕ) (long : length given ≡ k) (has : HasScheduled taken failures start given before) where
  -- the next race is one of those
  pub next_there : MaySchedule failures start given → k < length before.races.now
  next_there may = omega (arith, may.more, long, ap length has.same_races)

  pub next_room : MaySchedule failures start given → before.writer.written < 2 ^ 64 - 1
  next_room may = omega (arith, may.more, may.room, has.written.as_many, length-shown 0 start.races.now given)

  pub next_in_range : MaySchedule failures start given → IsPairOf before.writer.trace.now (get_or before.races.now k none)
  next_in_range may =
      subst (λ (t : TraceData). IsPairOf t (get_or before.races.now k none)) (sym has.written.same_trace)
      (subst (λ (l : List Pair). All (IsPairOf start.writer.trace.now) l) (sym has.same_races) may.in_range k none (next_there may))

  pub next_shown : (s : List ℕ) → shown_from 0 start.races.now (given ++ s ∷ []) ≡ shown_from 0 start.races.now given ++ with_schedule (get_or before.races.now k none) s ∷ []
  next_shown s =
      shown-push 0 start.races.now given s k (omega (arith, long))
      ∙ ap (λ (l : List Pair). shown_from 0 start.races.now given ++ with_schedule (get_or l k none) s ∷ []) (sym has.same_races)

-- what was written of the blocks of all races, where the first k schedules came
pub came_front : (trace : TraceData) (events : List Event) (races : List Pair) (asked : Asked) → events ≡ trace.events → asked ≡ record { trace = events; races = races } → (n k : ℕ) (given : List (List ℕ)) (old new : Option (List ℕ)) → k ≤ length asked.races
    → map (λ s. s) given ≡ values_of (schedule_at asked.trace asked.races) k → AppendsFront old new (blocks_from trace n (shown_from 0 races given)) → AppendsFront old new (blocks_from trace n (map (scheduled_in events) (map ends races)))
came_front trace events races asked same is n k given old new le first front =
    subst (λ (es : List Event). AppendsFront old new (blocks_from trace n (map (scheduled_in es) (map ends races)))) (sym same)
    (blocks_front trace n (map (scheduled trace) (map ends (take k races))) (map (scheduled trace) (map ends (drop k races))) (map (scheduled trace) (map ends races)) old new (scheduled_split trace races k)
    (subst (λ l. AppendsFront old new (blocks_from trace n l)) (came_shown trace events races asked same is k given le first) front))

pub came_all : (trace : TraceData) (events : List Event) (races : List Pair) (asked : Asked) → events ≡ trace.events → asked ≡ record { trace = events; races = races } → (n : ℕ) (given : List (List ℕ)) (old new : Option (List ℕ))
    → map (λ s. s) given ≡ values_of (schedule_at asked.trace asked.races) (length asked.races) → Appends old new (blocks_from trace n (shown_from 0 races given)) → Appends old new (blocks_from trace n (map (scheduled_in events) (map ends races)))
came_all trace events races asked same is n given old new first written =
    subst (λ (es : List Event). Appends old new (blocks_from trace n (map (scheduled_in es) (map ends races)))) (sym same)
    (subst (λ l. Appends old new (blocks_from trace n (map (scheduled trace) (map ends l)))) (take_all (length asked.races) races (omega (arith, ap (λ (a : Asked). length a.races) is)))
    (subst (λ l. Appends old new (blocks_from trace n l)) (came_shown trace events races asked same is (length asked.races) given (omega arith) first) written))

-- one schedule more
pub values_next : {V M : Type 0} (meaning : V → M) (f : ℕ → M) (k : ℕ) (given : List V) (out : V) → map meaning given ≡ values_of f k → meaning out ≡ f k → map meaning (given ++ out ∷ []) ≡ values_of f (k + 1)
values_next meaning f k given out first next = map_push meaning given out ∙ ap (λ l. l ++ meaning out ∷ []) first ∙ ap (λ x. values_of f k ++ x ∷ []) next ∙ ap (values_of f) (let e : suc k ≡ k + 1 = omega arith in e)
