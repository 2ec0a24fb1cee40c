-- The races of a trace, listed part by part.
use Rattle.std.proofs.Common.{◌≡◌, ℕ, suc, ◌+◌, ◌^◌, ◌<◌, ◌≤◌, Bool, false, true, List, [], ◌∷◌, ◌++◌, length, map, get_or, All, Option, Result, Ok, Err, IsErrAnd, refl, sym, ap, subst, ◌∙◌, arith}
use Rattle.shb_write.proofs.Words.{All-map, Appends, Appends-nil, AppendsFront, BlockWriter, CountsFailure, Event, HasListed, HasShown, HasStopped, HasWritten, IsPairOf, IsPlaceOf, IsRaceOf, MayList, NoMemory, PlaceCount, Race, ShownRace, TraceData, WriteError, WritesFront, alone, blocks_from, counts_in, get_or_append_left, length-append, length-map, map-append, pair_of, places_of_pairs, race_of_trace, scheduled, scheduled_in, shown_in, write_failed}
use Rattle.std.specs.Prelude.{if◌then◌else◌}
use Rattle.shb_format.proofs.PlaceLemmas.{places_in_range}
use Rattle.shb_write.specs.declared.errors.WriteError.TheVariants as errors
use Rattle.shb_write.proofs.Blocks.{stopped_after, stopped_then, written_then}

module _ {A : Type 0} (P : A → Type 0) where
  all_left : (xs ys : List A) → All P (xs ++ ys) → All P xs
  all_left xs ys h k d lt = subst P (get_or_append_left xs ys d k lt) (h k d (let size = length-append xs ys in omega (arith, size, lt)))

  all_right : (xs ys : List A) → All P (xs ++ ys) → All P ys
  all_right [] ys h = h
  all_right (x ∷ xs) ys h = all_right xs ys (λ j e l. h (suc j) e (omega arith))

module _ {K : Type 0} (taken : K → Option (List ℕ)) (failures : K → ℕ) (shown : ℕ × ℕ → ShownRace) (start middle : BlockWriter K) (front : List (ℕ × ℕ)) (has : HasWritten taken failures start (map shown front) middle) where
  -- those that come next can be listed
  pub next_may : (events : List Event) (more rest all : List (ℕ × ℕ)) → all ≡ (front ++ more) ++ rest → MayList failures events start all → MayList failures events middle more
  next_may events more rest all is may = record {
    of_trace = may.of_trace ∙ sym (ap (λ (t : TraceData). t.events) has.same_trace);
    are_races = next (λ race. Race events race.0 race.1) may.are_races;
    countable = omega (arith, may.countable, has.counted);
    room = omega (arith, may.room, has.as_many, ap length is, length-append (front ++ more) rest, length-append front more, length-map front shown);
    in_range = subst (λ (t : TraceData). All (IsRaceOf t) more) (sym has.same_trace) (next (IsRaceOf start.trace.now) may.in_range);
  }
    where
      next : (P : ℕ × ℕ → Type 0) → All P all → All P more
      next P h = all_right P front more (all_left P (front ++ more) rest (subst (All P) is h))

  -- the next ones were written too
  pub next_written : (end : BlockWriter K) (more all : List (ℕ × ℕ)) → all ≡ front ++ more → HasWritten taken failures middle (map shown more) end → HasWritten taken failures start (map shown all) end
  next_written end more all is written = written_then taken failures start middle end (map shown front) (map shown more) (map shown all) (ap (map shown) is ∙ map-append shown front more) has written

  -- or not all of them
  pub next_stopped : {T : Type 0} (r : Result T WriteError) (error : WriteError) (end : BlockWriter K) (more rest all : List (ℕ × ℕ)) → all ≡ (front ++ more) ++ rest → IsErrAnd r (λ e. e ≡ error)
      → HasStopped taken failures middle (map shown more) error end → HasListed shown taken failures start all r end
  next_stopped (Ok x) error end more rest all is failed stopped = absurd failed
  next_stopped (Err e) error end more rest all is failed stopped = subst (λ (e : WriteError). HasStopped taken failures start (map shown all) e end) (sym failed)
      (stopped_then taken failures start middle end (map shown front) (map shown more) (map shown rest) (map shown all) error
      (ap (map shown) is ∙ (map-append shown (front ++ more) rest ∙ ap (λ l. l ++ map shown rest) (map-append shown front more))) has stopped)

  -- memory was refused before them
  pub then_refused : {T : Type 0} (r : Result T WriteError) (refused : NoMemory) (rest all : List (ℕ × ℕ)) → all ≡ front ++ rest → IsErrAnd r (λ e. e ≡ errors.Memory refused) → HasListed shown taken failures start all r middle
  then_refused (Ok x) refused rest all is failed = absurd failed
  then_refused (Err e) refused rest all is failed = subst (λ (e : WriteError). HasStopped taken failures start (map shown all) e middle) (sym failed)
      (stopped_after taken failures start middle (map shown front) (map shown rest) (map shown all) refused (ap (map shown) is ∙ map-append shown front rest) has)

-- ---- the races of a trace

-- both events of each are events of the trace, which may be seen under another name
pub races_of_trace : (trace : TraceData) (events : List Event) (races : List (ℕ × ℕ)) → events ≡ trace.events → All (λ race. Race events race.0 race.1) races → All (IsRaceOf trace) races
races_of_trace trace events races same are k d lt = race_of_trace trace events _ _ same (are k d lt)

-- the places of such races are places of the trace
pub places_of_trace : (trace : TraceData) (races : List (ℕ × ℕ)) (places : List PlaceCount) → All (IsRaceOf trace) races → places ≡ counts_in (places_of_pairs trace (map pair_of races)) → All (IsPlaceOf trace) places
places_of_trace trace races places are is = subst (All (IsPlaceOf trace)) (sym is)
    (places_in_range trace (map pair_of races) (All-map (IsPairOf trace) pair_of races (λ k d lt. let both = are k d lt in record { first = both.0; second = both.1 })))

-- fewer than 2^64 were counted
pub few_counted : (count : ℕ) (races : List (ℕ × ℕ)) → count < 2 ^ 64 → count ≡ length races → length races < 2 ^ 64
few_counted count races few is = omega (arith, few, is)

-- what was listed, as the sink has it
module _ {K : Type 0} (taken : K → Option (List ℕ)) (failures : K → ℕ) (start : BlockWriter K) where
  pub none_written : HasWritten taken failures start [] start
  none_written = record {
    same_sink = refl;
    same_trace = refl;
    as_many = omega arith;
    appended = Appends-nil (taken start.sink.now);
    counted = refl;
  }

  pub same_shown : {T : Type 0} (r : Result T WriteError) (races : List ShownRace) (end : BlockWriter K) → HasShown taken failures start races r end → end.sink.ghost_name ≡ start.sink.ghost_name
  same_shown (Ok x) races end h = h.same_sink
  same_shown (Err e) races end h = h.same_sink

  pub blocks_shown : {T : Type 0} (r : Result T WriteError) (races : List ShownRace) (end : BlockWriter K) → start.written ≡ 0 → HasShown taken failures start races r end
      → WritesFront (taken start.sink.now) (taken end.sink.now) r (blocks_from start.trace.now 1 races)
  blocks_shown (Ok x) races end first h = subst (λ (n : ℕ). Appends (taken start.sink.now) (taken end.sink.now) (blocks_from start.trace.now n races)) (let e : start.written + 1 ≡ 1 = omega (arith, first) in e) h.appended
  blocks_shown (Err e) races end first h = subst (λ (n : ℕ). AppendsFront (taken start.sink.now) (taken end.sink.now) (blocks_from start.trace.now n races)) (let e : start.written + 1 ≡ 1 = omega (arith, first) in e) h.front

  pub counted_shown : {T : Type 0} (r : Result T WriteError) (races : List ShownRace) (end : BlockWriter K) → HasShown taken failures start races r end → CountsFailure write_failed (failures start.sink.now) (failures end.sink.now) r
  counted_shown (Ok x) races end h = h.counted
  counted_shown (Err e) races end h = h.counted

-- races as they are shown in one of the two forms, of a trace whose events may have another name
pub shown_so : (with_schedules : Bool) (trace : TraceData) (events : List Event) (races : List (ℕ × ℕ)) → events ≡ trace.events → map (shown_in with_schedules events) races ≡ (if with_schedules then map (scheduled trace) races else map alone races)
shown_so true trace events races same = ap (λ (es : List Event). map (scheduled_in es) races) same
shown_so false trace events races same = refl
