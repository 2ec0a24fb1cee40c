-- The blocks of some races after those of others.
use Rattle.std.proofs.Common.{◌≡◌, ◌⊎◌, inl, inr, ℕ, ◌+◌, ◌<◌, ◌≤◌, Bool, true, false, List, [], ◌∷◌, ◌++◌, length, map, take, drop, get_or, Option, Result, Ok, Err, refl, sym, ap, subst, ◌∙◌, append_assoc, append-nil, arith}
use Rattle.std.specs.Prelude.{OnErr, if◌then◌else◌}
use Rattle.std.proofs.lemmas.Bool.{cases_lt}
use Rattle.shb_write.proofs.Words.{All-map, Appends, Appends-trans, AppendsFront, AppendsPrefix, AppendsPrefix-front, AppendsPrefix-whole, AreBlocks, BlockWriter, HasSchedule, HasStopped, HasWritten, NoMemory, Pair, ShownRace, TraceData, WriteError, alone, block_bytes, blocks_from, blocks_of, ends, length-append, map-append, map_more, map_push, pair_of, scheduled, take-append-add, take-append-drop, take-append_seam, take_all, write_failed}
use Rattle.shb_witness.proofs.Printed.{computed_is_printed}
use Rattle.shb_write.specs.declared.errors.WriteError.TheVariants as errors

pub blocks-append : (trace : TraceData) (n m : ℕ) (xs ys : List ShownRace) → m ≡ length xs + n → blocks_from trace n (xs ++ ys) ≡ blocks_from trace n xs ++ blocks_from trace m ys
blocks-append trace n m [] ys is = ap (λ k. blocks_from trace k ys) (let e : n ≡ m = omega (arith, is) in e)
blocks-append trace n m (x ∷ xs) ys is =
    ap (λ l. block_bytes trace n x.pair x.schedule ++ l) (blocks-append trace (n + 1) m xs ys (omega (arith, is)))
    ∙ sym (append_assoc (block_bytes trace n x.pair x.schedule) (blocks_from trace (n + 1) xs) (blocks_from trace m ys))

-- the computed blocks are those of the races
module _ (f : ℕ × ℕ → ShownRace) (same : (race : ℕ × ℕ) → (f race).pair ≡ race) where
  pairs_of : (races : List (ℕ × ℕ)) → map (λ (race : ShownRace). race.pair) (map f races) ≡ races
  pairs_of [] = refl
  pairs_of (race ∷ races) = ap (λ (r : ℕ × ℕ). r ∷ map (λ (race : ShownRace). race.pair) (map f races)) (same race) ∙ ap (λ l. race ∷ l) (pairs_of races)

pub are_blocks : (with_schedules : Bool) (trace : TraceData) (races : List (ℕ × ℕ)) → AreBlocks with_schedules trace races (blocks_of with_schedules trace races)
are_blocks true trace races = record {
  shown = map (scheduled trace) races;
  races_are = pairs_of (scheduled trace) (λ race. refl) races;
  schedules_are = All-map (HasSchedule true trace) (scheduled trace) races (λ k d lt. computed_is_printed trace.events (pair_of (get_or races k d)));
  bytes_are = refl;
}
are_blocks false trace races = record {
  shown = map alone races;
  races_are = pairs_of alone (λ race. refl) races;
  schedules_are = All-map (HasSchedule false trace) alone races (λ k d lt. refl);
  bytes_are = refl;
}

-- ---- fronts of what is to be written

-- less than all bytes are the front of them
pub front_of : (old new : Option (List ℕ)) (bs : List ℕ) → AppendsPrefix old new bs → AppendsFront old new bs
front_of old new bs p = (p.0, p.2)

pub whole_front : (old new : Option (List ℕ)) (xs : List ℕ) → Appends old new xs → AppendsFront old new xs
whole_front old new xs has = (length xs, subst (Appends old new) (sym (take_all (length xs) xs (omega arith))) has)

pub front_more : (old new : Option (List ℕ)) (xs ys : List ℕ) → AppendsFront old new xs → AppendsFront old new (xs ++ ys)
front_more old new xs ys front = cases (cases_lt front.0 (length xs))
  where
    cases : (front.0 < length xs) ⊎ (length xs ≤ front.0) → AppendsFront old new (xs ++ ys)
    cases (inl lt) = front_of old new (xs ++ ys) (AppendsPrefix-front old new xs ys (front.0, lt, front.1))
    cases (inr le) = (length xs, subst (Appends old new) (take_all front.0 xs le ∙ sym (take-append_seam xs ys)) front.1)

pub front_after : (old now new : Option (List ℕ)) (xs ys : List ℕ) → Appends old now xs → AppendsFront now new ys → AppendsFront old new (xs ++ ys)
front_after old now new xs ys before front = (length xs + front.0, subst (Appends old new) (sym (take-append-add xs ys front.0)) (Appends-trans old now new xs (take front.0 ys) before front.1))

-- what was written of the blocks lacks what comes after them
pub front_lacks : (old new : Option (List ℕ)) (xs ys : List ℕ) → 0 < length ys → AppendsFront old new xs → AppendsPrefix old new (xs ++ ys)
front_lacks old new xs ys some front = cases (cases_lt front.0 (length xs))
  where
    cases : (front.0 < length xs) ⊎ (length xs ≤ front.0) → AppendsPrefix old new (xs ++ ys)
    cases (inl lt) = AppendsPrefix-front old new xs ys (front.0, lt, front.1)
    cases (inr le) = AppendsPrefix-whole old new xs ys some (subst (Appends old new) (take_all front.0 xs le) front.1)

-- the front of the blocks of the first races
pub blocks_front : (trace : TraceData) (n : ℕ) (xs rest all : List ShownRace) (old new : Option (List ℕ)) → all ≡ xs ++ rest → AppendsFront old new (blocks_from trace n xs) → AppendsFront old new (blocks_from trace n all)
blocks_front trace n xs rest all old new is front =
    subst (AppendsFront old new) (sym (ap (blocks_from trace n) is ∙ blocks-append trace n (length xs + n) xs rest refl)) (front_more old new (blocks_from trace n xs) (blocks_from trace (length xs + n) rest) front)

-- ---- blocks one after the other

module _ {K : Type 0} (taken : K → Option (List ℕ)) (failures : K → ℕ) where
  next_blocks : (start middle : BlockWriter K) (xs ys all : List ShownRace) → all ≡ xs ++ ys → HasWritten taken failures start xs middle
      → blocks_from start.trace.now (start.written + 1) all ≡ blocks_from start.trace.now (start.written + 1) xs ++ blocks_from middle.trace.now (middle.written + 1) ys
  next_blocks start middle xs ys all is has =
      ap (blocks_from start.trace.now (start.written + 1)) is
      ∙ blocks-append start.trace.now (start.written + 1) (middle.written + 1) xs ys (omega (arith, has.as_many))
      ∙ ap (λ (t : TraceData). blocks_from start.trace.now (start.written + 1) xs ++ blocks_from t (middle.written + 1) ys) (sym has.same_trace)

  pub written_then : (start middle end : BlockWriter K) (xs ys all : List ShownRace) → all ≡ xs ++ ys → HasWritten taken failures start xs middle → HasWritten taken failures middle ys end → HasWritten taken failures start all end
  written_then start middle end xs ys all is a b = record {
    same_sink = b.same_sink ∙ a.same_sink;
    same_trace = b.same_trace ∙ a.same_trace;
    as_many = omega (arith, a.as_many, b.as_many, ap length is, length-append xs ys);
    appended = subst (Appends (taken start.sink.now) (taken end.sink.now)) (sym (next_blocks start middle xs ys all is a)) (Appends-trans _ _ _ _ _ a.appended b.appended);
    counted = b.counted ∙ a.counted;
  }

  pub stopped_then : (start middle end : BlockWriter K) (xs ys rest all : List ShownRace) (e : WriteError) → all ≡ (xs ++ ys) ++ rest → HasWritten taken failures start xs middle → HasStopped taken failures middle ys e end
      → HasStopped taken failures start all e end
  stopped_then start middle end xs ys rest all e is a b = record {
    same_sink = b.same_sink ∙ a.same_sink;
    front = blocks_front start.trace.now (start.written + 1) (xs ++ ys) rest all _ _ is
        (subst (AppendsFront (taken start.sink.now) (taken end.sink.now)) (sym (next_blocks start middle xs ys (xs ++ ys) refl a)) (front_after _ _ _ _ _ a.appended b.front));
    counted = b.counted ∙ ap (λ (n : ℕ). if write_failed e then n + 1 else n) a.counted;
  }

  -- memory was refused after these
  pub stopped_after : (start end : BlockWriter K) (xs rest all : List ShownRace) (refused : NoMemory) → all ≡ xs ++ rest → HasWritten taken failures start xs end → HasStopped taken failures start all (errors.Memory refused) end
  stopped_after start end xs rest all refused is has = record {
    same_sink = has.same_sink;
    front = blocks_front start.trace.now (start.written + 1) xs rest all _ _ is (whole_front _ _ _ has.appended);
    counted = has.counted;
  }

  -- the block of one race
  module _ (start end : BlockWriter K) (race : ShownRace) (sink : end.sink.ghost_name ≡ start.sink.ghost_name) where
    pub one_written : end.trace.now ≡ start.trace.now → end.written ≡ start.written + 1 → Appends (taken start.sink.now) (taken end.sink.now) (block_bytes start.trace.now (start.written + 1) race.pair race.schedule)
        → failures end.sink.now ≡ failures start.sink.now → HasWritten taken failures start (race ∷ []) end
    one_written trace many written counted = record {
      same_sink = sink;
      same_trace = trace;
      as_many = omega (arith, many);
      appended = subst (Appends (taken start.sink.now) (taken end.sink.now)) (sym (append-nil (block_bytes start.trace.now (start.written + 1) race.pair race.schedule))) written;
      counted = counted;
    }

    pub one_stopped : AppendsPrefix (taken start.sink.now) (taken end.sink.now) (block_bytes start.trace.now (start.written + 1) race.pair race.schedule) → failures end.sink.now ≡ failures start.sink.now + 1
        → HasStopped taken failures start (race ∷ []) errors.Sink end
    one_stopped cut counted = record {
      same_sink = sink;
      front = front_of _ _ _ (subst (AppendsPrefix (taken start.sink.now) (taken end.sink.now)) (sym (append-nil (block_bytes start.trace.now (start.written + 1) race.pair race.schedule))) cut);
      counted = counted;
    }

-- ---- a list of pairs, one pair after the other

module _ (pairs : List Pair) (k : ℕ) (d : Pair) (lt : k < length pairs) where
  pub alone_more : map alone (map ends (take (k + 1) pairs)) ≡ map alone (map ends (take k pairs)) ++ alone (ends (get_or pairs k d)) ∷ []
  alone_more = ap (map alone) (map_more ends pairs k d lt) ∙ map_push alone (map ends (take k pairs)) (ends (get_or pairs k d))

  pub alone_split : map alone (map ends pairs) ≡ (map alone (map ends (take k pairs)) ++ alone (ends (get_or pairs k d)) ∷ []) ++ map alone (map ends (drop (k + 1) pairs))
  alone_split =
      ap (λ l. map alone (map ends l)) (sym (take-append-drop (k + 1) pairs))
      ∙ ap (map alone) (map-append ends (take (k + 1) pairs) (drop (k + 1) pairs))
      ∙ map-append alone (map ends (take (k + 1) pairs)) (map ends (drop (k + 1) pairs))
      ∙ ap (λ l. l ++ map alone (map ends (drop (k + 1) pairs))) alone_more

-- what holds of what was found there holds of what was left after
pub left_after : {K : Type 0} (P : K → Type 0) (left found : K) → P found → left ≡ found → P left
left_after P left found holds same = subst P (sym same) holds

pub on_err : {T E : Type 0} (r : Result T E) (P : Type 0) → P → OnErr r P
on_err (Ok x) P p = tt
on_err (Err e) P p = p
