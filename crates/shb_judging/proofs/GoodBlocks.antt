-- When a block is good, and that a good block has no fault.
use Rattle.std.proofs.Common.{◌≡◌, ℕ, zero, suc, ◌+◌, ◌-◌, ◌<◌, ◌≤◌, inl, inr, List, [], ◌∷◌, ◌++◌, length, map, take, Option, None, Some, refl, sym, ap, subst, ◌∙◌, arith, min}
use Rattle.std.specs.Prelude.{slice_get, Contains}
use Rattle.shb_judging.proofs.Words.{Absent, AllByRecursion, Block, Event, FirstLine, HasGoodPair, HasRaceFault, IsBroken, IsDisciplined, IsGoodBlock, IsLowestFault, IsNoEvent, IsSchedule, NoConflict, Pair, RaceFault, Schedule, SecondLine, TraceData, each_of, fault_number, first_positions, get_or_from_slice_get, pair_in, position_of, positions_of, slice_get_within, take-map, take_all, take_min, take_more}
use Rattle.std.proofs.Math.Nat.{min-eq_left}
use Rattle.shb_lines.proofs.events.Indices.{contains_at}
use Rattle.shb_replay.proofs.Lowest.{answer_none}
use Rattle.shb_replay.specs.declared.broken.Broken.{Broken}
use Rattle.shb_judging.proofs.LongSchedules.{broken_by_front, schedule_by_front}

-- lists
pub take_push : {A : Type 0} (xs : List A) (k : ℕ) (x : A) → slice_get xs k ≡ Some x → take (k + 1) xs ≡ take k xs ++ x ∷ []
take_push xs k x at = take_more xs k x (slice_get_within xs k x at) ∙ ap (λ y. take k xs ++ y ∷ []) (get_or_from_slice_get xs k x x at)

pub take_mapped : (f : ℕ → ℕ) (most m index : ℕ) (numbers first items : List ℕ) → m ≡ min most (length numbers) → first ≡ take m numbers → items ≡ map f (take index first) → length first ≤ index → items ≡ take most (map f numbers)
take_mapped f most m index numbers first items m_is first_is items_are whole = items_are ∙ ap (map f) (take_all index first whole ∙ first_is ∙ ap (λ n. take n numbers) m_is ∙ take_min most numbers) ∙ sym (take-map f most numbers)

pub in_range : (n : ℕ) (s : List ℕ) → ((a : ℕ) → Contains s a → a < n) → AllByRecursion (λ a. a < n) s
in_range n s h = each_of (λ a. a < n) s (λ k a at. h a (contains_at s k a at))

-- the numbers of positions in range are those positions, counted from 1
min_below : (n count : ℕ) → min n count < count → min n count ≡ n
min_below n count low = min-eq_left (by (n) refl)
  where
    by : (m : ℕ) → m ≡ n → n ≤ count
    by m e = omega (arith, low)

numbers_back : (count : ℕ) (numbers : List ℕ) → AllByRecursion (λ a. a < count) (map (position_of count) numbers) → numbers ≡ map (λ e. e + 1) (map (position_of count) numbers)
numbers_back count [] h = refl
numbers_back count (zero ∷ numbers) h = let low = h.0 in absurd (omega (arith, low))
numbers_back count (suc n ∷ numbers) h =
    let low = h.0 in
    let is = min_below n count low in
    let here : suc n ≡ min n count + 1 = omega (arith, is) in
    ap (λ m. m ∷ numbers) here ∙ ap (λ rest. (min n count + 1) ∷ rest) (numbers_back count numbers h.1)

position_back : (count a : ℕ) → a < count → position_of count (a + 1) ≡ a
position_back count a low =
    let on : a + 1 ≡ suc a = omega arith in
    ap (position_of count) on ∙ min-eq_left (omega (arith, low))

numbers_forth : (count : ℕ) (s : List ℕ) → AllByRecursion (λ a. a < count) s → map (position_of count) (map (λ e. e + 1) s) ≡ s
numbers_forth count [] h = refl
numbers_forth count (a ∷ s) h = ap (λ b. b ∷ map (position_of count) (map (λ e. e + 1) s)) (position_back count a h.0) ∙ ap (λ rest. a ∷ rest) (numbers_forth count s h.1)

-- a block whose pair is good, with a schedule of the pair
pub good_by : (trace : TraceData) (block : Block) (events : List Event) (s : List ℕ) (pair : Pair) → events ≡ trace.events → s ≡ first_positions trace block.schedule → pair ≡ pair_in block
    → HasGoodPair trace block → IsSchedule events s pair.first pair.second → IsGoodBlock trace block
good_by trace block events s pair events_are s_is pair_is good schedule =
    let of_trace = subst (λ (ev : List Event). IsSchedule ev s pair.first pair.second) events_are schedule in
    let of_front = subst (λ (l : List ℕ). IsSchedule trace.events l pair.first pair.second) s_is of_trace in
    let of_list = schedule_by_front trace.events (positions_of trace block.schedule) pair.first pair.second of_front in
    let of_pair : IsSchedule trace.events (positions_of trace block.schedule) (block.first - 1) (block.second - 1)
    = subst (λ (p : Pair). IsSchedule trace.events (positions_of trace block.schedule) p.first p.second) pair_is of_list in
    record {
      pair = good;
      events = positions_of trace block.schedule;
      numbers = numbers_back (length trace.events) block.schedule (in_range (length trace.events) (positions_of trace block.schedule) of_pair.reordering.positions.in_range);
      schedule = of_pair;
    }

-- a block whose pair is good has none of the faults 1 to 4
pair_has_none : (trace : TraceData) (block : Block) → HasGoodPair trace block → (why : RaceFault) → HasRaceFault trace block why → 5 ≤ fault_number why
pair_has_none trace block good = by
  where
    none : (number : ℕ) → 1 ≤ number → number ≤ length trace.events → IsNoEvent trace number → ⊥
    none number low high (inl zeroth) = omega (arith, low, zeroth)
    none number low high (inr above) = omega (arith, high, above)

    by : (why : RaceFault) → HasRaceFault trace block why → 5 ≤ fault_number why
    by Absent (inl first) = let a = good.first_counts in let b = good.earlier in let d = good.in_range in absurd (none block.first a (omega (arith, b, d)) first)
    by Absent (inr second) = let a = good.first_counts in let b = good.earlier in let d = good.in_range in absurd (none block.second (omega (arith, a, b)) d second)
    by NoConflict not = absurd (not (good.earlier, good.conflict))
    by FirstLine differ = absurd (differ good.first_line)
    by SecondLine differ = absurd (differ good.second_line)
    by (Schedule broken) h = omega arith

-- a block whose pair is good has no lower fault than that of its schedule
pub broken_lowest : (trace : TraceData) (block : Block) (events : List Event) (s : List ℕ) (pair : Pair) (broken : Broken) → events ≡ trace.events → s ≡ first_positions trace block.schedule → pair ≡ pair_in block
    → HasGoodPair trace block → IsBroken events s pair.first pair.second broken.at broken.why → IsLowestFault trace block (Schedule broken)
broken_lowest trace block events s pair broken events_are s_is pair_is good is =
    let of_trace = subst (λ (ev : List Event). IsBroken ev s pair.first pair.second broken.at broken.why) events_are is in
    let of_front = subst (λ (l : List ℕ). IsBroken trace.events l pair.first pair.second broken.at broken.why) s_is of_trace in
    let of_list = broken_by_front trace.events (positions_of trace block.schedule) pair.first pair.second broken.at broken.why of_front in
    (subst (λ (p : Pair). IsBroken trace.events (positions_of trace block.schedule) p.first p.second broken.at broken.why) pair_is of_list, pair_has_none trace block good)

-- its two events are events of the trace
pub pair_within : (trace : TraceData) (events : List Event) (block : Block) (pair : Pair) → events ≡ trace.events → pair ≡ pair_in block → HasGoodPair trace block → (pair.first < length events) × (pair.second < length events)
pair_within trace events block pair same pair_is good =
    let count : length events ≡ length trace.events = ap (λ (l : List Event). length l) same in
    let first : pair.first ≡ block.first - 1 = ap (λ (p : Pair). p.first) pair_is in
    let second : pair.second ≡ block.second - 1 = ap (λ (p : Pair). p.second) pair_is in
    let counts = good.first_counts in
    let before = good.earlier in
    let within = good.in_range in
    (omega (arith, count, first, counts, before, within), omega (arith, count, second, counts, before, within))

module _ (trace : TraceData) (disciplined : IsDisciplined trace.events) (block : Block) (good : IsGoodBlock trace block) where
  schedule_back : IsSchedule trace.events (positions_of trace block.schedule) (block.first - 1) (block.second - 1)
  schedule_back =
      let low = in_range (length trace.events) good.events good.schedule.reordering.positions.in_range in
      let same : positions_of trace block.schedule ≡ good.events = ap (map (position_of (length trace.events))) good.numbers ∙ numbers_forth (length trace.events) good.events low in
      subst (λ (l : List ℕ). IsSchedule trace.events l (block.first - 1) (block.second - 1)) (sym same) good.schedule

  -- a good block has no fault
  pub good_has_none : (why : RaceFault) → HasRaceFault trace block why → ⊥
  good_has_none Absent h = let f = pair_has_none trace block good.pair Absent h in omega (arith, f)
  good_has_none NoConflict h = let f = pair_has_none trace block good.pair NoConflict h in omega (arith, f)
  good_has_none FirstLine h = let f = pair_has_none trace block good.pair FirstLine h in omega (arith, f)
  good_has_none SecondLine h = let f = pair_has_none trace block good.pair SecondLine h in omega (arith, f)
  good_has_none (Schedule broken) is =
      let none : ◌≡◌ {A = Option Broken} (Some broken) None = (answer_none trace.events (positions_of trace block.schedule) (block.first - 1) (block.second - 1) (Some broken) disciplined is).1 schedule_back in
      absurd (let f : ⊥ = cc in f)
