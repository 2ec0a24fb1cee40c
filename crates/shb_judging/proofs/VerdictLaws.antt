-- The verdict is Good exactly for good reports.
use Rattle.std.proofs.Common.{◌≡◌, ℕ, zero, suc, ◌-◌, ◌<◌, ◌≤◌, inl, inr, List, [], ◌∷◌, length, take, Some, refl, sym, ap, subst, ◌∙◌, arith}
use Rattle.std.specs.Prelude.{slice_get, ◌↔◌}
use Rattle.shb_judging.proofs.Words.{Absent, BadCounts, BadLine, BadPlaces, BadRace, Block, Event, FirstLine, Good, HasRaceFault, IsDisciplined, IsFirstBadBlock, IsGoodReport, IsLowestFault, IsVerdict, NoConflict, RaceFault, ReportValue, Schedule, SecondLine, TraceData, Verdict, Why, cases_lt, each_at, fault_number, positions_of}
use Rattle.shb_replay.proofs.OneAnswer.{one_answer}
use Rattle.shb_judging.proofs.GoodBlocks.{good_has_none}

module _ (trace : TraceData) (disciplined : IsDisciplined trace.events) (report : ReportValue) where
  bad_block : (race : ℕ) (why : RaceFault) → IsFirstBadBlock trace report.blocks race why → IsGoodReport trace report → ⊥
  bad_block race why h good = good_has_none trace disciplined h.block (each_at _ report.blocks h.before h.block h.there good.blocks) why h.fault.0

  pub good_exactly : (v : Verdict) → IsVerdict trace report v → (v ≡ Good (length report.blocks)) ↔ IsGoodReport trace report
  good_exactly (Good races) h = ((λ is. h.0), (λ good. ap Good h.1))
  good_exactly (BadLine line) h = absurd h
  good_exactly BadCounts h = ((λ is. absurd (let f : ⊥ = cc in f)), (λ good. absurd (h good.counts)))
  good_exactly (BadRace race why) h = ((λ is. absurd (let f : ⊥ = cc in f)), (λ good. absurd (bad_block race why h.1 good)))
  good_exactly BadPlaces h = ((λ is. absurd (let f : ⊥ = cc in f)), (λ good. absurd (h.2 good.places)))

pub good_exactly_of : (trace : TraceData) (events : List Event) → events ≡ trace.events → IsDisciplined events → (report : ReportValue) (v : Verdict) → IsVerdict trace report v → (v ≡ Good (length report.blocks)) ↔ IsGoodReport trace report
good_exactly_of trace events same disciplined = good_exactly trace (subst IsDisciplined same disciplined)

-- no two faults have one number
same_fault : (trace : TraceData) (block : Block) (why other : RaceFault) → HasRaceFault trace block why → HasRaceFault trace block other → fault_number why ≡ fault_number other → why ≡ other
same_fault trace block Absent Absent h g e = refl
same_fault trace block NoConflict NoConflict h g e = refl
same_fault trace block FirstLine FirstLine h g e = refl
same_fault trace block SecondLine SecondLine h g e = refl
same_fault trace block (Schedule a) (Schedule b) h g e =
    let one = one_answer trace.events (positions_of trace block.schedule) (block.first - 1) (block.second - 1) a.at b.at a.why b.why h g in
    let faulty : ℕ → Why → RaceFault = λ at why. Schedule (record { at = at; why = why }) in
    ap (λ at. faulty at a.why) one.0 ∙ ap (faulty b.at) one.1
same_fault trace block Absent NoConflict h g e = absurd (omega (arith, e))
same_fault trace block Absent FirstLine h g e = absurd (omega (arith, e))
same_fault trace block Absent SecondLine h g e = absurd (omega (arith, e))
same_fault trace block Absent (Schedule b) h g e = absurd (omega (arith, e))
same_fault trace block NoConflict Absent h g e = absurd (omega (arith, e))
same_fault trace block NoConflict FirstLine h g e = absurd (omega (arith, e))
same_fault trace block NoConflict SecondLine h g e = absurd (omega (arith, e))
same_fault trace block NoConflict (Schedule b) h g e = absurd (omega (arith, e))
same_fault trace block FirstLine Absent h g e = absurd (omega (arith, e))
same_fault trace block FirstLine NoConflict h g e = absurd (omega (arith, e))
same_fault trace block FirstLine SecondLine h g e = absurd (omega (arith, e))
same_fault trace block FirstLine (Schedule b) h g e = absurd (omega (arith, e))
same_fault trace block SecondLine Absent h g e = absurd (omega (arith, e))
same_fault trace block SecondLine NoConflict h g e = absurd (omega (arith, e))
same_fault trace block SecondLine FirstLine h g e = absurd (omega (arith, e))
same_fault trace block SecondLine (Schedule b) h g e = absurd (omega (arith, e))
same_fault trace block (Schedule a) Absent h g e = absurd (omega (arith, e))
same_fault trace block (Schedule a) NoConflict h g e = absurd (omega (arith, e))
same_fault trace block (Schedule a) FirstLine h g e = absurd (omega (arith, e))
same_fault trace block (Schedule a) SecondLine h g e = absurd (omega (arith, e))

one_lowest : (trace : TraceData) (block : Block) (why other : RaceFault) → IsLowestFault trace block why → IsLowestFault trace block other → why ≡ other
one_lowest trace block why other h g =
    let low = h.1 other g.0 in
    let back = g.1 why h.0 in
    same_fault trace block why other h.0 g.0 (omega (arith, low, back))

-- the front of a list has what the list has
in_front : {A : Type 0} (xs : List A) (n k : ℕ) (x : A) → k < n → slice_get xs k ≡ Some x → slice_get (take n xs) k ≡ Some x
in_front [] n k x low at = absurd (let f : ⊥ = cc in f)
in_front (y ∷ xs) zero k x low at = absurd (omega (arith, low))
in_front (y ∷ xs) (suc n) zero x low at = at
in_front (y ∷ xs) (suc n) (suc k) x low at = in_front xs n k x (omega (arith, low)) at

module _ (trace : TraceData) (disciplined : IsDisciplined trace.events) (report : ReportValue) where
  -- no first bad block stands before another
  not_before : (race other : ℕ) (why whyOther : RaceFault) (h : IsFirstBadBlock trace report.blocks race why) (g : IsFirstBadBlock trace report.blocks other whyOther) → h.before < g.before → ⊥
  not_before race other why whyOther h g low = good_has_none trace disciplined h.block (each_at _ (take g.before report.blocks) h.before h.block (in_front report.blocks g.before h.before h.block low h.there) g.good) why h.fault.0

  one_bad_block : (race other : ℕ) (why whyOther : RaceFault) → IsFirstBadBlock trace report.blocks race why → IsFirstBadBlock trace report.blocks other whyOther → BadRace race why ≡ BadRace other whyOther
  one_bad_block race other why whyOther h g =
      let below = not_before race other why whyOther h g in
      let above = not_before other race whyOther why g h in
      let same : h.before ≡ g.before = elim (cases_lt h.before g.before) [ inl l ↦ absurd (below l) | inr high ↦ at_most high above ] in
      let there = subst (λ (k : ℕ). slice_get report.blocks k ≡ Some h.block) same h.there in
      let other_there = g.there in
      let block_is : g.block ≡ h.block = cc in
      let why_is = one_lowest trace h.block why whyOther h.fault (subst (λ (b : Block). IsLowestFault trace b whyOther) block_is g.fault) in
      let race_is = h.race_is in
      let other_is = g.race_is in
      let numbers : race ≡ other = omega (arith, race_is, other_is, same) in
      ap (λ r. BadRace r why) numbers ∙ ap (BadRace other) why_is
    where
      at_most : {a b : ℕ} → b ≤ a → (b < a → ⊥) → a ≡ b
      at_most {a} {b} le not = elim (cases_lt b a) [ inl l ↦ absurd (not l) | inr high ↦ omega (arith, le, high) ]

  -- a report has at most one verdict
  pub one_verdict : (v w : Verdict) → IsVerdict trace report v → IsVerdict trace report w → v ≡ w
  one_verdict (Good races) w h g = ap Good h.1 ∙ sym ((good_exactly trace disciplined report w g).1 h.0)
  one_verdict (BadLine line) w h g = absurd h
  one_verdict BadCounts (Good races) h g = absurd (h g.0.counts)
  one_verdict BadCounts (BadLine line) h g = absurd g
  one_verdict BadCounts BadCounts h g = refl
  one_verdict BadCounts (BadRace race why) h g = absurd (h g.0)
  one_verdict BadCounts BadPlaces h g = absurd (h g.0)
  one_verdict (BadRace race why) (Good races) h g = absurd (bad_block trace disciplined report race why h.1 g.0)
  one_verdict (BadRace race why) (BadLine line) h g = absurd g
  one_verdict (BadRace race why) BadCounts h g = absurd (g h.0)
  one_verdict (BadRace race why) (BadRace other whyOther) h g = one_bad_block race other why whyOther h.1 g.1
  one_verdict (BadRace race why) BadPlaces h g = absurd (good_has_none trace disciplined h.1.block (each_at _ report.blocks h.1.before h.1.block h.1.there g.1) why h.1.fault.0)
  one_verdict BadPlaces (Good races) h g = absurd (h.2 g.0.places)
  one_verdict BadPlaces (BadLine line) h g = absurd g
  one_verdict BadPlaces BadCounts h g = absurd (g h.0)
  one_verdict BadPlaces (BadRace race why) h g = absurd (good_has_none trace disciplined g.1.block (each_at _ report.blocks g.1.before g.1.block g.1.there h.1) why g.1.fault.0)
  one_verdict BadPlaces BadPlaces h g = refl
