-- The blocks of a report one after another, and that a trace has just one report.
use Rattle.std.proofs.Common.{◌≡◌, ℕ, ◌+◌, ◌≤◌, Bool, true, false, List, [], ◌∷◌, ◌++◌, length, map, Option, None, Some, refl, sym, ap, subst, ◌∙◌, arith, append_assoc, append-nil, length-append}
use Rattle.std.specs.Prelude.{All}
use Rattle.shb_format.proofs.Words.{All-cons, All-head, All-nil, All-tail, AllRaces, AreBlocks, HasSchedule, IsPrintedSchedule, IsRaceList, IsReportOn, Pair, ShownRace, TraceData, block_bytes, blocks_from, ends, front_bytes, pair_of, tail_bytes}
use Rattle.shb_lines.specs.declared.event.Event.{Event}
use Rattle.shb_lines.specs.events.Discipline.{IsDisciplined}
use Rattle.shb_lines.proofs.events.Decide.{printed_exists}
use Rattle.shb_lines.proofs.events.RaceLists.{race_list_unique}
use Rattle.shb_lines.proofs.events.Increasing.{increasing_equal}

-- the pairs of some races that are shown
abbrev pairs_of : List ShownRace → List (ℕ × ℕ)
pairs_of shown = map (λ race. race.pair) shown

-- a pair has one printed schedule
printed_unique : (trace : List Event) (s t : List ℕ) (i j : ℕ) → IsPrintedSchedule trace s i j → IsPrintedSchedule trace t i j → s ≡ t
printed_unique trace s t i j hs ht = increasing_equal s t hs.in_order ht.in_order
    (λ k. ((λ c. (ht.members k).1 ((hs.members k).0 c)), (λ c. (hs.members k).1 ((ht.members k).0 c))))

-- a race is shown with one schedule, or with none
schedule_unique : (with_schedules : Bool) (trace : TraceData) (pair : ℕ × ℕ) (s t : Option (List ℕ)) → HasSchedule with_schedules trace (record { pair = pair; schedule = s }) → HasSchedule with_schedules trace (record { pair = pair; schedule = t }) → s ≡ t
schedule_unique false trace pair s t h g = h ∙ sym g
schedule_unique true trace pair None t h g = absurd h
schedule_unique true trace pair (Some s) None h g = absurd g
schedule_unique true trace pair (Some s) (Some t) h g = ap Some (printed_unique trace.events s t pair.0 pair.1 h g)

-- the blocks of the first of some races are the first of their blocks
front : (with_schedules : Bool) (trace : TraceData) (number : ℕ) (shown all : List ShownRace) (rest : List (ℕ × ℕ)) → pairs_of all ≡ pairs_of shown ++ rest
    → All (HasSchedule with_schedules trace) shown → All (HasSchedule with_schedules trace) all → (more : List ℕ) × (blocks_from trace number all ≡ blocks_from trace number shown ++ more)
front with_schedules trace number [] all rest same h g = (blocks_from trace number all, refl)
front with_schedules trace number (race ∷ shown) [] rest same h g = absurd (let lengths = ap length same in omega arith)
front with_schedules trace number (race ∷ shown) (other ∷ all) rest same h g =
    let Has = HasSchedule with_schedules trace in
    let pairs : other.pair ≡ race.pair = cc in
    let tails : pairs_of all ≡ pairs_of shown ++ rest = cc in
    let later = front with_schedules trace (number + 1) shown all rest tails (All-tail Has race shown h) (All-tail Has other all g) in
    let has : Has (record { pair = race.pair; schedule = other.schedule }) = subst (λ p. Has (record { pair = p; schedule = other.schedule })) pairs (All-head Has other all g) in
    let schedules = schedule_unique with_schedules trace race.pair other.schedule race.schedule has (All-head Has race shown h) in
    let block = block_bytes trace number race.pair race.schedule in
    let blocks : block_bytes trace number other.pair other.schedule ≡ block = ap (λ p. block_bytes trace number p other.schedule) pairs ∙ ap (λ s. block_bytes trace number race.pair s) schedules in (
      later.0,
      ap (λ l. l ++ blocks_from trace (number + 1) all) blocks ∙ ap (λ l. block ++ l) later.1 ∙ sym (append_assoc block (blocks_from trace (number + 1) shown) later.0),
    )

-- the blocks of all of some races begin with those of the first of them
pub AreBlocks-front : (with_schedules : Bool) (trace : TraceData) (races rest : List (ℕ × ℕ)) (blocks all : List ℕ) → AreBlocks with_schedules trace races blocks → AreBlocks with_schedules trace (races ++ rest) all → (more : List ℕ) × (all ≡ blocks ++ more)
AreBlocks-front with_schedules trace races rest blocks all h g =
    let split = front with_schedules trace 1 h.shown g.shown rest (g.races_are ∙ ap (λ l. l ++ rest) (sym h.races_are)) h.schedules_are g.schedules_are in
    (split.0, g.bytes_are ∙ split.1 ∙ ap (λ l. l ++ split.0) (sym h.bytes_are))

-- a list that another begins with, and that is as long, is that other
same_if_long : (blocks all more : List ℕ) → all ≡ blocks ++ more → length all ≤ length blocks → all ≡ blocks
same_if_long blocks all [] is le = is ∙ append-nil blocks
same_if_long blocks all (x ∷ more) is le = absurd (let lengths = ap length is in omega (arith, length-append blocks (x ∷ more)))

-- some races have one list of blocks
pub AreBlocks-unique : (with_schedules : Bool) (trace : TraceData) (races : List (ℕ × ℕ)) (blocks others : List ℕ) → AreBlocks with_schedules trace races blocks → AreBlocks with_schedules trace races others → blocks ≡ others
AreBlocks-unique with_schedules trace races blocks others h g =
    let same = sym (append-nil races) in
    let before = AreBlocks-front with_schedules trace races [] others blocks g (subst (λ l. AreBlocks with_schedules trace l blocks) same h) in
    let after = AreBlocks-front with_schedules trace races [] blocks others h (subst (λ l. AreBlocks with_schedules trace l others) same g) in
    let lengths = ap length after.1 in
    same_if_long others blocks before.0 before.1 (omega (arith, length-append blocks after.0))

-- pairs are those of their two events
pub pairs_back : (races : List Pair) → map pair_of (map ends races) ≡ races
pairs_back [] = refl
pairs_back (race ∷ races) = ap (λ l. race ∷ l) (pairs_back races)

-- a trace has one list of such races
abbrev pub HasOneList : (TraceData → List (ℕ × ℕ) → Type 0) → TraceData → Type 0
HasOneList Lists trace = (races more : List (ℕ × ℕ)) → Lists trace races → Lists trace more → races ≡ more

-- a trace has one report on such races
pub IsReportOn-unique : (Lists : TraceData → List (ℕ × ℕ) → Type 0) (with_schedules : Bool) (trace : TraceData) (bytes others : List ℕ) → HasOneList Lists trace
    → IsReportOn Lists with_schedules trace bytes → IsReportOn Lists with_schedules trace others → bytes ≡ others
IsReportOn-unique Lists with_schedules trace bytes others one_list h g =
    let same : h.races ≡ g.races = one_list h.races g.races h.races_are g.races_are in
    let blocks : h.blocks ≡ g.blocks = AreBlocks-unique with_schedules trace g.races h.blocks g.blocks (subst (λ l. AreBlocks with_schedules trace l h.blocks) same h.blocks_are) g.blocks_are in
    h.bytes_are
    ∙ ap (λ l. front_bytes trace l ++ (h.blocks ++ tail_bytes)) same
    ∙ ap (λ l. front_bytes trace g.races ++ (l ++ tail_bytes)) blocks
    ∙ sym g.bytes_are

pub one_race_list : (trace : TraceData) → HasOneList AllRaces trace
one_race_list trace = race_list_unique trace.events

-- some pairs, each with its printed schedule or with none
shown_of : (with_schedules : Bool) (trace : TraceData) → IsDisciplined trace.events → (races : List (ℕ × ℕ)) → (shown : List ShownRace) × (pairs_of shown ≡ races) × All (HasSchedule with_schedules trace) shown
shown_of with_schedules trace disciplined [] = ([], refl, All-nil (HasSchedule with_schedules trace))
shown_of with_schedules trace disciplined (pair ∷ races) =
    let later = shown_of with_schedules trace disciplined races in
    let here = one with_schedules in
    (record { pair = pair; schedule = here.0 } ∷ later.0, ap (λ l. pair ∷ l) later.1, All-cons (HasSchedule with_schedules trace) (record { pair = pair; schedule = here.0 }) later.0 here.1 later.2)
  where
    one : (b : Bool) → (schedule : Option (List ℕ)) × HasSchedule b trace (record { pair = pair; schedule = schedule })
    one false = (None, refl)
    one true = let printed = printed_exists trace.events disciplined pair.0 pair.1 in (Some printed.0, printed.1)

-- a disciplined trace with a race list has a report, in both forms
pub report_exists : (with_schedules : Bool) (trace : TraceData) (races : List (ℕ × ℕ)) → IsDisciplined trace.events → IsRaceList trace.events races → (bytes : List ℕ) × IsReportOn AllRaces with_schedules trace bytes
report_exists with_schedules trace races disciplined list =
    let shown = shown_of with_schedules trace disciplined races in
    let blocks = blocks_from trace 1 shown.0 in
    let are : AreBlocks with_schedules trace races blocks = record { shown = shown.0; races_are = shown.1; schedules_are = shown.2; bytes_are = refl } in
    (front_bytes trace races ++ (blocks ++ tail_bytes), record { races = races; blocks = blocks; races_are = list; blocks_are = are; bytes_are = refl })
