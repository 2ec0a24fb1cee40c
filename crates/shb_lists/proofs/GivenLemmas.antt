-- The races of a report, given a part at a time.
use Rattle.std.proofs.Common.{◌≡◌, ℕ, suc, ◌+◌, ◌-◌, ◌<◌, ◌≤◌, inl, inr, Bool, true, false, cond, List, [], ◌∷◌, ◌++◌, length, map, take, drop, get_or, refl, arith, ap, sym, subst, ◌∙◌, append-nil}
use Rattle.std.proofs.lemmas.List.Sums.{sum_by_more}
use Rattle.std.specs.Prelude.{All, IfSome, Option, None, Some, Contains, flat_map, nat_lt, slice_range, sum_by, ◌↔◌}
use Rattle.std.proofs.Math.Seq.{take-add}
use Rattle.std.proofs.lemmas.Bool.{cases_lt, lt-ltb}
use Rattle.std.proofs.lemmas.List.{get_or-drop, get_or-map, get_or-take, length-drop, length-map, length-take, take-append-drop, take_all}
use Rattle.std.proofs.lemmas.List.Elements.{All-contains, All-drop, All-take, Contains-get_or}
use Rattle.std.proofs.lemmas.List.Sorted.{Contains-permutation, IsPermutation-sym}
use Rattle.std.proofs.lemmas.Option.{slice_get_within}
use Rattle.shb_lines.specs.declared.event.Event.{Event}
use Rattle.shb_lines.specs.declared.event.Pair.{Pair}
use Rattle.shb_lines.specs.declared.event.Sizes.{Sizes}
use Rattle.shb_lines.specs.events.Race.{IsRaceList, Race, ends}
use Rattle.shb_lines.specs.events.Sizes.{IsNumberedByAccess, IsWithin}
use Rattle.shb_lines.specs.text.TraceData.{TraceData}
use Rattle.shb_lines.proofs.events.Reach.{event_at_access}
use Rattle.shb_format.specs.Places.{IsPairOf}
use Rattle.shb_links.proofs.Owners.{variable_sized}
use Rattle.shb_stamps.specs.Accesses.{races_with}
use Rattle.shb_stamps.specs.Listed.{ListedTrace, is_listed}
use Rattle.shb_stamps.specs.Settling.{AreOpen}
use Rattle.shb_stamps.proofs.FlatMaps.{map_contains, map_parts}
use Rattle.shb_stamps.proofs.ListedLemmas.{contains_listed}
use Rattle.shb_counts.specs.Accesses.{AreAccesses}
use Rattle.shb_counts.specs.Runs.{CanAsk}
use Rattle.shb_counts.specs.declared.accesses.Access.{Access}
use Rattle.shb_lists.specs.Found.{AreListed, AreVariables, CanBeFound, IsListed, event_of, races_of}
use Rattle.shb_lists.specs.Given.{AreKnown, HasGiven, HasTurn, racing}
use Rattle.shb_counts.specs.declared.accesses.Accesses.{Accesses}
use Rattle.shb_lists.specs.declared.by_event.ListedAccess.{ListedAccess}
use Rattle.shb_lists.specs.declared.list.Known.{Known}
use Rattle.shb_lists.specs.declared.list.Rest.{Rest}
use Rattle.shb_lists.specs.declared.list.Turn.{Turn}
use Rattle.shb_lists.specs.declared.list.Rest.TheVariants.{Kept, From, Ended}
use Rattle.shb_lists.proofs.FoundLemmas.{races_append}
use Rattle.shb_counts.proofs.RaceLists.{below_is_list}
use Rattle.shb_counts.proofs.ListedLemmas.{list_permuted}
use Rattle.shb_counts.proofs.ReportPlaces.{races_listed}
use Rattle.shb_counts.proofs.SliceLemmas.{slice_whole}
use Rattle.shb_lists.proofs.SortedLemmas.{filter_parts}

-- what was given is a front of the races
pub given_front : (trace : List Event) (races given : List (ℕ × ℕ)) (rest : Rest) → HasGiven trace races given rest → (more : List (ℕ × ℕ)) × (races ≡ given ++ more)
given_front trace races given (Kept kept) has = (races, ap (λ (l : List (ℕ × ℕ)). l ++ races) (sym has.0))
given_front trace races given (From known turn next) has = (
  races_of trace (drop next known.list.items),
  has.1 ∙ (ap (races_of trace) (sym (take-append-drop next known.list.items)) ∙ (races_append trace (take next known.list.items) (drop next known.list.items) ∙ ap (λ (l : List (ℕ × ℕ)). l ++ races_of trace (drop next known.list.items)) (sym has.2))),
)
given_front trace races given Ended has = ([], sym has ∙ sym (append-nil given))

-- a list of which none was given lists these races and no others
pub same_races : (trace : List Event) (races others : List (ℕ × ℕ)) (rest : Rest) → HasGiven trace races [] rest → HasGiven trace others [] rest → races ≡ others
same_races trace races others (Kept kept) a b = a.1 ∙ sym b.1
same_races trace races others (From known turn next) a b = a.1 ∙ sym b.1
same_races trace races others Ended a b = sym a ∙ b

-- ---- parts

-- some neighbours of the accesses can be found too
pub known_within : (trace : List Event) (accesses : Accesses) (list : List ListedAccess) (from to : ℕ) → AreKnown trace accesses list → AreKnown trace accesses (slice_range list from to)
known_within trace accesses list from to h = record {
  flags = h.flags;
  numbers = h.numbers;
  kept = h.kept;
  each = All-take (IsListed trace h.flags h.numbers) (to - from) (drop from list) (All-drop (IsListed trace h.flags h.numbers) from list h.each);
}

pub events_within : (trace others : List Event) (accesses : Accesses) (list : List ListedAccess) (events seen : List ℕ) → others ≡ trace → seen ≡ events → events ≡ map event_of list → AreKnown trace accesses list → All (λ e. e < length others) seen
events_within trace others accesses list events seen same seen_is are h k d lt =
    let is : seen ≡ map event_of list = seen_is ∙ are in
    let long : length seen ≡ length list = ap length is ∙ length-map list event_of in
    let inside : k < length list = omega (arith, long, lt) in
    let access : ListedAccess = record { variable = 0; event = d; thread = 0; location = 0; races = 0; writes = true } in
    let at : get_or seen k d ≡ (get_or list k access).event = ap (λ (l : List ℕ). get_or l k d) is ∙ get_or-map event_of list k access d inside in
    let low = (h.each k access inside).of_trace.in_range in
    let size = ap length same in
    omega (arith, at, low, size)

-- an order of their events can be asked about them
pub events_asked : (ordered : ListedTrace) (list : List ListedAccess) (events seen : List ℕ) → seen ≡ events → events ≡ map event_of list → ((e : ℕ) → Contains ordered.events e ↔ Contains seen e) → All (λ access. is_listed ordered.events access.event ≡ true) list
events_asked ordered list events seen seen_is are asked k d lt =
    contains_listed ordered.events (get_or list k d).event ((asked (get_or list k d).event).1 (subst (λ (l : List ℕ). Contains l (get_or list k d).event) (sym (seen_is ∙ are)) (map_contains event_of list (get_or list k d) (Contains-get_or list k d lt))))

-- what holds of the items of a range holds of those of a range within it
pub range_within : (P : ListedAccess → Type 0) (list : List ListedAccess) (from to a b : ℕ) → from ≤ a → b ≤ to → to ≤ length list → All P (slice_range list from to) → All P (slice_range list a b)
range_within P list from to a b more less within each k d lt =
    let inner = length-take (b - a) (drop a list) in
    let outer = length-take (to - from) (drop from list) in
    let inner_rest = length-drop a list in
    let outer_rest = length-drop from list in
    let first : k < b - a = omega (arith, inner, lt) in
    let there : (a - from) + k < to - from = omega (arith, first, more, less) in
    let inside : (a - from) + k < length (slice_range list from to) = omega (arith, outer, outer_rest, there, within) in
    subst P
    (get_or-take (to - from) (drop from list) ((a - from) + k) d there
    ∙ (get_or-drop from list ((a - from) + k) d
    ∙ (ap (λ (n : ℕ). get_or list n d) (let e : from + ((a - from) + k) ≡ a + k = omega (arith, more) in e)
    ∙ sym (get_or-take (b - a) (drop a list) k d first ∙ get_or-drop a list k d))))
    (each ((a - from) + k) d inside)

-- the races of a part of a turn can be found
pub turn_found : (trace : List Event) (accesses : Accesses) (list : List ListedAccess) (next to : ℕ) (turn : Turn) → to ≤ turn.to → (h : AreKnown trace accesses list) → HasTurn trace list next turn → CanBeFound turn.order h.flags h.numbers accesses (slice_range list next to)
turn_found trace accesses list next to turn le h has = record {
  kept = subst (λ (t : List Event). AreAccesses t h.flags h.numbers accesses) (sym has.of_trace) h.kept;
  each = subst (λ (t : List Event). All (IsListed t h.flags h.numbers) (slice_range list next to)) (sym has.of_trace) (All-take (IsListed trace h.flags h.numbers) (to - next) (drop next list) (All-drop (IsListed trace h.flags h.numbers) next list h.each));
  asked = range_within (λ (access : ListedAccess). is_listed turn.order.events access.event ≡ true) list next turn.to next to (omega arith) le has.within has.asked;
}

-- an order that can be asked about all accesses can be asked about those that have races
pub racing_asked : (trace : List Event) (flags : List Bool) (numbers : List ℕ) (variables : ℕ) (accesses : Accesses) (by_event list : List ListedAccess) (events : List ℕ)
    → AreAccesses trace flags numbers accesses → AreVariables trace variables → AreListed trace flags numbers variables by_event → list ≡ racing by_event
    → All (λ access. is_listed events access.event ≡ true) accesses.list.items → All (λ access. is_listed events access.event ≡ true) list
racing_asked trace flags numbers variables accesses by_event list events are within listed is asked k d lt =
    let access = get_or list k d in
    let there = (filter_parts (λ (a : ListedAccess). nat_lt 0 a.races) by_event access (subst (λ (l : List ListedAccess). Contains l access) is (Contains-get_or list k d lt))).0 in
    let opened = subst (λ (l : List ℕ). Contains l access.event) listed.events (map_contains event_of by_event access there) in
    let one = map_parts (λ (a : Access). a.event) accesses.list.items access.event
    (Contains-permutation _ _ access.event (IsPermutation-sym _ _ (list_permuted trace flags numbers accesses variables are within)) opened) in
    subst (λ (e : ℕ). is_listed events e ≡ true) one.2 (All-contains (λ (a : Access). is_listed events a.event ≡ true) accesses.list.items one.0 asked one.1)

pub may_ask : (trace : List Event) (flags : List Bool) (numbers : List ℕ) (variables : ℕ) (accesses : Accesses) (by_event list : List ListedAccess) (order : Option ListedTrace)
    → AreAccesses trace flags numbers accesses → AreVariables trace variables → AreListed trace flags numbers variables by_event → list ≡ racing by_event
    → IfSome order (CanAsk trace accesses.list.items) → IfSome order (λ ordered. (ordered.trace ≡ trace) × All (λ access. is_listed ordered.events access.event ≡ true) list)
may_ask trace flags numbers variables accesses by_event list None are within listed is can = can
may_ask trace flags numbers variables accesses by_event list (Some order) are within listed is can =
    (can.of_trace, racing_asked trace flags numbers variables accesses by_event list order.events are within listed is can.asked)

-- such an order serves for a turn of all of them
pub whole_asked : (trace : List Event) (list : List ListedAccess) (turn : Turn) → turn.to ≡ length list → turn.order.trace ≡ trace
    → All (λ access. is_listed turn.order.events access.event ≡ true) list → HasTurn trace list 0 turn
whole_asked trace list turn all of_trace asked = record {
  within = omega (arith, all);
  of_trace = of_trace;
  asked = subst (All (λ (access : ListedAccess). is_listed turn.order.events access.event ≡ true)) (sym (ap (slice_range list 0) all ∙ slice_whole list (length list) (omega arith))) asked;
}

-- what is left of a turn
pub turn_later : (trace : List Event) (list : List ListedAccess) (next to : ℕ) (turn : Turn) → next ≤ to → HasTurn trace list next turn → HasTurn trace list to turn
turn_later trace list next to turn le has = record {
  within = has.within;
  of_trace = has.of_trace;
  asked = range_within (λ (access : ListedAccess). is_listed turn.order.events access.event ≡ true) list next turn.to to turn.to le (omega arith) has.within has.asked;
}

-- after a part these are given
pub part_given : (trace : List Event) (races given : List (ℕ × ℕ)) (known : Known) (last : Option Turn) (turn : Turn) (next to : ℕ) (part : List (ℕ × ℕ)) → next ≤ to → HasGiven trace races given (From known last next) → HasTurn trace known.list.items next turn → part ≡ races_of trace (slice_range known.list.items next to)
    → HasGiven trace races (given ++ part) (From known (Some turn) to)
part_given trace races given known last turn next to part le has asked is = (
  has.0,
  has.1,
  ap (λ (l : List (ℕ × ℕ)). l ++ part) has.2 ∙ (ap (λ (l : List (ℕ × ℕ)). races_of trace (take next known.list.items) ++ l) is
      ∙ (sym (races_append trace (take next known.list.items) (slice_range known.list.items next to))
      ∙ ap (races_of trace) (sym (take-add next (to - next) known.list.items) ∙ ap (λ (n : ℕ). take n known.list.items) (let e : next + (to - next) ≡ to = omega (arith, le) in e)))),
  turn_later trace known.list.items next to turn le asked,
)

-- none is left after the last access
pub none_left : (trace : List Event) (races given : List (ℕ × ℕ)) (known : Known) (turn : Option Turn) (next : ℕ) → length known.list.items ≤ next → HasGiven trace races given (From known turn next) → given ≡ races
none_left trace races given known turn next past has = has.2 ∙ (ap (races_of trace) (take_all next known.list.items past) ∙ sym has.1)

-- ---- those that have races

nothing : {X : Type 0} (xs : List X) → length xs ≡ 0 → xs ≡ []
nothing [] is = refl
nothing (x ∷ xs) is = absurd (omega (arith, is))

pub racing_races : (trace : List Event) (flags : List Bool) (numbers : List ℕ) (list : List ListedAccess) → All (IsListed trace flags numbers) list → races_of trace (racing list) ≡ races_of trace list
racing_races trace flags numbers [] each = refl
racing_races trace flags numbers (access ∷ list) each = by (nat_lt 0 access.races) refl (racing_races trace flags numbers list (λ k d lt. each (suc k) d (omega (arith, lt))))
  where
    by : (b : Bool) → nat_lt 0 access.races ≡ b → races_of trace (racing list) ≡ races_of trace list → races_of trace (cond b (access ∷ racing list) (racing list)) ≡ races_with trace access.event ++ races_of trace list
    by true is rest = ap (λ (l : List (ℕ × ℕ)). races_with trace access.event ++ l) rest
    by false is rest =
        let own = (each 0 access (omega arith)).races in
        let low : access.races ≡ 0 = elim (cases_lt 0 access.races) [
          | inl some ↦ absurd (let up = lt-ltb 0 access.races some in let bad : true ≡ false = sym up ∙ is in cc)
          | inr le ↦ omega (arith, le)
        ] in
        rest ∙ ap (λ (l : List (ℕ × ℕ)). l ++ races_of trace list) (sym (nothing (races_with trace access.event) (sym own ∙ low)))

pub racing_each : (trace : List Event) (flags : List Bool) (numbers : List ℕ) (list : List ListedAccess) → All (IsListed trace flags numbers) list → All (IsListed trace flags numbers) (racing list)
racing_each trace flags numbers list each k d lt = All-contains (IsListed trace flags numbers) list (get_or (racing list) k d) each (filter_parts (λ (access : ListedAccess). nat_lt 0 access.races) list (get_or (racing list) k d) (Contains-get_or (racing list) k d lt)).0

pub all_known : (trace : List Event) (flags : List Bool) (numbers : List ℕ) (accesses : Accesses) (by_event list : List ListedAccess) → AreAccesses trace flags numbers accesses → All (IsListed trace flags numbers) by_event → list ≡ racing by_event → AreKnown trace accesses list
all_known trace flags numbers accesses by_event list are each is = record {
  flags = flags;
  numbers = numbers;
  kept = are;
  each = subst (All (IsListed trace flags numbers)) (sym is) (racing_each trace flags numbers by_event each);
}

-- their races are the race list
pub all_listed : (trace : List Event) (sizes : Sizes) (flags : List Bool) (numbers : List ℕ) (by_event list : List ListedAccess) → IsWithin trace sizes → IsNumberedByAccess trace → AreOpen trace flags → AreListed trace flags numbers sizes.variables by_event → list ≡ racing by_event
    → IsRaceList trace (races_of trace list)
all_listed trace sizes flags numbers by_event list within numbered settled are is =
    subst (IsRaceList trace)
    (sym (ap (races_of trace) is ∙ (racing_races trace flags numbers by_event are.each ∙ (ap (flat_map (races_with trace)) are.events ∙ races_listed trace flags sizes.variables settled))))
    (below_is_list trace sizes within numbered)

pub variables_within : (trace : List Event) (sizes : Sizes) → IsWithin trace sizes → AreVariables trace sizes.variables
variables_within trace sizes within e x accessed = (variable_sized trace sizes e x within accessed).1

-- ---- races of a trace by their events

-- the events of a race are events of the trace, which may be seen under another name
pub race_of_trace : (trace : TraceData) (events : List Event) (i j : ℕ) → events ≡ trace.events → Race events i j → (i < length trace.events) × (j < length trace.events)
race_of_trace trace events i j same race =
    let first = event_at_access events i race.conflict.variable race.conflict.first_accesses in
    let second = event_at_access events j race.conflict.variable race.conflict.second_accesses in
    (subst (λ t. i < length t) same (slice_get_within events i first.0 first.1), subst (λ t. j < length t) same (slice_get_within events j second.0 second.1))

-- some races as pairs
pub pairs_race : (events : List Event) (pairs : List Pair) (races : List (ℕ × ℕ)) → map ends pairs ≡ races → All (λ race. Race events race.0 race.1) races → All (λ (p : Pair). Race events p.first p.second) pairs
pairs_race events pairs races same are k d lt =
    let long = length-map pairs ends in
    let there = subst (λ (l : List (ℕ × ℕ)). All (λ race. Race events race.0 race.1) l) (sym same) are in
    subst (λ (q : ℕ × ℕ). Race events q.0 q.1) (get_or-map ends pairs k d (ends d) lt) (there k (ends d) (omega (arith, long, lt)))

pub pairs_of_trace : (trace : TraceData) (events : List Event) (pairs : List Pair) (races : List (ℕ × ℕ)) → events ≡ trace.events → map ends pairs ≡ races → All (λ race. Race events race.0 race.1) races → All (IsPairOf trace) pairs
pairs_of_trace trace events pairs races same is are k d lt =
    let both = race_of_trace trace events _ _ same (pairs_race events pairs races is are k d lt) in
    record { first = both.0; second = both.1 }

pub races_of_list : (events : List Event) (races : List (ℕ × ℕ)) → IsRaceList events races → All (λ race. Race events race.0 race.1) races
races_of_list events races lists k d lt = (lists.all (get_or races k d).0 (get_or races k d).1).0 (Contains-get_or races k d lt)

-- ---- how many races

pub sum_next : (list : List ListedAccess) (from to : ℕ) (d : ListedAccess) (races more : ℕ) → from ≤ to → to < length list → races ≡ sum_by (λ (access : ListedAccess). access.races) (slice_range list from to) → more ≡ (get_or list to d).races
    → races + more ≡ sum_by (λ (access : ListedAccess). access.races) (slice_range list from (to + 1))
sum_next list from to d races more le lt is here =
    let count : ListedAccess → ℕ = λ access. access.races in
    let size = length-drop from list in
    let step = sum_by_more count (drop from list) (to - from) d (omega (arith, size, le, lt)) in
    let at = ap count (get_or-drop from list (to - from) d ∙ ap (λ (n : ℕ). get_or list n d) (let e : from + (to - from) ≡ to = omega (arith, le) in e)) in
    let next = ap (λ (n : ℕ). sum_by count (take n (drop from list))) (let e : (to + 1) - from ≡ (to - from) + 1 = omega (arith, le) in e) in
    omega (arith, step, at, next, is, here)
