-- What is counted of the list of accesses is what the report says.
use Rattle.std.proofs.Common.{◌≡◌, ℕ, ◌-◌, ◌<◌, ◌≤◌, ◌↔◌, inl, inr, Bool, true, List, [], ◌∷◌, ◌++◌, Some, length, map, drop, get_or, refl, arith, ap, sym, subst, ◌∙◌}
use Rattle.std.specs.Prelude.{All, AllPairs, Contains, slice_range, sum}
use Rattle.std.specs.List.{IsDistinct}
use Rattle.std.specs.List.Sorted.{IsPermutation}
use Rattle.std.specs.Str.{bytes_eq}
use Rattle.std.proofs.lemmas.Bool.{cases_Bool}
use Rattle.std.proofs.lemmas.List.{length-map}
use Rattle.std.proofs.lemmas.List.Folds.{flat_map-map}
use Rattle.std.proofs.lemmas.List.Elements.{All-drop, All-map, All-take, Contains-get_or}
use Rattle.std.proofs.lemmas.List.Sorted.{IsPermutation-sym}
use Rattle.shb_lines.specs.declared.event.Event.{Event}
use Rattle.shb_lines.specs.declared.event.Pair.{Pair}
use Rattle.shb_lines.specs.declared.event.Sizes.{Sizes}
use Rattle.shb_lines.specs.events.Race.{Race, variable_at}
use Rattle.shb_lines.specs.events.Sizes.{IsWithin}
use Rattle.shb_lines.specs.text.TraceData.{TraceData}
use Rattle.shb_links.proofs.Owners.{variable_sized}
use Rattle.shb_format.specs.Places.{counts_in, places_of_pairs}
use Rattle.shb_format.specs.Report.{pair_of}
use Rattle.shb_format.specs.declared.places.PlaceCount.{PlaceCount}
use Rattle.shb_stamps.specs.Listed.{ListedTrace}
use Rattle.shb_stamps.specs.Open.{accesses_open, is_open}
use Rattle.shb_stamps.specs.Settling.{AreOpen}
use Rattle.shb_stamps.proofs.FlatMaps.{map_contains}
use Rattle.shb_stamps.proofs.ListedLemmas.{contains_listed}
use Rattle.shb_counts.specs.Accesses.{AreAccesses, IsAccess, StandsBefore}
use Rattle.shb_counts.specs.Joined.{ArePlacesOf}
use Rattle.shb_counts.specs.Numbered.{AreNumbered, key_in}
use Rattle.shb_counts.specs.PlaceSums.{AreSums}
use Rattle.shb_counts.specs.Runs.{AreCountable, CanAsk}
use Rattle.shb_counts.specs.Sums.{AreSumsOf, IsBefore, IsCounted, IsNotAfter, pairs_with, sum_of}
use Rattle.shb_counts.specs.declared.accesses.Access.{Access}
use Rattle.shb_counts.specs.declared.accesses.Accesses.{Accesses}
use Rattle.shb_counts.specs.declared.runs.Counted.{Counted}
use Rattle.shb_counts.proofs.CountedReport.{pairs_listed}
use Rattle.shb_counts.proofs.CountedTurns.{flat_permuted}
use Rattle.shb_counts.proofs.JobLemmas.{pairs_within}
use Rattle.shb_counts.proofs.ListedLemmas.{each_open, list_permuted, listed_permuted}
use Rattle.shb_counts.proofs.RaceLists.{accessed_within, races_below}
use Rattle.shb_counts.proofs.RaceOrder.{pairs_below, pairs_ordered, pairs_race, races_strict}
use Rattle.shb_counts.proofs.ReportPlaces.{IsLocatedBy, listed, races_listed, report_places}
use Rattle.shb_counts.proofs.SliceLemmas.{slice_none, slice_whole, slices_joined}
use Rattle.shb_counts.proofs.TotalLemmas.{all_total, few_races}

-- ---- a turn

-- the events of some accesses are events of the trace
pub turn_events : (trace : List Event) (numbers : List ℕ) (all list : List Access) (events : List ℕ) (from to : ℕ) → All (IsAccess trace numbers) all → list ≡ slice_range all from to → events ≡ map (λ (access : Access). access.event) list → All (λ e. e < length trace) events
turn_events trace numbers all list events from to each is are =
    let own = subst (All (IsAccess trace numbers)) (sym is) (All-take (IsAccess trace numbers) (to - from) (drop from all) (All-drop (IsAccess trace numbers) from all each)) in
    subst (All (λ e. e < length trace)) (sym are) (All-map (λ e. e < length trace) (λ (access : Access). access.event) list (λ k d lt. (own k d lt).in_range))

-- and an order that was made at them can be asked about each
pub turn_asked : (order : ListedTrace) (trace : List Event) (list : List Access) (events : List ℕ) → events ≡ map (λ (access : Access). access.event) list
    → order.trace ≡ trace → ((e : ℕ) → Contains order.events e ↔ Contains events e) → CanAsk trace list order
turn_asked order trace list events are of_trace asked = record {
  of_trace = of_trace;
  asked = λ k d lt. contains_listed order.events (get_or list k d).event ((asked (get_or list k d).event).1 (subst (λ (es : List ℕ). Contains es (get_or list k d).event) (sym are) (map_contains (λ (access : Access). access.event) list (get_or list k d) (Contains-get_or list k d lt))));
}

pub turn_countable : (order : ListedTrace) (trace : List Event) (flags : List Bool) (numbers : List ℕ) (accesses : Accesses) (list : List Access) (from to : ℕ)
    → AreAccesses trace flags numbers accesses → list ≡ slice_range accesses.list.items from to → CanAsk trace list order → AreCountable order flags numbers accesses list
turn_countable order trace flags numbers accesses list from to kept is can = record {
  kept = subst (λ (t : List Event). AreAccesses t flags numbers accesses) (sym can.of_trace) kept;
  each = subst (λ (t : List Event). All (IsAccess t numbers) list) (sym can.of_trace) own;
  are_open = subst (All (λ (access : Access). is_open flags access.variable ≡ true)) (sym is) (All-take (λ (access : Access). is_open flags access.variable ≡ true) (to - from) (drop from accesses.list.items) (All-drop (λ (access : Access). is_open flags access.variable ≡ true) from accesses.list.items (each_open trace flags numbers accesses kept)));
  asked = can.asked;
  in_order = subst (AllPairs StandsBefore) (sym is) (pairs_within StandsBefore accesses.list.items from to kept.in_order);
}
  where
    own : All (IsAccess trace numbers) list
    own = subst (All (IsAccess trace numbers)) (sym is) (All-take (IsAccess trace numbers) (to - from) (drop from accesses.list.items) (All-drop (IsAccess trace numbers) from accesses.list.items kept.each))

-- ---- turn after turn

pub none_counted : (trace : List Event) (numbers : List ℕ) (list : List Access) (counted : Counted) → IsCounted trace numbers [] counted → IsCounted trace numbers (slice_range list 0 0) counted
none_counted trace numbers list counted h = subst (λ (l : List Access). IsCounted trace numbers l counted) (sym (slice_none list 0)) h

pub next_counted : (trace : List Event) (numbers : List ℕ) (list : List Access) (from to : ℕ) (counted : Counted) → from ≤ to → IsCounted trace numbers (slice_range list 0 from ++ slice_range list from to) counted → IsCounted trace numbers (slice_range list 0 to) counted
next_counted trace numbers list from to counted le h = subst (λ (l : List Access). IsCounted trace numbers l counted) (slices_joined list 0 from to (omega arith) le) h

pub whole_counted : (trace : List Event) (numbers : List ℕ) (list : List Access) (from : ℕ) (counted : Counted) → length list ≤ from → IsCounted trace numbers (slice_range list 0 from) counted → IsCounted trace numbers list counted
whole_counted trace numbers list from counted all h = subst (λ (l : List Access). IsCounted trace numbers l counted) (slice_whole list from all) h

-- ---- all races

module _ (trace : List Event) (sizes : Sizes) (flags : List Bool) (numbers : List ℕ) (accesses : Accesses) (counted : Counted) (within : IsWithin trace sizes) (settled : AreOpen trace flags) (kept : AreAccesses trace flags numbers accesses) (is : IsCounted trace numbers accesses.list.items counted) where
  abbrev all_listed : List ℕ
  all_listed = listed trace flags sizes.variables

  moved : IsPermutation (map (λ (access : Access). access.event) accesses.list.items) all_listed
  moved = list_permuted trace flags numbers accesses sizes.variables kept (λ e x accessed. (variable_sized trace sizes e x within accessed).1)

  pub sum_is : sum counted.races.items ≡ length (races_below trace sizes.variables)
  sum_is = all_total trace accesses.list.items counted.races.items all_listed moved is.races ∙ ap length (races_listed trace flags sizes.variables settled)

  pub few_below : length trace < 4294967296 → length (races_below trace sizes.variables) < 18446744073709551616
  few_below small =
      let few = few_races trace flags all_listed small (IsPermutation-sym _ _ (listed_permuted trace flags sizes.variables (λ e x accessed. (variable_sized trace sizes e x within accessed).1))) in
      let same = ap length (races_listed trace flags sizes.variables settled) in
      omega (arith, few, same)

  pub sum_few : length trace < 4294967296 → sum counted.races.items < 18446744073709551616
  sum_few small = let few = few_below small in omega (arith, few, sum_is)

  pub below_sums : AreSumsOf trace numbers (pairs_below trace sizes.variables) counted.sums.items
  below_sums = record {
    each = is.sums.each;
    are_sums = subst (λ (pairs : List Pair). AreSums (key_in numbers) (IsNotAfter trace) pairs (map sum_of counted.sums.items)) (pairs_listed trace flags sizes.variables settled)
        (flat_permuted (key_in numbers) (IsNotAfter trace) (pairs_with trace) (map (λ (access : Access). access.event) accesses.list.items) all_listed (map sum_of counted.sums.items) moved
        (subst (λ (pairs : List Pair). AreSums (key_in numbers) (IsNotAfter trace) pairs (map sum_of counted.sums.items)) (sym (flat_map-map (pairs_with trace) (λ (access : Access). access.event) accesses.list.items)) is.sums.are_sums));
  }

-- ---- the places

module _ (text : TraceData) (flags : List Bool) (numbers : List ℕ) (locations : List (List ℕ)) (variables : ℕ) (settled : AreOpen text.events flags) (numbered : AreNumbered text flags (length text.events) numbers locations) where
  accessed_open : (e x : ℕ) → variable_at text.events e ≡ Some x → is_open flags x ≡ true → accesses_open flags text.events e ≡ true
  accessed_open e x accessed opened = rw accessed opened

  race_open : (i j x : ℕ) → Race text.events i j → variable_at text.events j ≡ Some x → is_open flags x ≡ true
  race_open i j x race accessed = elim (cases_Bool (is_open flags x)) [
    | inl opened ↦ opened
    | inr shut ↦ absurd (settled x shut i j accessed race)
  ]

  located_by : (p : Pair) → Race text.events p.first p.second → IsLocatedBy text locations (key_in numbers) p
  located_by p race =
      let x = race.conflict.variable in
      let opened = race_open p.first p.second x race race.conflict.second_accesses in
      record {
        first = numbered.located p.first (accessed_within text.events x p.first race.conflict.first_accesses) (accessed_open p.first x race.conflict.first_accesses opened);
        second = numbered.located p.second (accessed_within text.events x p.second race.conflict.second_accesses) (accessed_open p.second x race.conflict.second_accesses opened);
      }

  counts_same : (places : List PlaceCount) → map (λ (s : Pair × ℕ). (let c : PlaceCount = record { pair = s.0; count = s.1 } in c)) (map (λ (p : PlaceCount). (p.pair, p.count)) places) ≡ places
  counts_same [] = refl
  counts_same (p ∷ places) = ap (λ (l : List PlaceCount). p ∷ l) (counts_same places)

  text_places : (places : List PlaceCount) → IsDistinct bytes_eq locations → ArePlacesOf text.events numbers (pairs_below text.events variables) places → places ≡ counts_in (places_of_pairs text (pairs_below text.events variables))
  text_places places differ are =
      sym (counts_same places)
      ∙ report_places text locations (key_in numbers) differ (IsNotAfter text.events) (IsBefore text.events) (pairs_below text.events variables) (map (λ (p : PlaceCount). (p.pair, p.count)) places)
      (races_strict text.events (key_in numbers) (pairs_below text.events variables) (pairs_race text.events variables)) (λ k d lt. located_by (get_or (pairs_below text.events variables) k d) (pairs_race text.events variables k d lt)) are (pairs_ordered text.events variables)

-- of the events of a trace
pub places_counted : (text : TraceData) (trace : List Event) (flags : List Bool) (numbers : List ℕ) (locations : List (List ℕ)) (variables : ℕ) (places : List PlaceCount) → trace ≡ text.events → AreOpen trace flags → AreNumbered text flags (length trace) numbers locations → IsDistinct bytes_eq locations
    → ArePlacesOf trace numbers (pairs_below trace variables) places → places ≡ counts_in (places_of_pairs text (pairs_below trace variables))
places_counted text trace flags numbers locations variables places same settled numbered differ are =
    text_places text flags numbers locations variables (subst (λ (t : List Event). AreOpen t flags) same settled) (subst (λ (t : List Event). AreNumbered text flags (length t) numbers locations) same numbered) places differ (subst (λ (t : List Event). ArePlacesOf t numbers (pairs_below t variables) places) same are)
    ∙ ap (λ (t : List Event). counts_in (places_of_pairs text (pairs_below t variables))) (sym same)

-- what is known of the list and of its counts, by one name of the numbers
pub by_numbers : (trace : List Event) (flags : List Bool) (numbers one other : List ℕ) (accesses : Accesses) (counted : Counted) → one ≡ numbers → other ≡ numbers → AreAccesses trace flags one accesses → IsCounted trace other accesses.list.items counted
    → AreAccesses trace flags numbers accesses × IsCounted trace numbers accesses.list.items counted
by_numbers trace flags numbers one other accesses counted first second kept is = (subst (λ (ns : List ℕ). AreAccesses trace flags ns accesses) first kept, subst (λ (ns : List ℕ). IsCounted trace ns accesses.list.items counted) second is)

pub room_below : (trace : List Event) (variables : ℕ) → length (races_below trace variables) < 18446744073709551616 → length (pairs_below trace variables) < 18446744073709551616
room_below trace variables few = let size = length-map (races_below trace variables) pair_of in omega (arith, size, few)
