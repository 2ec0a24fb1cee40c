-- What is known of a trace whose events are kept, with an event more, and at its end.
use Rattle.std.proofs.Common.{◌≡◌, ◌⊎◌, inl, inr, ◌+◌, ◌<◌, ◌≤◌, ℕ, Bool, false, true, zero, suc, List, [], ◌∷◌, ◌++◌, length, map, take, option_and_then, OnOk, Option, Result, Some, slice_get, refl, sym, ap, subst, ◌∙◌, arith}
use Rattle.std.specs.Bool.{beq}
use Rattle.shb_scan.proofs.Words.{AreLocated, AreNearestRaces, Event, FoundRace, HasRoom, HasSearched, HasTakenTo, IsDisciplined, IsDistinct, IsScan, IsSpotIn, MayCome, NearestRaces, Pair, Race, Spot, TraceData, bytes_eq, cases_Bool, ends, ends_of, get_or_from_slice_get, length-take-le, list_any, location_at, op_at, option_map_or, site_at, site_in, slice_get_within, take-suc, take-take, take_all, thread_at, variable_at, variable_of}
use Rattle.shb_lines.specs.declared.event.Op.{Op}
use Rattle.shb_lines.specs.declared.event.Sizes.{Sizes}
use Rattle.shb_lines.specs.events.Sizes.{IsWithin}
use Rattle.shb_lines.specs.text.Limits.{most_events}
use Rattle.shb_lines.proofs.events.Events.{event_of_thread, same_op}
use Rattle.shb_links.proofs.Owners.{variable_sized}
use Rattle.shb_stamps.specs.Open.{is_open}
use Rattle.shb_stamps.specs.Settling.{AreOpen}
use Rattle.shb_scan.proofs.Noted.{on_ok}
use Rattle.shb_scan.proofs.Places.{nearest_by, sites_alike}
use Rattle.shb_scan.proofs.Pushes.{at_push}

-- one event more
front_next : (events : List Event) (n : ℕ) (e : Event) → slice_get events n ≡ Some e → take (n + 1) events ≡ take n events ++ e ∷ []
front_next events n e at =
    (let is : n + 1 ≡ suc n = omega arith in ap (λ (k : ℕ). take k events) is)
    ∙ (take-suc events n e (slice_get_within events n e at) ∙ ap (λ (b : Event). take n events ++ b ∷ []) (get_or_from_slice_get events n e e at))

-- a front of a trace that meets the discipline does
at_front : (events : List Event) (n k : ℕ) (e : Event) → slice_get (take n events) k ≡ Some e → (k < n) × (slice_get events k ≡ Some e)
at_front [] zero k e at = absurd cc
at_front [] (suc n) k e at = absurd cc
at_front (d ∷ events) zero k e at = absurd cc
at_front (d ∷ events) (suc n) zero e at = (omega arith, at)
at_front (d ∷ events) (suc n) (suc k) e at = let low = at_front events n k e at in (omega (arith, low.0), low.1)

disciplined_front : (events : List Event) (n : ℕ) → IsDisciplined events → IsDisciplined (take n events)
disciplined_front events n all k e at =
    let low = at_front events n k e at in
    subst (λ (past : List Event). MayCome past e) (sym (take-take k n events (omega (arith, low.0)))) (all k e low.1)

module _ (trace : TraceData) (es : List Event) (same : es ≡ trace.events) (flags : List Bool) (n : ℕ) (old new : List (List ℕ)) (nearest next : NearestRaces) (t : ℕ) (op : Op) (spot : Spot) (within : n < length es)
    (is_thread : thread_at es n ≡ Some t) (is_op : op_at es n ≡ Some op) (here : IsSpotIn trace flags op n old new spot) (h : HasTakenTo trace flags n old nearest) where
  low : n < length trace.events
  low = subst (λ (l : List Event). n < length l) same within

  of_thread : thread_at trace.events n ≡ Some t
  of_thread = subst (λ (l : List Event). thread_at l n ≡ Some t) same is_thread

  of_op : op_at trace.events n ≡ Some op
  of_op = subst (λ (l : List Event). op_at l n ≡ Some op) same is_op

  front_long : length (take n trace.events) ≡ n
  front_long = length-take-le n trace.events (omega (arith, low))

  abbrev spots : List Spot
  spots = h.spots ++ spot ∷ []

  located_more : AreLocated (λ x. is_open flags x ≡ true) trace new spots
  located_more k x s var is_asked at = elim (at_push h.spots spot k s at) [
    | inl before ↦ here.stay s.location (location_at trace k) (h.located k x s var is_asked before.1)
    | inr last ↦ (
        let is : k ≡ n = last.0 ∙ (h.searched.as_many ∙ front_long) in
        let own : variable_at trace.events n ≡ Some x = subst (λ (m : ℕ). variable_at trace.events m ≡ Some x) is var in
        let accesses : option_map_or (is_open flags) (variable_of op) false ≡ true = ap (λ (o : Option ℕ). option_map_or (is_open flags) o false) (sym (ap (option_and_then variable_of) of_op) ∙ own) ∙ is_asked in
        subst (λ (m : ℕ). slice_get new s.location ≡ Some (location_at trace m)) (sym is)
        (subst (λ (s : Spot). slice_get new s.location ≡ Some (location_at trace n)) last.1 (here.access accesses)))
  ]

  pub taken_next : {T E : Type 0} (answer : Result T E) → IsDisciplined es → length es ≤ most_events
      → ((past : List Event) (spots : List Spot) (e : Event) → e.thread ≡ t → e.op ≡ op → HasRoom past → IsDisciplined (past ++ e ∷ []) → HasSearched past spots nearest → OnOk answer (HasSearched (past ++ e ∷ []) (spots ++ spot ∷ []) next))
      → OnOk answer (HasTakenTo trace flags (n + 1) new next)
  taken_next answer disciplined few taken =
      let found = event_of_thread trace.events n t of_thread in
      let e : Event = found.0 in
      let is : take (n + 1) trace.events ≡ take n trace.events ++ e ∷ [] = front_next trace.events n e found.1 in
      let whole : IsDisciplined trace.events = subst IsDisciplined same disciplined in
      let meets : IsDisciplined (take n trace.events ++ e ∷ []) = subst IsDisciplined is (disciplined_front trace.events (n + 1) whole) in
      on_ok answer
      (λ searched. record { spots = spots; searched = subst (λ (l : List Event). HasSearched l spots next) (sym is) searched; located = located_more; few = omega (arith, here.few, h.few) })
      (taken (take n trace.events) h.spots e found.2 (same_op trace.events n op e found.1 of_op) (omega (arith, front_long, within, few)) meets h.searched)

-- the variable of a race is open
open_of : (events : List Event) (flags : List Bool) → AreOpen events flags → (i j : ℕ) (race : Race events i j) → is_open flags race.conflict.variable ≡ true
open_of events flags settled i j race = elim (cases_Bool (is_open flags race.conflict.variable)) [
  | inl yes_ ↦ yes_
  | inr no_ ↦ absurd (settled race.conflict.variable no_ i j race.conflict.second_accesses race)
]

-- of flags none of which is true each is false
pub closed_at : (flags : List Bool) (x : ℕ) → list_any (λ flag. beq flag true) flags ≡ false → x < length flags → is_open flags x ≡ false
closed_at [] x none low = absurd (omega (arith, low))
closed_at (true ∷ flags) x none low = absurd cc
closed_at (false ∷ flags) zero none low = refl
closed_at (false ∷ flags) (suc x) none low = closed_at flags x none (omega (arith, low))

-- no race is listed where no variable is open
pub no_races : (by_variable : Bool) (trace : TraceData) (es : List Event) (sizes : Sizes) (flags : List Bool) → es ≡ trace.events → IsWithin es sizes → AreOpen es flags → ((x : ℕ) → x < sizes.variables → is_open flags x ≡ false) → (pairs : List (ℕ × ℕ)) → pairs ≡ [] → IsScan by_variable trace pairs
no_races by_variable trace es sizes flags same within settled closed pairs none = subst (IsScan by_variable trace) (sym none) record {
  all = λ i j. (
    λ listed. absurd (omega (arith, listed.1)),
    λ near. absurd (
        let race : Race es i j = subst (λ (l : List Event). Race l i j) (sym same) near.race in
        let access = race.conflict.second_accesses in
        settled race.conflict.variable (closed race.conflict.variable (variable_sized es sizes j race.conflict.variable within access).1) i j access race),
  );
  in_order = λ i j d before low. absurd (omega (arith, low));
}

-- after all events
pub stored_races : (by_variable : Bool) (trace : TraceData) (es : List Event) (flags : List Bool) (n : ℕ) (locations : List (List ℕ)) (nearest : NearestRaces) (found : List FoundRace) (pairs : List Pair) → es ≡ trace.events → AreOpen es flags → length trace.events ≤ n → HasTakenTo trace flags n locations nearest → IsDistinct bytes_eq locations
    → nearest.by_variable ≡ by_variable → ((past : List Event) (spots : List Spot) → HasSearched past spots nearest → AreNearestRaces nearest.by_variable past spots found) → map ends pairs ≡ map ends_of found
    → IsScan by_variable trace (map ends pairs)
stored_races by_variable trace es flags n locations nearest found pairs of_trace settled long h distinct form races same =
    let searched : HasSearched trace.events h.spots nearest = subst (λ (es : List Event). HasSearched es h.spots nearest) (take_all n trace.events long) h.searched in
    let are : AreNearestRaces by_variable trace.events h.spots found = subst (λ (b : Bool). AreNearestRaces b trace.events h.spots found) form (races trace.events h.spots searched) in
    subst (IsScan by_variable trace) (sym same)
    (nearest_by trace.events (site_in by_variable trace.events h.spots) (site_at by_variable trace) (λ x. is_open flags x ≡ true) (open_of trace.events flags (subst (λ (l : List Event). AreOpen l flags) of_trace settled))
    (sites_alike (λ x. is_open flags x ≡ true) trace locations h.spots distinct searched.as_many h.located by_variable) (map ends_of found) are.nearest)

abbrev no_spots : List Spot
no_spots = []

no_spot : (k : ℕ) (spot : Spot) → slice_get no_spots k ≡ Some spot → ⊥
no_spot zero spot at = cc
no_spot (suc k) spot at = cc

front_none : (events : List Event) → take 0 events ≡ []
front_none [] = refl
front_none (e ∷ events) = refl

-- before the first event
pub taken_none : (trace : TraceData) (flags : List Bool) (locations : List (List ℕ)) (nearest : NearestRaces) → locations ≡ [] → HasSearched [] [] nearest → HasTakenTo trace flags 0 locations nearest
taken_none trace flags locations nearest none searched = record {
  spots = [];
  searched = subst (λ (es : List Event). HasSearched es [] nearest) (sym (front_none trace.events)) searched;
  located = λ k x spot var is_asked at. absurd (no_spot k spot at);
  few = omega (arith, ap length none);
}
