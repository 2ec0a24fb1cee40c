-- What is known after one event more.
use Rattle.std.proofs.Common.{◌≡◌, ◌⊎◌, inl, inr, ◌+◌, ◌<◌, ◌≤◌, ℕ, zero, suc, List, [], ◌∷◌, ◌++◌, length, Option, Some, Result, Ok, Err, OnOk, is_some, slice_get, refl, sym, ap, subst, ◌∙◌, arith, length-append}
use Rattle.std.specs.List.{IsDistinct}
use Rattle.shb_scan.proofs.Words.{AreSpots, Event, HasNoted, HasScanned, HasSearched, HasSpot, HasTaken, IsDistinct-with_name, IsSpotOf, IsStateAfter, IsWithin, MayCome, NearestRaces, OwnedNames, Scan, Spot, Step, Tables, TraceData, bytes_eq, event_of, line_of_event, location_of, scan_bounds, variable_at, variable_of, with_name, with_step}
use Rattle.shb_lines.proofs.text.NameLemmas.{length-with_name_le, slice_get-with_name}
use Rattle.shb_discipline.specs.declared.state.State.{State}
use Rattle.shb_scan.proofs.Pushes.{accesses, accessing, at_push, disciplined_push, line_before, line_last}

-- names that grow keep the spots
kept : (old new : List (List ℕ)) (op_line line : List ℕ) (spot : Spot) → (new ≡ old) ⊎ (new ≡ with_name old (location_of op_line)) → IsSpotOf old line spot → IsSpotOf new line spot
kept old new op_line line spot (inl same) h = subst (λ names. IsSpotOf names line spot) (sym same) h
kept old new op_line line spot (inr grown) h = subst (λ names. IsSpotOf names line spot) (sym grown) (record { location = slice_get-with_name old (location_of op_line) (location_of line) spot.location h.location; barred = h.barred })

distinct_more : (old new : List (List ℕ)) (line : List ℕ) → (new ≡ old) ⊎ (new ≡ with_name old (location_of line)) → IsDistinct bytes_eq old → IsDistinct bytes_eq new
distinct_more old new line (inl same) h = subst (IsDistinct bytes_eq) (sym same) h
distinct_more old new line (inr grown) h = subst (IsDistinct bytes_eq) (sym grown) (IsDistinct-with_name old (location_of line) h)

few_more : (old new : List (List ℕ)) (line : List ℕ) (n : ℕ) → (new ≡ old) ⊎ (new ≡ with_name old (location_of line)) → length old ≤ n → length new ≤ n + 1
few_more old new line n (inl same) h = omega (arith, ap length same, h)
few_more old new line n (inr grown) h = omega (arith, ap length grown, length-with_name_le old (location_of line), h)

module _ (trace : TraceData) (tables : Tables) (step : Step) (number : ℕ) (text : List ℕ) (spots : List Spot) (spot : Spot) (old new : List (List ℕ)) where
  abbrev now : TraceData
  now = with_step trace tables step number text

  spots_more : length trace.lines ≡ length trace.events → length spots ≡ length trace.events → HasSpot old new step.op text spot → AreSpots trace old spots → AreSpots now new (spots ++ spot ∷ [])
  spots_more each many here all k x s var at = by (at_push trace.events (event_of step number) k found.0 found.1) (at_push spots spot k s at)
    where
      found : (e : Event) × (slice_get (trace.events ++ event_of step number ∷ []) k ≡ Some e) × (variable_of e.op ≡ Some x)
      found = accessing (trace.events ++ event_of step number ∷ []) k x var

      by : ((k < length trace.events) × (slice_get trace.events k ≡ Some found.0)) ⊎ ((k ≡ length trace.events) × (event_of step number ≡ found.0))
          → ((k < length spots) × (slice_get spots k ≡ Some s)) ⊎ ((k ≡ length spots) × (spot ≡ s)) → IsSpotOf new (line_of_event now k) s
      by (inl low) (inl before) =
          subst (λ l. IsSpotOf new l s) (sym (line_before trace.lines text k (omega (arith, low.0, each))))
          (kept old new text (line_of_event trace k) s here.names (all k x s (accesses trace.events k x found.0 low.1 found.2) before.1))
      by (inl low) (inr last) = absurd (omega (arith, low.0, last.0, many))
      by (inr end) (inl before) = absurd (omega (arith, end.0, before.0, many))
      by (inr end) (inr last) =
          let is : variable_of step.op ≡ Some x = ap (λ (e : Event). variable_of e.op) end.1 ∙ found.2 in
          subst (λ l. IsSpotOf new l s) (sym (line_last trace.lines text k (omega (arith, end.0, each)))) (subst (IsSpotOf new text) last.1 (here.access (ap is_some is)))

  -- an event more was noted
  pub noted_more : (locations later : OwnedNames) (state after : State) (nearest next : NearestRaces) → HasNoted trace spots locations state nearest → MayCome trace.events (event_of step number)
      → old ≡ locations → new ≡ later → IsStateAfter (trace.events ++ event_of step number ∷ []) after → HasSearched (trace.events ++ event_of step number ∷ []) (spots ++ spot ∷ []) next → HasSpot old new step.op text spot
      → HasNoted now (spots ++ spot ∷ []) later after next
  noted_more locations later state after nearest next h may from to state_is searched here =
      let old_is : AreSpots trace old spots = subst (λ names. AreSpots trace names spots) (sym from) h.located in
      let old_distinct : IsDistinct bytes_eq old = subst (IsDistinct bytes_eq) (sym from) h.distinct in
      let old_few : length old ≤ length trace.events = omega (arith, ap length from, h.few) in
      record {
        a_line_each = omega (arith, h.a_line_each, length-append trace.lines (text ∷ []), length-append trace.events (event_of step number ∷ []));
        disciplined = disciplined_push trace.events (event_of step number) h.disciplined may;
        state_is = state_is;
        searched = searched;
        located = subst (λ names. AreSpots now names (spots ++ spot ∷ [])) to (spots_more h.a_line_each h.searched.as_many here old_is);
        distinct = subst (IsDistinct bytes_eq) to (distinct_more old new text here.names old_distinct);
        few = omega (arith, ap length to, few_more old new text (length trace.events) here.names old_few, length-append trace.events (event_of step number ∷ []));
      }

-- what follows where a call succeeded
pub on_ok : {T E P Q : Type 0} (r : Result T E) → (P → Q) → OnOk r P → OnOk r Q
on_ok (Ok x) f p = f p
on_ok (Err e) f p = tt

-- the trace of no lines
abbrev no_trace : TraceData
no_trace = record { events = []; lines = []; threads = []; locks = []; variables = [] }

abbrev no_events : List Event
no_events = []

no_event : (k : ℕ) (e : Event) → slice_get no_events k ≡ Some e → ⊥
no_event zero e at = cc
no_event (suc k) e at = cc

no_access : (k x : ℕ) → variable_at [] k ≡ Some x → ⊥
no_access k x h = let found = accessing [] k x h in no_event k found.0 found.1

none_distinct : (names : List (List ℕ)) → names ≡ [] → IsDistinct bytes_eq names
unfolding IsDistinct
none_distinct names none = subst (IsDistinct bytes_eq) (sym none) tt

pub scanned_none : (left : Option (List ℕ)) (scan : Scan) → HasTaken scan_bounds [] [] left scan.reader → IsWithin scan_bounds scan.reader.numbering → scan.locations ≡ [] → IsStateAfter [] scan.state → HasSearched [] [] scan.nearest → HasScanned [] [] left scan
scanned_none left scan taken within none state searched = record {
  taken = taken;
  within = within;
  trace = no_trace;
  trace_is = record { tables_are = refl; events_are = tt; lines_are = refl };
  spots = [];
  noted = record {
    a_line_each = refl;
    disciplined = λ k e at. absurd (no_event k e at);
    state_is = state;
    searched = searched;
    located = λ k x s var at. absurd (no_access k x var);
    distinct = none_distinct scan.locations none;
    few = omega (arith, ap length none);
  };
}
