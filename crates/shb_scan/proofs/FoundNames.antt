-- The line of an access that was found is made of the names behind its numbers.
use Rattle.std.specs.Bool.{then_some}
use Rattle.std.specs.Borrow.{Bor}
use Rattle.std.specs.Prelude.{All, option_and_then}
use Rattle.std.proofs.Common.{◌≡◌, ℕ, List, Bool, true, false, cond, Option, None, Some, is_some, slice_get, refl, sym, ap, ◌∙◌}
use Rattle.shb_scan.proofs.Words.{AreSpots, Event, FoundAccess, FoundRace, HasNames, HasRaceNames, IsFoundAccess, IsFoundRace, IsLocated, IsMadeOf, IsNumber, IsOperation, IsRaceLocated, IsRaceMadeOf, IsTraceOf, ScanNames, Spot, Tables, TraceData, access_op, after_first, call_line, line_of_event, list_any, location_after, location_of, made_of_its_names, option_copied, slice_get_within, tables_in, variable_at, variable_of}
use Rattle.shb_lines.specs.declared.event.Kind.{Kind}
use Rattle.shb_lines.specs.text.Grammar.{is_mark}
use Rattle.shb_lines.specs.text.Meaning.{is_bar}
use Rattle.shb_lines.proofs.text.AccessLines.{GivesEvent, gives_event}
use Rattle.shb_format.specs.AccessText.{access_kind}

-- numbers of names that a line is made of have names
pub has_names : (names : ScanNames) (trace : TraceData) (x : ℕ) (access : FoundAccess) → IsMadeOf names trace x access → HasNames names x access
has_names names trace x access h = record {
  thread = slice_get_within _ access.thread h.thread h.thread_is;
  variable = slice_get_within _ x h.name h.name_is;
  location = slice_get_within _ access.spot.location h.location h.location_is;
}

-- the operation of an access, and its word
operation_parts : (tables : Tables) (writes : Bool) (x : ℕ) (kind : Kind) (name : List ℕ) → IsOperation tables (access_op writes x) kind name → (kind ≡ access_kind writes) × IsNumber tables.variables x name
operation_parts tables true x kind name h = h
operation_parts tables false x kind name h = h

no_mark : (writes : Bool) → is_mark (access_kind writes) ≡ false
no_mark true = refl
no_mark false = refl

-- the location after a second bar, by whether there is one
after_is : (any barred : Bool) (location : List ℕ) → barred ≡ is_some (cond any (Some location) None) → cond any (Some location) None ≡ then_some barred location
after_is true barred location is = ap (λ b. then_some b location) (sym is)
after_is false barred location is = ap (λ b. then_some b location) (sym is)

accesses : (writes : Bool) (x : ℕ) → variable_of (access_op writes x) ≡ Some x
accesses true x = refl
accesses false x = refl

found_variable : (events : List Event) (spots : List Spot) (x : ℕ) (access : FoundAccess) → IsFoundAccess events spots x access → variable_at events access.event ≡ Some x
found_variable events spots x access h = ap (option_and_then variable_of) h.op_is ∙ accesses access.writes x

-- the locations of races have the numbers of their spots
pub races_located : (trace : TraceData) (locations : List (List ℕ)) (spots : List Spot) → AreSpots trace locations spots → (races : List FoundRace) → All (IsFoundRace trace.events spots) races → All (IsRaceLocated locations trace) races
races_located trace locations spots spots_are races h k d below =
    let race = h k d below in
    let located : (x : ℕ) (access : FoundAccess) → IsFoundAccess trace.events spots x access → IsLocated locations trace access
    = λ x access is. (spots_are access.event x access.spot (found_variable trace.events spots x access is) is.spot_is).location in
    record { first = located _ _ race.first_is; second = located _ _ race.second_is }

-- an access of a trace is made of the names behind its numbers
module _ (lines : List (List ℕ)) (names : ScanNames) (trace : TraceData) (spots : List Spot) (trace_is : IsTraceOf lines trace)
    (threads_are : names.threads.now ≡ trace.threads) (variables_are : names.variables.now ≡ trace.variables) (spots_are : AreSpots trace names.locations.now spots) where
  pub access_made_of : (x : ℕ) (access : FoundAccess) → IsFoundAccess trace.events spots x access → IsMadeOf names trace x access
  access_made_of x access h =
      let gives : GivesEvent trace access.event access.thread (access_op access.writes x) = gives_event lines trace access.event access.thread (access_op access.writes x) trace_is h.thread_is h.op_is in
      let line : List ℕ = line_of_event trace access.event in
      let parts = operation_parts (tables_in trace) access.writes x gives.named.kind gives.named.operand gives.operation in
      let spot = spots_are access.event x access.spot (found_variable trace.events spots x access h) h.spot_is in
      let after = after_is (list_any is_bar (after_first is_bar line)) access.spot.barred (location_of line) spot.barred in record {
        thread = gives.named.thread;
        name = gives.named.operand;
        location = location_of line;
        thread_is = ap (λ ns. slice_get ns access.thread) threads_are ∙ gives.thread;
        name_is = ap (λ ns. slice_get ns x) variables_are ∙ parts.1;
        location_is = spot.location;
        line =
            made_of_its_names line gives.named gives.line (ap is_mark parts.0 ∙ no_mark access.writes)
            ∙ ap (λ k. call_line gives.named.thread k gives.named.operand (location_after line)) parts.0
            ∙ ap (call_line gives.named.thread (access_kind access.writes) gives.named.operand) after;
      }

  pub races_made_of : (races : List FoundRace) → All (IsFoundRace trace.events spots) races → All (IsRaceMadeOf names trace) races
  races_made_of races h k d below =
      let race = h k d below in
      record { first = access_made_of _ _ race.first_is; second = access_made_of _ _ race.second_is }

  pub races_have_names : (races : List FoundRace) → All (IsFoundRace trace.events spots) races → All (HasRaceNames names) races
  races_have_names races h k d below =
      let race = races_made_of races h k d below in
      record { first = has_names names trace _ _ race.first; second = has_names names trace _ _ race.second }

pub copied_if : (barred : Bool) (location : Bor (List ℕ)) → option_copied (then_some barred location) ≡ then_some barred location.now
copied_if true location = refl
copied_if false location = refl

-- the line that is made of the texts behind the numbers of an access is that of its event
pub line_is : (names : ScanNames) (trace : TraceData) (x : ℕ) (access : FoundAccess) (thread name location : List ℕ) (after : Option (List ℕ)) → IsMadeOf names trace x access
    → slice_get names.threads.now access.thread ≡ Some thread → slice_get names.variables.now x ≡ Some name
    → slice_get names.locations.now access.spot.location ≡ Some location → after ≡ then_some access.spot.barred location
    → line_of_event trace access.event ≡ call_line thread (access_kind access.writes) name after
line_is names trace x access thread name location after h thread_is name_is location_is after_location =
    let thread_same : h.thread ≡ thread = (let both = sym h.thread_is ∙ thread_is in cc) in
    let name_same : h.name ≡ name = (let both = sym h.name_is ∙ name_is in cc) in
    let location_same : h.location ≡ location = (let both = sym h.location_is ∙ location_is in cc) in
    let after_same : then_some access.spot.barred h.location ≡ after = ap (then_some access.spot.barred) location_same ∙ sym after_location in
    h.line
    ∙ ap (λ t. call_line t (access_kind access.writes) h.name (then_some access.spot.barred h.location)) thread_same
    ∙ ap (λ n. call_line thread (access_kind access.writes) n (then_some access.spot.barred h.location)) name_same
    ∙ ap (call_line thread (access_kind access.writes) name) after_same
