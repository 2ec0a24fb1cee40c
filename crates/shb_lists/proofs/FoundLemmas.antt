-- The races of an access, by the entries in its windows, and those of several.
use Rattle.std.proofs.Common.{◌≡◌, ◌≢◌, ℕ, zero, suc, ◌-◌, ◌*◌, ◌≤◌, ◌⊎◌, inl, inr, Bool, true, false, List, [], ◌∷◌, ◌++◌, Some, length, map, drop, Global, Vec, refl, arith, ap, sym, subst, ◌∙◌}
use Rattle.std.specs.Prelude.{AllPairs, Contains, filter, flat_map, slice_range, ◌&&◌, ◌||◌}
use Rattle.std.specs.List.Sorted.{IsNonDecreasing, IsPermutation}
use Rattle.std.proofs.lemmas.List.{append-nil, map-append}
use Rattle.std.proofs.lemmas.List.Concat.{flat_map-append}
use Rattle.std.proofs.lemmas.List.Elements.{All-drop, All-take}
use Rattle.std.proofs.lemmas.List.Kept.{AllPairs-filter, AllPairs-from_increasing}
use Rattle.std.proofs.lemmas.List.Sorted.{Contains-permutation, IsPermutation-sym}
use Rattle.std.proofs.lemmas.Option.{slice_get_within}
use Rattle.shb_lines.specs.declared.event.Event.{Event}
use Rattle.shb_lines.specs.declared.event.Op.TheVariants.{Write}
use Rattle.shb_lines.specs.events.Events.{op_at}
use Rattle.shb_lines.specs.events.Race.{Race, variable_at}
use Rattle.shb_lines.specs.events.Reach.{is_race, numbers_where, writes_at}
use Rattle.shb_fan.specs.Values.{values_of}
use Rattle.shb_lines.proofs.events.Reach.{event_at_access, numbers_listed, reflect_race}
use Rattle.std.proofs.lemmas.Bool.{eq-eqb}
use Rattle.shb_stamps.specs.Accesses.{accesses_at, races_with}
use Rattle.shb_stamps.proofs.Accesses.{test_from_access}
use Rattle.shb_counts.specs.Accesses.{AreEntries, rivals}
use Rattle.shb_stamps.specs.Listed.{ListedTrace, is_listed}
use Rattle.shb_lists.specs.Found.{CanBeFound, FindWork, IsListed, event_of, piece_races, races_of}
use Rattle.shb_lists.specs.Listed.{pair_in, race_of}
use Rattle.shb_counts.specs.Windows.{AreWindows}
use Rattle.shb_counts.specs.declared.accesses.Accesses.{Accesses}
use Rattle.shb_counts.specs.declared.accesses.Entry.{Entry}
use Rattle.shb_lists.specs.declared.by_event.ListedAccess.{ListedAccess}
use Rattle.shb_counts.specs.declared.finder.Window.{Window}
use Rattle.shb_lists.specs.declared.listed.ListedRace.{ListedRace}
use Rattle.shb_counts.proofs.PlacesOfSums.{filter_keeps}
use Rattle.shb_counts.proofs.SliceLemmas.{piece, pieces_all}
use Rattle.shb_lists.proofs.SortedLemmas.{below_differ, filter_parts, map_filter, moved_differ, range_of, sorted_is, window_filter}

test_of_write : (trace : List Event) (x k : ℕ) → op_at trace k ≡ Some (Write x) → writes_at trace x k ≡ true
unfolding writes_at
test_of_write trace x k h = rw (h, writes_at) (eq-eqb x x refl)

one_or : (a b : Bool) → (a ≡ true) ⊎ (b ≡ true) → (a || b) ≡ true
one_or a b (inl h) = ap (λ (q : Bool). q || b) h
one_or true b (inr h) = refl
one_or false b (inr h) = h

both_and : (a b : Bool) → a ≡ true → b ≡ true → (a && b) ≡ true
both_and a b of_a of_b = ap (λ (q : Bool). q && b) of_a ∙ of_b

map_flat : {X Y A : Type 0} (g : X → A) (f : Y → List X) (ys : List Y) → flat_map (λ y. map g (f y)) ys ≡ map g (flat_map f ys)
map_flat g f [] = refl
map_flat {X} {Y} {A} g f (y ∷ ys) = ap (λ (l : List A). map g (f y) ++ l) (map_flat g f ys) ∙ sym (map-append g (f y) (flat_map f ys))

module _ (trace : List Event) (numbers : List ℕ) (x e : ℕ) (writes : Bool) (entries : List Entry) (are : AreEntries trace numbers x writes entries) (access : variable_at trace e ≡ Some x) (kind : writes_at trace x e ≡ writes) where
  abbrev races : ℕ → Bool
  races i = is_race trace i e

  abbrev event : Entry → ℕ
  event entry = entry.event

  abbrev rival : ℕ → Bool
  rival i = accesses_at trace x i && (writes || writes_at trace x i)

  rival_test : (v : ℕ) → Race trace v e → rival v ≡ true
  rival_test v race =
      let same : race.conflict.variable ≡ x = (let s : Some race.conflict.variable ≡ Some x = sym race.conflict.second_accesses ∙ access in cc) in
      both_and (accesses_at trace x v) (writes || writes_at trace x v)
      (test_from_access trace x v (race.conflict.first_accesses ∙ ap (λ (y : ℕ). Some y) same))
      (one_or writes (writes_at trace x v) (elim race.conflict.one_writes [
        | inl first ↦ inr (test_of_write trace x v (first ∙ ap (λ (y : ℕ). Some (Write y)) same))
        | inr second ↦ inl (sym kind ∙ test_of_write trace x e (second ∙ ap (λ (y : ℕ). Some (Write y)) same))
      ]))

  there : (v : ℕ) → Contains (filter races (map event entries)) v → Contains (numbers_where races e) v
  there v c =
      let parts = filter_parts races (map event entries) v c in
      let race = (reflect_race trace v e).0 parts.1 in
      ((numbers_listed races e).members v).1 (race.earlier, parts.1)

  back : (v : ℕ) → Contains (numbers_where races e) v → Contains (filter races (map event entries)) v
  back v c =
      let passes = (((numbers_listed races e).members v).0 c).1 in
      let race = (reflect_race trace v e).0 passes in
      let at = event_at_access trace v race.conflict.variable race.conflict.first_accesses in
      let within = slice_get_within trace v at.0 at.1 in
      let own = ((numbers_listed rival (length trace)).members v).1 (within, rival_test v race) in
      filter_keeps races (map event entries) v (Contains-permutation (rivals trace x writes) (map event entries) v (IsPermutation-sym (map event entries) (rivals trace x writes) are.events) own) passes

  apart : AllPairs (λ (a b : ℕ). a ≢ b) (filter races (map event entries))
  apart = AllPairs-filter (λ (a b : ℕ). a ≢ b) races (map event entries)
      (moved_differ (rivals trace x writes) (map event entries) (below_differ (rivals trace x writes) (AllPairs-from_increasing (rivals trace x writes) (numbers_listed rival (length trace)).rising))
      (IsPermutation-sym (map event entries) (rivals trace x writes) are.events))

  in_windows : (windows : List Window) → AreWindows trace e entries windows → flat_map (λ (window : Window). map event (slice_range entries window.start window.end)) windows ≡ filter races (map event entries)
  in_windows windows have =
      map_flat event (range_of entries) windows
      ∙ (ap (map event) (sym (window_filter entries (λ (entry : Entry). races entry.event) windows have.within have.apart have.racing))
      ∙ map_filter event races entries)

  -- the events of the entries in its windows, sorted, are those that race with it
  pub windows_sorted : (windows : List Window) (before found sorted : List ℕ) → AreWindows trace e entries windows → before ≡ []
      → found ≡ before ++ flat_map (λ (window : Window). map (λ (entry : Entry). entry.event) (slice_range entries window.start window.end)) windows → IsPermutation found sorted → IsNonDecreasing sorted → sorted ≡ numbers_where (λ i. is_race trace i e) e
  windows_sorted windows before found sorted have empty is moved up =
      let are_found : found ≡ filter races (map event entries) = is ∙ (ap (λ (l : List ℕ). l ++ flat_map (λ (window : Window). map event (slice_range entries window.start window.end)) windows) empty ∙ in_windows windows have) in
      sorted_is (numbers_where races e) found sorted
      (AllPairs-from_increasing (numbers_where races e) (numbers_listed races e).rising)
      (subst (AllPairs (λ (a b : ℕ). a ≢ b)) (sym are_found) apart)
      (λ v. ((λ c. there v (subst (λ (l : List ℕ). Contains l v) are_found c)), (λ c. subst (λ (l : List ℕ). Contains l v) (sym are_found) (back v c))))
      moved up

pairs_of_races : (x e : ℕ) (found : List ℕ) → map pair_in (map (λ i. race_of x e i) found) ≡ map (λ i. (i, e)) found
pairs_of_races x e [] = refl
pairs_of_races x e (i ∷ found) = ap (λ (l : List (ℕ × ℕ)). (i, e) ∷ l) (pairs_of_races x e found)

-- the races of one access more
pub races_next : (trace : List Event) (list : List ListedAccess) (access : ListedAccess) (before after : List ListedRace) (found : List ℕ) → map pair_in before ≡ races_of trace list → found ≡ numbers_where (λ i. is_race trace i access.event) access.event
    → after ≡ before ++ map (λ i. race_of access.variable access.event i) found → map pair_in after ≡ races_of trace (list ++ access ∷ [])
unfolding races_with
races_next trace list access before after found so_far is more =
    ap (map pair_in) more
    ∙ (map-append pair_in before (map (λ i. race_of access.variable access.event i) found)
    ∙ (ap (λ (l : List (ℕ × ℕ)). l ++ map pair_in (map (λ i. race_of access.variable access.event i) found)) so_far
    ∙ (ap (λ (l : List (ℕ × ℕ)). races_of trace list ++ l) (pairs_of_races access.variable access.event found ∙ (ap (map (λ i. (i, access.event))) is ∙ sym (append-nil (races_with trace access.event))))
    ∙ (sym (flat_map-append (races_with trace) (map event_of list) (access.event ∷ []))
    ∙ ap (flat_map (races_with trace)) (sym (map-append event_of list (access ∷ [])))))))

-- ---- pieces

-- part of them can be found too
pub found_within : (ordered : ListedTrace) (flags : List Bool) (numbers : List ℕ) (accesses : Accesses) (list : List ListedAccess) (from to : ℕ) → CanBeFound ordered flags numbers accesses list → CanBeFound ordered flags numbers accesses (slice_range list from to)
found_within ordered flags numbers accesses list from to h = record {
  kept = h.kept;
  each = All-take (IsListed ordered.trace flags numbers) (to - from) (drop from list) (All-drop (IsListed ordered.trace flags numbers) from list h.each);
  asked = All-take (λ (access : ListedAccess). is_listed ordered.events access.event ≡ true) (to - from) (drop from list) (All-drop (λ (access : ListedAccess). is_listed ordered.events access.event ≡ true) from list h.asked);
}

pub races_append : (trace : List Event) (xs ys : List ListedAccess) → races_of trace (xs ++ ys) ≡ races_of trace xs ++ races_of trace ys
races_append trace xs ys = ap (flat_map (races_with trace)) (map-append event_of xs ys) ∙ flat_map-append (races_with trace) (map event_of xs) (map event_of ys)

module _ (work : FindWork) where
  pieces_joined : (n : ℕ) → flat_map (λ (l : List (ℕ × ℕ)). l) (values_of (piece_races work) n) ≡ races_of work.trace (flat_map (λ (l : List ListedAccess). l) (values_of (piece work.size work.list) n))
  pieces_joined zero = refl
  pieces_joined (suc n) =
      flat_map-append (λ (l : List (ℕ × ℕ)). l) (values_of (piece_races work) n) (piece_races work n ∷ [])
      ∙ (ap (λ (l : List (ℕ × ℕ)). l ++ (piece_races work n ++ [])) (pieces_joined n)
      ∙ (ap (λ (l : List (ℕ × ℕ)). races_of work.trace (flat_map (λ (k : List ListedAccess). k) (values_of (piece work.size work.list) n)) ++ l) (append-nil (piece_races work n))
      ∙ (sym (races_append work.trace (flat_map (λ (k : List ListedAccess). k) (values_of (piece work.size work.list) n)) (piece work.size work.list n))
      ∙ ap (races_of work.trace) (ap (λ (l : List ListedAccess). flat_map (λ (k : List ListedAccess). k) (values_of (piece work.size work.list) n) ++ l) (sym (append-nil (piece work.size work.list n)))
      ∙ sym (flat_map-append (λ (k : List ListedAccess). k) (values_of (piece work.size work.list) n) (piece work.size work.list n ∷ []))))))

  flat_joined : (parts : List (Vec ListedRace Global)) → flat_map (λ (part : Vec ListedRace Global). map pair_in part.items) parts ≡ flat_map (λ (l : List (ℕ × ℕ)). l) (map (λ (part : Vec ListedRace Global). map pair_in part.items) parts)
  flat_joined [] = refl
  flat_joined (part ∷ parts) = ap (λ (l : List (ℕ × ℕ)). map pair_in part.items ++ l) (flat_joined parts)

  -- what is found of all pieces is what is wanted
  pub parts_found : (trace : List Event) (list : List ListedAccess) (parts : List (Vec ListedRace Global)) → work.trace ≡ trace → work.list ≡ list → length list ≤ work.size * work.pieces
      → map (λ (part : Vec ListedRace Global). map pair_in part.items) parts ≡ values_of (piece_races work) work.pieces → flat_map (λ (part : Vec ListedRace Global). map pair_in part.items) parts ≡ races_of trace list
  parts_found trace list parts of_trace of_list enough are =
      let long = ap length of_list in
      flat_joined parts
      ∙ (ap (flat_map (λ (l : List (ℕ × ℕ)). l)) are
      ∙ (pieces_joined work.pieces
      ∙ (ap (races_of work.trace) (pieces_all work.size work.list work.pieces (omega (arith, enough, long)) ∙ of_list)
      ∙ ap (λ (t : List Event). races_of t list) of_trace)))
