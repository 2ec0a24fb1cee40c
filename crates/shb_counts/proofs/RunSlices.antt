-- A list of accesses is counted run by run.
use Rattle.std.proofs.Common.{◌≡◌, ℕ, ◌+◌, ◌-◌, ◌<◌, ◌≤◌, inl, inr, Bool, true, false, List, ◌++◌, Some, length, map, drop, get_or, arith, ap, sym, subst, ◌∙◌}
use Rattle.std.specs.Prelude.{AllPairs, Contains, flat_map, slice_get, slice_range}
use Rattle.std.proofs.lemmas.List.{map-append}
use Rattle.std.proofs.lemmas.List.Concat.{flat_map-append}
use Rattle.std.proofs.lemmas.List.Elements.{All-drop, All-take, Contains-get_or}
use Rattle.std.proofs.lemmas.Option.{slice_get-get_or}
use Rattle.shb_lines.specs.declared.event.Event.{Event}
use Rattle.shb_lines.specs.declared.event.Pair.{Pair}
use Rattle.shb_stamps.specs.Accesses.{races_with}
use Rattle.shb_stamps.specs.Listed.{ListedTrace, is_listed}
use Rattle.shb_counts.specs.Accesses.{AreEntries, HasEntries, IsAccess, StandsBefore}
use Rattle.shb_counts.specs.Runs.{AreCountable, AreLike, IsLike, IsRun, IsSummed}
use Rattle.shb_counts.specs.Sums.{AreSumsOf, IsCounted, pairs_of, pairs_with}
use Rattle.shb_counts.specs.declared.accesses.Access.{Access}
use Rattle.shb_counts.specs.declared.accesses.Accesses.{Accesses}
use Rattle.shb_counts.specs.declared.accesses.Entries.{Entries}
use Rattle.shb_counts.specs.declared.accesses.Entry.{Entry}
use Rattle.shb_counts.specs.declared.runs.Counted.{Counted}
use Rattle.shb_counts.specs.declared.runs.RunSums.{RunSums}
use Rattle.shb_counts.proofs.RunLemmas.{get_slice, length_slice}
use Rattle.shb_counts.proofs.SliceLemmas.{slice_whole, slices_joined}

-- accesses that are alike stand in trace order
later_event : (a b : Access) → IsLike a b → StandsBefore a b → a.event < b.event
later_event a b like (inl less) = let same = like.variable in absurd (omega (arith, less, same))
later_event a b like (inr (_, inl less)) = let same = like.location in absurd (omega (arith, less, same))
later_event a b like (inr (_, inr (_, inl (reads, writes)))) = absurd (let bad : true ≡ false = sym writes ∙ (like.writes ∙ reads) in cc)
later_event a b like (inr (_, inr (_, inr (_, less)))) = less

module _ (ordered : ListedTrace) (flags : List Bool) (numbers : List ℕ) (accesses : Accesses) (list : List Access) (is : AreCountable ordered flags numbers accesses list) where
  -- the entries of the variable of an access are there
  pub variable_there : (k : ℕ) (d : Access) → k < length list → (get_or list k d).variable < length accesses.by_variable.items
  variable_there k d lt = is.kept.each_variable (get_or list k d).variable (get_or list k d).event (is.each k d lt).variable

  pub has_entries : (k : ℕ) (d : Access) (entries : Entries) → k < length list → slice_get accesses.by_variable.items (get_or list k d).variable ≡ Some entries → HasEntries ordered.trace numbers (get_or list k d).variable entries
  has_entries k d entries lt there = is.kept.entries (get_or list k d).variable entries (is.are_open k d lt) there

  module _ (start end : ℕ) (d : Access) (entries : List Entry) (some : start < end) (within : end ≤ length list) (alike : AreLike list start end) (are : AreEntries ordered.trace numbers (get_or list start d).variable (get_or list start d).writes entries) where
    like_first : (access : Access) → Contains (slice_range list start end) access → IsLike (get_or list start d) access
    like_first access c =
        let p = c.0 in
        let long = length_slice list start end within in
        let lt = c.1 in
        let below : p < end - start = omega (arith, long, lt) in
        let at : slice_get list (start + p) ≡ Some access = slice_get-get_or list (start + p) access (omega (arith, below, within)) ∙ ap (λ (a : Access). Some a) (sym (get_slice list start end p access below) ∙ c.2) in
        alike (start + p) (get_or list start d) access (slice_get-get_or list start d (omega (arith, some, within))) at (omega arith) (omega (arith, below))

    likes : (one access : Access) → Contains (slice_range list start end) one → Contains (slice_range list start end) access → IsLike one access
    likes one access of_one of_access =
        let first = like_first one of_one in
        let second = like_first access of_access in
        record {
          variable = second.variable ∙ sym first.variable;
          location = second.location ∙ sym first.location;
          writes = second.writes ∙ sym first.writes;
        }

    rising : AllPairs (λ a b. a.event < b.event) (slice_range list start end)
    rising p q e less lt =
        let long = length_slice list start end within in
        let at_p = get_slice list start end p e (omega (arith, long, less, lt)) in
        let at_q = get_slice list start end q e (omega (arith, long, lt)) in
        let a = get_or (slice_range list start end) p e in
        let b = get_or (slice_range list start end) q e in
        let like = likes a b (Contains-get_or (slice_range list start end) p e (omega (arith, less, lt))) (Contains-get_or (slice_range list start end) q e lt) in
        let order = is.in_order (start + p) (start + q) e (omega (arith, less)) (omega (arith, long, lt, within)) in
        later_event a b like (subst (λ (x : Access). StandsBefore x b) (sym at_p) (subst (λ (y : Access). StandsBefore (get_or list (start + p) e) y) (sym at_q) order))

    pub slice_run : IsRun ordered numbers entries (slice_range list start end)
    slice_run = record {
      each = All-take (IsAccess ordered.trace numbers) (end - start) (drop start list) (All-drop (IsAccess ordered.trace numbers) start list is.each);
      asked = All-take (λ (access : Access). is_listed ordered.events access.event ≡ true) (end - start) (drop start list) (All-drop (λ (access : Access). is_listed ordered.events access.event ≡ true) start list is.asked);
      alike = likes;
      rising = rising;
      conflicting = λ access c. (
          let like = like_first access c in
          subst (λ (x : ℕ). AreEntries ordered.trace numbers x access.writes entries) (sym like.variable) (subst (λ (w : Bool). AreEntries ordered.trace numbers (get_or list start d).variable w entries) (sym like.writes) are));
    }

pub sums_on : (trace : List Event) (numbers : List ℕ) (list : List Access) (start end : ℕ) (sums : RunSums) → start ≤ end → IsSummed trace numbers (pairs_of trace (slice_range list 0 start) ++ pairs_of trace (slice_range list start end)) sums → IsSummed trace numbers (pairs_of trace (slice_range list 0 end)) sums
sums_on trace numbers list start end sums le h =
    let f = λ (access : Access). pairs_with trace access.event in
    subst (λ (l : List Pair). IsSummed trace numbers l sums) (sym (flat_map-append f (slice_range list 0 start) (slice_range list start end)) ∙ ap (flat_map f) (slices_joined list 0 start end (omega arith) le)) h

pub races_on : (f : Access → ℕ) (list : List Access) (start end : ℕ) (old new : List ℕ) → start ≤ end → old ≡ map f (slice_range list 0 start) → new ≡ old ++ map f (slice_range list start end) → new ≡ map f (slice_range list 0 end)
races_on f list start end old new le were are =
    are ∙ (ap (λ (l : List ℕ). l ++ map f (slice_range list start end)) were
    ∙ (sym (map-append f (slice_range list 0 start) (slice_range list start end)) ∙ ap (map f) (slices_joined list 0 start end (omega arith) le)))

pub list_counted : (trace : List Event) (numbers : List ℕ) (list : List Access) (start : ℕ) (sums : RunSums) (counted : Counted) → length list ≤ start → counted.races.items ≡ map (λ access. length (races_with trace access.event)) (slice_range list 0 start) → counted.sums.items ≡ sums.table.sums.items
    → IsSummed trace numbers (pairs_of trace (slice_range list 0 start)) sums → IsCounted trace numbers list counted
list_counted trace numbers list start sums counted end races same h = record {
  races = races ∙ ap (map (λ (access : Access). length (races_with trace access.event))) (slice_whole list start end);
  sums = subst (λ (l : List Access). AreSumsOf trace numbers (pairs_of trace l) counted.sums.items) (slice_whole list start end) (subst (AreSumsOf trace numbers (pairs_of trace (slice_range list 0 start))) (sym same) h.summed);
}
