-- The accesses of a run, one after the other.
use Rattle.std.proofs.Common.{◌≡◌, ℕ, ◌+◌, ◌<◌, ◌≤◌, List, [], ◌∷◌, ◌++◌, Some, length, map, take, get_or, refl, arith, ap, sym, subst, ◌∙◌, append_assoc}
use Rattle.std.specs.Prelude.{All, flat_map}
use Rattle.std.proofs.lemmas.List.{get_or-take, length-take-le, map-append, take_all, take_more}
use Rattle.std.proofs.lemmas.List.Elements.{All-contains, All-map, All-take, Contains-get_or}
use Rattle.std.proofs.lemmas.Option.{get_or_from_slice_get, slice_get-get_or}
use Rattle.shb_lines.specs.declared.event.Pair.{Pair}
use Rattle.shb_stamps.specs.Listed.{ListedTrace}
use Rattle.shb_counts.specs.Accesses.{IsAccess, IsEntry}
use Rattle.shb_counts.specs.Covers.{IsAt, racing_pairs}
use Rattle.shb_counts.specs.Runs.{IsRun, IsSummed}
use Rattle.shb_counts.specs.Sums.{AreSumsOf, pairs_of, pairs_with}
use Rattle.shb_counts.specs.declared.accesses.Access.{Access}
use Rattle.shb_counts.specs.declared.accesses.Entry.{Entry}
use Rattle.shb_counts.specs.declared.runs.RunSums.{RunSums}
use Rattle.shb_counts.proofs.RunLemmas.{alike_append, alike_flat, alike_self, alike_sums, racing_alike}

abbrev pub events : List Access → List ℕ
events run = map (λ access. access.event) run

pub mapped_more : {X : Type 0} (f : X → ℕ) (old now new : List ℕ) (xs : List X) (k n : ℕ) (d : X) → k < length xs → now ≡ old ++ map f (take k xs) → new ≡ now ++ n ∷ [] → n ≡ f (get_or xs k d) → new ≡ old ++ map f (take (k + 1) xs)
mapped_more f old now new xs k n d lt were are own =
    are ∙ (ap (λ (l : List ℕ). l ++ n ∷ []) were
    ∙ (append_assoc old (map f (take k xs)) (n ∷ [])
    ∙ ap (λ (l : List ℕ). old ++ l) (ap (λ (m : ℕ). map f (take k xs) ++ m ∷ []) own ∙ (sym (map-append f (take k xs) (get_or xs k d ∷ [])) ∙ ap (map f) (sym (take_more xs k d lt))))))

pub events_pushed : (run : List Access) (k : ℕ) (d : Access) → k < length run → events (take k run) ++ (get_or run k d).event ∷ [] ≡ events (take (k + 1) run)
events_pushed run k d lt = sym (ap events (take_more run k d lt) ∙ map-append (λ (access : Access). access.event) (take k run) (get_or run k d ∷ []))

flat_mapped : {X Y A : Type 0} (h : Y → List A) (g : X → Y) (xs : List X) → flat_map h (map g xs) ≡ flat_map (λ x. h (g x)) xs
flat_mapped h g [] = refl
flat_mapped {X} {Y} {A} h g (x ∷ xs) = ap (λ (l : List A). h (g x) ++ l) (flat_mapped h g xs)

module _ (ordered : ListedTrace) (numbers : List ℕ) (entries : List Entry) (run : List Access) (is : IsRun ordered numbers entries run) where
  pub events_low : (k : ℕ) (d : Access) → k < length run → All (λ e. e < (get_or run k d).event) (events (take k run))
  events_low k d lt = All-map (λ (e : ℕ). e < (get_or run k d).event) (λ (access : Access). access.event) (take k run) (λ i d2 within.
      let long = length-take-le k run (omega (arith, lt)) in
      let here : get_or run k d2 ≡ get_or run k d = get_or_from_slice_get run k (get_or run k d) d2 (slice_get-get_or run k d lt) in
      let before : get_or (take k run) i d2 ≡ get_or run i d2 = get_or-take k run i d2 (omega (arith, long, within)) in
      subst (λ (a : Access). a.event < (get_or run k d).event) (sym before) (subst (λ (a : Access). (get_or run i d2).event < a.event) here (is.rising i k d2 (omega (arith, long, within)) lt)))

  pub own_at : (k : ℕ) (d : Access) → k < length run → IsAt ordered.trace numbers (get_or run k d) (get_or run k d).event
  own_at k d lt = let own = is.each k d lt in record { variable = own.variable; location = own.location }

  pub entries_each : (k : ℕ) (d : Access) → k < length run → All (IsEntry ordered.trace numbers) entries
  entries_each k d lt = (is.conflicting (get_or run k d) (Contains-get_or run k d lt)).each

  pub run_at : (k j : ℕ) (d : Access) → j < length run → All (IsAt ordered.trace numbers (get_or run j d)) (events (take k run))
  run_at k j d lt = All-map (IsAt ordered.trace numbers (get_or run j d)) (λ (access : Access). access.event) (take k run) (All-take (λ (access : Access). IsAt ordered.trace numbers (get_or run j d) access.event) k run (λ i d2 within.
      let own = is.each i d2 within in
      let like = is.alike (get_or run j d) (get_or run i d2) (Contains-get_or run j d lt) (Contains-get_or run i d2 within) in
      record {
        variable = own.variable ∙ ap (λ (x : ℕ). Some x) like.variable;
        location = own.location ∙ like.location;
      }))

  pub run_summed : (k : ℕ) (pairs : List Pair) (sums : RunSums) → length run ≤ k → IsSummed ordered.trace numbers (pairs ++ flat_map (racing_pairs ordered.trace entries) (events (take k run))) sums → IsSummed ordered.trace numbers (pairs ++ pairs_of ordered.trace run) sums
  run_summed k pairs sums end h =
      let racing = racing_pairs ordered.trace entries in
      let whole : flat_map racing (events (take k run)) ≡ flat_map (λ (a : Access). racing a.event) run = ap (λ (l : List Access). flat_map racing (events l)) (take_all k run end) ∙ flat_mapped racing (λ (a : Access). a.event) run in
      record {
        summed = alike_sums ordered.trace numbers (pairs ++ flat_map (λ (a : Access). racing a.event) run) (pairs ++ pairs_of ordered.trace run) sums.table.sums.items
            (alike_append pairs pairs (flat_map (λ (a : Access). racing a.event) run) (pairs_of ordered.trace run) (alike_self pairs)
            (alike_flat (λ (a : Access). racing a.event) (λ (a : Access). pairs_with ordered.trace a.event) run (λ a c. racing_alike ordered.trace numbers a entries (All-contains (IsAccess ordered.trace numbers) run a is.each c) (is.conflicting a c))))
            (subst (λ (l : List Pair). AreSumsOf ordered.trace numbers (pairs ++ l) sums.table.sums.items) whole h.summed);
        cover = h.cover;
      }
