-- Accesses, sorted by variable and event, are the accesses in the order of the race list.
use Rattle.std.proofs.Common.{◌≡◌, ◌≢◌, ℕ, ◌<◌, ◌⊎◌, inl, inr, Bool, true, false, List, [], ◌∷◌, Some, length, map, get_or, refl, arith, ap, sym, subst, ◌∙◌}
use Rattle.std.specs.Prelude.{All, AllPairs, Contains}
use Rattle.std.specs.Cmp.{IsTotalOrder, bool_cmp_total}
use Rattle.std.specs.List.Sorted.{IsPermutation, IsSorted}
use Rattle.std.specs.Ordering.{bool_cmp, is_lt, nat_cmp, ordering_then}
use Rattle.std.specs.declared.cmp.Ordering.{Ordering}
use Rattle.std.proofs.lemmas.Cmp.{nat_cmp_total, on_total, then_total}
use Rattle.std.proofs.lemmas.Grind.{common_steps}
use Rattle.std.proofs.lemmas.List.{get_or-map, length-map}
use Rattle.std.proofs.lemmas.List.Elements.{All-contains, Contains-get_or}
use Rattle.std.proofs.lemmas.List.Kept.{AllPairs-from_increasing}
use Rattle.std.proofs.lemmas.List.Sorted.{All-permutation, Contains-permutation, IsPermutation-map, IsPermutation-sym, IsPermutation-trans, ranks_by, sorted_far}
use Rattle.shb_lines.specs.declared.event.Event.{Event}
use Rattle.shb_lines.specs.events.Race.{variable_at}
use Rattle.shb_lines.specs.events.Reach.{numbers_where}
use Rattle.shb_lines.proofs.events.Increasing.{same_in_order}
use Rattle.shb_lines.proofs.events.Reach.{numbers_listed}
use Rattle.shb_stamps.specs.Accesses.{accesses_at, accesses_in, races_with}
use Rattle.shb_stamps.specs.Open.{accesses_open, is_open}
use Rattle.shb_stamps.proofs.FlatMaps.{flat_map_ordered, map_parts}
use Rattle.shb_stamps.proofs.Listing.{access_member}
use Rattle.shb_counts.specs.Accesses.{AreAccesses, IsAccess}
use Rattle.shb_lists.specs.Found.{AreListed, AreVariables, IsListed, access_in, event_of, listed}
use Rattle.shb_counts.specs.declared.accesses.Access.{Access}
use Rattle.shb_counts.specs.declared.accesses.Accesses.{Accesses}
use Rattle.shb_lists.specs.declared.by_event.ListedAccess.{ListedAccess}
use Rattle.shb_counts.proofs.ListedLemmas.{each_open, list_permuted}
use Rattle.shb_lists.proofs.SortedLemmas.{below_differ, moved_differ}

-- ---- the order of listed accesses

abbrev pub listed_cmp : ListedAccess → ListedAccess → Ordering
listed_cmp a b = ordering_then (nat_cmp a.variable b.variable) (ordering_then (nat_cmp a.event b.event) (ordering_then (nat_cmp a.thread b.thread) (ordering_then (nat_cmp a.location b.location) (ordering_then (nat_cmp a.races b.races) (bool_cmp a.writes b.writes)))))

pub listed_total : IsTotalOrder listed_cmp
listed_total = then_total (on_total (λ (a : ListedAccess). a.variable) nat_cmp_total) (then_total (on_total (λ (a : ListedAccess). a.event) nat_cmp_total) (then_total (on_total (λ (a : ListedAccess). a.thread) nat_cmp_total)
    (then_total (on_total (λ (a : ListedAccess). a.location) nat_cmp_total) (then_total (on_total (λ (a : ListedAccess). a.races) nat_cmp_total) (on_total (λ (a : ListedAccess). a.writes) bool_cmp_total)))))

two_not_less : (s t d e : ℕ) (rest : Ordering) → is_lt (ordering_then (nat_cmp t s) (ordering_then (nat_cmp e d) rest)) ≡ false → d ≢ e → (s < t) ⊎ ((s ≡ t) × (d < e))
two_not_less s t d e rest not_less other = grind (arith, common_steps)

-- one event stands before another: by the numbers of their variables, then by event
abbrev EventBefore : List Event → ℕ → ℕ → Type 0
EventBefore trace d e = (x y : ℕ) → variable_at trace d ≡ Some x → variable_at trace e ≡ Some y → (x < y) ⊎ ((x ≡ y) × (d < e))

not_both : (x y d e : ℕ) → (x < y) ⊎ ((x ≡ y) × (d < e)) → (y < x) ⊎ ((y ≡ x) × (e < d)) → ⊥
not_both x y d e low high = grind (arith, common_steps)

same_variable : {x y : ℕ} → Some x ≡ Some y → x ≡ y
same_variable is = cc

-- those of variable after variable stand in this order
listed_ordered : (trace : List Event) (flags : List Bool) (variables : ℕ) → AllPairs (EventBefore trace) (listed trace flags variables)
listed_ordered trace flags variables = flat_map_ordered (EventBefore trace) (accesses_in trace) (numbers_where (is_open flags) variables)
    (λ z c i j d lt within x y of_x of_y.
    let at_i = access_member trace z (get_or (accesses_in trace z) i d) (Contains-get_or (accesses_in trace z) i d (omega (arith, lt, within))) in
    let at_j = access_member trace z (get_or (accesses_in trace z) j d) (Contains-get_or (accesses_in trace z) j d within) in
    inr (same_variable (sym of_x ∙ (at_i ∙ (sym at_j ∙ of_y))), AllPairs-from_increasing (accesses_in trace z) (numbers_listed (accesses_at trace z) (length trace)).rising i j d lt within))
    (λ i j d lt within a b ca cb x y of_x of_y.
    let first = same_variable (sym of_x ∙ access_member trace _ a ca) in
    let second = same_variable (sym of_y ∙ access_member trace _ b cb) in
    let rising = AllPairs-from_increasing (numbers_where (is_open flags) variables) (numbers_listed (is_open flags) variables).rising i j d lt within in
    inl (omega (arith, first, second, rising)))

-- ---- all accesses

module _ (trace : List Event) (flags : List Bool) (numbers : List ℕ) (variables : ℕ) (accesses : Accesses) (are : AreAccesses trace flags numbers accesses) (within : AreVariables trace variables) where
  -- each with how many races it has
  pub each_listed : (made : List ListedAccess) (races : List ℕ) → map access_in made ≡ accesses.list.items → map (λ (a : ListedAccess). a.races) made ≡ races → races ≡ map (λ (a : Access). length (races_with trace a.event)) accesses.list.items → All (IsListed trace flags numbers) made
  each_listed made races is counts known k d lt =
      let list = accesses.list.items in
      let long : length made ≡ length list = sym (length-map made access_in) ∙ ap length is in
      let inside : k < length list = omega (arith, long, lt) in
      let at : get_or list k (access_in d) ≡ access_in (get_or made k d) = ap (λ (l : List Access). get_or l k (access_in d)) (sym is) ∙ get_or-map access_in made k d (access_in d) lt in
      let count : (get_or made k d).races ≡ length (races_with trace (get_or list k (access_in d)).event) =
      sym (get_or-map (λ (a : ListedAccess). a.races) made k d 0 lt) ∙ (ap (λ (l : List ℕ). get_or l k 0) (counts ∙ known) ∙ get_or-map (λ (a : Access). length (races_with trace a.event)) list k (access_in d) 0 inside) in
      record {
        of_trace = subst (IsAccess trace numbers) at (are.each k (access_in d) inside);
        opened = subst (λ (a : Access). is_open flags a.variable ≡ true) at (each_open trace flags numbers accesses are k (access_in d) inside);
        races = subst (λ (a : Access). (get_or made k d).races ≡ length (races_with trace a.event)) at count;
      }

  events_moved : (made sorted : List ListedAccess) → map access_in made ≡ accesses.list.items → IsPermutation made sorted → IsPermutation (listed trace flags variables) (map event_of sorted)
  events_moved made sorted is moved =
      IsPermutation-trans (listed trace flags variables) (map (λ (a : Access). a.event) accesses.list.items) (map event_of sorted)
      (IsPermutation-sym _ _ (list_permuted trace flags numbers accesses variables are within))
      (subst (λ (l : List ℕ). IsPermutation l (map event_of sorted)) (same made ∙ ap (map (λ (a : Access). a.event)) is) (IsPermutation-map event_of made sorted moved))
    where
      same : (l : List ListedAccess) → map event_of l ≡ map (λ (a : Access). a.event) (map access_in l)
      same [] = refl
      same (a ∷ l) = ap (λ (r : List ℕ). a.event ∷ r) (same l)

  differ : AllPairs (λ (a b : ℕ). a ≢ b) (listed trace flags variables)
  differ = moved_differ (numbers_where (accesses_open flags trace) (length trace)) (listed trace flags variables)
      (below_differ _ (AllPairs-from_increasing _ (numbers_listed (accesses_open flags trace) (length trace)).rising))
      (IsPermutation-trans _ _ _ (IsPermutation-sym _ _ are.events) (list_permuted trace flags numbers accesses variables are within))

  sorted_ordered : (sorted : List ListedAccess) → All (IsListed trace flags numbers) sorted → AllPairs (λ (a b : ℕ). a ≢ b) (map event_of sorted) → IsSorted listed_cmp sorted → AllPairs (EventBefore trace) (map event_of sorted)
  sorted_ordered sorted each apart up i j e lt inside x y of_x of_y =
      let long = length-map sorted event_of in
      let low : i < length sorted = omega (arith, long, lt, inside) in
      let high : j < length sorted = omega (arith, long, inside) in
      let d : ListedAccess = record { variable = 0; event = e; thread = 0; location = 0; races = 0; writes = true } in
      let a = get_or sorted i d in
      let b = get_or sorted j d in
      let at_i = get_or-map event_of sorted i d e low in
      let at_j = get_or-map event_of sorted j d e high in
      let upward : is_lt (listed_cmp b a) ≡ false = sorted_far (λ p q. is_lt (listed_cmp p q)) (ranks_by listed_total (λ l. l)) sorted up i j d (omega (arith, lt)) high in
      let other : a.event ≢ b.event = λ same. apart i j e lt inside (at_i ∙ (same ∙ sym at_j)) in
      let of_a = same_variable (sym (each i d low).of_trace.variable ∙ (ap (variable_at trace) (sym at_i) ∙ of_x)) in
      let of_b = same_variable (sym (each j d high).of_trace.variable ∙ (ap (variable_at trace) (sym at_j) ∙ of_y)) in
      by of_a of_b at_i at_j (two_not_less a.variable b.variable a.event b.event _ upward other)
    where
      by : {v w p q m n : ℕ} → v ≡ x → w ≡ y → m ≡ p → n ≡ q → (v < w) ⊎ ((v ≡ w) × (p < q)) → (x < y) ⊎ ((x ≡ y) × (m < n))
      by of_a of_b at_i at_j order = grind (arith, common_steps)

  pub sorted_listed : (made sorted : List ListedAccess) (races : List ℕ) → map access_in made ≡ accesses.list.items → map (λ (a : ListedAccess). a.races) made ≡ races → races ≡ map (λ (a : Access). length (races_with trace a.event)) accesses.list.items
      → IsPermutation made sorted → IsSorted listed_cmp sorted → AreListed trace flags numbers variables sorted
  sorted_listed made sorted races is counts known moved up =
      let each = All-permutation (IsListed trace flags numbers) made sorted moved (each_listed made races is counts known) in
      let events = events_moved made sorted is moved in
      let apart = moved_differ (listed trace flags variables) (map event_of sorted) differ events in
      record {
        events = same_in_order (EventBefore trace) (map event_of sorted) (listed trace flags variables) (strict sorted each) (sorted_ordered sorted each apart up) (listed_ordered trace flags variables)
            (λ v. ((λ c. Contains-permutation (map event_of sorted) (listed trace flags variables) v (IsPermutation-sym _ _ events) c), (λ c. Contains-permutation (listed trace flags variables) (map event_of sorted) v events c)));
        each = each;
      }
    where
      strict : (sorted : List ListedAccess) → All (IsListed trace flags numbers) sorted → (a b : ℕ) → Contains (map event_of sorted) a → Contains (map event_of sorted) b → EventBefore trace a b → EventBefore trace b a → ⊥
      strict sorted each a b ca cb low high =
          let of_a = map_parts event_of sorted a ca in
          let of_b = map_parts event_of sorted b cb in
          let at_a = subst (λ (e : ℕ). variable_at trace e ≡ Some of_a.0.variable) of_a.2 (All-contains (IsListed trace flags numbers) sorted of_a.0 each of_a.1).of_trace.variable in
          let at_b = subst (λ (e : ℕ). variable_at trace e ≡ Some of_b.0.variable) of_b.2 (All-contains (IsListed trace flags numbers) sorted of_b.0 each of_b.1).of_trace.variable in
          not_both of_a.0.variable of_b.0.variable a b (low of_a.0.variable of_b.0.variable at_a at_b) (high of_b.0.variable of_a.0.variable at_b at_a)
