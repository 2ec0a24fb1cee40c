-- Sums of races by place, in order, are what the report says of its places; and all races from the list of accesses.
use Rattle.std.proofs.Common.{◌≡◌, ℕ, suc, Bool, true, List, [], ◌∷◌, Some, map, slice_get, refl, arith, ap, sym, ◌∙◌}
use Rattle.std.specs.Prelude.{All, AllPairs, Contains, flat_map}
use Rattle.std.specs.List.{IsDistinct}
use Rattle.std.specs.Str.{bytes_eq}
use Rattle.shb_lines.specs.declared.event.Event.{Event}
use Rattle.shb_lines.specs.declared.event.Pair.{Pair}
use Rattle.shb_lines.specs.events.Reach.{numbers_where}
use Rattle.shb_lines.specs.text.TraceData.{TraceData}
use Rattle.shb_lines.proofs.events.Increasing.{contains_head}
use Rattle.shb_format.specs.Keyed.{AreKeyed, Key, Keyed, with_keyed}
use Rattle.shb_format.specs.Places.{PlaceOf, counts_in, location_at, places_after, places_of_pairs, with_pair}
use Rattle.shb_format.specs.declared.places.PlaceCount.{PlaceCount}
use Rattle.shb_format.proofs.KeyedLemmas.{keyed_counts, keyed_pair}
use Rattle.shb_stamps.specs.Accesses.{accesses_in, races_with}
use Rattle.shb_stamps.specs.Open.{is_open}
use Rattle.shb_stamps.specs.Settling.{AreOpen}
use Rattle.shb_stamps.proofs.Listing.{races_on, races_on_parts}
use Rattle.shb_counts.specs.PlaceSums.{ArePlaces, keyed_by}
use Rattle.shb_counts.proofs.PlacesOfSums.{IsStrict, place_of_sum, places_are}
use Rattle.shb_counts.proofs.SliceLemmas.{flat_flat, flat_left_out}

-- the key of a pair are the numbers of its two locations
pub record IsLocatedBy (trace : TraceData) (locations : List (List ℕ)) (key : Pair → Key) (pair : Pair) : Type 0 where
  pub first : slice_get locations (key pair).0 ≡ Some (location_at trace pair.first)
  pub second : slice_get locations (key pair).1 ≡ Some (location_at trace pair.second)

counts_of_sums : (key : Pair → Key) (sums : List (Pair × ℕ)) → map (λ (e : Keyed). e.1) (map (place_of_sum key) sums) ≡ map (λ (s : Pair × ℕ). (let c : PlaceCount = record { pair = s.0; count = s.1 } in c)) sums
counts_of_sums key [] = refl
counts_of_sums key (s ∷ sums) = ap (λ (l : List PlaceCount). record { pair = s.0; count = s.1 } ∷ l) (counts_of_sums key sums)

module _ (trace : TraceData) (locations : List (List ℕ)) (key : Pair → Key) (differ : IsDistinct bytes_eq locations) where
  after_keyed : (pairs : List Pair) (keyed : List Keyed) (places : List PlaceOf) → All (IsLocatedBy trace locations key) pairs → AreKeyed locations keyed places → AreKeyed locations (keyed_by key keyed pairs) (places_after trace places pairs)
  after_keyed [] keyed places within same = same
  after_keyed (pair ∷ pairs) keyed places within same =
      let here = within 0 pair (omega arith) in
      after_keyed pairs (with_keyed keyed (key pair) pair) (with_pair places (location_at trace pair.first) (location_at trace pair.second) pair) (λ k d lt. within (suc k) d (omega arith))
      (keyed_pair locations differ (key pair) (location_at trace pair.first) (location_at trace pair.second) here.first here.second pair keyed places same)

  pub report_places : (Le Before : Pair → Pair → Type 0) (pairs : List Pair) (sums : List (Pair × ℕ)) → IsStrict key Le Before pairs → All (IsLocatedBy trace locations key) pairs → ArePlaces key Le pairs sums → AllPairs Before pairs
      → map (λ (s : Pair × ℕ). (let c : PlaceCount = record { pair = s.0; count = s.1 } in c)) sums ≡ counts_in (places_of_pairs trace pairs)
  report_places Le Before pairs sums strict located are rising =
      sym (counts_of_sums key sums)
      ∙ (sym (ap (map (λ (e : Keyed). e.1)) (places_are key Le Before sums pairs strict are rising))
      ∙ keyed_counts locations (keyed_by key [] pairs) (places_of_pairs trace pairs) (after_keyed pairs [] [] located tt))

-- ---- all races from the accesses of open variables

-- by variable, then by event
abbrev pub listed : List Event → List Bool → ℕ → List ℕ
listed trace flags variables = flat_map (accesses_in trace) (numbers_where (is_open flags) variables)

no_members : {X : Type 0} (xs : List X) → ((p : X) → Contains xs p → ⊥) → xs ≡ []
no_members [] none = refl
no_members (x ∷ xs) none = absurd (none x (contains_head x xs))

pub races_listed : (trace : List Event) (flags : List Bool) (variables : ℕ) → AreOpen trace flags → flat_map (races_with trace) (listed trace flags variables) ≡ flat_map (races_on trace) (numbers_where (λ k. true) variables)
races_listed trace flags variables settled =
    flat_flat (races_with trace) (accesses_in trace) (numbers_where (is_open flags) variables)
    ∙ flat_left_out (races_on trace) (is_open flags) variables (λ x lt shut. no_members (races_on trace x) (λ p c. let there = races_on_parts trace x p c in settled x shut p.0 p.1 there.0 there.1))
