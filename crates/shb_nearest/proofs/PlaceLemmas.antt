-- The places of the races so far, after an access more.
use Rattle.std.proofs.Common.{◌≡◌, ℕ, ◌+◌, ◌<◌, ◌≤◌, ◌⊎◌, inl, inr, Bool, List, None, Some, get_or, arith, refl, sym, ap, subst, ◌∙◌}
use Rattle.std.specs.Prelude.{All, option_and_then}
use Rattle.shb_nearest.proofs.Words.{ArePlaces, AreRivals, BelowPred, Contains-get_or, Event, FoundAccess, FoundRace, Groups, HaveSites, IsAtPlace, IsDisciplined, IsFoundAccess, IsKnown, IsNearestAt, IsSince, Place, PlaceEntry, Race, ShbBelow, Spot, below_pred_closed, cases_lt, here, location_in, offered_all, op_at, place_at, place_of, race_at, race_with, step, strictly_below_below, thread_at, thread_below_pred, variable_at, variable_of, variable_part}
use Rattle.shb_nearest.proofs.ClassLemmas.{location_of_access}
use Rattle.shb_nearest.proofs.PlaceTable.{AreOffered, IsCome, offered_are, place_with}
use Rattle.shb_nearest.proofs.RivalLemmas.{variable_is}
use Rattle.shb_nearest.proofs.SiteLemmas.{settled_known}

below_pred_path : (trace : List Event) (a b e : ℕ) → ShbBelow trace a b → BelowPred trace b e → BelowPred trace a e
below_pred_path trace a b e here below = below
below_pred_path trace a b e (step {b = m} edge path) below = below_pred_closed trace a m e edge (below_pred_path trace m b e path below)

-- what races with an access raced with an earlier one that is the same
pub raced_before : (trace : List Event) → IsDisciplined trace → (i before j t : ℕ) → Race trace i j → thread_at trace before ≡ Some t → thread_at trace j ≡ Some t → op_at trace before ≡ op_at trace j → i < before → before < j → Race trace i before
raced_before trace disciplined i before j t race of_before of_j op low high =
    let c = race.conflict in
    record {
      conflict = record {
        variable = c.variable;
        first_accesses = c.first_accesses;
        second_accesses = ap (option_and_then variable_of) op ∙ c.second_accesses;
        one_writes = elim c.one_writes [ inl w ↦ inl w | inr w ↦ inr (op ∙ w) ];
        other_thread = λ same. c.other_thread (same ∙ (of_before ∙ sym of_j));
      };
      earlier = low;
      unordered = λ below. race.unordered (below_pred_path trace i before j (strictly_below_below trace disciplined i before (inl below)) (thread_below_pred trace t before j high of_before of_j));
    }

module _ (by_variable : Bool) (trace : List Event) (disciplined : IsDisciplined trace) (spots : List Spot) (x n : ℕ) (access : FoundAccess) (at_n : access.event ≡ n) (own : IsFoundAccess trace spots x access)
    (old : List PlaceEntry) (are : ArePlaces by_variable trace spots n old) (since : ℕ) (is_since : IsSince trace spots x access since) where
  abbrev early_place : ℕ → Place
  early_place l = place_with l access.spot.location (variable_part by_variable x)

  at_place_from : (k i l : ℕ) → location_in spots i ≡ Some l → location_in spots k ≡ Some access.spot.location → variable_at trace k ≡ Some x → IsAtPlace by_variable trace spots (early_place l) i k
  at_place_from k i l at_i at_k var = record {
    first_is = at_i;
    second_is = at_k;
    variable_is = λ y is. (let same : y ≡ x = (let s : Some y ≡ Some x = sym is ∙ var in cc) in ap (variable_part by_variable) same);
  }

  -- a race with an access before `since` has a place that is known
  pub since_known : (i l : ℕ) → Race trace i access.event → location_in spots i ≡ Some l → i < since → IsKnown old (early_place l)
  since_known i l race at low = elim is_since [
    | inl none ↦ absurd (omega (arith, none, low))
    | inr class ↦ (
        let lt = class.1 in
        let before = raced_before trace disciplined i since access.event access.thread race class.0.thread_is own.thread_is (class.0.op_is ∙ sym own.op_is) low lt in
        are.known (early_place l) i since (omega (arith, lt, at_n)) before
        (at_place_from since i l at class.0.location_is (ap (option_and_then variable_of) (class.0.op_is ∙ sym own.op_is) ∙ variable_is trace spots x access own)))
  ]

module _ (by_variable : Bool) (trace : List Event) (disciplined : IsDisciplined trace) (spots : List Spot) (x n : ℕ) (access : FoundAccess) (at_n : access.event ≡ n) (own : IsFoundAccess trace spots x access) (since : ℕ)
    (old : List PlaceEntry) (are : ArePlaces by_variable trace spots n old) (early_known : (i l : ℕ) → Race trace i access.event → location_in spots i ≡ Some l → i < since → IsKnown old (place_with l access.spot.location (variable_part by_variable x)))
    (groups : Groups) (sites : HaveSites by_variable x old groups) (rivals : List FoundAccess) (rivals_are : AreRivals trace spots x groups access since rivals) where
  come : AreOffered by_variable old x access rivals (offered_all by_variable x access old rivals)
  come = offered_are by_variable old x access (λ p r at. (let past = (are.each p r at).past in omega (arith, past, at_n))) rivals

  own_place : location_in spots access.event ≡ Some access.spot.location
  own_place = location_of_access trace spots x access own

  -- the place of a race with the access, by the location of its earlier event
  abbrev place_from : ℕ → Place
  place_from l = place_with l access.spot.location (variable_part by_variable x)

  -- a pair with the access is at the place of the location of its first event
  from_location : (p : Place) (i : ℕ) → IsAtPlace by_variable trace spots p i access.event → place_from p.first ≡ p
  from_location p i at =
      let m : access.spot.location ≡ p.second = (let s : Some access.spot.location ≡ Some p.second = sym own_place ∙ at.second_is in cc) in
      let v = at.variable_is x (variable_is trace spots x access own) in
      λ j. place_with p.first (m j) (v j)

  old_nearest : (p : Place) (r : FoundRace) → IsNearestAt by_variable trace spots n p r → IsNearestAt by_variable trace spots (n + 1) p r
  old_nearest p r h = record {
    accesses = h.accesses;
    place_is = h.place_is;
    is_race = h.is_race;
    past = (let lt = h.past in omega (arith, lt));
    nearest = λ k l within race at. elim (cases_lt l n) [
      | inl low ↦ h.nearest k l low race at
      | inr high ↦ inl (let lt = h.past in omega (arith, lt, high))
    ];
  }

  new_nearest : (p : Place) (r : FoundRace) → IsCome by_variable old x access rivals p r → IsNearestAt by_variable trace spots (n + 1) p r
  new_nearest p r h = subst (λ (q : Place). IsNearestAt by_variable trace spots (n + 1) q r) (sym h.place_is) (subst (λ (s : FoundRace). IsNearestAt by_variable trace spots (n + 1) (place_of by_variable (race_with x access h.first)) s) (sym h.race_is) (record {
    accesses = record { first_is = rival.0; second_is = own };
    place_is = refl;
    is_race = rival.1;
    past = omega (arith, at_n);
    nearest = nearest;
  }))
    where
      rival : IsFoundAccess trace spots x h.first × Race trace h.first.event access.event
      rival = rivals_are.races h.first h.among

      unknown : race_at old (place_from h.first.spot.location) ≡ None
      unknown = subst (λ (q : Place). race_at old q ≡ None) h.place_is h.unknown

      never : (race : FoundRace) × (race_at old (place_from h.first.spot.location) ≡ Some race) → ⊥
      never known = let a = known.1 in (let f : ⊥ = cc in f)

      last : (k : ℕ) → Race trace k access.event → location_in spots k ≡ Some h.first.spot.location → k ≤ h.first.event
      last k race at_k = elim (cases_lt k since) [
        | inl low ↦ absurd (never (early_known k h.first.spot.location race at_k low))
        | inr high ↦ (
            elim (rivals_are.each k h.first.spot.location race at_k high) [
              | inl a ↦ (let le = h.greatest a.0 a.1 a.2 in let more = a.3 in omega (arith, le, more))
              | inr settled ↦ absurd (never (settled_known by_variable x old groups h.first.spot.location access.spot.location sites settled))
            ])
      ]

      nearest : (k l : ℕ) → l < n + 1 → Race trace k l → IsAtPlace by_variable trace spots (place_from h.first.spot.location) k l → (access.event < l) ⊎ ((access.event ≡ l) × (k ≤ h.first.event))
      nearest k l within race at = elim (cases_lt l n) [
        | inl low ↦ absurd (never (are.known (place_from h.first.spot.location) k l low race at))
        | inr high ↦ (let same : access.event ≡ l = omega (arith, at_n, high, within) in inr (same, last k (subst (λ (m : ℕ). Race trace k m) (sym same) race) at.first_is))
      ]

  -- what was known stays so, and the places of the rivals are known
  pub placed_stay : (p : Place) → IsKnown old p → IsKnown (offered_all by_variable x access old rivals) p
  placed_stay p h = (h.0, come.stay p h.0 h.1)

  pub placed_rivals : All (λ (a : FoundAccess). IsKnown (offered_all by_variable x access old rivals) (place_at by_variable x a.spot.location access.spot.location)) rivals
  placed_rivals k d lt = come.known (get_or rivals k d) (Contains-get_or rivals k d lt)

  pub placed : ArePlaces by_variable trace spots (n + 1) (offered_all by_variable x access old rivals)
  placed = record {
    each = λ p r at. elim (come.from p r at) [
      | inl in_old ↦ old_nearest p r (are.each p r in_old)
      | inr new_one ↦ new_nearest p r new_one
    ];
    known = known;
  }
    where
      stays : (p : Place) → (race : FoundRace) × (race_at old p ≡ Some race) → (race : FoundRace) × (race_at (offered_all by_variable x access old rivals) p ≡ Some race)
      stays p h = (h.0, come.stay p h.0 h.1)

      here_known : (i l : ℕ) → Race trace i access.event → location_in spots i ≡ Some l → (race : FoundRace) × (race_at (offered_all by_variable x access old rivals) (place_from l) ≡ Some race)
      here_known i l race at = elim (cases_lt i since) [
        | inl low ↦ stays (place_from l) (early_known i l race at low)
        | inr high ↦ (
            elim (rivals_are.each i l race at high) [
              | inl a ↦ (let k = come.known a.0 a.1 in (k.0, subst (λ (m : ℕ). race_at (offered_all by_variable x access old rivals) (place_from m) ≡ Some k.0) a.2 k.1))
              | inr settled ↦ stays (place_from l) (settled_known by_variable x old groups l access.spot.location sites settled)
            ])
      ]

      known : (p : Place) (i j : ℕ) → j < n + 1 → Race trace i j → IsAtPlace by_variable trace spots p i j → (race : FoundRace) × (race_at (offered_all by_variable x access old rivals) p ≡ Some race)
      known p i j within race at = elim (cases_lt j n) [
        | inl low ↦ stays p (are.known p i j low race at)
        | inr high ↦ (
            let same : access.event ≡ j = omega (arith, at_n, high, within) in
            let here = subst (λ (k : ℕ). IsAtPlace by_variable trace spots p i k) (sym same) at in
            subst (λ (q : Place). (r : FoundRace) × (race_at (offered_all by_variable x access old rivals) q ≡ Some r)) (from_location p i here)
            (here_known i p.first (subst (λ (k : ℕ). Race trace i k) (sym same) race) here.first_is))
      ]
