-- Numbers of locations tell the same places as the locations do, with variables and without.
use Rattle.std.specs.Prelude.{All}
use Rattle.std.proofs.Common.{◌≡◌, ◌<◌, ◌↔◌, ℕ, Bool, false, List, length, map, get_or, option_and_then, Option, Some, slice_get, sym, ap, subst, ◌∙◌, arith}
use Rattle.shb_scan.proofs.Words.{AreKeyed, AreLocated, AreNearestRaces, AreSpots, Event, FoundScan, HasEnded, HasSearched, IsDistinct, IsFoundIn, IsRaceLocated, OwnedNames, Race, Scan, Spot, TraceData, bytes_eq, ends_of, lines_of, location_at, location_in, one_number, places_in, site_at, site_in, slice_get-get_or, slice_get_within, tables_of, variable_at}
use Rattle.shb_nearest.specs.Nearest.{AreNearest, IsNearest}
use Rattle.shb_scan.proofs.FoundNames.{races_located}
use Rattle.shb_scan.proofs.Pushes.{accessing}
use Rattle.shb_scan.proofs.Taking.{events_count}

-- where two locations are alike by one way exactly where they are by the other, the nearest races are the same
module _ {A B : Type 0} (events : List Event) (f : ℕ → A) (g : ℕ → B) (IsAsked : ℕ → Type 0) (asked : (i j : ℕ) (race : Race events i j) → IsAsked race.conflict.variable)
    (alike : (k i x y : ℕ) → variable_at events k ≡ Some x → variable_at events i ≡ Some y → IsAsked x → IsAsked y → (f k ≡ f i) ↔ (g k ≡ g i)) where
  same_first : (i j k l : ℕ) → Race events i j → Race events k l → (f k ≡ f i) ↔ (g k ≡ g i)
  same_first i j k l one other = alike k i other.conflict.variable one.conflict.variable other.conflict.first_accesses one.conflict.first_accesses (asked k l other) (asked i j one)

  same_second : (i j k l : ℕ) → Race events i j → Race events k l → (f l ≡ f j) ↔ (g l ≡ g j)
  same_second i j k l one other = alike l j other.conflict.variable one.conflict.variable other.conflict.second_accesses one.conflict.second_accesses (asked k l other) (asked i j one)

  to_g : (i j : ℕ) → IsNearest events f i j → IsNearest events g i j
  to_g i j h = record { race = h.race; nearest = λ k l race at and. h.nearest k l race ((same_first i j k l h.race race).1 at) ((same_second i j k l h.race race).1 and) }

  to_f : (i j : ℕ) → IsNearest events g i j → IsNearest events f i j
  to_f i j h = record { race = h.race; nearest = λ k l race at and. h.nearest k l race ((same_first i j k l h.race race).0 at) ((same_second i j k l h.race race).0 and) }

  pub nearest_by : (races : List (ℕ × ℕ)) → AreNearest events f races → AreNearest events g races
  nearest_by races h = record { all = λ i j. (λ has. to_g i j ((h.all i j).0 has), λ is. (h.all i j).1 (to_f i j is)); in_order = h.in_order }

-- accesses of these variables have one number exactly where they have one location
module _ (IsAsked : ℕ → Type 0) (trace : TraceData) (names : List (List ℕ)) (spots : List Spot) (distinct : IsDistinct bytes_eq names) (many : length spots ≡ length trace.events) (located : AreLocated IsAsked trace names spots) where
  spot_at : (k x : ℕ) → variable_at trace.events k ≡ Some x → IsAsked x → (s : Spot) × (location_in spots k ≡ Some s.location) × (slice_get names s.location ≡ Some (location_at trace k))
  spot_at k x var is_asked =
      let e = accessing trace.events k x var in
      let within : k < length spots = omega (arith, slice_get_within trace.events k e.0 e.1, many) in
      let s : Spot = get_or spots k (record { location = 0; barred = false }) in
      let at : slice_get spots k ≡ Some s = slice_get-get_or spots k (record { location = 0; barred = false }) within in
      (s, ap (λ (o : Option Spot). option_and_then (λ (s : Spot). Some s.location) o) at, located k x s var is_asked at)

  alike : (k i x y : ℕ) → variable_at trace.events k ≡ Some x → variable_at trace.events i ≡ Some y → IsAsked x → IsAsked y → (location_in spots k ≡ location_in spots i) ↔ (location_at trace k ≡ location_at trace i)
  alike k i x y first second one other =
      let a = spot_at k x first one in
      let b = spot_at i y second other in (
        (λ same.
            let numbers : Some a.0.location ≡ Some b.0.location = sym a.1 ∙ same ∙ b.1 in
            let number : a.0.location ≡ b.0.location = cc in
            let both : Some (location_at trace k) ≡ Some (location_at trace i) = sym a.2 ∙ ap (slice_get names) number ∙ b.2 in
            cc),
        (λ same.
            let number : a.0.location ≡ b.0.location = one_number names (location_at trace i) a.0.location b.0.location distinct (a.2 ∙ ap (λ (l : List ℕ). Some l) same) b.2 in
            a.1 ∙ ap (λ (n : ℕ). Some n) number ∙ sym b.1),
      )

  pub sites_alike : (by_variable : Bool) (k i x y : ℕ) → variable_at trace.events k ≡ Some x → variable_at trace.events i ≡ Some y → IsAsked x → IsAsked y → (site_in by_variable trace.events spots k ≡ site_in by_variable trace.events spots i) ↔ (site_at by_variable trace k ≡ site_at by_variable trace i)
  sites_alike by_variable k i x y first second one other =
      let both = alike k i x y first second one other in (
        (λ same. let locations = both.0 (ap (λ (s : Option ℕ × Option ℕ). s.0) same) in λ m. (locations m, (same m).1)),
        (λ same. let locations = both.1 (ap (λ (s : List ℕ × Option ℕ). s.0) same) in λ m. (locations m, (same m).1)),
      )

-- what was found in a text that has ended
pub found_in : (text : List ℕ) (left : Option (List ℕ)) (scan : Scan) (found : FoundScan) → HasEnded text left scan → found.reader ≡ scan.reader → found.locations ≡ scan.locations → scan.nearest.by_variable ≡ found.by_variable
    → ((past : List Event) (spots : List Spot) → HasSearched past spots scan.nearest → AreNearestRaces scan.nearest.by_variable past spots found.races.items)
    → ((trace : TraceData) (locations : List (List ℕ)) → IsDistinct bytes_eq locations → All (IsRaceLocated locations trace) found.races.items → AreKeyed locations found.places (places_in trace found.races.items))
    → IsFoundIn text found
found_in text left scan found h reader locations form races places =
    let s = h.scanned in
    let located : AreSpots s.trace found.locations s.spots = subst (λ l. AreSpots s.trace l s.spots) (sym locations) s.noted.located in
    let count : scan.reader.numbering.events ≡ length s.trace.events = s.taken.numbered.count_is ∙ sym (events_count (lines_of text) s.trace s.trace_is) in
    let are = subst (λ (b : Bool). AreNearestRaces b s.trace.events s.spots found.races.items) form (races s.trace.events s.spots s.noted.searched) in
    record {
      faultless = h.faultless;
      trace = s.trace;
      trace_is = s.trace_is;
      disciplined = s.noted.disciplined;
      names_are = ap (λ r. tables_of r.numbering) reader ∙ s.taken.numbered.tables_are ∙ sym s.trace_is.tables_are;
      count_is = ap (λ r. r.numbering.events) reader ∙ s.taken.numbered.count_is ∙ sym (events_count (lines_of text) s.trace s.trace_is);
      spots = s.spots;
      located = located;
      nearest = nearest_by s.trace.events (site_in found.by_variable s.trace.events s.spots) (site_at found.by_variable s.trace) (λ x. Unit {0}) (λ i j race. tt)
          (sites_alike (λ x. Unit {0}) s.trace scan.locations s.spots s.noted.distinct s.noted.searched.as_many (λ k x spot accesses all at. (s.noted.located k x spot accesses at).location) found.by_variable) (map ends_of found.races.items) are.nearest;
      accesses = are.accesses;
      few = omega (arith, ap (λ (l : OwnedNames). length l) locations, s.noted.few, count, s.within.few);
      places = places s.trace found.locations (subst (λ (l : OwnedNames). IsDistinct bytes_eq l) (sym locations) s.noted.distinct) (races_located s.trace found.locations s.spots located found.races.items are.accesses);
    }
