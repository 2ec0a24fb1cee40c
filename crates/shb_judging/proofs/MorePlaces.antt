-- The first places of a report, one more than it has races, tell whether its places are those of the races.
use Rattle.std.proofs.Common.{◌≡◌, ℕ, ◌<◌, ◌≤◌, Bool, true, false, List, Option, None, Some, option_map, length, map, take, refl, sym, ap, ◌∙◌, arith}
use Rattle.std.specs.Prelude.{IfSome}
use Rattle.shb_judging.proofs.Words.{BadCounts, BadLine, BadPlaces, BadRace, Block, Good, HasPlacesOf, IsVerdict, PlaceEntry, ReportValue, TraceData, Verdict, counts_in, length-map, length-take, pair_in, place_in_text, places_of_pairs, section_at, shown_places, take-map, take_all}
use Rattle.shb_judging.proofs.WrittenGood.{length-shown, places_few}

module _ {A : Type 0} (most : ℕ) (wanted : List A) (short : length wanted < most) where
  -- where the first elements are fewer than were asked for, they are all
  told_by_front : (xs : List A) → take most xs ≡ wanted → xs ≡ wanted
  told_by_front xs same =
      let whole : length xs ≤ most = omega (arith, short, length-take most xs, ap length same) in
      sym (take_all most xs whole) ∙ same

  given_front : (listed : Option (List A)) → IfSome (option_map (take most) listed) (λ xs. xs ≡ wanted) → IfSome listed (λ xs. xs ≡ wanted)
  given_front None h = tt
  given_front (Some xs) h = told_by_front xs h

  front_given : (listed : Option (List A)) → IfSome listed (λ xs. xs ≡ wanted) → IfSome (option_map (take most) listed) (λ xs. xs ≡ wanted)
  front_given None h = tt
  front_given (Some xs) h = ap (take most) h ∙ take_all most wanted (omega (arith, short))

-- the races have at most as many places as they are
few_places : (trace : TraceData) (blocks : List Block) → length (shown_places trace (counts_in (places_of_pairs trace (map pair_in blocks)))) ≤ length blocks
few_places trace blocks =
    let pairs = map pair_in blocks in
    let few = (places_few trace pairs).long in
    omega (arith, few, length-shown trace (places_of_pairs trace pairs), length-map blocks pair_in)

-- the report with its first places alone
abbrev pub with_first_places : ℕ → ReportValue → ReportValue
with_first_places most report = record report { places = option_map (take most) report.places }

-- the verdict on it is that on the report, where more of them are kept than there are races
module _ (trace : TraceData) (report : ReportValue) (most : ℕ) (more : length report.blocks < most) where
  short : length (shown_places trace (counts_in (places_of_pairs trace (map pair_in report.blocks)))) < most
  short = omega (arith, more, few_places trace report.blocks)

  has_places : HasPlacesOf trace (option_map (take most) report.places) (map pair_in report.blocks) → HasPlacesOf trace report.places (map pair_in report.blocks)
  has_places = given_front most _ short report.places

  lacks_places : (¬ HasPlacesOf trace (option_map (take most) report.places) (map pair_in report.blocks)) → ¬ HasPlacesOf trace report.places (map pair_in report.blocks)
  lacks_places lacks = λ has. lacks (front_given most _ short report.places has)

  pub verdict_by_front : (verdict : Verdict) → IsVerdict trace (with_first_places most report) verdict → IsVerdict trace report verdict
  verdict_by_front (Good races) h = (record { counts = h.0.counts; blocks = h.0.blocks; places = has_places h.0.places }, h.1)
  verdict_by_front BadCounts h = h
  verdict_by_front (BadRace race why) h = h
  verdict_by_front BadPlaces h = (h.0, h.1, lacks_places h.2)
  verdict_by_front (BadLine line) h = h

pub section_front : (text : List ℕ) (with_places : Bool) (most : ℕ) (all : List PlaceEntry) → section_at text with_places (take most all) ≡ option_map (take most) (section_at text with_places all)
section_front text true most all = ap Some (sym (take-map (place_in_text text) most all))
section_front text false most all = refl
