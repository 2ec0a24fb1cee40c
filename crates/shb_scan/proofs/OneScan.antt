-- A text has one scan, and each place of its trace is listed once.
use Rattle.std.proofs.Common.{◌≡◌, ◌≢◌, ◌⊎◌, inl, inr, ℕ, Bool, true, false, List, None, Option, Some, refl, sym, ap, subst, ◌∙◌}
use Rattle.std.specs.Prelude.{Contains, if◌then◌else◌}
use Rattle.shb_scan.proofs.Words.{AreAtOnePlace, HasScan, IsReportOn, IsScan, IsTraceOf, Race, TraceData, bytes_eq, cases_eq, lines_of, location_at, site_at, tables_in, variable_at}
use Rattle.std.proofs.lemmas.Slice.Eq.{bytes_eq-Decides}
use Rattle.shb_discipline.proofs.Numbering.{one_trace}
use Rattle.shb_format.proofs.Blocks.{HasOneList, IsReportOn-unique}
use Rattle.shb_nearest.proofs.NearestLaws.{listed_once, listed_races, place_listed, unique}

-- some lines have one trace, with its names and its lines
one_whole_trace : (lines : List (List ℕ)) (a b : TraceData) → IsTraceOf lines a → IsTraceOf lines b → a ≡ b
one_whole_trace lines a b of_a of_b =
    let events : a.events ≡ b.events = one_trace lines a b of_a of_b in
    let texts : a.lines ≡ b.lines = of_a.lines_are ∙ sym of_b.lines_are in
    let tables : tables_in a ≡ tables_in b = of_a.tables_are ∙ sym of_b.tables_are in
    λ i. record { events = events i; lines = texts i; threads = (tables i).threads; locks = (tables i).locks; variables = (tables i).variables }

-- a trace has one list of nearest races
pub one_nearest_list : (by_variable : Bool) (trace : TraceData) → HasOneList (IsScan by_variable) trace
one_nearest_list by_variable trace races more = unique trace.events (site_at by_variable trace) races more

pub one_scan : (by_variable : Bool) (text bytes others : List ℕ) → HasScan by_variable text (λ scan. bytes ≡ scan) → HasScan by_variable text (λ scan. others ≡ scan) → bytes ≡ others
one_scan by_variable text bytes others a b =
    let same : a.trace ≡ b.trace = one_whole_trace (lines_of text) a.trace b.trace a.trace_is b.trace_is in
    let bytes_same : a.bytes ≡ b.bytes = IsReportOn-unique (IsScan by_variable) false b.trace a.bytes b.bytes (one_nearest_list by_variable b.trace) (subst (λ t. IsReportOn (IsScan by_variable) false t a.bytes) same a.scan) b.scan in
    a.holds ∙ bytes_same ∙ sym b.holds

-- two locations can be told apart
apart : (a b : List ℕ) → (a ≡ b) ⊎ (a ≢ b)
apart a b = by (bytes_eq a b) refl
  where
    by : (same : Bool) → bytes_eq a b ≡ same → (a ≡ b) ⊎ (a ≢ b)
    by true is = inl ((bytes_eq-Decides a b).0 is)
    by false is = inr (λ same. absurd (let passes = (bytes_eq-Decides a b).1 same in cc))

-- and two sites
variables_apart : (a b : Option ℕ) → (a ≡ b) ⊎ (a ≢ b)
variables_apart None None = inl refl
variables_apart None (Some y) = inr (λ same. let f : ⊥ = cc in f)
variables_apart (Some x) None = inr (λ same. let f : ⊥ = cc in f)
variables_apart (Some x) (Some y) = elim (cases_eq x y) [ inl same ↦ inl (ap (λ (n : ℕ). Some n) same) | inr other ↦ inr (λ is. other (let e : x ≡ y = cc in e)) ]

sites_apart : (a b : List ℕ × Option ℕ) → (a ≡ b) ⊎ (a ≢ b)
sites_apart a b = by (apart a.0 b.0) (variables_apart a.1 b.1)
  where
    by : (a.0 ≡ b.0) ⊎ (a.0 ≢ b.0) → (a.1 ≡ b.1) ⊎ (a.1 ≢ b.1) → (a ≡ b) ⊎ (a ≢ b)
    by (inl location) (inl variable) = inl (λ i. (location i, variable i))
    by (inl location) (inr other) = inr (λ same. other (ap (λ (s : List ℕ × Option ℕ). s.1) same))
    by (inr other) variable = inr (λ same. other (ap (λ (s : List ℕ × Option ℕ). s.0) same))

-- what is told of variables is the same where it is asked for them and they are, and there only
told_same : (by_variable : Bool) (v w : Option ℕ) → (by_variable ≡ true → v ≡ w) → ◌≡◌ {A = Option ℕ} (if by_variable then v else None) (if by_variable then w else None)
told_same true v w same = same refl
told_same false v w same = refl

same_told : (by_variable : Bool) (v w : Option ℕ) → (if by_variable then v else None) ≡ (if by_variable then w else None) → by_variable ≡ true → v ≡ w
same_told true v w same is = same
same_told false v w same is = absurd (let f : ⊥ = cc in f)

module _ (by_variable : Bool) (trace : TraceData) (races : List (ℕ × ℕ)) (scan : IsScan by_variable trace races) where
  abbrev site : ℕ → List ℕ × Option ℕ
  site = site_at by_variable trace

  pub races_listed : (i j : ℕ) → Contains races (i, j) → Race trace.events i j
  races_listed i j has = listed_races trace.events (site_at by_variable trace) races scan i j has

  pub places_listed : (k l : ℕ) → Race trace.events k l → (i : ℕ) × (j : ℕ) × Contains races (i, j) × AreAtOnePlace by_variable trace i j k l
  places_listed k l race =
      let found = place_listed trace.events (site_at by_variable trace) races scan sites_apart k l race in
      let first = ap (λ (s : List ℕ × Option ℕ). s.0) found.3 in
      let second = ap (λ (s : List ℕ × Option ℕ). s.0) found.4 in (
        found.0,
        found.1,
        found.2,
        record {
          place = ap (λ (a : List ℕ). (a, location_at trace found.1)) first ∙ ap (λ (b : List ℕ). (location_at trace k, b)) second;
          variable = same_told by_variable (variable_at trace.events found.1) (variable_at trace.events l) (ap (λ (s : List ℕ × Option ℕ). s.1) found.4);
        },
      )

  pub once_listed : (i j k l : ℕ) → Contains races (i, j) → Contains races (k, l) → AreAtOnePlace by_variable trace i j k l → (i ≡ k) × (j ≡ l)
  once_listed i j k l one other same =
      let a = (races_listed i j one).conflict in
      let b = (races_listed k l other).conflict in
      let first = ap (λ (p : List ℕ × List ℕ). p.0) same.place in
      let second = ap (λ (p : List ℕ × List ℕ). p.1) same.place in
      let later = told_same by_variable (variable_at trace.events j) (variable_at trace.events l) same.variable in
      let earlier = told_same by_variable (variable_at trace.events i) (variable_at trace.events k)
      (λ is. (a.first_accesses ∙ sym a.second_accesses) ∙ (same.variable is ∙ (b.second_accesses ∙ sym b.first_accesses))) in
      listed_once trace.events (site_at by_variable trace) races scan i j k l one other (λ m. (first m, earlier m)) (λ m. (second m, later m))
