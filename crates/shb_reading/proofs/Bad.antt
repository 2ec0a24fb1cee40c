-- The first bad line, by the forms, is the one that the definition names.
use Rattle.std.proofs.Common.{◌⊎◌, inl, inr, Option, None, Some, IfSome, ◌≡◌, ℕ, zero, suc, ◌+◌, ◌-◌, ◌<◌, ◌≤◌, List, [], ◌∷◌, ◌++◌, length, take, drop, refl, sym, ap, subst, ◌∙◌, arith, append_assoc, append-nil, take-append-drop, length-append, length-take}
use Rattle.shb_reading.proofs.Words.{BeginsReport, End, Form, IsBadFrom, IsBadLine, IsReportValue, IsTextOf, ReportValue, Takes, Version, lines_text, report_lines, report_text, take-append-add, take-append-le, take_all}
use Rattle.std.proofs.lemmas.Bool.{cases_lt}
use Rattle.std.specs.Io.KnownBytes.{Consumes, IsAtEnd}
use Rattle.shb_reading.proofs.Machine.{after}
use Rattle.shb_reading.proofs.Language.{ending, takes_all, takes_front}
use Rattle.shb_reading.proofs.Values.{lines_of_value, value_of_lines}

-- fewer lines are taken as well
takes_less : (forms : List Form) (bytes : List ℕ) (k n : ℕ) (left : List Form) (rest : List ℕ) → Takes forms bytes n left rest → k ≤ n → (l : List Form) × (r : List ℕ) × Takes forms bytes k l r
takes_less forms bytes zero n left rest h few = (forms, bytes, (refl, refl))
takes_less forms bytes (suc k) zero left rest h few = absurd (omega arith)
takes_less [] bytes (suc k) (suc n) left rest h few = absurd h
takes_less (form ∷ forms) bytes (suc k) (suc n) left rest h few =
    let later = takes_less (h.1 ++ forms) h.2 k n left rest h.4 (omega arith) in
    (later.0, later.1, (h.0, h.1, h.2, h.3, later.2))

-- where one line more is taken, it is taken after the others
takes_past : (forms : List Form) (bytes : List ℕ) (n : ℕ) (left l : List Form) (rest r : List ℕ) → Takes forms bytes n left rest → Takes forms bytes (suc n) l r → Takes left rest (suc zero) l r
takes_past forms bytes zero left l rest r h g = subst (λ f. Takes f rest (suc zero) l r) h.0 (subst (λ b. Takes forms b (suc zero) l r) h.1 g)
takes_past [] bytes (suc n) left l rest r h g = absurd h
takes_past (form ∷ forms) bytes (suc n) left l rest r h g = takes_past (h.1 ++ forms) h.2 n left l rest r h.4 (after form forms bytes h.0 h.1 h.2 (suc n) l r h.3 g)

abbrev all_forms : List Form
all_forms = Version ∷ (End ∷ [])

module _ (limit : ℕ) (text : List ℕ) where
  -- lines taken within the limit begin a report
  begins : (n : ℕ) (left : List Form) (rest : List ℕ) → Takes all_forms (take limit text) n left rest → BeginsReport limit text n
  begins n left rest h =
      let ends = ending all_forms (take limit text) n left rest h in
      let value = value_of_lines ends.lines ends.are in
      let front : lines_text (take n ends.lines) ≡ lines_text (take n (report_lines value.0)) = ap (λ (l : List (List ℕ)). lines_text (take n l)) (sym value.2) in
      let enough : n ≤ length (report_lines value.0) = omega (arith, ends.enough, ap (λ (l : List (List ℕ)). length l) value.2) in
      let seen : take limit text ≡ lines_text (take n (report_lines value.0)) ++ ends.rest = ends.begins ∙ ap (λ f. f ++ ends.rest) front in record {
        report = value.0;
        in_grammar = value.1;
        enough = enough;
        rest = ends.rest ++ drop limit text;
        begins = sym (take-append-drop limit text) ∙ ap (λ s. s ++ drop limit text) seen ∙ append_assoc (lines_text (take n (report_lines value.0))) ends.rest (drop limit text);
        within = omega (arith, ap (λ (s : List ℕ). length s) seen, length-append (lines_text (take n (report_lines value.0))) ends.rest, length-take limit text);
      }

  -- the lines of a report that begin the text are taken
  taken_lines : (n : ℕ) → BeginsReport limit text n → (left : List Form) × (rest : List ℕ) × Takes all_forms (take limit text) n left rest
  taken_lines n h =
      let front = lines_text (take n (report_lines h.report)) in
      let room = limit - length front in
      let whole : length front + room ≡ limit = omega (arith, h.within) in
      let seen : take limit text ≡ front ++ take room h.rest =
      ap (take limit) h.begins ∙ ap (λ m. take m (front ++ h.rest)) (sym whole) ∙ take-append-add front h.rest room in
      let takes = takes_front all_forms (report_lines h.report) n (take room h.rest) (lines_of_value h.report h.in_grammar) h.enough in
      (takes.0, take room h.rest, subst (λ b. Takes all_forms b n takes.0 (take room h.rest)) (sym seen) takes.1)

  pub bad_line : (n : ℕ) → IsBadFrom all_forms 0 (take limit text) n → IsBadLine limit text n
  bad_line n b = record {
    no_report = λ report h.
        let seen : take limit text ≡ report_text report = take_all limit text h.short ∙ h.text_is in
        b.unfinished (length (report_lines report)) (subst (λ s. Takes all_forms s (length (report_lines report)) [] []) (sym seen) (takes_all all_forms (report_lines report) (lines_of_value report h.in_grammar)));
    good = λ k below.
        let less = takes_less all_forms (take limit text) k b.good b.left b.rest b.takes (omega (arith, b.number)) in
        begins k less.0 less.1 less.2;
    bad = λ h. let t = taken_lines n h in b.bad t.0 t.1 (subst (λ m. Takes all_forms (take limit text) m t.0 t.1) (let same : n ≡ suc b.good = omega (arith, b.number) in same) t.2);
  }

  -- a whole report within the limit, after which a byte stands
  pub bad_after_limit : (report : ReportValue) → IsReportValue report → take limit text ≡ report_text report → limit < length text → IsBadLine limit text (length (report_lines report) + 1)
  bad_after_limit report in_grammar seen long =
      let count = length (report_lines report) in
      let all : Takes all_forms (take limit text) count [] [] = subst (λ s. Takes all_forms s count [] []) (sym seen) (takes_all all_forms (report_lines report) (lines_of_value report in_grammar)) in record {
        no_report = λ other h. omega (arith, h.short);
        good = λ k below. let less = takes_less all_forms (take limit text) k count [] [] all (omega arith) in begins k less.0 less.1 less.2;
        bad = λ h. let t = taken_lines (count + 1) h in takes_past all_forms (take limit text) count [] t.0 [] t.1 all (subst (λ m. Takes all_forms (take limit text) m t.0 t.1) (let same : count + 1 ≡ suc count = omega arith in same) t.2);
      }

-- a text within the limit, and one beyond it

pub bad_short : (limit : ℕ) (text : List ℕ) (n : ℕ) → length text ≤ limit → IsBadFrom all_forms 0 text n → IsBadLine limit text n
bad_short limit text n short b = bad_line limit text n (subst (λ s. IsBadFrom all_forms 0 s n) (sym (take_all limit text short)) b)

pub bad_long : (limit : ℕ) (text seen : List ℕ) (n : ℕ) → seen ≡ take limit text → IsBadFrom all_forms 0 seen n → IsBadLine limit text n
bad_long limit text seen n same b = bad_line limit text n (subst (λ s. IsBadFrom all_forms 0 s n) same b)

pub bad_end : (limit : ℕ) (text seen : List ℕ) (report : ReportValue) (lines : ℕ) → limit < length text → seen ≡ take limit text → IsTextOf seen report lines → IsBadLine limit text (lines + 1)
bad_end limit text seen report lines long same h = subst (λ n. IsBadLine limit text (n + 1)) (sym h.lines_are) (bad_after_limit limit text report h.in_grammar (sym same ∙ h.text_is) long)

-- what was taken of a source has the first bad line of all that it tells

module _ (limit : ℕ) (told taken : List ℕ) (same : take limit told ≡ take limit taken) (long : limit < length taken) (longer : limit < length told) where
  begins_told : (n : ℕ) → BeginsReport limit taken n → BeginsReport limit told n
  begins_told n h = let t = taken_lines limit taken n h in begins limit told n t.0 t.1 (subst (λ s. Takes all_forms s n t.0 t.1) (sym same) t.2)

  begins_taken : (n : ℕ) → BeginsReport limit told n → BeginsReport limit taken n
  begins_taken n h = let t = taken_lines limit told n h in begins limit taken n t.0 t.1 (subst (λ s. Takes all_forms s n t.0 t.1) same t.2)

  bad_told : (n : ℕ) → IsBadLine limit taken n → IsBadLine limit told n
  bad_told n b = record {
    no_report = λ report h. omega (arith, h.short);
    good = λ k below. begins_told k (b.good k below);
    bad = λ h. b.bad (begins_taken n h);
  }

pub bad_of_source : (limit n : ℕ) (old new : Option (List ℕ)) (taken : List ℕ) → Consumes old new taken → (length taken ≤ limit → IsAtEnd new) → IsBadLine limit taken n → IfSome old (λ told. IsBadLine limit told n)
bad_of_source limit n None new taken consumed ended b = tt
bad_of_source limit n (Some told) None taken consumed ended b = absurd consumed
bad_of_source limit n (Some told) (Some rest) taken consumed ended b = by (cases_lt limit (length taken))
  where
    by : (limit < length taken) ⊎ (length taken ≤ limit) → IsBadLine limit told n
    by (inl full) =
        let same : take limit told ≡ take limit taken = ap (take limit) consumed ∙ take-append-le limit taken rest (omega arith) in
        bad_told limit told taken same full (omega (arith, ap (λ (l : List ℕ). length l) consumed, length-append taken rest)) n b
    by (inr short) = subst (λ t. IsBadLine limit t n) (sym (consumed ∙ ap (λ r. taken ++ r) (ended short) ∙ append-nil taken)) b

pub bad_line_unique : (limit : ℕ) (text : List ℕ) (m n : ℕ) → IsBadLine limit text m → IsBadLine limit text n → m ≡ n
bad_line_unique limit text m n h g = by (cases_lt m n) (cases_lt n m)
  where
    by : (m < n) ⊎ (n ≤ m) → (n < m) ⊎ (m ≤ n) → m ≡ n
    by (inl less) other = absurd (h.bad (g.good m less))
    by (inr more) (inl less) = absurd (g.bad (h.good n less))
    by (inr more) (inr less) = omega arith
