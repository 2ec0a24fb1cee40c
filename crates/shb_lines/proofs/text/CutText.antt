-- A text that is cut one byte after its limit has the first fault of the whole text.
use Rattle.std.proofs.Common.{◌≡◌, ◌⊎◌, inl, inr, ◌+◌, ◌==◌, ◌<◌, ◌≤◌, ℕ, Bool, true, false, cond, zero, suc, List, [], ◌∷◌, ◌++◌, length, take, slice_index_or, sum_by, IfSome, Option, None, Some, refl, sym, ap, subst, ◌∙◌, arith, append-nil, length-append}
use Rattle.std.specs.Io.KnownBytes.{Consumes, IsAtEnd}
use Rattle.std.specs.List.{onto_first}
use Rattle.std.proofs.lemmas.Bool.{cases_lt}
use Rattle.std.proofs.lemmas.List.{get_or-take, take-take}
use Rattle.std.proofs.lemmas.List.Sums.{sum_by-cons}
use Rattle.shb_lines.specs.declared.fault.Fault.{Fault}
use Rattle.shb_lines.specs.declared.fault.Fault.TheVariants as faults
use Rattle.shb_lines.specs.declared.limits.Limits.{Limits}
use Rattle.shb_lines.specs.declared.fault.LineFault.{LineFault}
use Rattle.shb_lines.specs.text.Faults.{HasFault, HasLineFault, HasNoLineFaultBefore, PassesLimit, line_at, number_of}
use Rattle.shb_lines.specs.text.Numbers.{events_of}
use Rattle.shb_lines.specs.text.Text.{lines_of}
use Rattle.shb_lines.specs.text.TraceData.{IsReading}
use Rattle.shb_lines.proofs.text.FaultLemmas.{text_too_long}
use Rattle.shb_lines.proofs.text.FirstFault.{IsLowest-same, with_past}
use Rattle.shb_lines.specs.Lowest.{IsLowest}

abbrev with_feed : List ℕ → ℕ
with_feed line = length line + 1

abbrev starts : ℕ → List (List ℕ) → ℕ
starts k lines = sum_by with_feed (take k lines)

-- byte n of a text stands in line k, and in line k of the longer text, whose lines before are the same
record SharesLine (n : ℕ) (lines longer : List (List ℕ)) : Type 0 where
  k : ℕ
  within : k < length lines
  longer_within : k < length longer
  same : take k lines ≡ take k longer
  after : starts k lines ≤ n
  inside : n < starts k lines + length (slice_index_or lines k []) + 1
  longer_inside : n < starts k lines + length (slice_index_or longer k []) + 1

shares_first : (a b : List ℕ) (lines longer : List (List ℕ)) → SharesLine zero (a ∷ lines) (b ∷ longer)
shares_first a b lines longer = record { k = zero; within = omega arith; longer_within = omega arith; same = refl; after = omega arith; inside = omega arith; longer_inside = omega arith }

-- a line feed more in front
after_feed : (m : ℕ) (lines longer : List (List ℕ)) → SharesLine m lines longer → SharesLine (suc m) ([] ∷ lines) ([] ∷ longer)
after_feed m lines longer h =
    let count : starts (suc h.k) ([] ∷ lines) ≡ 1 + starts h.k lines = sum_by-cons with_feed [] (take h.k lines) in
    record { k = suc h.k; within = omega (arith, h.within); longer_within = omega (arith, h.longer_within); same = ap (λ ls. [] ∷ ls) h.same; after = omega (arith, h.after); inside = omega (arith, h.inside); longer_inside = omega (arith, h.longer_inside) }

-- another byte more in front
after_byte : (x m : ℕ) (a b : List ℕ) (lines longer : List (List ℕ)) (k : ℕ) → k < length (a ∷ lines) → k < length (b ∷ longer) → take k (a ∷ lines) ≡ take k (b ∷ longer) → starts k (a ∷ lines) ≤ m
    → m < starts k (a ∷ lines) + length (slice_index_or (a ∷ lines) k []) + 1 → m < starts k (a ∷ lines) + length (slice_index_or (b ∷ longer) k []) + 1 → SharesLine (suc m) ((x ∷ a) ∷ lines) ((x ∷ b) ∷ longer)
after_byte x m a b lines longer zero within longer_within same after inside longer_inside =
    record { k = zero; within = omega arith; longer_within = omega arith; same = refl; after = omega arith; inside = omega arith; longer_inside = omega arith }
after_byte x m a b lines longer (suc j) within longer_within same after inside longer_inside =
    let first : a ≡ b = cc in
    let rest : take j lines ≡ take j longer = cc in
    let count = sum_by-cons with_feed (x ∷ a) (take j lines) in
    let count_short = sum_by-cons with_feed a (take j lines) in
    record { k = suc j; within = omega arith; longer_within = omega arith; same = λ i. (x ∷ first i) ∷ rest i; after = omega arith; inside = omega arith; longer_inside = omega arith }

onto_both : (x n : ℕ) (lines longer : List (List ℕ)) → 0 < length lines → 0 < length longer → ((m : ℕ) → n ≡ suc m → SharesLine m lines longer) → SharesLine n (onto_first x lines) (onto_first x longer)
onto_both x n [] longer some longer_some rest = absurd (omega arith)
onto_both x n (a ∷ lines) [] some longer_some rest = absurd (omega arith)
onto_both x zero (a ∷ lines) (b ∷ longer) some longer_some rest = shares_first (x ∷ a) (x ∷ b) lines longer
onto_both x (suc m) (a ∷ lines) (b ∷ longer) some longer_some rest =
    let h = rest m refl in
    after_byte x m a b lines longer h.k h.within h.longer_within h.same h.after h.inside h.longer_inside

some_line : (text : List ℕ) → 0 < length (lines_of text)
some_line [] = omega arith
some_line (x ∷ text) = by (x == 10) (lines_of text)
  where
    by : (b : Bool) (lines : List (List ℕ)) → 0 < length (cond b ([] ∷ lines) (onto_first x lines))
    by true lines = omega arith
    by false [] = omega arith
    by false (l ∷ lines) = omega arith

shares : (text more : List ℕ) (n : ℕ) → n < length text → SharesLine n (lines_of text) (lines_of (text ++ more))
shares [] more n inside = absurd (omega arith)
shares (x ∷ text) more n inside = by (x == 10) n (lines_of text) (lines_of (text ++ more)) (some_line text) (some_line (text ++ more)) (λ m is. shares text more m (omega arith))
  where
    by : (b : Bool) (i : ℕ) (lines longer : List (List ℕ)) → 0 < length lines → 0 < length longer → ((m : ℕ) → i ≡ suc m → SharesLine m lines longer) → SharesLine i (cond b ([] ∷ lines) (onto_first x lines)) (cond b ([] ∷ longer) (onto_first x longer))
    by true zero lines longer some longer_some rest = shares_first [] [] lines longer
    by true (suc m) lines longer some longer_some rest = after_feed m lines longer (rest m refl)
    by false i lines longer some longer_some rest = onto_both x i lines longer some longer_some rest

is_text_too_long : (f : Fault) → number_of f ≤ 1 → f ≡ faults.TextTooLong
is_text_too_long faults.TextTooLong h = refl
is_text_too_long _ h = absurd (omega arith)

-- the lines before the shared one are the same
take_same : (a b : List (List ℕ)) (k i : ℕ) → i ≤ k → take k a ≡ take k b → take i a ≡ take i b
take_same a b k i le same = sym (take-take i k a le) ∙ ap (take i) same ∙ take-take i k b le

at_same : (a b : List (List ℕ)) (k i : ℕ) → i < k → take k a ≡ take k b → slice_index_or a i [] ≡ slice_index_or b i []
at_same a b k i lt same = sym (get_or-take k a i [] lt) ∙ ap (λ ls. slice_index_or ls i []) same ∙ get_or-take k b i [] lt

module _ (limits : Limits) (text whole : List ℕ) (over : limits.text < length text) (whole_over : limits.text < length whole) (shared : SharesLine limits.text (lines_of text) (lines_of whole)) where
  passes : PassesLimit limits text shared.k
  passes = (shared.after, shared.inside, over)

  whole_passes : PassesLimit limits whole shared.k
  whole_passes =
      let start = ap (sum_by with_feed) shared.same in
      (omega (arith, start, shared.after), omega (arith, start, shared.longer_inside), whole_over)

  -- a line before the shared one has the same faults in both texts
  module _ (i : ℕ) (earlier : i < shared.k) where
    lines_same : take i (lines_of text) ≡ take i (lines_of whole)
    lines_same = take_same (lines_of text) (lines_of whole) shared.k i (omega arith) shared.same

    line_same : line_at limits text i ≡ line_at limits whole i
    line_same = at_same (lines_of text) (lines_of whole) shared.k i earlier shared.same

    to_whole : (f : Fault) → HasFault limits text i f → HasFault limits whole i f
    to_whole f has =
        let start = ap (sum_by with_feed) lines_same in
        let len = ap length line_same in
        with_past limits (PassesLimit limits text i) (PassesLimit limits whole i) (events_of (take i (lines_of whole))) (line_at limits whole i) (λ p. (omega (arith, p.0, start), omega (arith, p.1, start, len), whole_over)) f
        (subst (λ line. HasLineFault limits (PassesLimit limits text i) (events_of (take i (lines_of whole))) line f) line_same
        (subst (λ lines. HasLineFault limits (PassesLimit limits text i) (events_of lines) (line_at limits text i) f) lines_same has))

    from_whole : (f : Fault) → HasFault limits whole i f → HasFault limits text i f
    from_whole f has =
        let start = ap (sum_by with_feed) lines_same in
        let len = ap length line_same in
        with_past limits (PassesLimit limits whole i) (PassesLimit limits text i) (events_of (take i (lines_of text))) (line_at limits text i) (λ p. (omega (arith, p.0, start), omega (arith, p.1, start, len), over)) f
        (subst (λ line. HasLineFault limits (PassesLimit limits whole i) (events_of (take i (lines_of text))) line f) (sym line_same)
        (subst (λ lines. HasLineFault limits (PassesLimit limits whole i) (events_of lines) (line_at limits whole i) f) (sym lines_same) has))

  faultless_whole : (i : ℕ) → i ≤ shared.k → HasNoLineFaultBefore limits text i → HasNoLineFaultBefore limits whole i
  faultless_whole i le earlier j f l has = earlier j f l (from_whole j (omega arith) f has)

  not_after : (i : ℕ) → HasNoLineFaultBefore limits text i → i ≤ shared.k
  not_after i earlier = by (cases_lt shared.k i)
    where
      by : (shared.k < i) ⊎ (i ≤ shared.k) → i ≤ shared.k
      by (inl l) = absurd (earlier shared.k faults.TextTooLong l passes)
      by (inr le) = le

  lowest_whole : (i : ℕ) (f : Fault) → i ≤ shared.k → IsLowest number_of (HasFault limits text i) (Some f) → IsLowest number_of (HasFault limits whole i) (Some f)
  lowest_whole i f le lowest = by (cases_lt i shared.k)
    where
      by : (i < shared.k) ⊎ (shared.k ≤ i) → IsLowest number_of (HasFault limits whole i) (Some f)
      by (inl l) = IsLowest-same (HasFault limits text i) (HasFault limits whole i) (to_whole i l) (from_whole i l) (Some f) lowest
      by (inr ge) =
          let here : shared.k ≡ i = omega arith in
          let past : PassesLimit limits text i = subst (PassesLimit limits text) here passes in
          let f_is : f ≡ faults.TextTooLong = is_text_too_long f (lowest.1 faults.TextTooLong past) in
          subst (λ g. IsLowest number_of (HasFault limits whole i) (Some g)) (sym f_is)
          (text_too_long limits (PassesLimit limits whole i) (events_of (take i (lines_of whole))) (line_at limits whole i) (subst (PassesLimit limits whole) here whole_passes))

  reading_whole : (Holds : List (List ℕ) → Type 0) (stop : Option LineFault) → IsReading limits text Holds stop → IsReading limits whole Holds stop
  reading_whole Holds None h = absurd (h.0 shared.k faults.TextTooLong shared.within passes)
  reading_whole Holds (Some stop) h =
      let i = h.0 in
      let le = not_after i h.2.earlier in (
        i,
        h.1,
        record {
          within = omega (arith, shared.longer_within);
          lowest = lowest_whole i stop.fault le h.2.lowest;
          earlier = faultless_whole i le h.2.earlier;
        },
        subst Holds (take_same (lines_of text) (lines_of whole) shared.k i le shared.same) h.3,
      )

-- what is read of a text up to one byte after the limit is what is read of the whole text
pub reading_of_cut : (limits : Limits) (text more : List ℕ) (Holds : List (List ℕ) → Type 0) (stop : Option LineFault) → (length text ≤ limits.text → more ≡ []) → IsReading limits text Holds stop → IsReading limits (text ++ more) Holds stop
reading_of_cut limits text more Holds stop ended h = by (cases_lt limits.text (length text))
  where
    by : (limits.text < length text) ⊎ (length text ≤ limits.text) → IsReading limits (text ++ more) Holds stop
    by (inl over) = reading_whole limits text (text ++ more) over (omega (arith, length-append text more)) (shares text more limits.text over) Holds stop h
    by (inr short) = subst (λ t. IsReading limits t Holds stop) (sym (ap (λ m. text ++ m) (ended short) ∙ append-nil text)) h

-- the same, of the bytes that were taken of a source
pub reading_of_taken : (limits : Limits) (Holds : List (List ℕ) → Type 0) (stop : Option LineFault) (old new : Option (List ℕ)) (text : List ℕ) → Consumes old new text → (length text ≤ limits.text → IsAtEnd new) → IsReading limits text Holds stop → IfSome old (λ whole. IsReading limits whole Holds stop)
reading_of_taken limits Holds stop None new text taken ended h = tt
reading_of_taken limits Holds stop (Some whole) None text taken ended h = absurd taken
reading_of_taken limits Holds stop (Some whole) (Some rest) text taken ended h = subst (λ t. IsReading limits t Holds stop) (sym taken) (reading_of_cut limits text rest Holds stop ended h)
