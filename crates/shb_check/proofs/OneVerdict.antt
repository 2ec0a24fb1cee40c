-- The texts of a trace and of a report have one verdict.
use Rattle.std.proofs.Common.{◌≡◌, ◌⊎◌, inl, inr, ℕ, List, refl, sym, ap, subst, ◌∙◌}
use Rattle.std.specs.Prelude.{◌↔◌}
use Rattle.shb_check.proofs.Words.{IsDisciplined, IsGoodFor, IsJudged, IsVerdict, IsVerdictFor, IsVerdictOf, TraceData, Verdict, lines_of, most_bytes}
use Rattle.shb_judging.specs.declared.verdict.Verdict.TheVariants.{Good, BadLine, BadCounts, BadRace, BadPlaces}
use Rattle.shb_reading.specs.Reading.{IsBadLine}
use Rattle.shb_reading.proofs.Bad.{bad_line_unique}
use Rattle.shb_reading.proofs.Injective.{report_same}
use Rattle.shb_judging.proofs.VerdictLaws.{one_verdict}
use Rattle.shb_check.proofs.OneTrace.{one_whole_trace}

-- a text has a bad line, or it is a report that is judged
pub bad_or_judged : (trace : TraceData) (text : List ℕ) (v : Verdict) → IsVerdictFor trace text v → ((n : ℕ) × (v ≡ BadLine n) × IsBadLine most_bytes text n) ⊎ IsJudged trace text v
bad_or_judged trace text (Good races) is = inr is
bad_or_judged trace text (BadLine n) is = inl (n, refl, is)
bad_or_judged trace text BadCounts is = inr is
bad_or_judged trace text (BadRace race why) is = inr is
bad_or_judged trace text BadPlaces is = inr is

module _ (trace : TraceData) (disciplined : IsDisciplined trace.events) (text : List ℕ) where
  both_judged : (v w : Verdict) → IsJudged trace text v → IsJudged trace text w → v ≡ w
  both_judged v w a b =
      let same : a.report ≡ b.report = report_same a.report b.report a.report_is.in_grammar b.report_is.in_grammar (sym a.report_is.text_is ∙ b.report_is.text_is) in
      one_verdict trace disciplined b.report v w (subst (λ r. IsVerdict trace r v) same a.verdict_is) b.verdict_is

  pub one_for : (v w : Verdict) → IsVerdictFor trace text v → IsVerdictFor trace text w → v ≡ w
  one_for v w a b = by (bad_or_judged trace text v a) (bad_or_judged trace text w b)
    where
      by : ((m : ℕ) × (v ≡ BadLine m) × IsBadLine most_bytes text m) ⊎ IsJudged trace text v → ((n : ℕ) × (w ≡ BadLine n) × IsBadLine most_bytes text n) ⊎ IsJudged trace text w → v ≡ w
      by (inl h) (inl g) = h.1 ∙ ap BadLine (bad_line_unique most_bytes text h.0 g.0 h.2 g.2) ∙ sym g.1
      by (inl h) (inr g) = absurd (h.2.no_report g.report g.report_is)
      by (inr h) (inl g) = absurd (g.2.no_report h.report h.report_is)
      by (inr h) (inr g) = both_judged v w h g

pub one_verdict_of : (text report : List ℕ) (v w : Verdict) → IsVerdictOf text report v → IsVerdictOf text report w → v ≡ w
one_verdict_of text report v w a b =
    let same : a.trace ≡ b.trace = one_whole_trace (lines_of text) a.trace b.trace a.trace_is b.trace_is in
    one_for b.trace b.disciplined report v w (subst (λ t. IsVerdictFor t report v) same a.verdict_is) b.verdict_is

-- it is that the report is good exactly where it is
pub good_of : (text report : List ℕ) (v : Verdict) (races : ℕ) → IsVerdictOf text report v → (v ≡ Good races) ↔ IsGoodFor text report races
good_of text report v races is = (to_good, from_good)
  where
    to_good : v ≡ Good races → IsGoodFor text report races
    to_good called =
        let judged : IsJudged is.trace report (Good races) = subst (λ w. IsVerdictFor is.trace report w) called is.verdict_is in
        record { trace = is.trace; trace_is = is.trace_is; value = judged.report; value_is = judged.report_is; good = judged.verdict_is.0; races_are = judged.verdict_is.1 }

    from_good : IsGoodFor text report races → v ≡ Good races
    from_good good =
        let same : is.trace ≡ good.trace = one_whole_trace (lines_of text) is.trace good.trace is.trace_is good.trace_is in
        let judged : IsJudged good.trace report (Good races) = record { report = good.value; report_is = good.value_is; verdict_is = (good.good, good.races_are) } in
        one_for good.trace (subst (λ t. IsDisciplined t.events) same is.disciplined) report v (Good races) (subst (λ t. IsVerdictFor t report v) same is.verdict_is) judged
