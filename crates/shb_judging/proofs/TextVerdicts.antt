-- The verdict on a text, and on all that a source told.
use Rattle.std.proofs.Common.{ℕ, ◌≤◌, List, ◌++◌, length, Option, None, Some, IfSome, sym, ap, subst, ◌∙◌, append-nil}
use Rattle.shb_judging.proofs.Words.{BadCounts, BadLine, BadPlaces, BadRace, Consumes, Good, IsAtEnd, IsJudged, IsJudgedText, IsVerdictFor, TraceData, Verdict, bad_of_source, most_bytes}

judged_of : (trace : TraceData) (text : List ℕ) (lines : ℕ) (verdict : Verdict) → length text ≤ most_bytes → IsJudgedText trace text lines verdict → IsJudged trace text verdict
judged_of trace text lines verdict short h = record {
  report = h.report;
  report_is = record { in_grammar = h.text_is.in_grammar; text_is = h.text_is.text_is; short = short };
  verdict_is = h.verdict_is;
}

pub verdict_for : (trace : TraceData) (text : List ℕ) (lines : ℕ) (verdict : Verdict) → length text ≤ most_bytes → IsJudgedText trace text lines verdict → IsVerdictFor trace text verdict
verdict_for trace text lines (BadLine line) short h = absurd h.verdict_is
verdict_for trace text lines (Good races) short h = judged_of trace text lines _ short h
verdict_for trace text lines BadCounts short h = judged_of trace text lines _ short h
verdict_for trace text lines (BadRace race why) short h = judged_of trace text lines _ short h
verdict_for trace text lines BadPlaces short h = judged_of trace text lines _ short h

-- what was taken up to the end of a source is all that it told
all_told : (old new : Option (List ℕ)) (taken : List ℕ) (P : List ℕ → Type 0) → Consumes old new taken → IsAtEnd new → P taken → IfSome old P
all_told None new taken P consumed ended p = tt
all_told (Some told) None taken P consumed ended p = absurd consumed
all_told (Some told) (Some rest) taken P consumed ended p = subst P (sym (consumed ∙ ap (λ r. taken ++ r) ended ∙ append-nil taken)) p

judged_told : (trace : TraceData) (old new : Option (List ℕ)) (taken : List ℕ) (verdict : Verdict) → Consumes old new taken → (length taken ≤ most_bytes → IsAtEnd new)
    → IsJudged trace taken verdict → IfSome old (λ told. IsJudged trace told verdict)
judged_told trace old new taken verdict consumed ended h = all_told old new taken (λ told. IsJudged trace told verdict) consumed (ended h.report_is.short) h

pub verdict_told : (trace : TraceData) (old new : Option (List ℕ)) (taken : List ℕ) (verdict : Verdict) → Consumes old new taken → (length taken ≤ most_bytes → IsAtEnd new)
    → IsVerdictFor trace taken verdict → IfSome old (λ told. IsVerdictFor trace told verdict)
verdict_told trace old new taken (BadLine line) consumed ended h = bad_of_source most_bytes line old new taken consumed ended h
verdict_told trace old new taken (Good races) consumed ended h = judged_told trace old new taken _ consumed ended h
verdict_told trace old new taken BadCounts consumed ended h = judged_told trace old new taken _ consumed ended h
verdict_told trace old new taken (BadRace race why) consumed ended h = judged_told trace old new taken _ consumed ended h
verdict_told trace old new taken BadPlaces consumed ended h = judged_told trace old new taken _ consumed ended h
