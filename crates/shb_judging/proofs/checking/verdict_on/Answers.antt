-- The verdict where nothing was found wrong.
use Rattle.std.proofs.Common.{◌≡◌, ℕ, List, length, Option, None, rules, arith, ap, sym, subst, ◌∙◌}
use Rattle.shb_judging.proofs.Words.{AreFound, Good, HasPlacesOf, IsVerdictOnJudged, JudgedBlocks, Pair, Place, TraceData, counts_of, length-map, pair_in}
use Rattle.shb_format.specs.declared.counts.Counts.{Counts}
use Rattle.shb_judging.proofs.checking.verdict_on.Goals as goal

good_as_judged : (trace : TraceData) (counts : Counts) (places : Option (List Place)) (judged : JudgedBlocks) (races : ℕ) → counts ≡ counts_of trace → judged.bad ≡ None
    → HasPlacesOf trace places judged.pairs.items → races ≡ length judged.pairs.items → IsVerdictOnJudged trace counts places judged (Good races)
good_as_judged trace counts places judged races right none has number = λ report same_counts same_places h.
    let found : AreFound trace report.blocks judged.pairs.items None = subst (AreFound trace report.blocks judged.pairs.items) none h.found in
    let shown : HasPlacesOf trace report.places judged.pairs.items = subst (λ p. HasPlacesOf trace p judged.pairs.items) (sym same_places) has in (
      record { counts = same_counts ∙ right; blocks = found.0; places = subst (HasPlacesOf trace report.places) found.1 shown },
      number ∙ ap length found.1 ∙ length-map report.blocks pair_in,
    )

pub returns-then-not-branch : goal.returns-then-not-branch
returns-then-not-branch g c = search rules

pub returns : goal.returns
returns g c =
    let judged : JudgedBlocks = c.args.judged.now in
    let races : c.len-2.result ≡ length judged.pairs.items = omega (arith, c.len-2.ensures, judged.pairs.ok.0) in
    let has = subst (λ (p : List Pair). HasPlacesOf c.args.trace.now c.args.section p) c.as_slice.ensures.value (c.in_ok-has_places_of.ensures.0 (cc)) in
    good_as_judged c.args.trace.now c.args.counts c.args.section judged c.len-2.result (c.has_counts.ensures.0 (cc)) c.in_default.is has races
