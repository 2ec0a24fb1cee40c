-- The parts, one after another, are the whole text, its blocks were judged, and its first places tell of all.
use Rattle.std.proofs.Common.{ℕ, ◌<◌, List, ap, arith, length, refl, subst, sym, ◌∙◌}
use Rattle.shb_judging.proofs.Words.{AllByRecursion, IsPlaceIn, PlaceEntry, ReportValue, section_at}
use Rattle.shb_judging.proofs.MorePlaces.{section_front, verdict_by_front, with_first_places}
use Rattle.shb_reading.proofs.ScanLemmas.{kept_in, whole_text}
use Rattle.shb_judging.proofs.text.judge_text.Goals as goal

pub section_of-section-requires : goal.section_of-section-requires
section_of-section-requires g c = subst (AllByRecursion (IsPlaceIn c.args.text.now)) (sym c.as_slice.ensures.value) (kept_in _ _ _ _ _ _ c.in_ok-places.ensures.read)

pub returns-clause-judged : goal.returns-clause-judged
returns-clause-judged g c =
    let text : List ℕ = c.args.text.now in
    let head = c.in_ok-head.head in
    let first = c.in_ok-head.ensures.read in
    let places = c.in_ok-places.ensures.read in
    let entries : List PlaceEntry = places.all in
    let read = c.in_ok-judged.ensures.read in
    let tail = c.in_ok-read_tail.ensures in
    let most = c.saturating_add-most.result in
    let report : ReportValue = record { counts = head.counts; places = section_at text head.with_places entries; blocks = read.blocks } in
    let more : length read.blocks < most = omega (arith, read.taken.count_is, read.taken.lines, tail.lines, tail.within, c.saturating_add-most.ensures) in
    let section = c.section_of-section.ensures ∙ ap (section_at text head.with_places) (c.as_slice.ensures.value ∙ places.kept_is) ∙ section_front text head.with_places most entries in record {
      report = report;
      text_is = whole_text text _ _ _ head.with_places head.counts entries read.blocks head.races _ first.counts first.races first.bytes first.lines places.holds read.taken tail.bytes tail.lines;
      verdict_is = verdict_by_front c.args.disciplined.now.trace.now report most more _ (c.in_ok-verdict.ensures (with_first_places most report) refl (sym section) read.are_judged);
    }
