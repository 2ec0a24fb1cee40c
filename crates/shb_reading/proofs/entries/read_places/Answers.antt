-- The places stand after their count.
use Rattle.std.proofs.Common.{refl}
use Rattle.shb_reading.proofs.Words.{Places, place_forms}
use Rattle.shb_reading.proofs.EntryLemmas.{bad_weaker}
use Rattle.shb_reading.proofs.Passing.{bad_at, passes_by}
use Rattle.shb_reading.proofs.ScanLemmas.{section_read, with_section}
use Rattle.shb_reading.proofs.entries.read_places.Goals as goal

pub returns-in_default-clause-bad : goal.returns-in_default-clause-bad
returns-in_default-clause-bad c = λ forms.
    with_section c.args.text.now c.args.at.now c.args.with_places forms _ c.if-not-with_places.false (bad_at Places forms _ _ _ c.in_default.ensures.0 c.in_default.ensures.1)

pub returns-clause-read : goal.returns-clause-read
returns-clause-read c = section_read _ c.args.text.now c.args.at.now c.read_place_count.new.at _ c.args.with_places c.in-Some.count _ c.if-not-with_places.false c.in-Some.ensures.0 c.in-Some.ensures.1 c.in_ok-places.ensures.read

pub returns-clause-passes : goal.returns-clause-passes
returns-clause-passes c = λ forms n b.
    with_section c.args.text.now c.args.at.now c.args.with_places forms n c.if-not-with_places.false
    (passes_by Places (place_forms 1 c.in-Some.count) forms c.args.text.now c.args.at.now c.read_place_count.new.at _ c.in-Some.ensures.0 (_, c.in-Some.ensures.1, refl, refl) n (c.in_ok-places.ensures.passes forms n b))

pub returns-in_err-places-clause-bad : goal.returns-in_err-places-clause-bad
returns-in_err-places-clause-bad c = λ forms.
    bad_weaker c.from_residual.result c.in_err-places.field-0.0 _ _ c.from_residual.ensures.1
    (λ n b. with_section c.args.text.now c.args.at.now c.args.with_places forms n c.if-not-with_places.false
    (passes_by Places (place_forms 1 c.in-Some.count) forms c.args.text.now c.args.at.now c.read_place_count.new.at _ c.in-Some.ensures.0 (_, c.in-Some.ensures.1, refl, refl) n b))
    (c.in_err-places.ensures.bad forms)
