-- The places, one after another.
use Rattle.std.proofs.Common.{List, arith, sym}
use Rattle.shb_judging.proofs.Words.{PlaceCount, PlaceEntry}
use Rattle.shb_judging.proofs.ShownPlaces.{each_place, place_more}
use Rattle.shb_judging.proofs.checking.shows_places.Goals as goal

pub returns-then-not-shows_place : goal.returns-then-not-shows_place
returns-then-not-shows_place c =
    let counts : List PlaceCount = c.args.counts.now in
    let entries : List PlaceEntry = c.section.inside.entries.now in
    let lengths = c.if-section-counts.false in
    let low = c.loop-q-test.true in
    let shown = rw c.if-not-shows_place.true at c.shows_place.ensures in
    ((λ yes. absurd (cc)), λ same. shown.1 (each_place c.args.trace.now c.section.inside.text.now entries counts c.args.section.now (sym c.section.view_is) c.loop-q.q _ _ (omega (arith, lengths, low)) low same))

pub loop-q-preserved : goal.loop-q-preserved
loop-q-preserved c =
    let counts : List PlaceCount = c.args.counts.now in
    let entries : List PlaceEntry = c.section.inside.entries.now in
    let lengths = c.if-section-counts.false in
    let low = c.loop-q-test.true in
    place_more c.args.trace.now c.section.inside.text.now entries counts c.args.section.now (sym c.section.view_is) c.loop-q.q _ _ (omega (arith, lengths, low)) low (c.shows_place.ensures.0 cc) c.loop-q.invariant
