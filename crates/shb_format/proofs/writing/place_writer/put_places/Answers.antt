-- Each place is put after those before it.
use Rattle.std.proofs.Common.{rules, ◌+◌, ◌++◌, List, ℕ, drop, get_or, subst, take}
use Rattle.shb_format.proofs.Words.{AppendsPrefix, HoldsBack, PlaceCount, lines_text, place_bytes, place_lines, places_bytes, shown_places}
use Rattle.shb_format.proofs.PlaceLemmas.{located}
use Rattle.shb_format.proofs.writing.HeldLemmas.{HoldsBack-then, PutsPrefix-front, PutsPrefix-after, Puts-err}
use Rattle.shb_format.proofs.writing.PlaceText.{place_is, places-next, places-split}
use Rattle.shb_format.proofs.writing.place_writer.put_places.Goals as goal

pub returns-in_err-put_place-clause-put : goal.returns-in_err-put_place-clause-put
returns-in_err-put_place-clause-put g c =
    let held : List ℕ = c.args.held.now in
    let trace = c.args.trace.now in
    let places : List PlaceCount = c.args.places.now in
    let k = c.loop-k.k in
    let d : PlaceCount = record { pair = record { first = 0; second = 0 }; count = 0 } in
    let place = place_bytes trace (k + 1) (get_or places k d) in
    let rest = lines_text (place_lines (k + 1 + 1) (shown_places trace (drop (k + 1) places))) in
    let same = place_is trace (k + 1) (get_or places k d) c.location-first.result.now c.location-second.result.now (located _ _ c.location-first.ensures) (located _ _ c.location-second.ensures) in
    let put = subst (λ (l : List ℕ). AppendsPrefix (g.S.Sink.taken c.loop-k.sink) (g.S.Sink.taken c.put_place.new.sink) (c.loop-k.held ++ l)) same c.in_err-put_place.ensures.put in
    let front = PutsPrefix-front _ _ c.loop-k.held place rest put in
    let after = PutsPrefix-after _ _ _ held _ (places_bytes trace (take k places)) (place ++ rest) c.loop-k.invariant.held front in
    Puts-err _ _ _ _ held _ _ c.from_residual.ensures.1
    (subst (λ (l : List ℕ). AppendsPrefix (g.S.Sink.taken c.args.sink.now) (g.S.Sink.taken c.put_place.new.sink) (held ++ l)) (places-split trace places k d c.loop-k-test.true) after)

pub loop-k-preserved : goal.loop-k-preserved
loop-k-preserved g c =
    let held : List ℕ = c.args.held.now in
    let trace = c.args.trace.now in
    let places : List PlaceCount = c.args.places.now in
    let k = c.loop-k.k in
    let d : PlaceCount = record { pair = record { first = 0; second = 0 }; count = 0 } in
    let place = place_bytes trace (k + 1) (get_or places k d) in
    let same = place_is trace (k + 1) (get_or places k d) c.location-first.result.now c.location-second.result.now (located _ _ c.location-first.ensures) (located _ _ c.location-second.ensures) in
    let put = subst (λ (l : List ℕ). HoldsBack (g.S.Sink.taken c.loop-k.sink) (g.S.Sink.taken c.put_place.new.sink) c.put_place.new.held (c.loop-k.held ++ l)) same c.in_ok-put_place.ensures.put in
    let more = HoldsBack-then _ _ _ held _ _ (places_bytes trace (take k places)) place c.loop-k.invariant.held put in record {
      held = subst (λ (l : List ℕ). HoldsBack (g.S.Sink.taken c.args.sink.now) (g.S.Sink.taken c.put_place.new.sink) c.put_place.new.held (held ++ l)) (places-next trace places k d c.loop-k-test.true) more;
      counted = search rules;
    }
