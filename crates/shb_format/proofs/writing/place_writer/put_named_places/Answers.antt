-- Each place is put after those before it.
use Rattle.shb_format.proofs.Words.{AppendsPrefix, HoldsBack, PlaceCount, counts_in, lines_text, place_bytes, place_lines, places_bytes, places_of_pairs, shown_places, take_all}
use Rattle.std.proofs.Common.{rules, ◌+◌, ◌++◌, List, ℕ, arith, drop, get_or, subst, take}
use Rattle.shb_format.proofs.writing.HeldLemmas.{HoldsBack-then, PutsPrefix-front, PutsPrefix-after, Puts-err}
use Rattle.shb_format.proofs.writing.NamedPlaces.{count_within, key_within, many_counts, named_place}
use Rattle.shb_format.proofs.writing.PlaceText.{places-next, places-split}
use Rattle.shb_format.proofs.writing.place_writer.put_named_places.Goals as goal

pub overflow_cast-key : goal.overflow_cast-key
overflow_cast-key g c =
    let within = (key_within c.args.locations.now c.args.places.now c.requires.keyed.0 c.loop-q.q c.place.result c.requires.keyed.1 c.place.ensures).0 in
    omega (arith, within, c.requires.few)

pub overflow_cast-key-in-loop-q : goal.overflow_cast-key-in-loop-q
overflow_cast-key-in-loop-q g c =
    let within = (key_within c.args.locations.now c.args.places.now c.requires.keyed.0 c.loop-q.q c.place.result c.requires.keyed.1 c.place.ensures).1 in
    omega (arith, within, c.requires.few)

pub name-first-requires : goal.name-first-requires
name-first-requires g c = (key_within c.args.locations.now c.args.places.now c.requires.keyed.0 c.loop-q.q c.place.result c.requires.keyed.1 c.place.ensures).0

pub name-second-requires : goal.name-second-requires
name-second-requires g c = (key_within c.args.locations.now c.args.places.now c.requires.keyed.0 c.loop-q.q c.place.result c.requires.keyed.1 c.place.ensures).1

pub returns-in_err-put_place-clause-put : goal.returns-in_err-put_place-clause-put
returns-in_err-put_place-clause-put g c = λ trace pairs are.
    let held : List ℕ = c.args.held.now in
    let counts : List PlaceCount = counts_in (places_of_pairs trace pairs) in
    let q = c.loop-q.q in
    let d : PlaceCount = record { pair = record { first = 0; second = 0 }; count = 0 } in
    let place = place_bytes trace (q + 1) (get_or counts q d) in
    let rest = lines_text (place_lines (q + 1 + 1) (shown_places trace (drop (q + 1) counts))) in
    let same = named_place trace pairs c.args.locations.now c.args.places.now are q c.place.result c.place.ensures d c.name-first.result.now c.name-second.result.now c.name-first.ensures c.name-second.ensures in
    let put = subst (λ (l : List ℕ). AppendsPrefix (g.S.Sink.taken c.loop-q.sink) (g.S.Sink.taken c.put_place.new.sink) (c.loop-q.held ++ l)) same c.in_err-put_place.ensures.put in
    let front = PutsPrefix-front _ _ c.loop-q.held place rest put in
    let after = PutsPrefix-after _ _ _ held _ (places_bytes trace (take q counts)) (place ++ rest) (c.loop-q.invariant.held trace pairs are) front in
    let within = count_within trace pairs c.args.locations.now c.args.places.now are q c.place.result c.place.ensures in
    Puts-err _ _ _ _ held _ _ c.from_residual.ensures.1
    (subst (λ (l : List ℕ). AppendsPrefix (g.S.Sink.taken c.args.sink.now) (g.S.Sink.taken c.put_place.new.sink) (held ++ l)) (places-split trace counts q d within) after)

pub loop-q-preserved : goal.loop-q-preserved
loop-q-preserved g c =
    let held : List ℕ = c.args.held.now in
    let q = c.loop-q.q in
    let d : PlaceCount = record { pair = record { first = 0; second = 0 }; count = 0 } in record {
      held = λ trace pairs are.
          let counts : List PlaceCount = counts_in (places_of_pairs trace pairs) in
          let place = place_bytes trace (q + 1) (get_or counts q d) in
          let same = named_place trace pairs c.args.locations.now c.args.places.now are q c.place.result c.place.ensures d c.name-first.result.now c.name-second.result.now c.name-first.ensures c.name-second.ensures in
          let put = subst (λ (l : List ℕ). HoldsBack (g.S.Sink.taken c.loop-q.sink) (g.S.Sink.taken c.put_place.new.sink) c.put_place.new.held (c.loop-q.held ++ l)) same c.in_ok-put_place.ensures.put in
          let within = count_within trace pairs c.args.locations.now c.args.places.now are q c.place.result c.place.ensures in
          subst (λ (l : List ℕ). HoldsBack (g.S.Sink.taken c.args.sink.now) (g.S.Sink.taken c.put_place.new.sink) c.put_place.new.held (held ++ l)) (places-next trace counts q d within)
          (HoldsBack-then _ _ _ held _ _ (places_bytes trace (take q counts)) place (c.loop-q.invariant.held trace pairs are) put);
      counted = search rules;
    }

pub returns-clause-put : goal.returns-clause-put
returns-clause-put g c = λ trace pairs are.
    let counts : List PlaceCount = counts_in (places_of_pairs trace pairs) in
    let past = c.loop-q-test.false in
    let many = many_counts trace pairs c.args.locations.now c.args.places.now are in
    subst (λ (l : List PlaceCount). HoldsBack (g.S.Sink.taken c.args.sink.now) (g.S.Sink.taken c.loop-q.sink) c.loop-q.held (c.args.held.now ++ places_bytes trace l))
    (take_all c.loop-q.q counts (omega (arith, past, many, c.len-q-end.ensures))) (c.loop-q.invariant.held trace pairs are)
