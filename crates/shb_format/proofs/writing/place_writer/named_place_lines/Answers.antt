-- The count, and the lines of the places.
use Rattle.std.proofs.Common.{◌++◌, ◌∙◌, subst}
use Rattle.shb_format.proofs.Words.{HoldsBack-end, Writes, Writes-both, Writes-err, counts_in, places_bytes, places_of_pairs}
use Rattle.shb_format.proofs.writing.NamedPlaces.{many_counts}
use Rattle.shb_format.proofs.writing.PlaceText.{section_is}
use Rattle.shb_format.proofs.writing.place_writer.named_place_lines.Goals as goal

pub returns-in_err-put_named_places-clause-written : goal.returns-in_err-put_named_places-clause-written
returns-in_err-put_named_places-clause-written g c = λ trace pairs are.
    let counts = counts_in (places_of_pairs trace pairs) in
    let many = c.len.ensures ∙ many_counts trace pairs c.args.locations.now c.args.places.now are in
    let section = section_is trace counts c.len.result c.new-held.result c.push_labelled.new.self c.push_byte.new.self many c.new-held.ensures c.push_labelled.ensures.text c.push_byte.ensures in
    subst (λ bytes. Writes (g.S.Sink.taken c.args.sink.now) (g.S.Sink.taken c.put_named_places.new.sink) c.from_residual.result bytes) section
    (Writes-err _ _ _ _ (c.push_byte.new.self ++ places_bytes trace counts) c.from_residual.ensures.1 (c.in_err-put_named_places.ensures.put trace pairs are))

pub returns-clause-written : goal.returns-clause-written
returns-clause-written g c = λ trace pairs are.
    let counts = counts_in (places_of_pairs trace pairs) in
    let many = c.len.ensures ∙ many_counts trace pairs c.args.locations.now c.args.places.now are in
    let section = section_is trace counts c.len.result c.new-held.result c.push_labelled.new.self c.push_byte.new.self many c.new-held.ensures c.push_labelled.ensures.text c.push_byte.ensures in
    let sent = subst (λ bytes. Writes (g.S.Sink.taken c.put_named_places.new.sink) (g.S.Sink.taken c.write_all.new.sink) c.write_all.result bytes) c.as_slice.ensures (Writes-both _ _ _ _ c.write_all.ensures.ok c.write_all.ensures.err) in
    subst (λ bytes. Writes (g.S.Sink.taken c.args.sink.now) (g.S.Sink.taken c.write_all.new.sink) c.write_all.result bytes) section
    (HoldsBack-end _ _ _ _ _ _ (c.in_ok-put_named_places.ensures.put trace pairs are) sent)
