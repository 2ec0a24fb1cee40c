-- The names are those of the trace.
use Rattle.std.proofs.Common.{◌∙◌, List, ap, map, refl, subst, sym}
use Rattle.shb_scan.proofs.Words.{AreKeyed, FoundRace, Numbering, Writes, counts_in, ends_of, listing_bytes, places_in}
use Rattle.shb_scan.proofs.Listed.{counts_are, have_names, made_of}
use Rattle.shb_scan.proofs.writing.write_found.Goals as goal

pub write_scan-requires-clause-named : goal.write_scan-requires-clause-named
write_scan-requires-clause-named g c =
    have_names c.requires.found.0 c.args.found.now c.requires.found.1 _ (c.threads.ensures ∙ ap (λ (n : Numbering). n.threads) c.numbering-numbering.ensures) (c.variables.ensures ∙ ap (λ (n : Numbering). n.variables) c.numbering-numbering.ensures) refl
    c.as_slice.result.now c.as_slice.ensures.value

pub write_scan-requires-clause-few : goal.write_scan-requires-clause-few
write_scan-requires-clause-few g c = c.requires.found.1.few

pub write_scan-requires-clause-keyed : goal.write_scan-requires-clause-keyed
write_scan-requires-clause-keyed g c = (_, c.requires.found.1.places)

pub returns-clause-written : goal.returns-clause-written
returns-clause-written g c = λ text h.
    let found = c.args.found.now in
    subst (λ (items : List FoundRace). Writes (g.K.Sink.taken c.args.sink.now) (g.K.Sink.taken c.write_scan.new.sink) c.write_scan.result (listing_bytes h.trace (map ends_of items))) c.as_slice.ensures.value
    (c.write_scan.ensures.written h.trace (c.counts_of-counts.ensures ∙ ap counts_in c.numbering-numbering.ensures ∙ counts_are text found h)
    (made_of text found h _ (c.threads.ensures ∙ ap (λ (n : Numbering). n.threads) c.numbering-numbering.ensures) (c.variables.ensures ∙ ap (λ (n : Numbering). n.variables) c.numbering-numbering.ensures) refl
    c.as_slice.result.now c.as_slice.ensures.value)
    (subst (λ (items : List FoundRace). AreKeyed found.locations found.places (places_in h.trace items)) (sym c.as_slice.ensures.value) h.places))
