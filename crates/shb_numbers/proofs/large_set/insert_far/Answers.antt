use Rattle.std.proofs.Common.{◌∙◌, ap, length, refl}
use Rattle.std.proofs.lemmas.List.Edits.{length-insert}
use Rattle.shb_numbers.specs.Numbers.{has_key}
use Rattle.shb_numbers.proofs.FarLemmas.{others_stay, place_of, rises_with, search_found}
use Rattle.shb_numbers.proofs.large_set.insert_far.Goals as goal

pub returns-in-Ok-clause-there : goal.returns-in-Ok-clause-there
returns-in-Ok-clause-there c =
    search_found c.args.far.now.items c.deref.result.now c.in-Ok.field-0 c.args.number c.deref.ensures.value c.requires.rising c.in-Ok.ensures.position

pub returns-in_ok-insert-in-Err-clause-rises : goal.returns-in_ok-insert-in-Err-clause-rises
returns-in_ok-insert-in-Err-clause-rises c =
    let place = place_of c.args.far.now.items c.deref.result.now c.in-Err.at c.args.number c.deref.ensures.value c.requires.rising c.in-Err.ensures.position in
    let known = c.in_ok-insert-in-Err.ensures in
    rises_with c.args.far.now.items c.insert.new.self.items c.in-Err.at c.args.number c.requires.rising place.0 (ap length known.items ∙ length-insert c.args.far.now.items c.in-Err.at c.args.number place.0) (known.by_index.0 0 refl)
    (λ k below. known.by_index.1 k 0 below) (λ k above. known.by_index.2 k 0 refl above) place.1 place.2

pub returns-in_ok-insert-in-Err-clause-others : goal.returns-in_ok-insert-in-Err-clause-others
returns-in_ok-insert-in-Err-clause-others c q other =
    let place = place_of c.args.far.now.items c.deref.result.now c.in-Err.at c.args.number c.deref.ensures.value c.requires.rising c.in-Err.ensures.position in
    ap (λ l. has_key l q) c.in_ok-insert-in-Err.ensures.items ∙ others_stay c.args.far.now.items q c.in-Err.at c.args.number place.0 other
