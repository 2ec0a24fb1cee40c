use Rattle.std.proofs.Common.{List, ap, map, subst, sym, ◌∙◌}
use Rattle.std.proofs.lemmas.Result.{IfOk-weaker}
use Rattle.shb_counts.specs.Joined.{place_of}
use Rattle.shb_counts.specs.Sums.{AreSumsOf}
use Rattle.shb_counts.specs.declared.places.FirstRace.{FirstRace}
use Rattle.shb_counts.proofs.JoinLemmas.{sorted_are_places, sums_sorted}
use Rattle.shb_counts.proofs.places.joined.Goals as goal

pub first_races-requires-clause-few : goal.first_races-requires-clause-few
first_races-requires-clause-few c =
    let few = c.requires in
    (few.0, few.1, few.2, subst (AreSumsOf few.0 few.1 few.2) (sym c.as_slice.ensures.value) (sums_sorted few.0 few.1 few.2 c.args.sums.items c.sort_unstable.new.self.items c.sort_unstable.ensures.permutation few.3), few.4)

pub returns : goal.returns
returns c trace numbers pairs sums =
    let sorted = c.sort_unstable-2.new.self.items in
    let found = c.in_ok-races.ensures trace numbers pairs (subst (AreSumsOf trace numbers pairs) (sym c.as_slice.ensures.value) (sums_sorted trace numbers pairs c.args.sums.items c.sort_unstable.new.self.items c.sort_unstable.ensures.permutation sums)) in
    IfOk-weaker c.places_in.result _ _
    (λ places is. sorted_are_places trace numbers pairs c.in_ok-races.races.items sorted places found c.sort_unstable-2.ensures.permutation c.sort_unstable-2.ensures.sorted (is ∙ ap (λ (rs : List FirstRace). map place_of rs) c.as_slice-2.ensures.value))
    c.places_in.ensures
