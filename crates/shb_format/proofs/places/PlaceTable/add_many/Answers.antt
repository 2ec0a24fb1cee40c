-- A write where the numbers stand.
use Rattle.shb_format.proofs.Words.{Keyed, PlaceCount, common_steps, counted_of}
use Rattle.std.proofs.Common.{◌≡◌, ◌+◌, ◌<◌, ◌^◌, ◌∙◌, ap, arith, sym, subst, IfSome, List, Option, Some}
use Rattle.shb_format.proofs.KeyedLemmas.{written_at}
use Rattle.shb_format.proofs.places.PlaceTable.add_many.Goals.{in-Some-get_index_mut, in_default-get_index_mut}
use Rattle.shb_format.proofs.places.PlaceTable.add_many.Goals as goal

pub overflow_add-counted : goal.overflow_add-counted
overflow_add-counted c =
    let counted : PlaceCount = c.in-Some-get_index_mut.counted.now in
    let is : counted_of c.self.inside.table.entries c.args.key ≡ Some counted = sym (c.in-Some-get_index_mut.ensures.value ∙ c.in-Some.ensures.value) in
    let below = subst (λ (o : Option PlaceCount). IfSome o (λ counted. counted.count + c.args.more < 2 ^ 64)) (ap (λ (l : List Keyed). counted_of l c.args.key) (sym c.self.view_is) ∙ is) c.requires in
    omega (arith, below)

pub returns-clause-added : goal.returns-clause-added
returns-clause-added c = grind (arith, common_steps, Option, c.self.view_is, c.match-get_index_mut.branch, in-Some-get_index_mut, written_at, c.in-Some.ensures.index, c.in-Some.ensures.value, in_default-get_index_mut)
