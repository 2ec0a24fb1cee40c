use Rattle.std.proofs.Common.{◌∙◌, ◌<◌, ◌-◌, ◌^◌, ap, subst, sym, IfSome, List, Option}
use Rattle.shb_format.proofs.Words.{Keyed, PlaceCount, counted_of}
use Rattle.shb_format.proofs.PlaceLemmas.{copied_few}
use Rattle.shb_format.proofs.places.PlaceTable.add.Goals as goal

pub counted_with-counted-requires : goal.counted_with-counted-requires
counted_with-counted-requires c =
    copied_few (2 ^ 64 - 1) c.get.result (subst (λ (o : Option PlaceCount). IfSome o (λ counted. counted.count < 2 ^ 64 - 1)) (sym (c.get.ensures.value ∙ ap (λ (l : List Keyed). counted_of l c.args.key) c.self.view_is)) c.requires)
