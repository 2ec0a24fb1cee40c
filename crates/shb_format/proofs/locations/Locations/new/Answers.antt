use Rattle.std.proofs.Common.{List, [], sym, subst}
use Rattle.std.specs.List.{IsDistinct}
use Rattle.shb_format.proofs.Words.{TextKey, bytes_eq}
use Rattle.shb_format.proofs.Numbered.{locations_in}
use Rattle.shb_format.proofs.locations.Locations.new.Goals as goal

none_alike : IsDistinct bytes_eq (locations_in [])
unfolding IsDistinct
none_alike = tt

pub invariant_of-result : goal.invariant_of-result
invariant_of-result g c = subst (λ (known : List TextKey). IsDistinct bytes_eq (locations_in known)) (sym c.with_hasher.ensures.empty) none_alike
