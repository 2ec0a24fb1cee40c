-- A filter over positions of a list is one over the list.
use Rattle.std.proofs.Common.{◌≡◌, Bool, true, false, cond, List, [], ◌∷◌, map, refl, ap}
use Rattle.std.specs.Prelude.{filter}

pub filter_mapped : {P X : Type 0} (f : X → Bool) (g : P → X) (ps : List P) → filter f (map g ps) ≡ map g (filter (λ p. f (g p)) ps)
filter_mapped f g [] = refl
filter_mapped {P} {X} f g (p ∷ ps) = by (f (g p)) (filter_mapped f g ps)
  where
    by : (b : Bool) → filter f (map g ps) ≡ map g (filter (λ q. f (g q)) ps) → cond b (g p ∷ filter f (map g ps)) (filter f (map g ps)) ≡ map g (cond b (p ∷ filter (λ q. f (g q)) ps) (filter (λ q. f (g q)) ps))
    by true rest = ap (λ (l : List X). g p ∷ l) rest
    by false rest = rest
