-- What is counted of all races in stretches and pieces, joined by place and sorted, is what the report says of its places.
use Rattle.std.proofs.Common.{◌≡◌, ℕ, Bool, List, [], ◌∷◌, ◌++◌, map, refl, ap, sym, ◌∙◌}
use Rattle.std.specs.Prelude.{flat_map}
use Rattle.std.proofs.lemmas.List.{map-append}
use Rattle.shb_lines.specs.declared.event.Event.{Event}
use Rattle.shb_format.specs.Report.{pair_of}
use Rattle.shb_stamps.specs.Accesses.{races_with}
use Rattle.shb_stamps.specs.Settling.{AreOpen}
use Rattle.shb_counts.specs.Sums.{pairs_with}
use Rattle.shb_counts.proofs.RaceOrder.{pairs_below}
use Rattle.shb_counts.proofs.ReportPlaces.{listed, races_listed}

map_flat : {X Y A : Type 0} (g : Y → A) (f : X → List Y) (xs : List X) → map g (flat_map f xs) ≡ flat_map (λ x. map g (f x)) xs
map_flat g f [] = refl
map_flat g f (x ∷ xs) = map-append g (f x) (flat_map f xs) ∙ ap (λ l. map g (f x) ++ l) (map_flat g f xs)

pub pairs_listed : (trace : List Event) (flags : List Bool) (variables : ℕ) → AreOpen trace flags → flat_map (pairs_with trace) (listed trace flags variables) ≡ pairs_below trace variables
pairs_listed trace flags variables settled = sym (map_flat pair_of (races_with trace) (listed trace flags variables)) ∙ ap (map pair_of) (races_listed trace flags variables settled)
