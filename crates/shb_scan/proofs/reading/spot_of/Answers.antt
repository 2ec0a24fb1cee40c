-- A location has the number of its name, and where there is none, that of the empty name.
use Rattle.std.proofs.Common.{◌≡◌, ◌∙◌, ℕ, List, [], Option, Some, ap, sym}
use Rattle.shb_scan.proofs.Words.{location_after, location_from_after, location_of, option_copied, with_name}
use Rattle.std.specs.Prelude.{is_some, unwrap_or}
use Rattle.shb_scan.proofs.reading.spot_of.Goals as goal

-- the location of a line by what stands after its second bar
from_after : (line : List ℕ) (after : Option (List ℕ)) → location_after line ≡ after → location_of line ≡ unwrap_or after []
from_after line after is = location_from_after line ∙ ap (λ (o : Option (List ℕ)). unwrap_or o []) is

pub returns-in_ok-location-in-Some-clause-spot : goal.returns-in_ok-location-in-Some-clause-spot
returns-in_ok-location-in-Some-clause-spot c = λ line is.
    let after = sym is ∙ ap option_copied c.in-Some.is in
    record { location = c.in_ok-location-in-Some.ensures.number ∙ ap (λ (l : List ℕ). Some l) (sym (from_after line _ after)); barred = ap is_some (sym after) }

pub returns-in_ok-location-in-Some-clause-names : goal.returns-in_ok-location-in-Some-clause-names
returns-in_ok-location-in-Some-clause-names c = λ line is.
    c.in_ok-location-in-Some.ensures.names ∙ ap (with_name c.args.locations.now) (sym (from_after line _ (sym is ∙ ap option_copied c.in-Some.is)))

pub returns-in_ok-location-in-None-clause-spot : goal.returns-in_ok-location-in-None-clause-spot
returns-in_ok-location-in-None-clause-spot c = λ line is.
    let after = sym is ∙ ap option_copied c.in-None.is in
    record { location = c.in_ok-location-in-None.ensures.number ∙ ap (λ (l : List ℕ). Some l) (sym (from_after line _ after)); barred = ap is_some (sym after) }

pub returns-in_ok-location-in-None-clause-names : goal.returns-in_ok-location-in-None-clause-names
returns-in_ok-location-in-None-clause-names c = λ line is.
    c.in_ok-location-in-None.ensures.names ∙ ap (with_name c.args.locations.now) (sym (from_after line _ (sym is ∙ ap option_copied c.in-None.is)))
