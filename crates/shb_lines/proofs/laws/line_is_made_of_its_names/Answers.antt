use Rattle.shb_lines.proofs.text.NamedLines.{location_from_after, made_of_its_names}
use Rattle.shb_lines.proofs.laws.line_is_made_of_its_names.Goals as goal

pub returns-clause-location : goal.returns-clause-location
returns-clause-location c = location_from_after

pub returns-clause-line : goal.returns-clause-line
returns-clause-line c = made_of_its_names
