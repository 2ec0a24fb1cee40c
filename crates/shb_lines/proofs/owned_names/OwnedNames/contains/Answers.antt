-- What is found says whether the name is one of the names.
use Rattle.std.proofs.Common.{ap, ◌∙◌}
use Rattle.std.specs.List.{list_any}
use Rattle.std.specs.Str.{bytes_eq}
use Rattle.shb_lines.proofs.text.OwnedLemmas.{found_any}
use Rattle.shb_lines.proofs.owned_names.OwnedNames.contains.Goals as goal

pub returns-in-Some : goal.returns-in-Some
returns-in-Some c =
    c.is_some.ensures
    ∙ found_any c.self.inside.names c.args.name.now c.found.result c.found.ensures.some c.found.ensures.none
    ∙ ap (list_any (bytes_eq c.args.name.now)) c.self.view_is
