use Rattle.std.proofs.Common.{◌∙◌, ap}
use Rattle.std.specs.FinSet as fin
use Rattle.shb_numbers.specs.Numbers.{Numbers}
use Rattle.shb_numbers.proofs.FewLemmas.{few_are, many_are}
use Rattle.shb_numbers.proofs.number_set.NumberSet.contains.Goals as goal

pub returns-in-Many : goal.returns-in-Many
returns-in-Many c =
    c.contains.ensures ∙ ap (λ (s : Numbers). fin.contains s c.args.number)
    (c.deref.ensures ∙ many_are c.self.inside.kept c.in-Many.set c.args.self.now c.in-Many.is c.self.view_is)

pub returns-in-Few : goal.returns-in-Few
returns-in-Few c =
    c.contains-in-Few-2.ensures ∙ ap (λ (s : Numbers). fin.contains s c.args.number)
    (c.of_word.ensures ∙ few_are _ c.self.inside.kept c.args.self.now c.in-Few.is c.self.view_is)
