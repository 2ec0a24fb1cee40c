use Rattle.std.proofs.Common.{◌∙◌, refl}
use Rattle.shb_numbers.proofs.FewLemmas.{few_are, many_are, same_first}
use Rattle.shb_numbers.proofs.number_set.first_of_large.Goals as goal

pub returns-in-Many : goal.returns-in-Many
returns-in-Many c =
    same_first c.first_not_in.result _ _ _ _ c.args.from c.args.end refl
    (c.deref.ensures ∙ many_are c.other.inside.kept c.in-Many.there c.args.other.now c.in-Many.is c.other.view_is) c.first_not_in.ensures

pub returns-in-Few : goal.returns-in-Few
returns-in-Few c =
    same_first c.first_not_in-in-Few.result _ _ _ _ c.args.from c.args.end refl
    (c.of_word-there.ensures ∙ few_are _ c.other.inside.kept c.args.other.now c.in-Few.is c.other.view_is) c.first_not_in-in-Few.ensures
