use Rattle.std.proofs.Common.{◌∙◌, refl}
use Rattle.shb_numbers.proofs.FewLemmas.{few_are, first_of, many_are, same_first, words_are}
use Rattle.shb_numbers.proofs.number_set.NumberSet.first_not_in.Goals as goal

pub returns-in-Many : goal.returns-in-Many
returns-in-Many c =
    same_first c.first_of_large.result _ _ _ _ c.args.from c.args.end
    (c.deref.ensures ∙ many_are c.self.inside.kept c.in-Many.here c.args.self.now c.in-Many.is c.self.view_is) refl c.first_of_large.ensures

pub returns-in-Many-kept : goal.returns-in-Many-kept
returns-in-Many-kept c =
    same_first c.first_of_large-in-Many-kept.result _ _ _ _ c.args.from c.args.end
    (c.of_word-here.ensures ∙ few_are _ c.self.inside.kept c.args.self.now c.in-Few.is c.self.view_is) refl c.first_of_large-in-Many-kept.ensures

pub returns-in-Few-kept : goal.returns-in-Few-kept
returns-in-Few-kept c =
    let here = words_are c.words_of.result.first _ c.words_of.result.more.now c.words_of.ensures.first c.words_of.ensures.more in
    let there = words_are c.words_of-in-Few-kept.result.first _ c.words_of-in-Few-kept.result.more.now c.words_of-in-Few-kept.ensures.first c.words_of-in-Few-kept.ensures.more in
    same_first c.first_of_words.result _ _ _ _ c.args.from c.args.end
    (here ∙ few_are _ c.self.inside.kept c.args.self.now c.in-Few.is c.self.view_is)
    (there ∙ few_are _ c.other.inside.kept c.args.other.now c.in-Few-kept.is c.other.view_is)
    (first_of c.first_of_words.result _ _ c.args.from c.args.end c.first_of_words.ensures.none c.first_of_words.ensures.some)
