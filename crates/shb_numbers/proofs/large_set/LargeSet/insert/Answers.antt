use Rattle.std.proofs.Common.{◌∙◌, ap}
use Rattle.std.proofs.lemmas.Result.{on_ok_weaker}
use Rattle.std.specs.FinSet as fin
use Rattle.shb_numbers.proofs.FarLemmas.{near_more}
use Rattle.shb_numbers.proofs.large_set.LargeSet.insert.Goals as goal

pub returns-then-number-words_more-clause-inserted : goal.returns-then-number-words_more-clause-inserted
returns-then-number-words_more-clause-inserted c =
    on_ok_weaker c.insert.result
    (λ is. near_more c.self.inside.near c.insert.new.self c.self.inside.far.items c.args.number is ∙ ap (λ s. fin.insert s c.args.number) c.self.view_is)
    c.insert.ensures.inserted
