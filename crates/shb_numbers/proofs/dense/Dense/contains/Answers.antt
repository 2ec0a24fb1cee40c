use Rattle.std.proofs.Common.{◌∷◌, ◌∙◌, ap, sym}
use Rattle.std.specs.FinSet as fin
use Rattle.shb_numbers.proofs.SetLemmas.{contains_marked}
use Rattle.shb_numbers.proofs.WordLemmas.{tested}
use Rattle.shb_numbers.proofs.dense.Dense.contains.Goals as goal

pub returns : goal.returns
returns c =
    tested (c.words.result.first ∷ c.words.result.more.now) c.args.number c.word_at-word.result c.word_at-word.ensures
    ∙ sym (contains_marked (c.words.result.first ∷ c.words.result.more.now) c.args.number)
    ∙ ap (λ s. fin.contains s c.args.number) c.words.ensures.words
