use Rattle.std.proofs.Common.{List, ℕ, ◌∷◌, ap}
use Rattle.shb_numbers.specs.Numbers.{marked}
use Rattle.shb_numbers.proofs.dense.Dense.of_word.Goals as goal

pub returns : goal.returns
returns c = ap (λ (more : List ℕ). marked (c.args.word ∷ more)) c.new.ensures.items
