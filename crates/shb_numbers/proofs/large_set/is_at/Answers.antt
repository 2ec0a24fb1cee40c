use Rattle.std.proofs.Common.{◌∙◌, arith, length, sym}
use Rattle.std.proofs.lemmas.Bool.{le-ltb}
use Rattle.shb_numbers.proofs.FarLemmas.{has_last, has_not}
use Rattle.shb_numbers.proofs.large_set.is_at.Goals as goal

pub returns-then-at-numbers : goal.returns-then-at-numbers
returns-then-at-numbers c = sym (has_last c.args.numbers.now c.requires.rising c.args.at c.args.number c.requires.below c.if-at-numbers.true (c.requires.from c.if-at-numbers.true))

pub returns-else-at-numbers : goal.returns-else-at-numbers
returns-else-at-numbers c =
    le-ltb c.args.at (length c.args.numbers.now) c.if-at-numbers.false ∙ sym (has_not c.args.numbers.now c.requires.rising c.args.at c.args.number c.requires.below (λ inside. absurd (omega (arith, inside, c.if-at-numbers.false))))
