-- Sets of numbers that are all below 64, or are kept otherwise.
use Rattle.std.specs.Prelude.{[], ◌∷◌}
use Rattle.shb_numbers.specs.Numbers.{Numbers, marked}
use Rattle.shb_numbers.specs.declared.number_set.Kept.{Kept}
use Rattle.shb_numbers.specs.declared.number_set.Kept.TheVariants.{Few, Many}

-- the numbers that a word marks, or those of the large set where there is one
unfoldable pub numbers_of : Kept → Numbers
numbers_of (Few few) = marked (few ∷ [])
numbers_of (Many many) = many.value
