-- Plans that a clause speaks of.
use Rattle.std.specs.Prelude.{◌≡◌, true, None}
use Rattle.shb_words.specs.declared.plan.Plan.{Plan}
use Rattle.shb_words.specs.declared.plan.Plan.TheVariants.{Races}

-- the report of all races of standard input, without schedules, by 4 workers
abbrev pub ListsInput : Plan → Type 0
ListsInput (Races workers list trace) = (list ≡ true) × (trace ≡ None) × (workers.count ≡ 4)
ListsInput _ = ⊥
