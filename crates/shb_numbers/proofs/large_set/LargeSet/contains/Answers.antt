use Rattle.std.proofs.Common.{◌||◌, ◌∙◌, ap, sym}
use Rattle.std.specs.FinSet as fin
use Rattle.shb_numbers.specs.Numbers.{has_key}
use Rattle.shb_numbers.proofs.FarLemmas.{contains_both}
use Rattle.shb_numbers.proofs.large_set.LargeSet.contains.Goals as goal

pub returns-then-contains : goal.returns-then-contains
returns-then-contains c =
    sym (ap (λ s. fin.contains s c.args.number) (sym c.self.view_is) ∙ contains_both c.self.inside.near c.self.inside.far.items c.args.number
    ∙ ap (λ b. b || has_key c.self.inside.far.items c.args.number) (sym c.contains.ensures ∙ c.if-contains.true))

pub returns : goal.returns
returns c =
    c.has.ensures ∙ ap (λ l. has_key l c.args.number) c.as_slice.ensures.value
    ∙ sym (ap (λ s. fin.contains s c.args.number) (sym c.self.view_is) ∙ contains_both c.self.inside.near c.self.inside.far.items c.args.number
    ∙ ap (λ b. b || has_key c.self.inside.far.items c.args.number) (sym c.contains.ensures ∙ c.if-contains.false))
