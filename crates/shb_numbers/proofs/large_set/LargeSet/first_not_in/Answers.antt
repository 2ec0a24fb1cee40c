use Rattle.std.proofs.Common.{MatchOption, ◌∙◌, ap, subst, sym}
use Rattle.std.specs.FinSet as fin
use Rattle.shb_numbers.specs.Numbers.{HasNone, IsLeast, Numbers, both}
use Rattle.shb_numbers.proofs.FarLemmas.{only_near}
use Rattle.shb_numbers.proofs.large_set.LargeSet.first_not_in.Goals as goal

pub returns-then-there-eq0 : goal.returns-then-there-eq0
returns-then-there-eq0 c =
    subst (λ (s : Numbers). MatchOption c.first_not_in.result (HasNone (fin.difference s c.args.other.now) c.args.from c.args.end) (IsLeast (fin.difference s c.args.other.now) c.args.from c.args.end))
    (sym (only_near c.self.inside.near c.as_slice-far.result.now c.if-far-eq0.true) ∙ ap (both c.self.inside.near) c.as_slice-far.ensures.value ∙ c.self.view_is)
    (subst (λ (s : Numbers). MatchOption c.first_not_in.result (HasNone (fin.difference c.self.inside.near s) c.args.from c.args.end) (IsLeast (fin.difference c.self.inside.near s) c.args.from c.args.end))
    (sym (only_near c.other.inside.near c.as_slice-there.result.now c.if-there-eq0.true) ∙ ap (both c.other.inside.near) c.as_slice-there.ensures.value ∙ c.other.view_is) c.first_not_in.ensures)
