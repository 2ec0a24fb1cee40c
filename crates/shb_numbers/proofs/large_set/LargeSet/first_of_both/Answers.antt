use Rattle.std.proofs.Common.{ℕ, MatchOption, ◌∙◌, ap, subst, sym}
use Rattle.std.specs.FinSet as fin
use Rattle.std.specs.Ordering.{nat_cmp}
use Rattle.std.specs.Prelude.{Option}
use Rattle.shb_numbers.specs.Numbers.{HasNone, IsLeast, Numbers, both}
use Rattle.shb_numbers.proofs.FarLemmas.{least_of_both}
use Rattle.shb_numbers.proofs.large_set.LargeSet.first_of_both.Goals as goal

pub returns : goal.returns
returns c =
    let far = fin.difference (fin.from_list {R = nat_cmp} c.as_slice.result.now) c.args.other.now in
    subst (λ (s : Numbers). MatchOption c.or.result (HasNone (fin.difference s c.args.other.now) c.args.from c.args.end) (IsLeast (fin.difference s c.args.other.now) c.args.from c.args.end))
    (ap (both c.self.inside.near) c.as_slice.ensures.value ∙ c.self.view_is)
    (subst (λ (r : Option ℕ). MatchOption r (HasNone (fin.difference (both c.self.inside.near c.as_slice.result.now) c.args.other.now) c.args.from c.args.end) (IsLeast (fin.difference (both c.self.inside.near c.as_slice.result.now) c.args.other.now) c.args.from c.args.end))
    (sym c.or.ensures)
    (least_of_both c.self.inside.near c.as_slice.result.now c.args.other.now c.args.from c.args.end c.near_not_in-near.result c.far_not_in.result c.near_not_in-near.ensures
    (subst (λ (u : ℕ). MatchOption c.far_not_in.result (HasNone far c.args.from u) (IsLeast far c.args.from u)) c.unwrap_or-until.ensures c.far_not_in.ensures)))
