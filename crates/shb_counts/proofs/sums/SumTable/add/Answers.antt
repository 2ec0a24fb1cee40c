use Rattle.std.proofs.Common.{List, [], ◌∷◌, ◌++◌, ◌∙◌, ap, subst, sym}
use Rattle.shb_counts.specs.Sums.{AreSumsOf}
use Rattle.shb_counts.specs.declared.sums.PlaceSum.{PlaceSum}
use Rattle.shb_counts.proofs.TableLemmas.{sum_joined, sum_pushed}
use Rattle.shb_counts.proofs.sums.SumTable.add.Goals as goal

pub returns-then-join_newest : goal.returns-then-join_newest
returns-then-join_newest c trace numbers pairs more h is m = sum_joined trace numbers pairs more c.args.self.now.sums.items c.join_newest.new.self.sums.items c.args.sum h is m (c.join_newest.ensures.joined c.if-join_newest.true)

pub returns : goal.returns
returns c trace numbers pairs more h is m =
    let same = c.in_ok-push.ensures.items ∙ ap (λ (l : List PlaceSum). l ++ c.args.sum ∷ []) (c.join_newest.ensures.kept c.if-join_newest.false) in
    subst (λ (l : List PlaceSum). AreSumsOf trace numbers (pairs ++ more) l) (sym same) (sum_pushed trace numbers pairs more c.args.self.now.sums.items c.args.sum h is m)
