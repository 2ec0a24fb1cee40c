use Rattle.std.proofs.Common.{List, ◌++◌, ◌<◌, ◌∙◌, ap, append-nil, arith, subst, sym}
use Rattle.shb_counts.proofs.Words.{Pair}
use Rattle.shb_counts.specs.Covers.{pairs_at}
use Rattle.shb_counts.specs.Sums.{AreSumsOf}
use Rattle.shb_counts.proofs.CoveredLemmas.{entry_is, entry_sum, no_pairs_at}
use Rattle.shb_counts.proofs.cover.add_sum.Goals as goal

pub returns-then-count-eq0 : goal.returns-then-count-eq0
returns-then-count-eq0 c trace numbers events pairs o counted is each h =
    let nothing = no_pairs_at trace events c.args.entry (sym counted ∙ c.if-count-eq0.true) in
    subst (λ (l : List Pair). AreSumsOf trace numbers l c.args.table.now.sums.items) (sym (ap (λ (l : List Pair). pairs ++ l) nothing ∙ append-nil pairs)) h

pub returns : goal.returns
returns c trace numbers events pairs o counted is each h =
    let some : 0 < c.args.count = omega (arith, c.if-count-eq0.false) in
    c.add.ensures trace numbers pairs (pairs_at trace events c.args.entry) h
    (entry_is trace numbers events c.args.access each c.args.entry c.args.first c.args.count is o some counted)
    (entry_sum trace numbers events c.args.access each c.args.entry c.args.first c.args.count o some counted)
