use Rattle.std.proofs.Common.{List, subst, ℕ}
use Rattle.shb_witness.proofs.Words.{AreRaisedCounts, Event}
use Rattle.shb_witness.proofs.CutLemmas.{cuts_raised}
use Rattle.shb_witness.proofs.schedules.cuts_of.Goals as goal

pub returns-clause-cuts : goal.returns-clause-cuts
returns-clause-cuts g c =
    let ordered : List Event = g.O.Order.trace c.args.ordered.now.order.now in
    let first : List ℕ = c.raise_below.new.counts.items in
    cuts_raised c.args.ordered.now.disciplined.now.events.now ordered c.args.pair.first c.args.pair.second c.args.ordered.now.disciplined.now.sizes.threads first c.raise_below-2.new.counts.items c.args.ordered.now.of_trace
    (subst (λ (zeros : List ℕ). AreRaisedCounts ordered c.args.pair.first zeros first) c.in_ok-cuts.ensures c.in_ok-raise_below.ensures) c.in_ok-raise_below-2.ensures
