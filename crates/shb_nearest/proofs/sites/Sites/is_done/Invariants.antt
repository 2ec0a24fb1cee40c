-- Up to a number, the sites of the set are paired or old.
use Rattle.std.proofs.Common.{ℕ, ◌<◌}
use Rattle.shb_nearest.proofs.SiteLemmas.{IsPairedOrOld}
use Rattle.shb_nearest.proofs.sites.Sites.is_done.Given as goal

abbrev pub invariant-loop : goal.invariant-loop
invariant-loop l = (k : ℕ) → k < l.from → IsPairedOrOld l.self.all.items l.numbers l.own.paired l.since k
