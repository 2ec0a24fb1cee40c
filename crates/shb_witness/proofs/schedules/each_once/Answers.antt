use Rattle.std.proofs.lemmas.List.Filters.{dedup_is}
use Rattle.std.proofs.lemmas.List.Kept.{Contains-dedup_nat, Contains-from_dedup}
use Rattle.shb_witness.proofs.Words.{Contains-permutation, IsPermutation-sym}
use Rattle.std.proofs.lemmas.Map.Keys.{IsStrictlyIncreasing-dedup}
use Rattle.shb_witness.proofs.schedules.each_once.Goals as goal

pub returns-clause-rising : goal.returns-clause-rising
returns-clause-rising c = rw (dedup_is _ _ _ c.dedup.ensures.filtered) (IsStrictlyIncreasing-dedup _ c.in_ok-sort.ensures.sorted)

pub returns-clause-same : goal.returns-clause-same
returns-clause-same c =
    let is = dedup_is _ _ _ c.dedup.ensures.filtered in
    let moved = c.sort.ensures.permutation in
    λ e. (
      (λ h. Contains-permutation _ _ e (IsPermutation-sym _ _ moved) (Contains-from_dedup _ _ e (rw is at h))),
      (λ h. rw is (Contains-dedup_nat _ e (Contains-permutation _ _ e moved h))),
    )
