use Rattle.std.proofs.lemmas.List.Filters.{dedup_is}
use Rattle.shb_stamps.proofs.Words.{Contains-dedup_nat, Contains-from_dedup, Contains-permutation, IsPermutation-sym}
use Rattle.std.proofs.lemmas.Map.Keys.{IsStrictlyIncreasing-dedup}
use Rattle.std.proofs.Common.{List, ℕ, subst, sym}
use Rattle.std.specs.Prelude.{Contains}
use Rattle.shb_stamps.proofs.listed_rows.each_once.Goals as goal

pub returns-clause-rising : goal.returns-clause-rising
returns-clause-rising c = rw (dedup_is _ _ _ c.dedup.ensures.filtered) (IsStrictlyIncreasing-dedup _ c.sort_unstable.ensures.sorted)

pub returns-clause-same : goal.returns-clause-same
returns-clause-same c =
    let is = dedup_is _ _ _ c.dedup.ensures.filtered in
    let moved = c.sort_unstable.ensures.permutation in
    let made = c.in_ok-found.ensures.items in
    λ e. (
      (λ h. subst (λ (xs : List ℕ). Contains xs e) made (Contains-permutation _ _ e (IsPermutation-sym _ _ moved) (Contains-from_dedup _ _ e (rw is at h)))),
      (λ h. rw is (Contains-dedup_nat _ e (Contains-permutation _ _ e moved (subst (λ (xs : List ℕ). Contains xs e) (sym made) h)))),
    )
