-- An event may come after others exactly where it has no fault.
use Rattle.std.proofs.lemmas.Grind.{common_steps}
use Rattle.std.proofs.Common.{◌≡◌, ℕ, ◌+◌, ◌<◌, ◌≤◌, ◌⊎◌, inl, inr, List, length, take, get_or, refl, ◌∙◌, ap, arith, subst}
use Rattle.std.proofs.lemmas.Bool.{cases_eq, cases_lt}
use Rattle.std.proofs.lemmas.Option.{get_or_from_slice_get}
use Rattle.shb_lines.specs.declared.event.Event.{Event}
use Rattle.shb_lines.specs.declared.fault.Fault.{Fault}
use Rattle.shb_lines.specs.declared.fault.Fault.TheVariants as faults
use Rattle.shb_lines.specs.declared.event.Op.{Op}
use Rattle.shb_lines.specs.declared.event.Op.TheVariants.{Acquire, Release, Fork, Join}
use Rattle.shb_lines.specs.events.Discipline.{acquires, only, other_than, releases, MayCome, MayDo, MayFork}
use Rattle.shb_lines.proofs.events.Locks.{DisciplinedBelow}
use Rattle.shb_discipline.specs.Faults.{HasDisciplineFault}

none_of : (n : ℕ) → (0 < n → ⊥) → n ≡ 0
none_of n h = grind (arith, common_steps, cases_lt)

module _ (past : List Event) (e : Event) where
  module _ (clean : (f : Fault) → HasDisciplineFault past e f → ⊥) where
    may_do : (op : Op) → e.op ≡ op → MayDo past e.thread op
    may_do (Acquire l) is = go (cases_eq (acquires (other_than e.thread) l past) (releases (other_than e.thread) l past))
      where
        go : (acquires (other_than e.thread) l past ≡ releases (other_than e.thread) l past) ⊎ (acquires (other_than e.thread) l past ≡ releases (other_than e.thread) l past → ⊥) → acquires (other_than e.thread) l past ≡ releases (other_than e.thread) l past
        go (inl same) = same
        go (inr differ) = absurd (clean faults.LockHeld (l, is, differ))
    may_do (Release l) is = go (cases_lt (releases (only e.thread) l past) (acquires (only e.thread) l past))
      where
        go : (releases (only e.thread) l past < acquires (only e.thread) l past) ⊎ (acquires (only e.thread) l past ≤ releases (only e.thread) l past) → releases (only e.thread) l past < acquires (only e.thread) l past
        go (inl held) = held
        go (inr free) = absurd (clean faults.NotHeld (l, is, free))
    may_do (Fork u) is = record {
      other = λ own. clean faults.ForkSelf (is ∙ ap (λ t. Fork t) own);
      not_started = none_of _ (λ some. clean faults.ForkStarted (u, is, some));
      not_forked = none_of _ (λ some. clean faults.ForkTwice (u, is, some));
      not_joined = none_of _ (λ some. clean faults.ForkJoined (u, is, some));
    }
    may_do (Join u) is = λ own. clean faults.JoinSelf (is ∙ ap (λ t. Join t) own)
    may_do _ is = tt

    pub may_come : MayCome past e
    may_come = record { not_joined = none_of _ (λ some. clean faults.AfterJoin some); may_do = may_do e.op refl }

  -- and it has no fault where it may come
  allowed : MayCome past e → (op : Op) → e.op ≡ op → MayDo past e.thread op
  allowed may op is = subst (MayDo past e.thread) is may.may_do

  fork_allowed : MayCome past e → (u : ℕ) → e.op ≡ Fork u → MayFork past e.thread u
  fork_allowed may u is = allowed may (Fork u) is

  pub no_fault : MayCome past e → (f : Fault) → HasDisciplineFault past e f → ⊥
  no_fault h f also = grind (arith, common_steps, allowed, fork_allowed)

-- one more event that may come
pub disciplined_more : (trace : List Event) (k : ℕ) (d : Event) → k < length trace → DisciplinedBelow trace k → MayCome (take k trace) (get_or trace k d) → DisciplinedBelow trace (k + 1)
disciplined_more trace k d within all here m e lt at_m = go (cases_lt m k)
  where
    go : (m < k) ⊎ (k ≤ m) → MayCome (take m trace) e
    go (inl low) = all m e low at_m
    go (inr le) =
        let same : k ≡ m = omega arith in
        let item : get_or trace k d ≡ e = ap (λ n. get_or trace n d) same ∙ get_or_from_slice_get trace m e d at_m in
        subst (λ n. MayCome (take n trace) e) same (subst (MayCome (take k trace)) item here)
