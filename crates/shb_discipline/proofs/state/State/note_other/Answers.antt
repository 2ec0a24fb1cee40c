-- The event is noted where it acts, and its thread has started.
use Rattle.std.proofs.Common.{Some, ap, arith, subst, sym, refl, ◌∙◌, ℕ}
use Rattle.shb_discipline.specs.State.{IsLockAfter}
use Rattle.shb_discipline.proofs.Steps.{acquired, depth_few, flag_put, forks, held_by, joins, others, put_same, released}
use Rattle.shb_discipline.proofs.state.State.note_other.Goals as goal

pub returns-in_ok-put-in-Acquire : goal.returns-in_ok-put-in-Acquire
returns-in_ok-put-in-Acquire c = λ past e of_thread of_op few may known.
    let l = c.in-Acquire.lock in
    let low = depth_few past l c.lock.result (subst (IsLockAfter past l) (sym c.lock.ensures) (known.locks l)) in
    let depth = c.saturating_add-depth.result in
    acquired past e may c.args.self.now known _ (flag_put e.thread c.args.thread _ _ of_thread c.in_ok-put.ensures) _ l c.lock.result (of_op ∙ c.in-Acquire.is) c.lock.ensures depth (omega (arith, low, few, c.saturating_add-depth.ensures))
    (put_same l _ _ _ _ _ c.free_lock.ensures (ap (λ (t : ℕ). held_by t depth) (sym of_thread)) c.in_ok-put-in-Acquire.ensures) refl refl refl (ap (λ (t : ℕ). Some t) (sym of_thread))

pub returns-in_ok-put-in-Release : goal.returns-in_ok-put-in-Release
returns-in_ok-put-in-Release c = λ past e of_thread of_op few may known.
    let l = c.in-Release.lock in
    released past e may c.args.self.now known _ (flag_put e.thread c.args.thread _ _ of_thread c.in_ok-put.ensures) _ l c.lock-held.result (of_op ∙ c.in-Release.is) c.lock-held.ensures c.saturating_sub.result c.saturating_sub.ensures
    (put_same l _ _ _ _ _ c.free_lock-in-Release.ensures refl c.in_ok-put-in-Release.ensures) refl refl refl (ap (λ (t : ℕ). Some t) (sym of_thread))

pub returns-in_ok-put-in-Fork : goal.returns-in_ok-put-in-Fork
returns-in_ok-put-in-Fork c = λ past e of_thread of_op few may known.
    forks past e may c.args.self.now known _ (flag_put e.thread c.args.thread _ _ of_thread c.in_ok-put.ensures) _ c.in-Fork.child (of_op ∙ c.in-Fork.is) c.in_ok-put-in-Fork.ensures refl refl refl (ap (λ (t : ℕ). Some t) (sym of_thread))

pub returns-in_ok-put-in-Join : goal.returns-in_ok-put-in-Join
returns-in_ok-put-in-Join c = λ past e of_thread of_op few may known.
    joins past e may c.args.self.now known _ (flag_put e.thread c.args.thread _ _ of_thread c.in_ok-put.ensures) _ c.in-Join.child (of_op ∙ c.in-Join.is) c.in_ok-put-in-Join.ensures refl refl refl (ap (λ (t : ℕ). Some t) (sym of_thread))

pub returns-in_default : goal.returns-in_default
returns-in_default c = λ past e of_thread of_op few may known.
    others past e may c.args.self.now known _ (flag_put e.thread c.args.thread _ _ of_thread c.in_ok-put.ensures) _ (λ m is. c.in_default.not-Acquire m (sym of_op ∙ is)) (λ m is. c.in_default.not-Release m (sym of_op ∙ is)) (λ m is. c.in_default.not-Fork m (sym of_op ∙ is)) (λ m is. c.in_default.not-Join m (sym of_op ∙ is)) refl refl refl refl (ap (λ (t : ℕ). Some t) (sym of_thread))
