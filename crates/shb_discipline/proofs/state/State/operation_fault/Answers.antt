use Rattle.std.proofs.Common.{subst, sym, ◌∙◌}
use Rattle.shb_discipline.specs.State.{IsLockAfter}
use Rattle.shb_discipline.proofs.state.State.operation_fault.Goals as goal

pub returns-in-Acquire : goal.returns-in-Acquire
returns-in-Acquire c = λ past e of_thread of_op not_joined state. c.acquire_fault.ensures past e of_thread (of_op ∙ c.in-Acquire.is) not_joined (subst (IsLockAfter past c.in-Acquire.lock) (sym c.lock.ensures) (state.locks c.in-Acquire.lock))

pub returns-in-Release : goal.returns-in-Release
returns-in-Release c = λ past e of_thread of_op not_joined state. c.release_fault.ensures past e of_thread (of_op ∙ c.in-Release.is) not_joined (subst (IsLockAfter past c.in-Release.lock) (sym c.lock-in-Release.ensures) (state.locks c.in-Release.lock))

pub returns-in-Fork : goal.returns-in-Fork
returns-in-Fork c = λ past e of_thread of_op not_joined state. c.fork_fault.ensures past e of_thread (of_op ∙ c.in-Fork.is) not_joined state

pub returns-in-Join : goal.returns-in-Join
returns-in-Join c = λ past e of_thread of_op not_joined state. c.join_fault.ensures past e of_thread (of_op ∙ c.in-Join.is) not_joined
