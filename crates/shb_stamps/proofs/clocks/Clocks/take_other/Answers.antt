use Rattle.std.proofs.Common.{subst}
use Rattle.shb_stamps.proofs.Words.{IsNext, Op}
use Rattle.shb_stamps.proofs.clocks.Clocks.take_other.Goals as goal

pub returns-in-Release : goal.returns-in-Release
returns-in-Release c = λ trace n all next old. c.take_release.ensures trace n c.args.joined all (subst (λ (o : Op). IsNext trace n c.args.thread o c.args.time c.args.joined) c.in-Release.is next) (c.in_ok-make_room.ensures.before trace n all next.few old)

pub returns-in-Fork : goal.returns-in-Fork
returns-in-Fork c = λ trace n all next old. c.take_fork.ensures trace n c.args.joined all (subst (λ (o : Op). IsNext trace n c.args.thread o c.args.time c.args.joined) c.in-Fork.is next) (c.in_ok-make_room.ensures.before trace n all next.few old)

pub returns-in_default : goal.returns-in_default
returns-in_default c = λ trace n all next old. c.learn.ensures trace n all next (c.in_ok-make_room.ensures.before trace n all next.few old)
