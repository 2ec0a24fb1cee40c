use Rattle.std.proofs.Common.{[], get_or, inl, inr, refl, subst, arith}
use Rattle.shb_stamps.proofs.Words.{KnowsStamp}
use Rattle.shb_stamps.proofs.ClockSteps.{taken_known}
use Rattle.shb_stamps.proofs.clocks.Clocks.knows_write.Goals as goal

pub returns-then-source-thread : goal.returns-then-source-thread
returns-then-source-thread c = λ trace n time joined all next old known. taken_known trace n c.args.thread time joined _ next all c.args.self.now.rows.list c.args.self.now.current.items c.args.self.now.locks.items c.args.self.now.variables.items old c.args.variable refl
    (subst (KnowsStamp (get_or c.args.self.now.rows.list (get_or c.args.self.now.current.items c.args.thread 0) []) c.args.thread) c.write_stamp-source.ensures (inl c.if-source-thread.true))

pub returns-then-source-known : goal.returns-then-source-known
returns-then-source-known c = λ trace n time joined all next old known. taken_known trace n c.args.thread time joined _ next all c.args.self.now.rows.list c.args.self.now.current.items c.args.self.now.locks.items c.args.self.now.variables.items old c.args.variable refl
    (subst (KnowsStamp (get_or c.args.self.now.rows.list (get_or c.args.self.now.current.items c.args.thread 0) []) c.args.thread) c.write_stamp-source.ensures (inr (let le = c.if-source-known.true in let is = c.known_of-known.ensures in omega (arith, le, is))))
