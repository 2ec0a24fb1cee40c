use Rattle.std.proofs.Common.{true, ◌++◌, ◌∷◌, [], length}
use Rattle.shb_stamps.proofs.Streams.{clocks_longer}
use Rattle.shb_stamps.proofs.stream_clocks.StreamClocks.screen.Goals as goal

pub returns-clause-screened : goal.returns-clause-screened
returns-clause-screened c = λ past e x disciplined streamed access h. c.after_access.ensures.screened (past ++ e ∷ []) (length past) x true disciplined
    (clocks_longer past e c.args.self.now.clocks.rows.list c.args.self.now.clocks.current.items c.args.self.now.clocks.locks.items c.args.self.now.clocks.variables.items streamed.clocks) access h

pub returns-clause-after : goal.returns-clause-after
returns-clause-after c = λ past e x disciplined streamed access h. c.after_access.ensures.after (past ++ e ∷ []) (length past) x true disciplined
    (clocks_longer past e c.args.self.now.clocks.rows.list c.args.self.now.clocks.current.items c.args.self.now.clocks.locks.items c.args.self.now.clocks.variables.items streamed.clocks) access h
