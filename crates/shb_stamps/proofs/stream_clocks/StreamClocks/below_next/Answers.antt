use Rattle.shb_stamps.proofs.Streaming.{other_count, own_count}
use Rattle.shb_stamps.proofs.stream_clocks.StreamClocks.below_next.Goals as goal

pub returns-then-other-thread : goal.returns-then-other-thread
returns-then-other-thread c = λ past e same disciplined old. own_count past e disciplined c.args.self.now old c.args.thread c.args.other c.time.result same c.if-other-thread.true c.time.ensures

pub returns : goal.returns
returns c = λ past e same disciplined old. other_count past e disciplined c.args.self.now old c.args.thread c.args.other c.known_of.result same c.if-other-thread.false c.known_of.ensures
