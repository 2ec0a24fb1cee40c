use Rattle.std.proofs.Common.{[], true}
use Rattle.shb_stamps.proofs.Streaming.{streamed_none}
use Rattle.shb_stamps.proofs.stream_clocks.StreamClocks.new.Goals as goal

pub returns : goal.returns
returns c = streamed_none _ (c.in_ok-new.ensures.before [] true) c.new-2.ensures.items
