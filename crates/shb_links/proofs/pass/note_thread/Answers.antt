use Rattle.std.proofs.Common.{arith}
use Rattle.shb_links.proofs.Words.{thread_within}
use Rattle.shb_links.proofs.pass.note_thread.Goals as goal

pub index_mut-requires : goal.index_mut-requires
index_mut-requires c = let low = thread_within c.args.events.now c.args.sizes c.args.e c.thread.result c.requires.within c.thread.ensures in let long = c.requires.last.as_long in omega (arith, low, long, c.args.last.now.ok.0)
