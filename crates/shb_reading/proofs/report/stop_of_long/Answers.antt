-- The line after the limit is bad, or one before it.
use Rattle.shb_reading.proofs.Bad.{bad_end, bad_long}
use Rattle.shb_reading.proofs.EntryLemmas.{stop_weaker}
use Rattle.shb_reading.proofs.report.stop_of_long.Goals as goal

pub returns-in-Ok : goal.returns-in-Ok
returns-in-Ok c = bad_end c.args.limit c.args.text.now _ _ _ c.requires.long c.split_at.ensures.front c.in-Ok.ensures.read.whole

pub returns-in-Err : goal.returns-in-Err
returns-in-Err c = stop_weaker c.in-Err.stop _ _ (λ n b. bad_long c.args.limit c.args.text.now _ n c.split_at.ensures.front b) c.in-Err.ensures.bad
