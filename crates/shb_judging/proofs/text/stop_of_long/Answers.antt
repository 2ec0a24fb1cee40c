-- The line after the limit is bad, or one before it.
use Rattle.shb_judging.proofs.Words.{bad_end, bad_long, most_bytes, stop_weaker}
use Rattle.shb_judging.proofs.text.stop_of_long.Goals as goal

pub returns-in-Ok : goal.returns-in-Ok
returns-in-Ok g c = bad_end most_bytes c.args.text.now _ _ _ c.requires.long c.split_at.ensures.front c.in-Ok.ensures.judged.text_is

pub returns-in-Err : goal.returns-in-Err
returns-in-Err g c = stop_weaker c.in-Err.stop _ _ (λ n b. bad_long most_bytes c.args.text.now _ n c.split_at.ensures.front b) c.in-Err.ensures.bad
