use Rattle.shb_nearest.proofs.GroupLemmas.{run_begun, run_goes_on}
use Rattle.shb_nearest.proofs.groups.Run.after.Goals as goal

pub returns-then-self-access : goal.returns-then-self-access
returns-then-self-access c trace spots x own is = run_goes_on trace spots x c.args.access own c.args.self c.if-self-access.true is

pub returns : goal.returns
returns c trace spots x own is = run_begun trace spots x c.args.access own
