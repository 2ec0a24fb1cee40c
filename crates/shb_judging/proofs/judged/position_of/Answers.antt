-- An edit that makes this false is refused at once.
use Rattle.std.proofs.Common.{rules}
use Rattle.shb_judging.proofs.judged.position_of.Goals as goal

pub returns-then-number-eq0 : goal.returns-then-number-eq0
returns-then-number-eq0 c = search rules

pub returns : goal.returns
returns c = search rules
