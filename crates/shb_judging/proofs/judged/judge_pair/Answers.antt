-- An edit that makes this false is refused at once.
use Rattle.std.proofs.Common.{rules}
use Rattle.shb_judging.proofs.judged.judge_pair.Goals as goal

pub returns-then-not-same_bytes : goal.returns-then-not-same_bytes
returns-then-not-same_bytes c = search rules

pub returns-then-not-same_bytes-2 : goal.returns-then-not-same_bytes-2
returns-then-not-same_bytes-2 c = search rules

pub returns : goal.returns
returns c = search rules
