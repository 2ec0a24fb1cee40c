-- An edit that makes this false is refused at once.
use Rattle.std.proofs.Common.{rules}
use Rattle.shb_reading.proofs.grammar.is_numeral.Goals as goal

pub returns-in-len1-up : goal.returns-in-len1-up
returns-in-len1-up c = search rules
