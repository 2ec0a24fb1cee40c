use Rattle.std.proofs.Common.{◌≡◌, true, take}
use Rattle.shb_reading.proofs.Words.{is_ascii_digit, list_all}
use Rattle.shb_reading.proofs.grammar.digits_in.Given as goal

abbrev pub invariant-loop-count : goal.invariant-loop-count
invariant-loop-count l = list_all is_ascii_digit (take l.count l.text) ≡ true
