use Rattle.std.proofs.Common.{◌≡◌, ◌<◌, ◌^◌, take}
use Rattle.shb_reading.proofs.Words.{digits_value}
use Rattle.shb_reading.proofs.grammar.value_of.Given as goal

abbrev pub invariant-loop-digit : goal.invariant-loop-digit
invariant-loop-digit l = record {
  small : l.value < 2 ^ 64;
  value : l.value ≡ digits_value 10 (take l.digit-index l.digits);
}
