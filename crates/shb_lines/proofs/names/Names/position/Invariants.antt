-- The names that were looked at aren't the one.
use Rattle.std.proofs.Common.{◌≡◌, false, take}
use Rattle.std.specs.List.{list_any}
use Rattle.std.specs.Str.{bytes_eq}
use Rattle.shb_lines.proofs.names.Names.position.Given as goal

abbrev pub invariant-loop-number : goal.invariant-loop-number
invariant-loop-number l = list_any (bytes_eq l.fn.name) (take l.number l.fn.self) ≡ false
