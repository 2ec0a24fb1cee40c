-- The lines before the offset at which the next one begins are read, and have no fault.
use Rattle.std.proofs.Common.{◌+◌, ◌-◌, ◌<◌, ◌≤◌, length, take}
use Rattle.shb_lines.specs.text.Faults.{HasNoLineFaultBefore}
use Rattle.shb_lines.specs.text.Parsed.{HasRead}
use Rattle.shb_lines.specs.text.Numbering.{IsWithin}
use Rattle.shb_lines.specs.text.Text.{lines_of}
use Rattle.shb_lines.proofs.text.Scanning.{IsStart}
use Rattle.shb_lines.proofs.reader.Reader.take_lines.Given as goal

abbrev pub invariant-loop-start : goal.invariant-loop-start
invariant-loop-start l = record {
  counted : l.line ≤ l.start;
  within : l.start ≤ length l.text + 1;
  names : IsWithin l.limits l.self.numbering;
  each : length l.self.events ≤ l.line;
  begins : IsStart l.text l.line l.start;
  read : HasRead l.text l.self (take l.line (lines_of l.text));
  faultless : HasNoLineFaultBefore l.limits l.text l.line;
  inside : l.limits.text < length l.text → l.start ≤ l.limits.text;
}

abbrev pub decreases-loop-start : goal.decreases-loop-start
decreases-loop-start l = length l.text + 1 - l.start
