-- The lines taken so far gave nothing.
use Rattle.std.proofs.Common.{◌≡◌, ◌-◌, ◌^◌, ℕ, List}
use Rattle.shb_lines.specs.text.Lines.{Moves}
use Rattle.shb_lines.specs.text.Numbering.{IsWithin}
use Rattle.shb_lines.specs.text.Taken.{HasTaken}
use Rattle.shb_lines.proofs.text.TakenEvents.{HasPassed}
use Rattle.shb_lines.proofs.event_reader.EventReader.next_event.Given as goal

abbrev pub invariant-loop-self : goal.invariant-loop-self
invariant-loop-self g l = record {
  within : IsWithin l.limits l.self.numbering;
  counted : g.S.Source.failure_count l.source ≡ g.S.Source.failure_count l.fn.source;
  moved : (bytes : List ℕ) × Moves (g.S.Source.remaining l.fn.source) (g.S.Source.remaining l.source) (g.S.Source.given_count l.fn.source) (g.S.Source.given_count l.source) bytes;
  passed : (read : List ℕ) (lines : List (List ℕ)) → HasTaken l.limits read lines (g.S.Source.remaining l.fn.source) l.fn.self
      → HasPassed l.limits read lines (g.S.Source.remaining l.fn.source) (g.S.Source.remaining l.source) (g.S.Source.given_count l.fn.source) (g.S.Source.given_count l.source) l.self;
}

abbrev pub decreases-loop-self : goal.decreases-loop-self
decreases-loop-self g l = 2 ^ 64 - 1 - l.self.line
