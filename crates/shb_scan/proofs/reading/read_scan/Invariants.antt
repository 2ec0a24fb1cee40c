-- The lines taken so far have no fault, and their events were noted.
use Rattle.std.proofs.Common.{◌≡◌, ◌-◌, ◌^◌, ℕ, List}
use Rattle.shb_scan.proofs.Words.{HasScanned, Moves, scan_bounds}
use Rattle.shb_scan.proofs.reading.read_scan.Given as goal

abbrev pub invariant-loop-scan : goal.invariant-loop-scan
invariant-loop-scan g l = record {
  limits : l.limits ≡ scan_bounds;
  form : l.scan.nearest.by_variable ≡ l.by_variable;
  counted : g.S.Source.failure_count l.source ≡ g.S.Source.failure_count l.fn.source;
  scanned : (read : List ℕ) × (lines : List (List ℕ)) × Moves (g.S.Source.remaining l.fn.source) (g.S.Source.remaining l.source) (g.S.Source.given_count l.fn.source) (g.S.Source.given_count l.source) read
      × HasScanned read lines (g.S.Source.remaining l.source) l.scan;
}

abbrev pub decreases-loop-scan : goal.decreases-loop-scan
decreases-loop-scan g l = 2 ^ 32 - l.scan.reader.numbering.events
