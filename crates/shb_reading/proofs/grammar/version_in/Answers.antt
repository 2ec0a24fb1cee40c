-- No version stands after another label.
use Rattle.std.proofs.Common.{◌≢◌, Bool, true, false, List, ℕ, ◌++◌, codes}
use Rattle.shb_reading.proofs.Words.{version_line}
use Rattle.shb_reading.proofs.grammar.version_in.Goals as goal

unlike : (line : List ℕ) → ((rest : List ℕ) → line ≢ codes "shb-report " ++ rest) → (with_places : Bool) → line ≢ version_line with_places
unlike line none true h = none (codes "2") h
unlike line none false h = none (codes "1") h

pub returns-in_err-version : goal.returns-in_err-version
returns-in_err-version c = rw c.from_residual.ensures (unlike _ c.in_err-version.ensures)
