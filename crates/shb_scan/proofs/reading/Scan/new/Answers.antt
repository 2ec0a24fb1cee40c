-- Nothing was noted yet.
use Rattle.shb_scan.proofs.Words.{scan_bounds}
use Rattle.shb_scan.proofs.Noted.{scanned_none}
use Rattle.shb_scan.proofs.reading.Scan.new.Goals as goal

pub returns-clause-scanned : goal.returns-clause-scanned
returns-clause-scanned g c = λ left. scanned_none left _ (c.in_ok-new.ensures.taken scan_bounds left) (c.in_ok-new.ensures.within scan_bounds) c.in_ok-new-2.ensures c.new-3.ensures c.in_ok-new-3.ensures.searched
