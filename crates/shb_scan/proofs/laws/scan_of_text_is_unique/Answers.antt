use Rattle.shb_scan.proofs.OneScan.{one_scan}
use Rattle.shb_scan.proofs.laws.scan_of_text_is_unique.Goals as goal

pub returns : goal.returns
returns c = one_scan
