use Rattle.shb_scan.proofs.OneScan.{once_listed, places_listed, races_listed}
use Rattle.shb_scan.proofs.laws.scan_lists_each_place_once.Goals as goal

pub returns-clause-races : goal.returns-clause-races
returns-clause-races c = races_listed

pub returns-clause-listed : goal.returns-clause-listed
returns-clause-listed c = places_listed

pub returns-clause-once : goal.returns-clause-once
returns-clause-once c = once_listed
