-- The parts, one after another, are the whole text.
use Rattle.shb_reading.proofs.ScanLemmas.{scanned, whole_section}
use Rattle.shb_reading.proofs.entries.scan.Goals as goal

pub returns-clause-read : goal.returns-clause-read
returns-clause-read c =
    let head = c.in_ok-head.ensures.read in
    scanned _ _ _ _ _ _ _ c.requires.short head.counts head.races head.bytes head.lines (whole_section _ _ _ _ _ c.in_ok-places.ensures.read) c.in_ok-races.ensures.read c.in_ok-read_tail.ensures.bytes c.in_ok-read_tail.ensures.lines
