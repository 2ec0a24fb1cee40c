use Rattle.std.proofs.Common.{length, refl}
use Rattle.shb_nearest.proofs.Words.{slice_get_read}
use Rattle.shb_nearest.proofs.Members.{member_at}
use Rattle.shb_nearest.proofs.late.is_in.Goals as goal

pub returns-in_ok-put : goal.returns-in_ok-put
returns-in_ok-put c again =
    let accesses = c.args.accesses.now in
    let at = c.in_ok-at.at in
    let one = c.in-Some.one.now in
    let found = c.in-Some.ensures.lookup in
    (one, member_at accesses at one (slice_get_read accesses (length accesses) at one refl found.3.0 found.1), c.is_instead-again.ensures again)
