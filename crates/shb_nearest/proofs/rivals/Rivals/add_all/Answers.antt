use Rattle.std.proofs.Common.{false, arith, get_or}
use Rattle.shb_nearest.proofs.Words.{KeptAccess, access_of, slice_get-get_or}
use Rattle.shb_nearest.proofs.AddedLemmas.{added_kept, added_none}
use Rattle.shb_nearest.proofs.rivals.Rivals.add_all.Goals as goal

abbrev none : KeptAccess
none = record { event = 0; time = 0; spot = record { location = 0; barred = false }; site = 0 }

pub loop-access-init : goal.loop-access-init
loop-access-init c = added_none c.args.groups.now c.args.second c.args.self.now.found.items

pub loop-access-preserved : goal.loop-access-preserved
loop-access-preserved c =
    let kept = c.args.kept.now in
    let index = c.loop-access.access-index in
    let more = c.loop-access-test.true in
    added_kept c.args.groups.now c.args.second c.args.self.now.found.items c.loop-access.self.found.items c.add_unsettled.new.self.found.items (access_of c.args.thread c.args.writes) kept index (get_or kept index none) (slice_get-get_or kept index none (omega (arith, more))) c.loop-access.invariant c.in_ok-add_unsettled.ensures
