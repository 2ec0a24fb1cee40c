use Rattle.std.proofs.Common.{◌≡◌, false, List, Some, ap, arith, get_or, length, subst}
use Rattle.shb_nearest.proofs.Words.{AreNoted, KeptAccess, slice_get-get_or, take_all}
use Rattle.std.specs.Prelude.{slice_get}
use Rattle.shb_nearest.proofs.SiteLemmas.{after_then, noted_after, noted_more}
use Rattle.shb_nearest.proofs.sites.Sites.note_group.Goals as goal

abbrev none : KeptAccess
none = record { event = 0; time = 0; spot = record { location = 0; barred = false }; site = 0 }

pub loop-access-preserved : goal.loop-access-preserved
loop-access-preserved c =
    let index = c.loop-access.access-index in
    let more = c.loop-access-test.true in
    let items = c.as_slice-access-items.result.now in
    let was = c.loop-access.invariant in
    let at = subst (λ (l : List KeptAccess). slice_get l index ≡ Some (get_or items index none)) c.as_slice-access-items.ensures (slice_get-get_or items index none (omega (arith, more))) in
    record {
      after = after_then c.args.self.now c.loop-access.self c.note.new.self was.after c.in_ok-note.ensures.after;
      noted = noted_more c.note.new.self c.args.at c.args.group.now.writes c.args.group.now.kept.items index (get_or items index none) at
          (noted_after c.loop-access.self c.note.new.self c.args.at c.args.group.now.writes _ c.in_ok-note.ensures.after was.noted) c.in_ok-note.ensures.noted;
      paired = λ by_variable x entries are. c.in_ok-note.ensures.paired by_variable x entries (was.paired by_variable x entries are);
    }

pub returns-clause-noted : goal.returns-clause-noted
returns-clause-noted c =
    let done = c.loop-access-test.false in
    let same = ap (λ (l : List KeptAccess). length l) c.as_slice-access-items.ensures in
    subst (λ (l : List KeptAccess). AreNoted c.loop-access.self c.args.at c.args.group.now.writes l) (take_all c.loop-access.access-index c.args.group.now.kept.items (omega (arith, done, same))) c.loop-access.invariant.noted
