use Rattle.std.proofs.Common.{◌<◌, arith, get_or, length, subst, sym, take}
use Rattle.std.proofs.lemmas.List.{take_all, take_more}
use Rattle.shb_counts.specs.Covers.{HasWindows, IsSized}
use Rattle.shb_counts.specs.declared.finder.Window.{Window}
use Rattle.shb_counts.proofs.CoverLemmas.{windows_more}
use Rattle.shb_counts.proofs.CoveredLemmas.{covered_more, ends_room, sized_more, starts_room, window_positive, windows_apart}
use Rattle.shb_counts.proofs.cover.Cover.add.Goals as goal

pub add_window-requires-clause-positive : goal.add_window-requires-clause-positive
add_window-requires-clause-positive c =
    let r = c.requires in
    let lt : c.loop-window.window-index < length c.args.windows.now = omega (arith, c.loop-window-test.true, c.loop-window.auto.window-index-end) in
    window_positive r.0 r.1 r.2 c.args.self.now c.args.later c.args.windows.now r.3 r.4 r.5 c.loop-window.window-index (record { start = 0; end = 0 }) lt

pub add_window-requires-clause-room : goal.add_window-requires-clause-room
add_window-requires-clause-room c some =
    let r = c.requires in
    let lt : c.loop-window.window-index < length c.args.windows.now = omega (arith, c.loop-window-test.true, c.loop-window.auto.window-index-end) in
    let starts = starts_room r.0 r.1 r.2 c.args.self.now c.args.later c.args.windows.now r.3 r.4 r.5 c.loop-window.self c.loop-window.window-index (record { start = 0; end = 0 }) lt c.loop-window.invariant.added some in
    let ends = ends_room r.0 r.1 r.2 c.args.self.now c.args.later c.args.windows.now r.3 r.4 r.5 c.loop-window.self c.loop-window.window-index (record { start = 0; end = 0 }) lt c.loop-window.invariant.added some in
    let fits = c.ranges.later.fits in
    (omega (arith, starts, fits), omega (arith, ends, fits))

pub loop-window-preserved : goal.loop-window-preserved
loop-window-preserved c =
    let r = c.requires in
    let k = c.loop-window.window-index in
    let windows = c.args.windows.now in
    let lt : k < length windows = omega (arith, c.loop-window-test.true, c.loop-window.auto.window-index-end) in
    let none_there : Window = record { start = 0; end = 0 } in
    let window = get_or windows k none_there in
    record {
      sized = sized_more (length c.args.self.now.first.items) window c.args.later c.loop-window.self c.add_window.new.self c.loop-window.invariant.sized c.add_window.ensures;
      added = subst (λ ws. HasWindows ws c.args.later c.args.self.now c.add_window.new.self) (sym (take_more windows k none_there lt))
          (windows_more (take k windows) window c.args.later c.args.self.now c.loop-window.self c.add_window.new.self c.loop-window.invariant.added c.add_window.ensures (r.4.within k none_there lt).0
          (window_positive r.0 r.1 r.2 c.args.self.now c.args.later windows r.3 r.4 r.5 k none_there lt)
          (windows_apart r.0 r.1 r.2 c.args.self.now c.args.later windows r.3 r.4 r.5 k none_there lt));
    }

pub returns : goal.returns
returns c trace entries events h w below =
    let windows = c.args.windows.now in
    let whole = take_all c.loop-window.window-index windows (omega (arith, c.loop-window-test.false, c.loop-window.auto.window-index-end)) in
    covered_more trace entries events c.args.self.now c.args.later windows h w below c.loop-window.self c.ranges.later.fits
    (subst (λ ws. HasWindows ws c.args.later c.args.self.now c.loop-window.self) whole c.loop-window.invariant.added)
    (subst (λ n. IsSized n c.loop-window.self) h.sized.first c.loop-window.invariant.sized)
