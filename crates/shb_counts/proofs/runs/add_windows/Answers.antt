-- The windows together have the entries that race.
use Rattle.std.proofs.Common.{◌+◌, ◌++◌, ◌<◌, ◌∙◌, List, ap, arith, flat_map, get_or, length, map, subst, take}
use Rattle.std.specs.Prelude.{slice_range}
use Rattle.std.proofs.lemmas.List.{take_all, take_more}
use Rattle.shb_lines.specs.declared.event.Pair.{Pair}
use Rattle.shb_counts.specs.Runs.{race_of}
use Rattle.shb_counts.specs.Sums.{AreSumsOf}
use Rattle.shb_counts.specs.declared.finder.Window.{Window}
use Rattle.shb_counts.proofs.RunLemmas.{flat_pushed, windows_pairs}
use Rattle.shb_counts.proofs.runs.add_windows.Goals as goal

pub loop-window-preserved : goal.loop-window-preserved
loop-window-preserved c trace numbers pairs before each at =
    let k = c.loop-window.window-index in
    let windows = c.args.windows.now in
    let lt : k < length windows = omega (arith, c.loop-window-test.true, c.loop-window.auto.window-index-end) in
    let d : Window = record { start = 0; end = 0 } in
    let h = λ (w : Window). map (race_of c.args.access.event) (slice_range c.args.entries.now w.start w.end) in
    subst (λ (l : List Pair). AreSumsOf trace numbers l c.add_window.new.table.sums.items) (flat_pushed h pairs (take k windows) (take (k + 1) windows) (get_or windows k d) (take_more windows k d lt))
    (c.in_ok-add_window.ensures trace numbers (pairs ++ flat_map h (take k windows)) (c.loop-window.invariant trace numbers pairs before each at) each at)

pub returns : goal.returns
returns c trace numbers pairs before each at are =
    let windows = c.args.windows.now in
    let h = λ (w : Window). map (race_of c.args.access.event) (slice_range c.args.entries.now w.start w.end) in
    let whole = take_all c.loop-window.window-index windows (omega (arith, c.loop-window-test.false, c.loop-window.auto.window-index-end)) in
    subst (λ (l : List Pair). AreSumsOf trace numbers (pairs ++ l) c.loop-window.table.sums.items) (ap (flat_map h) whole ∙ windows_pairs trace c.args.access.event c.args.entries.now windows are) (c.loop-window.invariant trace numbers pairs before each at)
