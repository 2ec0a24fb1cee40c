use Rattle.std.proofs.Common.{◌≡◌, ◌++◌, flat_map, map, take}
use Rattle.std.specs.Prelude.{slice_range}
use Rattle.shb_lists.proofs.found.add_windows.Given as goal

abbrev pub invariant-loop-window : goal.invariant-loop-window
invariant-loop-window l = l.found.items ≡ l.fn.found.items ++ flat_map (λ window. map (λ entry. entry.event) (slice_range l.entries window.start window.end)) (take l.window-index l.windows)
