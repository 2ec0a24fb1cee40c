use Rattle.std.proofs.Common.{length, take}
use Rattle.shb_counts.specs.Covers.{HasWindows, IsSized}
use Rattle.shb_counts.proofs.cover.Cover.add.Given as goal

abbrev pub invariant-loop-window : goal.invariant-loop-window
invariant-loop-window l = record {
  sized : IsSized (length l.fn.self.first.items) l.self;
  added : HasWindows (take l.window-index l.windows) l.later l.fn.self l.self;
}
