use Rattle.std.proofs.Common.{◌++◌, ◌∙◌, List, ℕ, ap}
use Rattle.shb_stamps.proofs.RowLemmas.{append_piece}
use Rattle.shb_stamps.proofs.row.Row.append_to.Goals as goal

pub loop-k-preserved : goal.loop-k-preserved
loop-k-preserved c =
    c.in_ok-extend_from_slice-2.ensures.items
    ∙ (ap (λ (xs : List ℕ). c.loop-k.entries.items ++ xs) c.piece.ensures ∙ append_piece c.args.entries.now.items c.args.self.now c.loop-k.entries.items c.loop-k.k c.loop-k.invariant)
