use Rattle.std.proofs.Common.{◌++◌, ◌∷◌, [], ap, ◌∙◌, List, ℕ}
use Rattle.shb_stamps.specs.Chunks.{Rows}
use Rattle.shb_stamps.proofs.ChunkLemmas.{all_grown, inside_push, rising_grown, rising_push, rows_push}
use Rattle.shb_stamps.proofs.row_list.RowList.push_row.Goals as goal

pub invariant_of-self : goal.invariant_of-self
invariant_of-self c = (
  c.add_cells.ensures.chunks,
  all_grown c.self.inside.chunks.items _ c.self.inside.cells.items _ c.add_cells.ensures.longer.0 c.add_cells.ensures.longer.1 c.self.inside.spans.items c.self.invariant.1,
  rising_grown c.self.inside.chunks.items _ c.self.inside.cells.items _ c.add_cells.ensures.longer.0 c.add_cells.ensures.longer.1 c.self.inside.spans.items c.self.invariant.1 c.self.invariant.2,
)

pub invariant_of-self-in_err-push : goal.invariant_of-self-in_err-push
invariant_of-self-in_err-push c = rw c.in_err-push.ensures.items (
  c.add_cells.ensures.chunks,
  all_grown c.self.inside.chunks.items _ c.self.inside.cells.items _ c.add_cells.ensures.longer.0 c.add_cells.ensures.longer.1 c.self.inside.spans.items c.self.invariant.1,
  rising_grown c.self.inside.chunks.items _ c.self.inside.cells.items _ c.add_cells.ensures.longer.0 c.add_cells.ensures.longer.1 c.self.inside.spans.items c.self.invariant.1 c.self.invariant.2,
)

pub invariant_of-self-2 : goal.invariant_of-self-2
invariant_of-self-2 c = (
  c.add_cells.ensures.chunks,
  inside_push c.self.inside.chunks.items _ c.self.inside.cells.items _ c.add_cells.ensures.longer.0 c.add_cells.ensures.longer.1 c.self.inside.spans.items _ c.in_ok-span.span c.self.invariant.1 c.in_ok-push.ensures.items c.in_ok-span.ensures.inside,
  rising_push c.self.inside.chunks.items _ c.self.inside.cells.items _ c.add_cells.ensures.longer.0 c.add_cells.ensures.longer.1 c.self.inside.spans.items _ c.in_ok-span.span c.self.invariant.1 c.self.invariant.2 c.in_ok-push.ensures.items c.in_ok-span.ensures.place,
)

pub returns-clause-rows : goal.returns-clause-rows
returns-clause-rows c =
    rows_push c.self.inside.chunks.items _ c.self.inside.cells.items _ c.add_cells.ensures.longer.0 c.add_cells.ensures.longer.1 c.self.inside.spans.items _ c.in_ok-span.span c.args.row.now c.self.invariant.1 c.in_ok-push.ensures.items c.in_ok-span.ensures.row
    ∙ ap (λ (rows : List (List ℕ)). rows ++ c.args.row.now ∷ []) (ap (λ (r : Rows). r.list) c.self.view_is)
