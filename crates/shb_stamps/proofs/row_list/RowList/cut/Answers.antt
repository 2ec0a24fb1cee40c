use Rattle.std.proofs.Common.{◌≡◌, ◌<◌, ◌∙◌, arith, length, get_or, ap, take, []}
use Rattle.std.proofs.lemmas.List.{get_or_read}
use Rattle.shb_stamps.specs.Chunks.{Rows, no_span}
use Rattle.shb_stamps.proofs.ChunkLemmas.{rows_cut, spans_cut}
use Rattle.shb_stamps.proofs.row_list.RowList.cut.Goals as goal

module _ (c : goal.After-shrink_to_fit-3) where
  low : c.args.count < length c.self.inside.spans.items
  low = let past = c.if-count-len.false in let long = c.len.ensures in omega (arith, past, long)

  next_is : c.index-next.result.now ≡ get_or c.self.inside.spans.items c.args.count no_span
  next_is = get_or_read c.self.inside.spans.items c.args.count c.index-next.result.now low c.index-next.ensures no_span

  chunks_are : c.shrink_to_fit-3.new.self.items ≡ take c.index-next.result.now.first c.self.inside.chunks.items
  chunks_are = c.shrink_to_fit-3.ensures.items ∙ c.truncate-3.ensures.items

  cells_are : c.shrink_to_fit-2.new.self.items ≡ take c.index-next.result.now.start c.self.inside.cells.items
  cells_are = c.shrink_to_fit-2.ensures.items ∙ c.truncate-2.ensures.items

  spans_are : c.shrink_to_fit.new.self.items ≡ take c.args.count c.self.inside.spans.items
  spans_are = c.shrink_to_fit.ensures.items ∙ c.truncate.ensures.items

pub invariant_of-self : goal.invariant_of-self
invariant_of-self c = spans_cut c.args.count _ _ _ _ _ _ _ c.self.invariant.0 c.self.invariant.1 c.self.invariant.2 (low c) (next_is c) (chunks_are c) (cells_are c) (spans_are c)

pub returns : goal.returns
returns c = λ a lt. rows_cut c.args.count _ _ _ _ _ _ _ c.self.invariant.0 c.self.invariant.1 c.self.invariant.2 (low c) (next_is c) (chunks_are c) (cells_are c) (spans_are c) a lt
    ∙ ap (λ (rows : Rows). get_or rows.list a []) c.self.view_is
