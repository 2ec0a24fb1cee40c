use Rattle.std.proofs.Common.{ap, arith}
use Rattle.shb_stamps.specs.Chunks.{Rows}
use Rattle.shb_stamps.proofs.ChunkLemmas.{entry_found, entry_none}
use Rattle.shb_stamps.proofs.row_list.RowList.entry_at.Goals as goal

pub returns-then-t-span : goal.returns-then-t-span
returns-then-t-span c = entry_found c.self.inside.chunks.items c.self.inside.cells.items c.self.inside.spans.items c.args.self.now.list c.args.number c.args.t c.index-span.result.now c.self.invariant.1 (ap (λ (r : Rows). r.list) c.self.view_is) c.requires c.index-span.ensures c.index.result.now c.index.ensures c.if-t-span.true

pub returns-then-len-eq0 : goal.returns-then-len-eq0
returns-then-len-eq0 c =
    let size = c.len.ensures in
    let is = c.if-len-eq0.true in
    let past = c.if-t-span.false in
    entry_none c.self.inside.chunks.items c.self.inside.cells.items c.self.inside.spans.items c.args.self.now.list c.args.number c.args.t c.index-span.result.now c.self.invariant.1 (ap (λ (r : Rows). r.list) c.self.view_is) c.requires c.index-span.ensures (omega (arith, size, is)) (omega (arith, past))
