use Rattle.std.proofs.Common.{List, ℕ, ◌/◌, ◌%◌, ◌∙◌, get_or, ap, arith, sym}
use Rattle.shb_stamps.proofs.RowLemmas.{chunk_entry, rest_entry}
use Rattle.shb_stamps.proofs.row.Row.entry.Goals as goal

pub returns-then-k-self : goal.returns-then-k-self
returns-then-k-self c =
    ap (λ (xs : List ℕ). get_or xs (c.args.t % 64) 0) c.chunk_at.ensures.same
    ∙ (sym (chunk_entry c.self.inside.chunks.now c.self.inside.numbers.now c.self.inside.rest.now c.args.t (c.args.t / 64) (c.args.t % 64) c.self.invariant.chunks_are c.self.invariant.numbers_are c.if-k-self.true (omega arith) (omega arith))
    ∙ ap (λ (row : List ℕ). get_or row c.args.t 0) c.self.view_is)

pub returns : goal.returns
returns c =
    let past = c.if-k-self.false in
    c.entry.ensures
    ∙ (sym (rest_entry c.self.inside.chunks.now c.self.inside.numbers.now c.self.inside.rest.now c.args.t _ c.self.invariant.chunks_are c.self.invariant.numbers_are (omega (arith, past)) (omega arith))
    ∙ ap (λ (row : List ℕ). get_or row c.args.t 0) c.self.view_is)
