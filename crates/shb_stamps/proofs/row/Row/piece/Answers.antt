use Rattle.std.proofs.Common.{rules, List, ℕ, ◌≤◌, ◌*◌, ◌∙◌, length, ap, arith, refl, subst, sym, take, drop}
use Rattle.shb_stamps.proofs.RowLemmas.{piece_of_chunk, piece_of_rest, piece_within, rest_part}
use Rattle.shb_stamps.proofs.row.Row.piece.Goals as goal

pub returns-then-k-self : goal.returns-then-k-self
returns-then-k-self c =
    c.chunk_at.ensures.same ∙ sym (piece_of_chunk c.self.inside.chunks.now c.self.inside.numbers.now c.self.inside.rest.now c.args.k c.self.invariant.chunks_are c.self.invariant.numbers_are c.if-k-self.true)
    ∙ ap (λ (row : List ℕ). take 64 (drop (64 * c.args.k) row)) c.self.view_is

pub overflow_mul-start : goal.overflow_mul-start
overflow_mul-start c =
    let low = piece_within c.self.inside.chunks.now c.self.inside.numbers.now c.self.inside.rest.now c.args.k c.self.invariant.chunks_are c.self.invariant.numbers_are (subst (λ (row : List ℕ). 64 * c.args.k ≤ length row) (sym c.self.view_is) c.requires) in
    search (rules, low)

pub overflow_add-start : goal.overflow_add-start
overflow_add-start c =
    let low = piece_within c.self.inside.chunks.now c.self.inside.numbers.now c.self.inside.rest.now c.args.k c.self.invariant.chunks_are c.self.invariant.numbers_are (subst (λ (row : List ℕ). 64 * c.args.k ≤ length row) (sym c.self.view_is) c.requires) in
    search (rules, low)

pub offset_bounds-self-inside-start : goal.offset_bounds-self-inside-start
offset_bounds-self-inside-start c =
    let low = piece_within c.self.inside.chunks.now c.self.inside.numbers.now c.self.inside.rest.now c.args.k c.self.invariant.chunks_are c.self.invariant.numbers_are (subst (λ (row : List ℕ). 64 * c.args.k ≤ length row) (sym c.self.view_is) c.requires) in
    search (rules, low)

pub slice_bounds-result-count : goal.slice_bounds-result-count
slice_bounds-result-count c =
    let low = piece_within c.self.inside.chunks.now c.self.inside.numbers.now c.self.inside.rest.now c.args.k c.self.invariant.chunks_are c.self.invariant.numbers_are (subst (λ (row : List ℕ). 64 * c.args.k ≤ length row) (sym c.self.view_is) c.requires) in
    search (rules, low)

pub slice_bounds-result-start : goal.slice_bounds-result-start
slice_bounds-result-start c =
    let low = piece_within c.self.inside.chunks.now c.self.inside.numbers.now c.self.inside.rest.now c.args.k c.self.invariant.chunks_are c.self.invariant.numbers_are (subst (λ (row : List ℕ). 64 * c.args.k ≤ length row) (sym c.self.view_is) c.requires) in
    search (rules, low)

pub returns : goal.returns
returns c =
    let past : length c.self.inside.numbers.now ≤ c.args.k = (let no = c.if-k-self.false in omega (arith, no)) in
    rest_part c.self.inside.rest.now _ c.min-end.result c.min-end.ensures
    ∙ (sym (piece_of_rest c.self.inside.chunks.now c.self.inside.numbers.now c.self.inside.rest.now c.args.k _ c.self.invariant.chunks_are c.self.invariant.numbers_are past refl)
    ∙ ap (λ (row : List ℕ). take 64 (drop (64 * c.args.k) row)) c.self.view_is)
