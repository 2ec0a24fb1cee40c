use Rattle.std.proofs.Common.{ℕ, List, [], Global, Vec, ap, flat_map, length, map, ◌∙◌}
use Rattle.std.specs.Prelude.{slice_index_or}
use Rattle.std.proofs.lemmas.Result.{IfOk-weaker}
use Rattle.shb_write.proofs.Words.{Pair, Piece, ends, pair_in, values_of}
use Rattle.shb_write.proofs.PieceLemmas.{parts_joined}
use Rattle.shb_write.proofs.pieces.pairs_in_pieces.Goals as goal

pub returns : goal.returns
returns g c =
    let pieces = c.in_ok-pieces.pieces.items in
    let seen = c.new-job.ensures ∙ ap (λ (ps : List Piece). map (λ (piece : Piece). map pair_in piece.races.now) ps) c.as_slice.ensures.value in
    let are = c.in_ok-parts.ensures ∙ ap (λ (lists : List (List (ℕ × ℕ))). values_of (λ k. slice_index_or lists k []) (length lists)) seen in
    IfOk-weaker c.joined.result _ _
    (λ pairs is. is ∙ (ap (λ (vs : List (Vec Pair Global)). flat_map (λ (part : Vec Pair Global). map ends part.items) vs) c.as_slice-2.ensures.value ∙ parts_joined pieces c.in_ok-parts.parts.items c.args.races.now are c.in_ok-pieces.ensures.races))
    c.joined.ensures
