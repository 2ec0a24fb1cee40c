use Rattle.std.proofs.Common.{◌∙◌, List, ap}
use Rattle.shb_pairs.proofs.Words.{OpenTrace, Piece, piece_at, pieces_in}
use Rattle.shb_pairs.proofs.PieceRaces.{piece_known, piece_races}
use Rattle.shb_pairs.proofs.job.PairJob.piece.Goals as goal

pub returns-clause-accessed : goal.returns-clause-accessed
returns-clause-accessed g c = (piece_known c.args.self.now c.args.k _ c.requires (ap (λ (ps : List Piece). piece_at ps c.args.k) (c.self.invariant.1 ∙ ap (λ (a : OpenTrace). pieces_in a) c.self.view_is))).variable

pub returns-clause-listed : goal.returns-clause-listed
returns-clause-listed g c = (piece_known c.args.self.now c.args.k _ c.requires (ap (λ (ps : List Piece). piece_at ps c.args.k) (c.self.invariant.1 ∙ ap (λ (a : OpenTrace). pieces_in a) c.self.view_is))).listed

pub returns-clause-forward : goal.returns-clause-forward
returns-clause-forward g c = (piece_known c.args.self.now c.args.k _ c.requires (ap (λ (ps : List Piece). piece_at ps c.args.k) (c.self.invariant.1 ∙ ap (λ (a : OpenTrace). pieces_in a) c.self.view_is))).forward

pub returns-clause-within : goal.returns-clause-within
returns-clause-within g c = (piece_known c.args.self.now c.args.k _ c.requires (ap (λ (ps : List Piece). piece_at ps c.args.k) (c.self.invariant.1 ∙ ap (λ (a : OpenTrace). pieces_in a) c.self.view_is))).within

pub returns-clause-races : goal.returns-clause-races
returns-clause-races g c = piece_races c.args.self.now c.args.k _ (ap (λ (ps : List Piece). piece_at ps c.args.k) (c.self.invariant.1 ∙ ap (λ (a : OpenTrace). pieces_in a) c.self.view_is))
