use Rattle.std.proofs.Common.{All, map, subst, sym}
use Rattle.shb_write.proofs.Words.{All-push, HasText, Piece, pair_in}
use Rattle.shb_write.proofs.PieceLemmas.{cut_more}
use Rattle.shb_write.proofs.TextLemmas.{piece_has_text, text_more}
use Rattle.shb_write.proofs.pieces.pieces_of.Goals as goal

pub loop-start-preserved : goal.loop-start-preserved
loop-start-preserved c =
    let races = c.args.races.now in
    let start = c.loop-start.start in
    let end = c.piece_end-end.result in
    let before = c.loop-start.invariant in
    let piece = c.piece_at.result in
    let is = c.piece_at.ensures in
    let more = c.in_ok-push.ensures.items in
    let forward = c.piece_end-end.ensures.more in
    let within = c.piece_end-end.ensures.within in
    record {
      within = within;
      races = cut_more c.loop-start.pieces.items c.push.new.self.items piece races start end forward before.races is.races more;
      pieces = λ trace has. subst (All (λ (p : Piece). HasText trace p.before (map pair_in p.races.now))) (sym more)
          (All-push (λ (p : Piece). HasText trace p.before (map pair_in p.races.now)) c.loop-start.pieces.items piece (before.pieces trace has)
          (piece_has_text trace c.args.before piece races start end forward within has is.races is.before));
      texts = λ trace. text_more trace c.args.before c.loop-start.pieces.items c.push.new.self.items piece races start end forward within (before.texts trace) is.races is.before more;
    }
