use Rattle.shb_pairs.proofs.Values.{value_of_piece}
use Rattle.shb_pairs.proofs.laws.piece_gives_its_races.Goals as goal

pub returns : goal.returns
returns c = value_of_piece
