use Rattle.std.proofs.Common.{All, List, flat_map, subst, sym}
use Rattle.std.proofs.lemmas.Result.{IfOk-weaker}
use Rattle.shb_counts.specs.Pieces.{IsPieceOf, PieceCount}
use Rattle.shb_counts.specs.Sums.{IsCounted}
use Rattle.shb_counts.proofs.JobLemmas.{all_counted, pieces_are}
use Rattle.shb_counts.proofs.job.counted_by_workers.Goals as goal

pub returns-then-pieces-eq1 : goal.returns-then-pieces-eq1
returns-then-pieces-eq1 g c = c.count_races.ensures c.requires.0 c.args.located.numbers.now c.requires.1

pub returns : goal.returns
returns g c =
    let work = c.new-job.result in
    let pieces = c.in_ok-counted.counted.items in
    let are = c.in_ok-counted.ensures in
    IfOk-weaker c.joined_pieces.result (IsCounted work.trace work.numbers (flat_map (λ (p : PieceCount). p.list) c.as_slice.result.now)) _
    (λ counted is. all_counted work pieces c.args.order.now.trace c.args.located.numbers.now c.args.list.now counted c.new-job.ensures.trace c.new-job.ensures.numbers c.new-job.ensures.list c.new-job.ensures.all are
    (subst (λ (ps : List PieceCount). IsCounted work.trace work.numbers (flat_map (λ (p : PieceCount). p.list) ps) counted) c.as_slice.ensures.value is))
    (c.joined_pieces.ensures work.trace work.numbers (subst (All (IsPieceOf work.trace work.numbers)) (sym c.as_slice.ensures.value) (pieces_are work pieces work.pieces are)))
