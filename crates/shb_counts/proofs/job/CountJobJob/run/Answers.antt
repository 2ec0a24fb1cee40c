use Rattle.shb_counts.proofs.JobLemmas.{piece_countable}
use Rattle.shb_counts.proofs.job.CountJobJob.run.Goals as goal

pub counted_piece-requires : goal.counted_piece-requires
counted_piece-requires c =
    let work = c.self.inside in
    let countable = c.self.invariant.0 in
    (countable.0, piece_countable work.order.now countable.0 work.located.numbers.now work.located.accesses.now work.list.now c.cut-start.result c.cut-end.result countable.1)
