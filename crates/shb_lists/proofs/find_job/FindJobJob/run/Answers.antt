use Rattle.shb_lists.proofs.FoundLemmas.{found_within}
use Rattle.shb_lists.proofs.find_job.FindJobJob.run.Goals as goal

pub find_races-requires : goal.find_races-requires
find_races-requires c =
    let job = c.self.inside in
    let found = c.self.invariant.0 in
    (found.0, found.1, found_within job.order.now found.0 found.1 job.accesses.now job.list.now c.cut-start.result c.cut-end.result found.2)
