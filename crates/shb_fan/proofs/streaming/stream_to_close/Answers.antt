use Rattle.std.proofs.lemmas.List.Elements.{All-same}
use Rattle.shb_fan.specs.Streamed.{CanBegin, HasWorked}
use Rattle.shb_fan.proofs.MadeWorkers.{as_many, but_one, comes_back, new_last, passes_whole}
use Rattle.shb_fan.proofs.streaming.stream_to_close.Goals as goal

pub work_and_take-answer-requires-clause-workers : goal.work_and_take-answer-requires-clause-workers
work_and_take-answer-requires-clause-workers g c κs within =
    let both = new_last g.J.Job.value g.J.Job.count c.in-Ok.made.0 c.in-Ok-new.made.0 _ _ _ c.in-Some.ensures.items c.in-Ok-make_workers.ensures.workers.1 in
    All-same (CanBegin g.J.Job.value g.J.Job.count c.in-Ok.made.0 c.in-Ok-new.made.0) c.as_mut_slice.result.now c.pop.new.self.items c.as_mut_slice.ensures.value both.0

pub work_and_take-answer-requires-clause-own : goal.work_and_take-answer-requires-clause-own
work_and_take-answer-requires-clause-own g c κs within =
    let both = new_last g.J.Job.value g.J.Job.count c.in-Ok.made.0 c.in-Ok-new.made.0 _ _ _ c.in-Some.ensures.items c.in-Ok-make_workers.ensures.workers.1 in
    both.1

pub take_back-requires-clause-workers : goal.take_back-requires-clause-workers
take_back-requires-clause-workers g c =
    let answer = c.work_and_take-answer in
    All-same (HasWorked g.J.Job.value g.J.Job.count c.in-Ok.made.0 c.in-Ok-new.made.0) _ answer.new.workers (comes_back _ _ _ _ _ _ c.pop.new.self.ok.0 c.as_mut_slice.ensures.value answer.ensures.workers.0) answer.ensures.workers.1

pub close_both-end-requires-clause-passes : goal.close_both-end-requires-clause-passes
close_both-end-requires-clause-passes g c =
    let made = c.in-Ok-make_workers.ensures in
    let came = c.take_back.ensures.passes in
    let back = c.work_and_take-answer.ensures.workers.0 in (
      passes_whole _ _ _ _ _ (as_many _ _ _ _ _ _ c.pop.new.self.ok.0 c.as_mut_slice.ensures.value back) (but_one _ _ _ c.in-Ok.ensures.2 _ _ _ c.in-Some.ensures.items made.workers.0) c.in-Ok.ensures.1 came.0,
      came.1,
    )
