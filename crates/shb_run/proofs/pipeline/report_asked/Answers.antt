use Rattle.shb_run.proofs.pipeline.report_asked.Goals as goal

pub new-settled-requires-clause-settled : goal.new-settled-requires-clause-settled
new-settled-requires-clause-settled g c = rw c.deref.ensures.value c.in_ok-flags.ensures
