use Rattle.std.proofs.Common.{arith, rules, sym}
use Rattle.shb_write.proofs.Words.{Appends-trans, AppendsPrefix-after, AppendsPrefix-front}
use Rattle.shb_write.proofs.Listing.{few_counted, places_of_trace, races_of_trace}
use Rattle.shb_write.proofs.Reports.{report_failed, report_stopped, reported}
use Rattle.shb_write.proofs.report.write_races.Goals as goal

pub write_front-requires-clause-in_range : goal.write_front-requires-clause-in_range
write_front-requires-clause-in_range g c =
    let trace = c.args.settled.now.disciplined.now in
    let lists = c.requires.races.1 in
    places_of_trace trace.trace.now c.requires.races.0 _ (races_of_trace trace.trace.now trace.events.now c.requires.races.0 trace.of_trace lists.are_races) lists.places

pub write_blocks-requires-clause-races : goal.write_blocks-requires-clause-races
write_blocks-requires-clause-races g c κs alive = (c.requires.races.0, few_counted _ c.requires.races.0 (search rules) c.requires.races.1.count, c.requires.races.1)

pub returns-in_err-write_front : goal.returns-in_err-write_front
returns-in_err-write_front g c races lists =
    report_failed c.args.plan.now.schedules _ races g.K.Sink.taken g.K.Sink.failure_count _ _ c.from_residual.result c.from_residual.ensures.1
    (AppendsPrefix-front _ _ _ _ (c.in_err-write_front.ensures.written races lists.count lists.places)) c.in_err-write_front.ensures.counted

pub returns-in_err-write_blocks : goal.returns-in_err-write_blocks
returns-in_err-write_blocks g c races lists =
    report_stopped c.args.plan.now.schedules _ races g.K.Sink.taken g.K.Sink.failure_count _ _ c.from_residual-in_err-write_blocks.result _ _ c.from_residual-in_err-write_blocks.ensures.1
    (c.in_ok-write_front.ensures.written races lists.count lists.places) (c.in_err-write_blocks.ensures.blocks races lists)
    (rw (sym c.in_ok-write_front.ensures.counted) c.in_err-write_blocks.ensures.counted)

pub returns-in_err-tail : goal.returns-in_err-tail
returns-in_err-tail g c races lists =
    report_failed c.args.plan.now.schedules _ races g.K.Sink.taken g.K.Sink.failure_count _ _ c.from_residual-in_err-tail.result c.from_residual-in_err-tail.ensures.1
    (AppendsPrefix-after _ _ _ _ _ (c.in_ok-write_front.ensures.written races lists.count lists.places) (AppendsPrefix-after _ _ _ _ _ (c.in_ok-write_blocks.ensures.blocks races lists) c.in_err-tail.ensures.written))
    (omega (arith, c.in_ok-write_front.ensures.counted, c.in_ok-write_blocks.ensures.counted, c.in_err-tail.ensures.counted))

pub returns : goal.returns
returns g c races lists =
    reported c.args.plan.now.schedules _ races g.K.Sink.taken g.K.Sink.failure_count _ _ tt
    (Appends-trans _ _ _ _ _ (c.in_ok-write_front.ensures.written races lists.count lists.places) (Appends-trans _ _ _ _ _ (c.in_ok-write_blocks.ensures.blocks races lists) c.in_ok-tail.ensures.written))
    (omega (arith, c.in_ok-write_front.ensures.counted, c.in_ok-write_blocks.ensures.counted, c.in_ok-tail.ensures.counted))
