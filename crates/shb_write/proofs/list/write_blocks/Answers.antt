use Rattle.std.proofs.Common.{ℕ, List, arith, map, rules, subst}
use Rattle.shb_write.proofs.Words.{ShownRace, WriteError, WritesBlocks, WritesFront, blocks_from, same_races, shown_in}
use Rattle.shb_write.proofs.Blocks.{left_after}
use Rattle.shb_write.proofs.Listing.{blocks_shown, races_of_trace, same_shown, shown_so}
use Rattle.shb_write.proofs.list.write_blocks.Goals as goal

pub write_parts-requires-after_bounds : goal.write_parts-requires-after_bounds
write_parts-requires-after_bounds g c κs alive =
    let trace = c.args.settled.now.disciplined.now in
    let lists = c.requires.races.2 in (
      c.requires.races.0,
      lists.none_given,
      record {
        of_trace = trace.of_trace;
        are_races = lists.are_races;
        countable = c.requires.countable;
        room = omega (arith, c.requires.races.1);
        in_range = races_of_trace trace.trace.now trace.events.now c.requires.races.0 trace.of_trace lists.are_races;
      },
    )

pub returns-clause-blocks : goal.returns-clause-blocks
returns-clause-blocks g c others lists =
    let trace = c.args.settled.now.disciplined.now in
    let schedules = c.args.plan.now.schedules in
    let races = c.write_parts.ensures.0 in
    let listed = c.write_parts.ensures.2 in
    let shown = map (shown_in schedules trace.events.now) races in
    let same = same_shown g.K.Sink.taken g.K.Sink.failure_count _ c.write_parts.result shown _ listed in
    let is = same_races trace.events.now races others _ c.write_parts.ensures.1 lists.none_given in
    left_after (λ s. WritesBlocks {T = Unit {0}} {E = WriteError} schedules trace.trace.now others (g.K.Sink.taken c.args.sink.now) (g.K.Sink.taken s) c.write_parts.result) _ c.write_parts.new.writer.sink.now
    (subst (λ (l : List (ℕ × ℕ)). WritesBlocks {T = Unit {0}} {E = WriteError} schedules trace.trace.now l (g.K.Sink.taken c.args.sink.now) (g.K.Sink.taken c.write_parts.new.writer.sink.now) c.write_parts.result) is
    (subst (λ (l : List ShownRace). WritesFront {T = Unit {0}} {E = WriteError} (g.K.Sink.taken c.args.sink.now) (g.K.Sink.taken c.write_parts.new.writer.sink.now) c.write_parts.result (blocks_from trace.trace.now 1 l))
    (shown_so schedules trace.trace.now trace.events.now races trace.of_trace)
    (blocks_shown g.K.Sink.taken g.K.Sink.failure_count _ c.write_parts.result shown _ (omega arith) listed)))
    (search rules)
