use Rattle.std.proofs.Common.{rules, ◌∙◌, append-nil, sym}
use Rattle.shb_write.proofs.Blocks.{stopped_then, written_then}
use Rattle.shb_write.proofs.Scheduling.{next_in_range, next_room, next_shown, next_there}
use Rattle.shb_write.proofs.schedule_writer.ScheduleWriterTakerPositions.take.Goals as goal

pub bounds-self-k : goal.bounds-self-k
bounds-self-k g c = next_there g.K.Sink.taken g.K.Sink.failure_count c.requires.0 c.args.self.now c.requires.1 c.args.k c.requires.2 c.requires.3 c.requires.4

pub offset_bounds-self-k : goal.offset_bounds-self-k
offset_bounds-self-k g c = let there = next_there g.K.Sink.taken g.K.Sink.failure_count c.requires.0 c.args.self.now c.requires.1 c.args.k c.requires.2 c.requires.3 c.requires.4 in search rules

pub schedule-requires-clause-room : goal.schedule-requires-clause-room
schedule-requires-clause-room g c = next_room g.K.Sink.taken g.K.Sink.failure_count c.requires.0 c.args.self.now c.requires.1 c.args.k c.requires.2 c.requires.3 c.requires.4

pub schedule-requires-clause-in_range : goal.schedule-requires-clause-in_range
schedule-requires-clause-in_range g c = next_in_range g.K.Sink.taken g.K.Sink.failure_count c.requires.0 c.args.self.now c.requires.1 c.args.k c.requires.2 c.requires.3 c.requires.4

pub returns-in-Ok-clause-taken : goal.returns-in-Ok-clause-taken
returns-in-Ok-clause-taken g c start given long has may = record {
  same_races = has.same_races;
  written = written_then g.K.Sink.taken g.K.Sink.failure_count start.writer c.args.self.now.writer _ _ _ _ (next_shown g.K.Sink.taken g.K.Sink.failure_count start c.args.self.now given c.args.k long has c.args.schedule) has.written c.in-Ok.ensures.written;
}

pub returns-clause-refused : goal.returns-clause-refused
returns-clause-refused g c start given long has may =
    stopped_then g.K.Sink.taken g.K.Sink.failure_count start.writer c.args.self.now.writer _ _ _ _ _ _ (next_shown g.K.Sink.taken g.K.Sink.failure_count start c.args.self.now given c.args.k long has c.args.schedule ∙ sym (append-nil _)) has.written c.in-Err.ensures.failed
