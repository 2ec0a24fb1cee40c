-- The schedules that came are in the blocks of the races, or in the front of them.
use Rattle.std.proofs.Common.{rules, ◌≡◌, ◌+◌, ◌∙◌, ◌++◌, ◌∷◌, [], ap, arith, length, map}
use Rattle.shb_write.proofs.Words.{Appends, AppendsFront, Asked, blocks_from, ends, length-map, length-values, schedule_at, scheduled_in, write_failed}
use Rattle.std.specs.Prelude.{if◌then◌else◌}
use Rattle.shb_write.proofs.Blocks.{left_after, whole_front}
use Rattle.shb_write.proofs.Counting.{pairs_in_range}
use Rattle.shb_write.proofs.Scheduling.{came_all, came_front, values_next}
use Rattle.shb_write.proofs.scheduled.schedule_races.Goals as goal

pub stream-requires-after_bounds : goal.stream-requires-after_bounds
stream-requires-after_bounds g c κs within k given s inside first next =
    let long = ap (λ (a : Asked). length a.races) (c.with_thread_events-job.ensures ∙ c.new.ensures) in
    record {
      more = omega (arith, inside, long, ap length first, length-map given (λ s. s), length-values (schedule_at c.with_thread_events-job.result.trace c.with_thread_events-job.result.races) k);
      room = c.requires.room;
      countable = c.requires.countable;
      in_range = pairs_in_range c.args.writer.now.trace.now c.args.ordered.now.disciplined.now.events.now c.args.races.now c.requires.of_trace c.requires.races;
    }

pub returns-in-Ok : goal.returns-in-Ok
returns-in-Ok g c =
    let start = c.args.writer.now in
    let events = c.args.ordered.now.disciplined.now.events.now in
    let races = c.args.races.now in
    let ended = c.in-Ok.ensures.ended in
    let same = ended.2.written.same_sink in
    record {
      same_sink = search rules;
      same_trace = search rules;
      as_many = omega (arith, length-map (map ends races) (scheduled_in events), length-map races ends);
      appended = left_after (λ s. Appends (g.K.Sink.taken start.sink.now) (g.K.Sink.taken s) (blocks_from start.trace.now (start.written + 1) (map (scheduled_in events) (map ends races)))) _ c.stream.new.taker.writer.sink.now
          (came_all start.trace.now events races c.with_thread_events-job.result c.requires.of_trace (c.with_thread_events-job.ensures ∙ c.new.ensures) (start.written + 1) ended.0 _ _ ended.1 ended.2.written.appended) (search rules);
      counted = left_after (λ s. g.K.Sink.failure_count s ≡ g.K.Sink.failure_count start.sink.now) _ c.stream.new.taker.writer.sink.now ended.2.written.counted (search rules);
    }

pub returns-in-Err-Taker : goal.returns-in-Err-Taker
returns-in-Err-Taker g c =
    let start = c.args.writer.now in
    let events = c.args.ordered.now.disciplined.now.events.now in
    let races = c.args.races.now in
    let ended = rw c.in-Err-Taker.field-0-is at c.in-Err-Taker.ensures.ended in
    let same = ended.2.4.same_sink in
    let failures = g.K.Sink.failure_count start.sink.now in
    record {
      same_sink = search rules;
      front = left_after (λ s. AppendsFront (g.K.Sink.taken start.sink.now) (g.K.Sink.taken s) (blocks_from start.trace.now (start.written + 1) (map (scheduled_in events) (map ends races)))) _ c.stream.new.taker.writer.sink.now
          (came_front start.trace.now events races c.with_thread_events-job.result c.requires.of_trace (c.with_thread_events-job.ensures ∙ c.new.ensures) (start.written + 1) (ended.0 + 1) (ended.2.0 ++ ended.2.1 ∷ []) _ _ (omega (arith, ended.1))
          (values_next (λ s. s) _ ended.0 ended.2.0 ended.2.1 ended.2.2 ended.2.3) ended.2.4.front) (search rules);
      counted = left_after (λ s. g.K.Sink.failure_count s ≡ (if write_failed c.in-Err-Taker.error then failures + 1 else failures)) _ c.stream.new.taker.writer.sink.now ended.2.4.counted (search rules);
    }

pub returns : goal.returns
returns g c =
    let start = c.args.writer.now in
    let events = c.args.ordered.now.disciplined.now.events.now in
    let races = c.args.races.now in
    let ended = rw c.in-Err-Memory.field-0-is at c.in-Err-Memory.ensures.ended in
    let same = ended.2.2.written.same_sink in
    record {
      same_sink = search rules;
      front = left_after (λ s. AppendsFront (g.K.Sink.taken start.sink.now) (g.K.Sink.taken s) (blocks_from start.trace.now (start.written + 1) (map (scheduled_in events) (map ends races)))) _ c.stream.new.taker.writer.sink.now
          (came_front start.trace.now events races c.with_thread_events-job.result c.requires.of_trace (c.with_thread_events-job.ensures ∙ c.new.ensures) (start.written + 1) ended.0 ended.2.0 _ _ ended.1 ended.2.1 (whole_front _ _ _ ended.2.2.written.appended)) (search rules);
      counted = left_after (λ s. g.K.Sink.failure_count s ≡ g.K.Sink.failure_count start.sink.now) _ c.stream.new.taker.writer.sink.now ended.2.2.written.counted (search rules);
    }
