use Rattle.std.proofs.Common.{[], map}
use Rattle.shb_write.proofs.Words.{pair_in, shown_in}
use Rattle.shb_write.proofs.Listing.{none_written}
use Rattle.shb_write.proofs.Parts.{part_may, part_stopped, part_written, parts_done, parts_refused, when_next}
use Rattle.shb_write.proofs.list.write_parts.Goals as goal

pub loop-races-init : goal.loop-races-init
loop-races-init g c = record {
  races = c.requires.0;
  given = [];
  of_list = c.requires.1;
  may = c.requires.2;
  are_given = c.requires.1;
  written = none_written g.K.Sink.taken g.K.Sink.failure_count c.args.writer.now;
}

pub returns-in_err-races : goal.returns-in_err-races
returns-in_err-races g c =
    parts_refused g.K.Sink.taken g.K.Sink.failure_count (shown_in c.args.plan.now.schedules c.args.settled.now.disciplined.now.events.now) c.args.settled.now.disciplined.now.events.now c.args.writer.now c.args.list.now.rest c.loop-races.list.rest c.loop-races.writer c.loop-races.invariant c.from_residual.result _ c.from_residual.ensures.1

pub write_kept-requires-after_bounds : goal.write_kept-requires-after_bounds
write_kept-requires-after_bounds g c κs within =
    let before = c.loop-races.invariant in
    let next = when_next c.args.settled.now.disciplined.now.events.now before.races before.given c.next_part.new.self.rest c.in_ok-races.field-0 c.in-Some.races c.in-Some.is c.deref.result.now c.deref.ensures.value (c.in_ok-races.ensures.next before.races before.given before.are_given) in
    part_may g.K.Sink.taken g.K.Sink.failure_count (shown_in c.args.plan.now.schedules c.args.settled.now.disciplined.now.events.now) c.args.settled.now.disciplined.now.events.now c.args.writer.now c.args.list.now.rest c.loop-races.list.rest c.loop-races.writer c.loop-races.invariant (map pair_in c.deref.result.now) c.next_part.new.self.rest next

pub returns-in_err-write_kept : goal.returns-in_err-write_kept
returns-in_err-write_kept g c =
    let before = c.loop-races.invariant in
    let next = when_next c.args.settled.now.disciplined.now.events.now before.races before.given c.next_part.new.self.rest c.in_ok-races.field-0 c.in-Some.races c.in-Some.is c.deref.result.now c.deref.ensures.value (c.in_ok-races.ensures.next before.races before.given before.are_given) in
    part_stopped g.K.Sink.taken g.K.Sink.failure_count (shown_in c.args.plan.now.schedules c.args.settled.now.disciplined.now.events.now) c.args.settled.now.disciplined.now.events.now c.args.writer.now c.args.list.now.rest c.loop-races.list.rest c.loop-races.writer c.loop-races.invariant (map pair_in c.deref.result.now) c.next_part.new.self.rest next c.from_residual-in_err-write_kept.result _ c.write_kept.new.writer c.from_residual-in_err-write_kept.ensures.1 c.in_err-write_kept.ensures

pub loop-races-preserved : goal.loop-races-preserved
loop-races-preserved g c =
    let before = c.loop-races.invariant in
    let next = when_next c.args.settled.now.disciplined.now.events.now before.races before.given c.next_part.new.self.rest c.in_ok-races.field-0 c.in-Some.races c.in-Some.is c.deref.result.now c.deref.ensures.value (c.in_ok-races.ensures.next before.races before.given before.are_given) in
    part_written g.K.Sink.taken g.K.Sink.failure_count (shown_in c.args.plan.now.schedules c.args.settled.now.disciplined.now.events.now) c.args.settled.now.disciplined.now.events.now c.args.writer.now c.args.list.now.rest c.loop-races.list.rest c.loop-races.writer c.loop-races.invariant (map pair_in c.deref.result.now) c.next_part.new.self.rest next c.write_kept.new.writer c.in_ok-write_kept.ensures

pub returns : goal.returns
returns g c =
    let before = c.loop-races.invariant in
    parts_done g.K.Sink.taken g.K.Sink.failure_count (shown_in c.args.plan.now.schedules c.args.settled.now.disciplined.now.events.now) c.args.settled.now.disciplined.now.events.now c.args.writer.now c.args.list.now.rest c.loop-races.list.rest c.loop-races.writer c.loop-races.invariant c.next_part.new.self.rest c.in_ok-races.field-0 (c.in_ok-races.ensures.next before.races before.given before.are_given) c.in_default.not-Some
