use Rattle.std.proofs.Common.{◌≡◌, ◌++◌, arith, rules, ap, ◌∙◌, length, length-append, ◌∷◌, [], Some}
use Rattle.std.proofs.lemmas.List.Elements.{All-pop}
use Rattle.shb_fan.specs.Streamed.{HasWorked}
use Rattle.shb_fan.proofs.MadeWorkers.{back_more, back_none}
use Rattle.shb_fan.proofs.crew.Desk.take_back.Goals as goal

pub loop-worker-init : goal.loop-worker-init
loop-worker-init g c =
    let none_yet = ap length c.requires.passes.0 in
    let room = c.requires.passes.1 in let seat_room = c.requires.seats.1 in record {
      left = c.requires.workers;
      back = back_none g.J.Job.value g.J.Job.count _ _ _ _ c.requires.passes.0 c.requires.seats.0;
      pass_count = omega (arith, none_yet);
      seat_count = omega arith;
      pass_room = c.requires.passes.1;
      seat_room = c.requires.seats.1;
    }

pub loop-worker-preserved : goal.loop-worker-preserved
loop-worker-preserved g c =
    let i = c.loop-worker.invariant in
    let tickets = c.args.self.now.tickets in let ring = c.args.self.now.ring in
    let cut = All-pop (HasWorked g.J.Job.value g.J.Job.count tickets ring) _ _ (Some c.in-Some.worker) c.in-Some.ensures.items i.left in
    let longer : c.push.new.self.items ≡ c.loop-worker.passes.items ++ c.in-Some.worker.pass ∷ [] = search rules in
    let wider : c.push-in-Some.new.self.items ≡ c.loop-worker.seats.items ++ c.in-Some.worker.seat ∷ [] = search rules in
    let fewer = ap length c.in-Some.ensures.items ∙ length-append c.pop.new.self.items (c.in-Some.worker ∷ []) in
    let more = ap length longer ∙ length-append c.loop-worker.passes.items (c.in-Some.worker.pass ∷ []) in
    let most = ap length wider ∙ length-append c.loop-worker.seats.items (c.in-Some.worker.seat ∷ []) in
    let passes = i.pass_count in let seats = i.seat_count in let room = i.pass_room in let seat_room = i.seat_room in
    let kept = c.push.ensures.capacity in let seats_kept = c.push-in-Some.ensures.capacity in record {
      left = cut.0;
      back = back_more g.J.Job.value g.J.Job.count tickets ring _ _ _ _ c.in-Some.worker i.back cut.1 longer wider;
      pass_count = omega (arith, fewer, more, passes);
      seat_count = omega (arith, fewer, most, seats);
      pass_room = omega (arith, room, kept);
      seat_room = omega (arith, seat_room, seats_kept);
    }
