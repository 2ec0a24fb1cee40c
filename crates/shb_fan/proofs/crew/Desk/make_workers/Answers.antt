use Rattle.std.proofs.Common.{◌≡◌, arith, rules, ap, ◌∙◌, length, length-append, ◌∷◌, [], Some}
use Rattle.std.proofs.lemmas.List.Elements.{All-pop}
use Rattle.shb_fan.specs.Passes.{PassState, fresh}
use Rattle.shb_fan.specs.Seated.{IsNewSeat}
use Rattle.shb_fan.proofs.MadeWorkers.{one_made}
use Rattle.shb_fan.proofs.crew.Desk.make_workers.Goals as goal

pub loop-pass-preserved : goal.loop-pass-preserved
loop-pass-preserved g c =
    let i = c.loop-pass.invariant in
    let pass = All-pop (λ (p : PassState). p ≡ fresh c.args.self.now.tickets) _ _ (Some c.in-Some.pass) c.in-Some.ensures.items i.passes in
    let seat = All-pop (IsNewSeat g.J.Job.value g.J.Job.count c.args.self.now.ring) _ _ (Some c.in-Some-pop.seat) c.in-Some-pop.ensures.items i.seats in
    let fewer = ap length c.in-Some.ensures.items ∙ length-append c.pop.new.self.items (c.in-Some.pass ∷ []) in
    let less = ap length c.in-Some-pop.ensures.items ∙ length-append c.pop-in-Some.new.self.items (c.in-Some-pop.seat ∷ []) in
    let more = ap length c.in_ok-push.ensures.items ∙ length-append c.loop-pass.workers.items (record { pass = c.in-Some.pass; seat = c.in-Some-pop.seat } ∷ []) in
    let left = i.left in let used = i.used in record {
      passes = pass.0;
      seats = seat.0;
      left = omega arith;
      used = omega arith;
      made = one_made g.J.Job.value g.J.Job.count c.args.self.now.tickets c.args.self.now.ring _ _ _ c.in_ok-push.ensures.items pass.1 seat.1 i.made;
      pass_room = search rules;
      seat_room = search rules;
    }
