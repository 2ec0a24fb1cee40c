use Rattle.std.proofs.Common.{◌≡◌, ◌++◌, ◌∷◌, [], rules}
use Rattle.shb_fan.proofs.Accounts.{balanced_more, drawn_whole, unstopped}
use Rattle.shb_fan.proofs.crew.Desk.close_both.Goals as goal

pub returns : goal.returns
returns g c = λ accounts lifted.
    let longer : c.push.new.self.items ≡ c.args.passes.items ++ c.args.own.pass ∷ [] = search rules in
    let wider : c.push-2.new.self.items ≡ c.args.seats.items ++ c.args.own.seat ∷ [] = search rules in
    let balanced = balanced_more _ _ _ _ c.args.own.pass c.args.own.seat c.requires.back.balanced accounts longer wider in
    let draw = c.end.ensures in (
      drawn_whole _ _ _ _ wider balanced _ _ draw.each_once draw.few c.close.ensures.placed_before lifted,
      unstopped _ _ _ _ wider balanced _ _ draw.each_once draw.few c.close.ensures.placed_before lifted _ draw.stopped,
    )
