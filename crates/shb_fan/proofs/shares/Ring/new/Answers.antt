use Rattle.std.proofs.Common.{rules, arith, ap, ◌∙◌}
use Rattle.shb_fan.proofs.Rings.{opens, cuts}
use Rattle.shb_fan.proofs.Opens.{new_seats, one_seat_more, one_longer, cut_again, cut_off, last_left}
use Rattle.shb_fan.proofs.shares.Ring.new.Goals as goal

pub vacant-requires : goal.vacant-requires
vacant-requires g c = opens _ _ _ (search rules) (search rules)

pub split_seat-place-requires : goal.split_seat-place-requires
split_seat-place-requires g c = let left = c.loop.invariant.left in (
  c.loop.invariant.table,
  search rules,
  cuts _ _ _ _ (let e = ap (λ m. m.0.parts) left in omega arith),
)

pub loop-preserved : goal.loop-preserved
loop-preserved g c = let left = c.loop.invariant.left in let cut = c.split_seat-place.ensures in record {
  table = cut.0 ∙ c.loop.invariant.table;
  left = cut_again _ _ _ _ _ (omega arith) left cut.2;
  room = search rules;
  count = (let l = one_longer _ _ _ _ c.in_ok-push.ensures.items c.loop.invariant.count in omega arith);
  sit = one_seat_more _ _ _ _ _ c.in_ok-push.ensures.items c.loop.invariant.sit (cut.3 ∙ c.loop.invariant.table) (cut_off _ _ _ _ left cut.4);
}

pub returns-clause-seats : goal.returns-clause-seats
returns-clause-seats g c = let key = c.in_ok-table.ensures.5 in (
  (let l = one_longer _ _ _ _ c.in_ok-push-2.ensures.items c.loop.invariant.count in omega arith),
  new_seats g.J.Job.value g.J.Job.count _ _ _ _ key (let most = c.pieces-few.ensures.most in let e = c.pieces-few.ensures.exact in omega arith)
      (one_seat_more _ _ _ _ _ c.in_ok-push-2.ensures.items c.loop.invariant.sit c.loop.invariant.table (last_left _ _ _ _ (omega arith) c.loop.invariant.left)),
  search rules,
)
