use Rattle.std.proofs.Common.{◌≡◌, ◌-◌, arith, length, refl, subst, List, ℕ}
use Rattle.shb_stamps.proofs.Words.{HasTaken}
use Rattle.shb_stamps.proofs.MovedLemmas.{AreTaken, taken_first, taken_more}
use Rattle.shb_stamps.proofs.moving.take_marked.Goals as goal

pub loop-number-init : goal.loop-number-init
loop-number-init c =
    let taken = subst (λ (new : List (List ℕ)). HasTaken c.args.rows.now.list 0 new c.take.new.new.list c.args.marks.now.items c.take.new.marks.items) c.in_ok-new.ensures c.in_ok-take.ensures in
    let count : length c.args.marks.now.items ≡ c.len-count.result = (let many = taken.as_many in let long = c.len-count.ensures in omega (arith, many, long)) in
    subst (AreTaken c.args.rows.now.list c.args.rows.now.list c.take.new.new.list c.args.marks.now.items c.take.new.marks.items) count
    (taken_first c.args.rows.now.list c.take.new.new.list c.args.marks.now.items c.take.new.marks.items c.requires.some taken)

pub loop-number-preserved-then-number-stretch-eq0 : goal.loop-number-preserved-then-number-stretch-eq0
loop-number-preserved-then-number-stretch-eq0 c =
    let later = c.loop-number-test.true in
    taken_more _ _ _ _ _ _ _ _ (c.loop-number.number - 1) c.loop-number.number (omega (arith, later)) c.loop-number.invariant (omega (arith, later)) c.in_ok-take-2.ensures c.cut.ensures

pub loop-number-preserved : goal.loop-number-preserved
loop-number-preserved c =
    let later = c.loop-number-test.true in
    taken_more _ _ _ _ _ _ _ _ (c.loop-number.number - 1) c.loop-number.number (omega (arith, later)) c.loop-number.invariant (omega (arith, later)) c.in_ok-take-2.ensures (λ a lt. refl)
