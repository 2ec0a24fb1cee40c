use Rattle.std.proofs.Common.{rules, arith, refl, ap, ◌∙◌, ◌≡◌, ℕ, ◌+◌, ◌∷◌, [], length, length-append, sum_by}
use Rattle.shb_fan.specs.Numbers.{times}
use Rattle.shb_fan.specs.Seated.{placed_of, lifted_of}
use Rattle.shb_fan.proofs.Counts.{counted, first_counted, sum_nothing, times-append}
use Rattle.shb_fan.proofs.Rings.{merges, placed_once, lifted_once, lifted_placed, placed_after}
use Rattle.shb_fan.proofs.Opens.{seats_back}
use Rattle.shb_fan.proofs.shares.Ring.close.Given.{Over}
use Rattle.shb_fan.proofs.shares.Ring.close.Goals as goal

pub loop-seat-init : goal.loop-seat-init
loop-seat-init g c = let longer = c.in-Some.ensures.items in let cut = seats_back g.J.Job.value g.J.Job.count c.args.self _ _ _ longer c.requires.ours in let first = cut.1 in record {
  table = first.0.1.same_table;
  parts = (let one = first.0.1.one in let all = c.requires.all in let l = ap length longer ∙ length-append c.pop.new.self.items (c.in-Some.first ∷ []) in omega (arith, one, all, l));
  present = (let one = first.0.1.one in omega (arith, one));
  slots = first.0.1.free first.1;
  ours = cut.0;
  placed = λ k. first_counted (λ s. times k (placed_of s)) _ _ _ _ longer refl;
  lifted = λ k. first_counted (λ s. times k (lifted_of s)) _ _ _ _ longer refl;
}

pub join_seat-requires : goal.join_seat-requires
join_seat-requires g c = let seat = (seats_back g.J.Job.value g.J.Job.count c.args.self _ _ _ c.in-Some-pop.ensures.items c.loop-seat.invariant.ours).1 in (
  c.loop-seat.invariant.table,
  seat.0.1.same_table,
  seat.0.1.free seat.1,
  search rules,
  merges _ _ _ _ _ _ c.loop-seat.invariant.present,
)

pub loop-seat-preserved : goal.loop-seat-preserved
loop-seat-preserved g c = let i = c.loop-seat.invariant in let j = c.join_seat.ensures in let longer = c.in-Some-pop.ensures.items in
    let back = seats_back g.J.Job.value g.J.Job.count c.args.self _ _ _ longer i.ours in record {
      table = j.0 ∙ i.table;
      parts = (let e = ap (λ m. m.0.parts) j.2 in let one = back.1.0.1.one in let was = i.parts in let l = ap length longer ∙ length-append c.pop-in-loop-seat.new.self.items (c.in-Some-pop.seat ∷ []) in omega (arith, e, one, was, l));
      present = (let e = ap (λ m. m.0.parts) j.2 in let p = i.present in omega (arith, e, p));
      slots = ap (λ m. m.1) j.2 ∙ i.slots;
      ours = back.0;
      placed = λ k. ap (λ n. n + sum_by (λ s. times k (placed_of s)) c.pop-in-loop-seat.new.self.items) (ap (λ m. times k m.0.placed) j.2 ∙ times-append k _ _) ∙ counted (λ s. times k (placed_of s)) _ _ _ _ _ _ longer (i.placed k) refl;
      lifted = λ k. ap (λ n. n + sum_by (λ s. times k (lifted_of s)) c.pop-in-loop-seat.new.self.items) (ap (λ m. times k m.0.lifted) j.2 ∙ times-append k _ _) ∙ counted (λ s. times k (lifted_of s)) _ _ _ _ _ _ longer (i.lifted k) refl;
    }

-- the loop has left no seat, so that `whole` stands for all
none_left : (g : Over) (c : goal.After-drop-seats g) → length c.loop-seat.seats.items ≡ 0
none_left g c = search rules

every_part : (g : Over) (c : goal.After-drop-seats g) → c.loop-seat.whole.me.0.parts ≡ 65
every_part g c = let p = c.loop-seat.invariant.parts in let none = none_left g c in omega (arith, p, none)

placed_whole : (g : Over) (c : goal.After-drop-seats g) (k : ℕ) → sum_by (λ s. times k (placed_of s)) c.args.seats.items ≡ times k c.loop-seat.whole.me.0.placed
placed_whole g c k = omega (arith, sum_nothing (λ s. times k (placed_of s)) c.loop-seat.seats.items (none_left g c), c.loop-seat.invariant.placed k)

lifted_whole : (g : Over) (c : goal.After-drop-seats g) (k : ℕ) → sum_by (λ s. times k (lifted_of s)) c.args.seats.items ≡ times k c.loop-seat.whole.me.0.lifted
lifted_whole g c k = omega (arith, sum_nothing (λ s. times k (lifted_of s)) c.loop-seat.seats.items (none_left g c), c.loop-seat.invariant.lifted k)

pub returns-clause-placed_once : goal.returns-clause-placed_once
returns-clause-placed_once g c = λ k.
    let placed = placed_whole g c k in
    let told = placed_once _ _ _ _ _ _ c.close_with.ensures.values.2 (every_part g c) k in omega (arith, told, placed)

pub returns-clause-lifted_once : goal.returns-clause-lifted_once
returns-clause-lifted_once g c = λ k.
    let lifted = lifted_whole g c k in
    let told = lifted_once _ _ _ _ _ _ c.close_with.ensures.values.2 (every_part g c) k in omega (arith, told, lifted)

pub returns-clause-placed_before : goal.returns-clause-placed_before
returns-clause-placed_before g c = λ k.
    let placed = placed_whole g c k in
    let lifted = lifted_whole g c k in
    let told = lifted_placed _ _ _ _ _ _ c.close_with.ensures.values.2 (every_part g c) k in omega (arith, told, placed, lifted)

pub returns-clause-slots : goal.returns-clause-slots
returns-clause-slots g c = λ k.
    let placed = placed_whole g c (k + 64) in
    let lifted = lifted_whole g c k in
    let told = placed_after _ _ _ _ _ _ c.close_with.ensures.values.2 (every_part g c) k in omega (arith, told, placed, lifted)
