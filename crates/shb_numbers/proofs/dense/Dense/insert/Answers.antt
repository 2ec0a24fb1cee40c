use Rattle.std.proofs.Common.{◌-◌, ◌/◌, ◌∙◌, ap, arith}
use Rattle.std.proofs.Math.ListN.{length-set}
use Rattle.std.specs.FinSet as fin
use Rattle.shb_numbers.proofs.SetLemmas.{first_inserted, more_inserted}
use Rattle.shb_numbers.proofs.dense.Dense.insert.Goals as goal

pub returns-then-at-eq0-clause-inserted : goal.returns-then-at-eq0-clause-inserted
returns-then-at-eq0-clause-inserted c =
    first_inserted c.self.inside.first _ c.self.inside.more.items c.args.number c.if-at-eq0.true
    (λ k small other. c.with_bit-self-inside.ensures.others k other) c.with_bit-self-inside.ensures.same
    ∙ ap (λ s. fin.insert s c.args.number) c.self.view_is

pub returns-clause-inserted : goal.returns-clause-inserted
returns-clause-inserted c =
    more_inserted c.self.inside.first _ _ c.self.inside.more.items _ c.args.number (omega arith)
    (omega (arith, c.in_ok-make_room.ensures.room)) c.in_ok-make_room.ensures.same c.index.ensures
    (λ k small other. c.with_bit.ensures.others k other) c.with_bit.ensures.same
    ∙ ap (λ s. fin.insert s c.args.number) c.self.view_is

pub invariant_of-self-2 : goal.invariant_of-self-2
invariant_of-self-2 c =
    let long = length-set c.make_room.new.words.items (c.args.number / 64 - 1) c.with_bit.result in
    omega (arith, long, c.in_ok-make_room.ensures.room, c.self.invariant)
