use Rattle.std.proofs.Common.{◌∙◌, ◌<◌, ap, arith, length}
use Rattle.std.proofs.lemmas.List.{get_or_default}
use Rattle.std.specs.FinSet as fin
use Rattle.shb_numbers.proofs.FarLemmas.{all_near, brought, near_up_to}
use Rattle.shb_numbers.proofs.large_set.bring_near.Goals as goal

pub loop-at-preserved : goal.loop-at-preserved
loop-at-preserved c =
    let far = c.args.far.now.items in
    let inside : c.loop-at.at < length far = omega (arith, c.loop-at-test.true) in
    let is = c.in_ok-insert.ensures.inserted ∙ ap (fin.insert c.loop-at.near) (c.index.ensures ∙ get_or_default far c.loop-at.at c.index.result.now 0 inside) in
    record {
      same = brought c.loop-at.near c.insert.new.self far c.loop-at.at is inside ∙ c.loop-at.invariant.same;
      near = near_up_to c.loop-at.near c.insert.new.self far c.loop-at.at is c.loop-at.invariant.near;
    }

pub returns-clause-same : goal.returns-clause-same
returns-clause-same c =
    all_near c.loop-at.near c.args.far.now.items c.clear.new.self.items c.clear.ensures.items (λ k inside. c.loop-at.invariant.near k (omega (arith, inside, c.loop-at-test.false)))
    ∙ c.loop-at.invariant.same
