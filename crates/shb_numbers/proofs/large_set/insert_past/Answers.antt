use Rattle.std.proofs.Common.{◌∙◌, ap}
use Rattle.std.proofs.lemmas.Result.{on_err_weaker, on_ok_weaker}
use Rattle.std.specs.FinSet as fin
use Rattle.shb_numbers.specs.Numbers.{both}
use Rattle.shb_numbers.proofs.FarLemmas.{far_more, near_more, on_both}
use Rattle.shb_numbers.proofs.large_set.insert_past.Goals as goal

pub returns-then-are_too_few-clause-inserted : goal.returns-then-are_too_few-clause-inserted
returns-then-are_too_few-clause-inserted c =
    on_both c.insert_far.result (λ there others. far_more c.args.near.now c.args.far.now.items c.insert_far.new.far.items c.args.number there others)
    c.insert_far.ensures.there c.insert_far.ensures.others

pub returns-then-are_too_few-clause-kept : goal.returns-then-are_too_few-clause-kept
returns-then-are_too_few-clause-kept c = on_err_weaker c.insert_far.result (ap (both c.args.near.now)) c.insert_far.ensures.kept

pub returns-clause-inserted : goal.returns-clause-inserted
returns-clause-inserted c =
    on_ok_weaker c.insert.result
    (λ is. near_more c.bring_near.new.near c.insert.new.self c.bring_near.new.far.items c.args.number is ∙ ap (λ s. fin.insert s c.args.number) c.bring_near.ensures.same)
    c.insert.ensures.inserted
