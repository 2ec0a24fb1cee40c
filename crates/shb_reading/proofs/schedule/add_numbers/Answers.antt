-- Each number is the next one of the text.
use Rattle.shb_reading.proofs.Listing.{first_listed, listed_within, one_more_listed}
use Rattle.shb_reading.proofs.Peeling.{is_some}
use Rattle.std.proofs.Common.{arith}
use Rattle.shb_reading.proofs.schedule.add_numbers.Goals as goal

pub returns-in_default : goal.returns-in_default
returns-in_default g c = first_listed _ _ _ _ _ _ _ c.loop-rest.invariant (is_some _ _ c.is_empty.ensures c.loop-rest-test.true) c.in_default.ensures

pub loop-rest-preserved : goal.loop-rest-preserved
loop-rest-preserved g c = one_more_listed _ _ _ _ _ _ _ c.in-Some.number c.in-Some.after.now _ c.loop-rest.invariant c.in-Some.ensures.0 c.in-Some.ensures.1 c.in_ok-add_number.ensures

pub overflow_add-count : goal.overflow_add-count
overflow_add-count g c =
    let within = listed_within _ _ _ _ _ _ _ c.loop-rest.invariant in
    let some = is_some _ _ c.is_empty.ensures c.loop-rest-test.true in
    omega (arith, within, some)
