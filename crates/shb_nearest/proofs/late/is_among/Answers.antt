use Rattle.std.proofs.Common.{get_or, sym}
use Rattle.shb_nearest.proofs.Words.{get_or_default}
use Rattle.shb_nearest.proofs.LateLemmas.{no_access}
use Rattle.shb_nearest.proofs.late.is_among.Goals as goal

pub returns-then-instead : goal.returns-then-instead
returns-then-instead c again =
    let accesses = c.args.accesses.now in
    let at = c.loop-one.one-index in
    let one = get_or accesses at no_access in
    (one, (at, c.loop-one-test.true, sym (get_or_default accesses at no_access one c.loop-one-test.true)), c.is_instead-instead.ensures c.if-instead.true)
