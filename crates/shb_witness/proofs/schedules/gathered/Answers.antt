use Rattle.std.proofs.Common.{List, ℕ, ◌++◌, ◌∙◌, ◌<◌, arith, ap, length, take}
use Rattle.shb_witness.proofs.Words.{Contains-get_or, get_or_read, length-append, length-range_with_len, length-take-le, range_with_len, take_all}
use Rattle.shb_witness.proofs.CutLemmas.{front_and_rest}
use Rattle.shb_witness.proofs.Places.{thread_inside}
use Rattle.shb_witness.proofs.schedules.gathered.Goals as goal

pub push-requires-clause-few : goal.push-requires-clause-few
push-requires-clause-few c =
    let rest = c.in_ok-rest.rest in
    let front = range_with_len 0 c.args.front in
    let at = c.loop-at.at in
    let cut = length-take-le at rest.items (omega (arith, c.loop-at-test.true, c.len-at-end.ensures, rest.ok.0)) in
    let long = ap length c.loop-at.invariant in
    omega (arith, long, length-append front (take at rest.items), length-range_with_len 0 c.args.front, cut, c.loop-at-test.true, c.len-at-end.ensures, rest.ok.0, rest.small, c.ranges.front)

pub push-requires-clause-fits : goal.push-requires-clause-fits
push-requires-clause-fits c =
    let items = c.in_ok-rest.rest.items in
    let inside : c.loop-at.at < length items = omega (arith, c.loop-at-test.true, c.len-at-end.ensures, c.in_ok-rest.rest.ok.0) in
    let read = get_or_read items c.loop-at.at c.index.result.now inside c.index.ensures 0 in
    let rest = (c.in_ok-rest.ensures.members _).0 (Contains-get_or items c.loop-at.at 0 inside) in
    let lt = thread_inside c.args.threads.now _ _ rest.is.of in
    omega (arith, lt, read, c.requires.short)

pub returns : goal.returns
returns c =
    let items = c.in_ok-rest.rest.items in
    let whole = take_all c.loop-at.at items (omega (arith, c.loop-at-test.false, c.len-at-end.ensures, c.in_ok-rest.rest.ok.0)) in
    front_and_rest c.args.threads.now c.args.cuts.now items c.loop-at.positions c.args.front _ c.requires.threads c.requires.within c.requires.reached c.in_ok-rest.ensures.rising c.in_ok-rest.ensures.members
    (c.loop-at.invariant ∙ ap (λ (l : List ℕ). range_with_len 0 c.args.front ++ l) whole)
