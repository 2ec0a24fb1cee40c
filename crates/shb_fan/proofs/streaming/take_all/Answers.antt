use Rattle.std.proofs.Common.{◌<◌, [], ◌∷◌, ◌++◌, arith}
use Rattle.shb_fan.proofs.Accounts.{lifted_more}
use Rattle.shb_fan.proofs.Streams.{first-long, first-more}
use Rattle.shb_fan.proofs.streaming.take_all.Goals as goal

pub take-requires : goal.take-requires
take-requires g c =
    let t = c.loop-k.invariant.taken in
    let inside : c.loop-k.k < g.J.Job.count c.args.shared.now.gated.job.now = omega (arith, c.loop-k-test.true, c.requires.ready.0.pieces) in
    (_, t.0, first-long _ _ _ _ t.1, t.2, c.requires.may_take _ t.0 c.in-Some.out inside t.1 c.in-Some.ensures.value.0)

pub loop-k-preserved : goal.loop-k-preserved
loop-k-preserved g c =
    let t = c.loop-k.invariant.taken in
    let value = g.J.Job.value c.args.shared.now.gated.job.now in
    let got = c.in-Some.ensures.value in
    let inside : c.loop-k.k < g.J.Job.count c.args.shared.now.gated.job.now = omega (arith, c.loop-k-test.true, c.requires.ready.0.pieces) in
    let may = c.requires.may_take _ t.0 c.in-Some.out inside t.1 got.0 in record {
      ready = got.1;
      taken = (t.0 ++ c.in-Some.out ∷ [], first-more _ value c.loop-k.k _ _ t.1 got.0, c.in-Ok.ensures.taken _ t.0 (first-long _ _ _ _ t.1) t.2 may);
      lifted = lifted_more c.loop-k.own c.wait_to_lift.new.own c.loop-k.k c.loop-k.invariant.lifted got.2;
    }

pub returns-in-Err-clause-ended : goal.returns-in-Err-clause-ended
returns-in-Err-clause-ended g c =
    let t = c.loop-k.invariant.taken in
    let got = c.in-Some.ensures.value in
    let inside : c.loop-k.k < g.J.Job.count c.args.shared.now.gated.job.now = omega (arith, c.loop-k-test.true, c.requires.ready.0.pieces) in
    let may = c.requires.may_take _ t.0 c.in-Some.out inside t.1 got.0 in
    (c.loop-k.k, inside, (t.0, c.in-Some.out, t.1, got.0, c.in-Err.ensures.refused _ t.0 (first-long _ _ _ _ t.1) t.2 may))
