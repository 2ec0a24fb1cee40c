use Rattle.std.proofs.Common.{◌≡◌, ℕ, [], ◌∷◌, ◌++◌, length, List, subst, sym, ap, ◌∙◌, arith}
use Rattle.shb_witness.proofs.Words.{IsListed, IsWithinCuts, length-range_with_len, length_push, listed_more_no, listed_more_yes}
use Rattle.shb_witness.proofs.CutLemmas.{found_all, front_listed, within_test}
use Rattle.shb_witness.proofs.schedules.passed.Goals as goal
use Rattle.shb_witness.proofs.schedules.passed.Goals.{then-below+in_ok-push, else-below}

pub loop-k-init : goal.loop-k-init
loop-k-init g c =
    let trace = c.args.ordered.now.disciplined.now.events.now in
    let front = c.args.front in
    let is = c.in_ok-positions.ensures in
    let long = length-range_with_len 0 front in
    record {
      found = subst (λ (s : List ℕ). IsListed (IsWithinCuts trace c.args.cuts.now) front s) (sym is) (front_listed trace c.args.cuts.now front (omega (arith, c.requires.order, c.requires.within)) c.requires.reached);
      few = omega (arith, ap length is, long);
    }

pub loop-k-preserved : goal.loop-k-preserved
loop-k-preserved g c =
    let trace = c.args.ordered.now.disciplined.now.events.now in
    let test = within_test trace c.args.ordered.now.links.now c.args.cuts.now c.loop-k.k _ _ c.args.ordered.now.linked c.thread-thread.ensures c.local.ensures.time in
    elim c.if-below.branch [
      | then-below+in_ok-push w ↦
          (let e : c.if-below.positions ≡ c.loop-k.positions ++ c.loop-k.k ∷ [] = w.positions-is ∙ w.in_ok-push.ensures.pushed in
          record {
            found = rw e (listed_more_yes (IsWithinCuts trace c.args.cuts.now) c.loop-k.k c.loop-k.positions (test.0 w.if-below.true) c.loop-k.invariant.found);
            few = omega (arith, c.loop-k.invariant.few, ap length e, length_push c.loop-k.positions c.loop-k.k);
          })
      | else-below w ↦
          (let e : c.if-below.positions ≡ c.loop-k.positions = w.positions-is in
          record {
            found = rw e (listed_more_no (IsWithinCuts trace c.args.cuts.now) c.loop-k.k c.loop-k.positions (λ h. let le = test.1 h in let above = w.if-below.false in omega (arith, le, above)) c.loop-k.invariant.found);
            few = omega (arith, c.loop-k.invariant.few, ap length e);
          })
    ]

pub returns : goal.returns
returns g c = found_all c.args.ordered.now.disciplined.now.events.now c.args.cuts.now c.loop-k.positions c.loop-k.k (λ k within. let lt = c.requires.above k within in omega (arith, lt, c.loop-k-test.false)) c.loop-k.invariant.found
