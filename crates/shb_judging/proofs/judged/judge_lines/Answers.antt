-- The pair of a block is good, or this is its lowest fault.
use Rattle.std.proofs.Common.{◌≡◌, Result, Ok, Err, IfErr, IsErrAnd, [], refl, subst, sym}
use Rattle.shb_judging.proofs.Words.{block_with}
use Rattle.shb_judging.proofs.GoodBlocks.{broken_lowest, good_by, pair_within}
use Rattle.shb_judging.proofs.judged.judge_lines.Goals as goal

-- what holds of an error that is handed on
handed_on : {T E : Type 0} (r : Result T E) (e : E) (P : E → Type 0) → IsErrAnd r (λ x. x ≡ e) → P e → IfErr r P
handed_on (Ok x) e P is p = absurd is
handed_on (Err x) e P is p = subst P (sym is) p

pub returns-in_err-pair-clause-fault : goal.returns-in_err-pair-clause-fault
returns-in_err-pair-clause-fault c = λ numbers same. handed_on c.from_residual.result _ _ c.from_residual.ensures.1 (c.in_err-pair.ensures numbers)

pub replay-requires-clause-first : goal.replay-requires-clause-first
replay-requires-clause-first c = (pair_within c.args.disciplined.now.trace.now _ (block_with c.args.listed []) c.in_ok-pair.pair c.requires (c.in_ok-pair.ensures []).0 (c.in_ok-pair.ensures []).1).0

pub replay-requires-clause-second : goal.replay-requires-clause-second
replay-requires-clause-second c = (pair_within c.args.disciplined.now.trace.now _ (block_with c.args.listed []) c.in_ok-pair.pair c.requires (c.in_ok-pair.ensures []).0 (c.in_ok-pair.ensures []).1).1

pub returns-in-None-clause-pair : goal.returns-in-None-clause-pair
returns-in-None-clause-pair c = (c.in_ok-pair.ensures []).0

pub returns-in-None-clause-good : goal.returns-in-None-clause-good
returns-in-None-clause-good c = λ numbers same.
    good_by c.args.disciplined.now.trace.now (block_with c.args.listed numbers) _ _ c.in_ok-pair.pair c.requires same (c.in_ok-pair.ensures numbers).0 (c.in_ok-pair.ensures numbers).1 (c.in-None.ensures.schedule.0 refl)

pub returns-in-Some-clause-fault : goal.returns-in-Some-clause-fault
returns-in-Some-clause-fault c = λ numbers same.
    broken_lowest c.args.disciplined.now.trace.now (block_with c.args.listed numbers) _ _ c.in_ok-pair.pair c.in-Some.broken c.requires same (c.in_ok-pair.ensures numbers).0 (c.in_ok-pair.ensures numbers).1 c.in-Some.ensures.broken
