-- By the last step of the loop.
use Rattle.std.proofs.Common.{rules, ◌∙◌}
use Rattle.shb_scan.proofs.Endings.{ended_error, ended_found, ended_refused, passed_more, passed_none, smaller}
use Rattle.shb_scan.proofs.reading.read_scan.Goals as goal

pub loop-scan-init : goal.loop-scan-init
loop-scan-init g c = record {
  limits = c.scan_bounds-limits.ensures;
  form = c.in_ok-scan.ensures.form;
  counted = search rules;
  scanned = passed_none (g.S.Source.remaining c.args.source.now) _ c.in_ok-scan.scan (c.in_ok-scan.ensures.scanned (g.S.Source.remaining c.args.source.now));
}

pub loop-scan-preserved : goal.loop-scan-preserved
loop-scan-preserved g c = record {
  limits = c.loop-scan.invariant.limits;
  form = c.in_ok-advance.ensures.form ∙ c.loop-scan.invariant.form;
  counted = search rules;
  scanned = passed_more (g.S.Source.remaining c.args.source.now) (g.S.Source.remaining c.loop-scan.source) (g.S.Source.remaining c.advance.new.source) _ _ _ c.loop-scan.scan c.advance.new.self c.loop-scan.invariant.scanned c.in_ok-advance.field-0 c.if-branch.true c.in_ok-advance.ensures.stepped;
}

pub loop-scan-smaller : goal.loop-scan-smaller
loop-scan-smaller g c = smaller (g.S.Source.remaining c.args.source.now) (g.S.Source.remaining c.loop-scan.source) (g.S.Source.remaining c.advance.new.source) _ _ _ c.loop-scan.scan c.advance.new.self c.loop-scan.invariant.scanned c.in_ok-advance.field-0 c.if-branch.true c.in_ok-advance.ensures.stepped

pub returns-in_err-advance-clause-reading : goal.returns-in_err-advance-clause-reading
returns-in_err-advance-clause-reading g c =
    ended_error (g.S.Source.remaining c.args.source.now) (g.S.Source.remaining c.loop-scan.source) (g.S.Source.remaining c.advance.new.source) _ _ _ c.loop-scan.scan c.advance.new.self c.loop-scan.invariant.scanned _ _ _
    c.in_err-advance.field-0.0 _ c.from_residual-in_err-advance.ensures.1 c.in_err-advance.ensures.stepped c.loop-scan.invariant.counted c.in_err-advance.ensures.counted

pub returns-in_err-into_found-clause-reading : goal.returns-in_err-into_found-clause-reading
returns-in_err-into_found-clause-reading g c =
    ended_refused (g.S.Source.remaining c.args.source.now) (g.S.Source.remaining c.loop-scan.source) (g.S.Source.remaining c.advance.new.source) _ _ _ c.loop-scan.scan c.advance.new.self c.loop-scan.invariant.scanned _ _ _
    c.in_ok-advance.field-0 c.in_err-into_found.field-0.0 _ c.from_residual-in_err-into_found.ensures.1 c.in_ok-advance.ensures.stepped c.loop-scan.invariant.counted c.in_ok-advance.ensures.counted

pub returns-clause-reading : goal.returns-clause-reading
returns-clause-reading g c =
    ended_found (g.S.Source.remaining c.args.source.now) (g.S.Source.remaining c.loop-scan.source) (g.S.Source.remaining c.advance.new.source) _ _ _ c.loop-scan.scan c.advance.new.self c.loop-scan.invariant.scanned _ _ _
    c.in_ok-advance.field-0 c.in_ok-into_found.field-0 c.if-branch.false c.in_ok-advance.ensures.stepped c.loop-scan.invariant.counted c.in_ok-advance.ensures.counted c.in_ok-into_found.ensures.found
