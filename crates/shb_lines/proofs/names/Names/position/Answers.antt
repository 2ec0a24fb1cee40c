-- One name more was looked at, and at the end all.
use Rattle.std.proofs.Common.{[], ap, arith, sym, ◌||◌, ◌∙◌, get_or}
use Rattle.std.specs.List.{list_any}
use Rattle.std.specs.Str.{bytes_eq}
use Rattle.std.proofs.lemmas.List.{take_all}
use Rattle.std.proofs.lemmas.List.Folds.{list_any_more}
use Rattle.std.proofs.lemmas.Option.{get_or_from_slice_get}
use Rattle.shb_lines.proofs.names.Names.position.Goals as goal

pub loop-number-preserved : goal.loop-number-preserved
loop-number-preserved c =
    let names = c.args.self.now in
    let same = bytes_eq c.args.name.now in
    let n = c.loop-number.number in
    list_any_more same names n [] (omega (arith, c.loop-number-test.true, c.len-number-end.ensures.len)) ∙ ap (λ b. b || same (get_or names n [])) c.loop-number.invariant
    ∙ ap same (get_or_from_slice_get names n c.name.result.now [] c.name.ensures) ∙ sym c.eq.ensures ∙ c.if-eq.false

pub returns-clause-none : goal.returns-clause-none
returns-clause-none c =
    ap (list_any (bytes_eq c.args.name.now)) (sym (take_all c.loop-number.number c.args.self.now (omega (arith, c.loop-number-test.false, c.len-number-end.ensures.len)))) ∙ c.loop-number.invariant
