-- What is held grows until it has a line.
use Rattle.std.proofs.Common.{◌≡◌, ◌+◌, ◌<◌, ℕ, List, ◌∷◌, ◌++◌, length, take, drop, ap, refl, sym, subst, ◌∙◌, arith, rules, length-take-le}
use Rattle.shb_lines.specs.text.Lines.{IsShort}
use Rattle.shb_lines.proofs.text.LinesRead.{begins_long, gives_more, gives_nothing, held_before, lacks_all, lacks_before, line_of_held, on_err}
use Rattle.shb_lines.proofs.lines.Lines.next.Goals as goal

pub returns-in_err-fill-clause-err : goal.returns-in_err-fill-clause-err
returns-in_err-fill-clause-err g c =
    let before = c.loop-self.invariant.held in
    on_err c.from_residual.result _ (before.0 + 0, gives_more _ _ _ _ _ _ _ _ _ _ _ before.1 c.in_err-fill.ensures.err)

pub returns-then-branch-eq0-clause-next : goal.returns-then-branch-eq0-clause-next
returns-then-branch-eq0-clause-next g c =
    let before = c.loop-self.invariant.held in
    let now = c.fill.new.self.held in
    let fill = c.in_ok-fill.ensures.ok in
    let none : c.in_ok-fill.field-0 ≡ 0 = c.if-branch-eq0.true in
    let same : now ≡ c.loop-self.self.held = gives_nothing _ _ _ _ _ _ _ fill none in
    let open_line = c.loop-self-test.ensures.yes refl in
    let line : c.take_last.new.self.line ≡ now = c.take_last.ensures.line in
    let last : IsShort c.args.limit c.loop-self.self.held = record {
      one_line = lacks_all c.loop-self.self.held (sym c.loop-self.invariant.len ∙ open_line.0);
      short = omega (arith, open_line.0, open_line.1);
    } in
    (now, before.0 + c.in_ok-fill.field-0, gives_more _ _ _ _ _ _ _ _ _ _ _ before.1 fill, (subst (IsShort c.args.limit) (sym (line ∙ same)) last, sym line, c.take_last.ensures.held, c.in_ok-fill.ensures.end none))

pub loop-self-preserved : goal.loop-self-preserved
loop-self-preserved g c =
    let before = c.loop-self.invariant.held in
    record {
      held = (before.0 + c.in_ok-fill.field-0, gives_more _ _ _ _ _ _ _ _ _ _ _ before.1 c.in_ok-fill.ensures.ok);
      len = search rules;
      within = search rules;
      counted = search rules;
    }

pub returns-then-len-limit-clause-next : goal.returns-then-len-limit-clause-next
returns-then-len-limit-clause-next g c =
    let before = c.loop-self.invariant.held in
    (c.loop-self.self.held, before.0, before.1, begins_long c.loop-self.self.held c.loop-self.len c.args.limit c.loop-self.invariant.len (search rules) (search rules))

pub take_line-requires : goal.take_line-requires
take_line-requires g c = held_before c.loop-self.len (length c.loop-self.self.held) c.args.limit c.loop-self.invariant.within (omega (arith, c.if-len-limit.false)) (c.loop-self-test.ensures.no refl)

pub returns-clause-next : goal.returns-clause-next
returns-clause-next g c =
    let before = c.loop-self.invariant.held in
    let held : List ℕ = c.loop-self.self.held in
    let len = c.loop-self.len in
    let within : len < length held = held_before len (length held) c.args.limit c.loop-self.invariant.within (omega (arith, c.if-len-limit.false)) (c.loop-self-test.ensures.no refl) in
    let line : c.take_line.new.self.line ≡ take len held = c.take_line.ensures.line in
    let first : IsShort c.args.limit (take len held) = record {
      one_line = lacks_before held len (omega (arith, c.loop-self.invariant.len));
      short = omega (arith, length-take-le len held c.loop-self.invariant.within, c.if-len-limit.false);
    } in (
      held,
      before.0,
      before.1,
      (
        subst (IsShort c.args.limit) (sym line) first,
        line_of_held held len c.loop-self.invariant.len within ∙ ap (λ l. l ++ 10 ∷ drop (len + 1) held) (sym line) ∙ ap (λ h. c.take_line.new.self.line ++ 10 ∷ h) (sym c.take_line.ensures.held),
      ),
    )
