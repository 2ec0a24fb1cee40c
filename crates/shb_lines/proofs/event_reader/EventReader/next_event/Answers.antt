-- Lines that give nothing are passed, and what comes next is answered.
use Rattle.std.proofs.Common.{◌++◌, [], refl, rules, subst}
use Rattle.shb_lines.specs.text.Taken.{IsTaken}
use Rattle.shb_lines.proofs.text.LinesRead.{moved_more, moves_none}
use Rattle.shb_lines.proofs.text.TakenEvents.{passed_more, passed_none, taken_after, taken_next}
use Rattle.shb_lines.proofs.event_reader.EventReader.next_event.Goals as goal

pub returns-in_default : goal.returns-in_default
returns-in_default g c = record {
  within = c.in_ok-taken.ensures.within;
  nothing = λ is. absurd (c.in_default.not-Nothing is);
  barred = c.in_ok-taken.ensures.barred;
  taken = λ read lines h.
      let after = taken_after c.args.limits.now read lines (g.S.Source.remaining c.args.source.now) (g.S.Source.remaining c.loop-self.source) (g.S.Source.remaining c.take_next.new.source) _ _ _ c.loop-self.self c.take_next.new.self c.in_ok-taken.taken
      (c.loop-self.invariant.passed read lines h) c.in_ok-taken.ensures.taken in
      (after.0, after.1, after.2, after.3, taken_next c.args.limits.now _ _ (g.S.Source.remaining c.take_next.new.source) c.take_next.new.self c.in_ok-taken.taken c.in_default.not-Nothing after.4);
  moved = moved_more _ _ _ _ _ _ c.loop-self.invariant.moved c.in_ok-taken.ensures.moved;
  counted = search rules;
}

pub returns-clause-taken : goal.returns-clause-taken
returns-clause-taken g c = λ read lines h.
    let passed = c.loop-self.invariant.passed read lines h in
    (passed.more, passed.empty, passed.moves, passed.same, passed.taken)

pub returns-in_err-taken-clause-moved : goal.returns-in_err-taken-clause-moved
returns-in_err-taken-clause-moved g c = moved_more _ _ _ _ _ _ c.loop-self.invariant.moved c.in_err-taken.ensures.moved

pub loop-self-init : goal.loop-self-init
loop-self-init g c = record {
  within = c.requires.within;
  counted = refl;
  moved = ([], moves_none (g.S.Source.remaining c.args.source.now) (g.S.Source.given_count c.args.source.now));
  passed = λ read lines h. passed_none c.args.limits.now read lines (g.S.Source.remaining c.args.source.now) (g.S.Source.given_count c.args.source.now) c.args.self.now h;
}

pub loop-self-preserved : goal.loop-self-preserved
loop-self-preserved g c = record {
  within = search rules;
  counted = search rules;
  moved = moved_more _ _ _ _ _ _ c.loop-self.invariant.moved c.in_ok-taken.ensures.moved;
  passed = λ read lines h.
      passed_more c.args.limits.now read lines (g.S.Source.remaining c.args.source.now) (g.S.Source.remaining c.loop-self.source) (g.S.Source.remaining c.take_next.new.source) _ _ _ c.loop-self.self c.take_next.new.self
      (c.loop-self.invariant.passed read lines h) (λ r ls held.
      let next = c.in_ok-taken.ensures.taken r ls held in
      (next.0, next.1, subst (λ taken. IsTaken c.args.limits.now (r ++ next.0) ls (g.S.Source.remaining c.take_next.new.source) c.take_next.new.self taken) c.in-Nothing.is next.2));
}
