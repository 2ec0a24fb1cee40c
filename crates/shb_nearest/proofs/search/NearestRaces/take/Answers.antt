use Rattle.std.proofs.Common.{ℕ, ◌+◌, ◌≡◌, [], ◌∷◌, ◌++◌, ◌∙◌, arith, length, subst, sym}
use Rattle.shb_nearest.proofs.Words.{AreTables, FoundAccess, IsNextEvent, length_push}
use Rattle.shb_nearest.proofs.Carry.{tables_longer}
use Rattle.shb_nearest.proofs.StepLemmas.{last_at}
use Rattle.shb_nearest.proofs.search.NearestRaces.take.Goals as goal

pub returns-clause-searched : goal.returns-clause-searched
returns-clause-searched c past spots e thread op room disciplined h =
    let n = c.args.self.now.events in
    let at_end = h.events_are in
    let long = length_push past e in
    let more = length_push spots c.args.spot in
    let many = h.as_many in
    let one = c.saturating_add-self.ensures in
    let access : FoundAccess = record { event = c.args.self.now.events; thread = c.args.step.thread; writes = c.is_write.result; spot = c.args.spot } in
    let next : IsNextEvent past e (spots ++ c.args.spot ∷ []) c.args.self.now.clocks c.args.step.op access = record {
      disciplined = disciplined;
      room = room;
      streamed = h.clocks;
      event_is = h.events_are;
      same_thread = thread;
      same_op = op;
      writes_is = c.is_write.ensures;
      spot_is = last_at spots c.args.spot c.args.self.now.events (h.as_many ∙ sym h.events_are);
    } in
    let by_variable = c.args.self.now.by_variable in
    let old = subst (λ (m : ℕ). AreTables c.args.self.now.by_variable (past ++ e ∷ []) (spots ++ c.args.spot ∷ []) m c.args.self.now.tables) (sym h.events_are) (tables_longer past e spots c.args.spot h.as_many disciplined by_variable c.args.self.now.tables h.tables) in
    let taken = c.in_ok-take_event.ensures past e (spots ++ c.args.spot ∷ []) next old in
    let whole : n + 1 ≡ length (past ++ e ∷ []) = omega (arith, at_end, long) in
    record {
      clocks = c.in_ok-take.ensures past e thread op room disciplined h.clocks;
      events_are = omega (arith, room, at_end, long, one);
      as_many = omega (arith, long, more, many);
      tables = subst (λ (m : ℕ). AreTables c.args.self.now.by_variable (past ++ e ∷ []) (spots ++ c.args.spot ∷ []) m c.take_event.new.tables) whole taken;
    }
