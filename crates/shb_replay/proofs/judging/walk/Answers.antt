use Rattle.std.proofs.Common.{inl, inr, Option, length, slice_index_or, subst}
use Rattle.shb_replay.proofs.Words.{HasReason, IsLowest, Why, cases_lt, number_of, slice_get-get_or}
use Rattle.shb_replay.specs.declared.broken.Why.TheVariants as whys
use Rattle.shb_replay.proofs.Lowest.{broken_here, unbroken_more, unbroken_start}
use Rattle.shb_replay.proofs.judging.walk.Goals as goal

pub returns-in-Some-clause-answer : goal.returns-in-Some-clause-answer
returns-in-Some-clause-answer c =
    let s = c.args.list.now in
    let at = slice_get-get_or s c.loop-at.at 0 c.loop-at-test.true in
    broken_here c.args.rules.now.linked.events.now s c.args.pair.first c.args.pair.second c.loop-at.at c.in-Some.why (record {
      event = slice_index_or s c.loop-at.at 0;
      there = at;
      lowest = subst (λ (o : Option Why). IsLowest number_of (HasReason c.args.rules.now.linked.events.now s c.loop-at.at (slice_index_or s c.loop-at.at 0)) o) c.in-Some.is (c.reason.ensures _ at);
      earlier = c.loop-at.invariant.unbroken;
    })

pub note-requires-clause-in_trace : goal.note-requires-clause-in_trace
note-requires-clause-in_trace c = λ e at. elim (cases_lt e (length c.args.rules.now.linked.events.now)) [
  | inl lt ↦ lt
  | inr past ↦ absurd (subst (λ (o : Option Why). IsLowest number_of (HasReason c.args.rules.now.linked.events.now c.args.list.now c.loop-at.at e) o) c.in_default.is (c.reason.ensures e at) whys.NoSuchEvent past)
]

pub loop-at-preserved : goal.loop-at-preserved
loop-at-preserved c = record {
  walked = c.note.ensures;
  unbroken = unbroken_more c.args.rules.now.linked.events.now c.args.list.now c.loop-at.at (λ e at. subst (λ (o : Option Why). IsLowest number_of (HasReason c.args.rules.now.linked.events.now c.args.list.now c.loop-at.at e) o) c.in_default.is (c.reason.ensures e at)) c.loop-at.invariant.unbroken;
}

pub loop-at-init : goal.loop-at-init
loop-at-init c = record { walked = c.requires.blank c.args.list.now; unbroken = unbroken_start c.args.rules.now.linked.events.now c.args.list.now }
