use Rattle.std.proofs.Common.{◌<◌, ◌∙◌, arith, get_or, length}
use Rattle.shb_nearest.proofs.Words.{get_or_default}
use Rattle.shb_nearest.proofs.LateLemmas.{no_access, last_taken, late_first, late_taken}
use Rattle.shb_nearest.proofs.opened.take_all.Goals as goal

pub loop-late-preserved : goal.loop-late-preserved
loop-late-preserved c = (
  λ trace spots n m groups late. (
      let waiting = c.args.waiting.now in
      let index = c.loop-late.late-index in
      let more : index < length waiting = (let test = c.loop-late-test.true in omega (arith, test)) in
      let was = c.loop-late.invariant.0 trace spots n m groups late in
      let a = get_or waiting index no_access in
      let is = get_or_default waiting index no_access a more in
      let first = late_first trace spots c.args.variable n index waiting a c.loop-late.groups.each.items c.take.new.self.each.items more is was.0 in (
        late_taken trace spots c.args.variable n index waiting a c.loop-late.groups.each.items c.take.new.self.each.items more is was.0 (λ are. c.in_ok-take.ensures.groups trace spots n are first.0 first.1),
        λ are. c.in_ok-take.ensures.classes trace spots n first.0 first.1 (was.1 are),
      )),
  λ by_variable entries are. c.in_ok-take.ensures.sites by_variable entries (c.loop-late.invariant.1 by_variable entries are),
  c.in_ok-take.ensures.own ∙ c.loop-late.invariant.2,
)

pub returns-clause-groups : goal.returns-clause-groups
returns-clause-groups c trace spots n m groups late =
    let done = c.loop-late-test.false in
    last_taken trace spots c.args.variable n c.loop-late.late-index c.args.waiting.now c.loop-late.groups.each.items (omega (arith, done)) (c.loop-late.invariant.0 trace spots n m groups late).0

pub returns-clause-classes : goal.returns-clause-classes
returns-clause-classes c trace spots n m groups late are = (c.loop-late.invariant.0 trace spots n m groups late).1 are

pub returns-clause-sites : goal.returns-clause-sites
returns-clause-sites c = c.loop-late.invariant.1
