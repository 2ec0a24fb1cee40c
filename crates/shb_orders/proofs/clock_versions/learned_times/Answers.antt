use Rattle.std.proofs.Common.{◌≡◌, ◌∙◌, Some, ap, arith, length, subst, sym}
use Rattle.shb_orders.proofs.Words.{AreLearnedTimes, local_is}
use Rattle.shb_orders.proofs.LearnedLemmas.{AreTimes, times_no, times_start, times_whole, times_yes}
use Rattle.shb_orders.proofs.clock_versions.learned_times.Goals as goal
use Rattle.shb_orders.proofs.clock_versions.learned_times.Goals.{then-thread-t+then-may_learn+in_ok-push, else-thread-t, else-thread-t-via-then-thread-t+else-may_learn, else-thread-t-via-else-thread-t}

pub loop-e-init : goal.loop-e-init
loop-e-init c = rw c.new-times.ensures.items (times_start c.args.linked.now.events.now c.args.t)

pub loop-e-preserved : goal.loop-e-preserved
loop-e-preserved c =
    let linked = c.args.linked.now in
    let e = c.loop-e.e in
    elim c.if-thread-t.branch [
      | then-thread-t+then-may_learn+in_ok-push w ↦ (
          let of_e = c.thread.ensures ∙ ap (λ u. Some u) w.if-thread-t.true in
          let time = local_is linked.events.now linked.links.now e w.local.result c.args.t linked.of_links w.local.ensures.time of_e in
          rw w.times-is (rw w.in_ok-push.ensures.items (times_yes linked.events.now c.args.t e w.local.result c.loop-e.times.items of_e (w.may_learn.ensures.0 w.if-may_learn.true) time c.loop-e.invariant)))
      | else-thread-t w ↦ rw w.times-is (times_no linked.events.now c.args.t e c.thread.result c.loop-e.times.items c.thread.ensures
          (λ own learning. elim w.else-thread-t.branch [
            | else-thread-t-via-then-thread-t+else-may_learn v ↦ (let fails = v.if-may_learn.false in let passing = v.may_learn.ensures.1 learning in (let f : ⊥ = cc in f))
            | else-thread-t-via-else-thread-t v ↦ v.if-thread-t.false (sym own)
          ])
          c.loop-e.invariant)
    ]

pub returns : goal.returns
returns c =
    let all : c.loop-e.e ≡ length c.args.linked.now.events.now = omega arith in
    subst (AreLearnedTimes c.args.linked.now.events.now c.args.t) (sym c.new.ensures)
    (times_whole c.args.linked.now.events.now c.args.t c.loop-e.times.items (subst (λ n. AreTimes c.args.linked.now.events.now c.args.t n c.loop-e.times.items) all c.loop-e.invariant))
