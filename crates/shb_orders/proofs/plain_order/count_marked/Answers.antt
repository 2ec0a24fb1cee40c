use Rattle.std.proofs.Common.{◌≡◌, Some, get_or, true, false, ap, sym, ◌∙◌, arith}
use Rattle.shb_orders.proofs.Words.{number_more_no, number_more_yes, thread_at}
use Rattle.shb_orders.proofs.plain_order.count_marked.Goals as goal
use Rattle.shb_orders.proofs.plain_order.count_marked.Goals.{then-thread-t+then-row-k, else-thread-t, else-thread-t-via-then-thread-t+else-row-k, else-thread-t-via-else-thread-t}

pub loop-k-preserved : goal.loop-k-preserved
loop-k-preserved c =
    elim c.if-thread-t.branch [
      | then-thread-t+then-row-k w ↦ record {
        no_more = (let e = w.count-is in let le = c.loop-k.invariant.no_more in omega (arith, e, le));
        counted = rw w.count-is (number_more_yes (λ k. (thread_at c.args.events.now k ≡ Some c.args.t) × (get_or c.args.row.now k false ≡ true)) c.loop-k.k c.loop-k.count (c.thread.ensures ∙ ap (λ n. Some n) w.if-thread-t.true, w.if-row-k.true) c.loop-k.invariant.counted);
      }
      | else-thread-t w ↦ record {
        no_more = (let e = w.count-is in let le = c.loop-k.invariant.no_more in omega (arith, e, le));
        counted = rw w.count-is (number_more_no (λ k. (thread_at c.args.events.now k ≡ Some c.args.t) × (get_or c.args.row.now k false ≡ true)) c.loop-k.k c.loop-k.count
            (λ q. elim w.else-thread-t.branch [
              | else-thread-t-via-then-thread-t+else-row-k v ↦ (let fails = v.if-row-k.false in let passing = q.1 in (let f : ⊥ = cc in f))
              | else-thread-t-via-else-thread-t v ↦ v.if-thread-t.false (let s : Some c.thread.result ≡ Some c.args.t = sym c.thread.ensures ∙ q.0 in cc)
            ])
            c.loop-k.invariant.counted);
      }
    ]
