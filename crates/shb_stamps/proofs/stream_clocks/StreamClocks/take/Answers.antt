-- The next event was taken.
use Rattle.std.proofs.Common.{◌++◌, ◌∷◌, [], Some, true, inl, length, refl, ap, subst, ◌∙◌}
use Rattle.shb_stamps.proofs.Words.{IsNext, Op}
use Rattle.shb_stamps.proofs.Streaming.{streamed}
use Rattle.shb_stamps.proofs.stream_clocks.StreamClocks.take.Goals as goal

pub returns-then-known : goal.returns-then-known
returns-then-known c = λ past e same of_op few disciplined old. streamed past e disciplined c.args.self.now old c.args.thread c.args.op c.time.result c.saturating_add-time.result c.joined-joined.result (record { clocks = c.args.self.now.clocks; times = c.put.new.items }) same of_op few c.time.ensures c.saturating_add-time.ensures c.joined-joined.ensures c.in_ok-put.ensures
    (λ next before. c.knows_write-known.ensures (past ++ e ∷ []) (length past) c.saturating_add-time.result c.joined-joined.result true (subst (λ (o : Op). IsNext (past ++ e ∷ []) (length past) c.args.thread o c.saturating_add-time.result c.joined-joined.result) c.in-Read.is next) before c.if-known.true)

pub returns-in_ok-take_write-in-Write : goal.returns-in_ok-take_write-in-Write
returns-in_ok-take_write-in-Write c = λ past e same of_op few disciplined old. streamed past e disciplined c.args.self.now old c.args.thread c.args.op c.time.result c.saturating_add-time.result c.joined-joined.result (record { clocks = c.take_write.new.self; times = c.put.new.items }) same of_op few c.time.ensures c.saturating_add-time.ensures c.joined-joined.ensures c.in_ok-put.ensures
    (λ next before. c.in_ok-take_write-in-Write.ensures (past ++ e ∷ []) (length past) c.joined-joined.result true (subst (λ (o : Op). IsNext (past ++ e ∷ []) (length past) c.args.thread o c.saturating_add-time.result c.joined-joined.result) c.in-Write.is next) (inl refl, next.does ∙ ap (λ (o : Op). Some o) c.in-Write.is) before)

pub returns-in_ok-take_other-in-Read : goal.returns-in_ok-take_other-in-Read
returns-in_ok-take_other-in-Read c = λ past e same of_op few disciplined old. streamed past e disciplined c.args.self.now old c.args.thread c.args.op c.time.result c.saturating_add-time.result c.joined-joined.result (record { clocks = c.take_other.new.self; times = c.put.new.items }) same of_op few c.time.ensures c.saturating_add-time.ensures c.joined-joined.ensures c.in_ok-put.ensures
    (λ next before. c.in_ok-take_other-in-Read.ensures (past ++ e ∷ []) (length past) true (subst (λ (o : Op). IsNext (past ++ e ∷ []) (length past) c.args.thread o c.saturating_add-time.result c.joined-joined.result) c.in-Read.is next) before)

pub returns-in_ok-take_other-in_default : goal.returns-in_ok-take_other-in_default
returns-in_ok-take_other-in_default c = λ past e same of_op few disciplined old. streamed past e disciplined c.args.self.now old c.args.thread c.args.op c.time.result c.saturating_add-time.result c.joined-joined.result (record { clocks = c.take_other-in_default.new.self; times = c.put.new.items }) same of_op few c.time.ensures c.saturating_add-time.ensures c.joined-joined.ensures c.in_ok-put.ensures
    (λ next before. c.in_ok-take_other-in_default.ensures (past ++ e ∷ []) (length past) true next before)
