use Rattle.shb_stamps.proofs.Screening.{access_below, screened_read, screened_write}
use Rattle.std.proofs.Common.{refl}
use Rattle.shb_stamps.proofs.screen.after_access.Goals as goal
use Rattle.shb_stamps.proofs.screen.after_access.Goals.{then-after_read, else-after_read}

pub returns-then-writes-clause-screened : goal.returns-then-writes-clause-screened
returns-then-writes-clause-screened c = λ trace n x all disciplined before access h.
    let past = c.is_past-past.ensures trace n all disciplined before access.own_is.thread_is c.if-not-past.false in
    screened_write trace x n disciplined c.args.own c.args.writes access c.args.latest h past _ (λ known. elim c.if-after_read.branch [
      | then-after_read w ↦ (w.newest-is, c.is_past-after_read.ensures trace n all disciplined before access.own_is.thread_is w.if-after_read.true)
      | else-after_read w ↦ absurd (let lost = w.unknown-newest.ensures in let is = w.newest-is in let f : ⊥ = cc in f)
    ])

pub returns-clause-screened : goal.returns-clause-screened
returns-clause-screened c = λ trace n x all disciplined before access h.
    let past = c.is_past-past.ensures trace n all disciplined before access.own_is.thread_is c.if-not-past.false in
    screened_read trace x n disciplined c.args.own c.args.writes access c.args.latest h past c.if-writes.false _ refl (λ known. elim c.if-after_read.branch [
      | then-after_read w ↦ (w.newest-is, c.is_past-after_read.ensures trace n all disciplined before access.own_is.thread_is w.if-after_read.true)
      | else-after_read w ↦ absurd (let lost = w.unknown-newest.ensures in let is = w.newest-is in let f : ⊥ = cc in f)
    ])

pub returns-then-writes-clause-after : goal.returns-then-writes-clause-after
returns-then-writes-clause-after c = λ trace n x all disciplined before access h known also.
    let past = c.is_past-past.ensures trace n all disciplined before access.own_is.thread_is c.if-not-past.false in
    access_below trace x n disciplined c.args.own c.args.writes access c.args.latest h past (elim c.if-after_read.branch [
      | then-after_read w ↦ c.is_past-after_read.ensures trace n all disciplined before access.own_is.thread_is w.if-after_read.true
      | else-after_read w ↦ absurd (let lost = w.unknown-newest.ensures in let is = w.newest-is in let f : ⊥ = cc in f)
    ])

pub returns-clause-after : goal.returns-clause-after
returns-clause-after c = λ trace n x all disciplined before access h known also.
    let past = c.is_past-past.ensures trace n all disciplined before access.own_is.thread_is c.if-not-past.false in
    access_below trace x n disciplined c.args.own c.args.writes access c.args.latest h past (elim c.if-after_read.branch [
      | then-after_read w ↦ c.is_past-after_read.ensures trace n all disciplined before access.own_is.thread_is w.if-after_read.true
      | else-after_read w ↦ absurd (let lost = w.unknown-newest.ensures in let is = w.newest-is in let f : ⊥ = cc in f)
    ])
