use Rattle.std.proofs.Common.{◌≡◌, ◌<◌, ℕ, Option, Some, length, arith, slice_get, slice_index_or, subst}
use Rattle.shb_replay.proofs.Words.{HasReason, IsLowest, IsLowestIn, StandsEarlier, Why, get_or_from_slice_get, number_of, slice_get_read}
use Rattle.shb_replay.specs.declared.broken.Why.TheVariants as whys
use Rattle.shb_replay.proofs.Lowest.{lowest_five, lowest_three, lowest_two}
use Rattle.shb_replay.proofs.OrderReasons.{at_index, flag_false, flag_true}
use Rattle.shb_replay.proofs.walked.Walked.reason.Goals as goal

pub returns-then-index : goal.returns-then-index
returns-then-index c =
    let trace = c.args.rules.now.linked in
    let stands = c.args.self.now.stands in
    let s = c.args.list.now in
    let p = c.args.at in
    let x = slice_index_or s p 0 in
    let lt : x < length trace.events.now = omega (arith, c.if-e-len.false, c.len.ensures) in
    let long = c.requires.walked.stands.as_long in
    let flag = slice_get_read stands.items stands.len x c.index.result.now stands.ok.0 (let len = stands.ok.0 in omega (arith, lt, long, len)) c.index.ensures in
    at_index (λ e. IsLowest number_of (HasReason trace.events.now s p e) (Some whys.Repeated)) s p (lowest_two (HasReason trace.events.now s p x) (λ h. omega (arith, lt, h)) (flag_true (StandsEarlier s p) (length trace.events.now) x stands.items c.index.result.now c.requires.walked.stands flag c.if-index.true))

pub order_reason-requires-clause-in_trace : goal.order_reason-requires-clause-in_trace
order_reason-requires-clause-in_trace c = at_index (λ e. e < length c.args.rules.now.linked.events.now) c.args.list.now c.args.at (omega (arith, c.if-e-len.false, c.len.ensures))

pub operation_reason-requires-clause-in_trace : goal.operation_reason-requires-clause-in_trace
operation_reason-requires-clause-in_trace c = at_index (λ e. e < length c.args.rules.now.linked.events.now) c.args.list.now c.args.at (omega (arith, c.if-e-len.false, c.len.ensures))

pub returns-in-Some : goal.returns-in-Some
returns-in-Some c = λ e at. go e at
  where
    go : (e : ℕ) → slice_get c.args.list.now c.args.at ≡ Some e → IsLowest number_of (HasReason c.args.rules.now.linked.events.now c.args.list.now c.args.at e) (Some c.in-Some.why)
    go e at =
        let trace = c.args.rules.now.linked in
        let stands = c.args.self.now.stands in
        let s = c.args.list.now in
        let p = c.args.at in
        let is : slice_index_or s p 0 ≡ e = get_or_from_slice_get s p e 0 at in
        let lt : e < length trace.events.now = omega (arith, is, c.if-e-len.false, c.len.ensures) in
        let long = c.requires.walked.stands.as_long in
        let flag = subst (λ (k : ℕ). slice_get stands.items k ≡ Some c.index.result.now) is (slice_get_read stands.items stands.len (slice_index_or s p 0) c.index.result.now stands.ok.0 (let len = stands.ok.0 in omega (arith, lt, is, long, len)) c.index.ensures) in
        lowest_three (HasReason trace.events.now s p e) (λ h. omega (arith, lt, h)) (flag_false (StandsEarlier s p) (length trace.events.now) e stands.items c.index.result.now c.requires.walked.stands flag c.if-index.false) c.in-Some.why (subst (λ (o : Option Why). IsLowestIn 3 4 (HasReason trace.events.now s p e) o) c.in-Some.is (c.order_reason.ensures e at))

pub returns-in-None : goal.returns-in-None
returns-in-None c = λ e at. go e at
  where
    go : (e : ℕ) → slice_get c.args.list.now c.args.at ≡ Some e → IsLowest number_of (HasReason c.args.rules.now.linked.events.now c.args.list.now c.args.at e) c.operation_reason.result
    go e at =
        let trace = c.args.rules.now.linked in
        let stands = c.args.self.now.stands in
        let s = c.args.list.now in
        let p = c.args.at in
        let is : slice_index_or s p 0 ≡ e = get_or_from_slice_get s p e 0 at in
        let lt : e < length trace.events.now = omega (arith, is, c.if-e-len.false, c.len.ensures) in
        let long = c.requires.walked.stands.as_long in
        let flag = subst (λ (k : ℕ). slice_get stands.items k ≡ Some c.index.result.now) is (slice_get_read stands.items stands.len (slice_index_or s p 0) c.index.result.now stands.ok.0 (let len = stands.ok.0 in omega (arith, lt, is, long, len)) c.index.ensures) in
        lowest_five (HasReason trace.events.now s p e) (λ h. omega (arith, lt, h)) (flag_false (StandsEarlier s p) (length trace.events.now) e stands.items c.index.result.now c.requires.walked.stands flag c.if-index.false) (subst (λ (o : Option Why). IsLowestIn 3 4 (HasReason trace.events.now s p e) o) c.in-None.is (c.order_reason.ensures e at)) c.operation_reason.result (c.operation_reason.ensures e at)
