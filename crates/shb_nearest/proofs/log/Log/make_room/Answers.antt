use Rattle.std.proofs.Common.{◌≡◌, ◌∷◌, ◌≤◌, ℕ, Global, List, Some, Vec, [], ap, arith, length, subst, sym, ◌∙◌}
use Rattle.shb_nearest.proofs.Words.{AreLate, AreVariables, AreWaiting, Entry, IsChain, IsVariable, Late, Log, Variable, Waiting, get_or, length-append, slice_get-get_or}
use Rattle.std.specs.Prelude.{slice_get}
use Rattle.shb_nearest.proofs.Chains.{AreMoved, grouped_own, one_moved, waiting_own}
use Rattle.shb_nearest.proofs.log.Log.make_room.Goals as goal
use Rattle.shb_nearest.proofs.log.Log.make_room.Goals.{else-len, in-Waiting+in_ok-gather+in_ok-place, in_default, then-len}

abbrev no_variable : Variable
no_variable = record { accesses = Waiting 0; run = record { thread = 0; start = 0 }; latest = record { write = record { time = 0; thread = 0 }; read = record { time = 0; thread = 0 } } }

pub loop-known-preserved : goal.loop-known-preserved
loop-known-preserved c = (
  (let long = length-append c.loop-known.moved.items (c.match-known.variable ∷ []) in let all = ap (λ (l : List Variable). length l) c.in_ok-push.ensures.items in let was = c.loop-known.invariant.0 in omega (arith, long, all, was)),
  (elim c.match-known.branch [
    | in-Waiting+in_ok-gather+in_ok-place b ↦ ap (λ (l : Log). l.entries.items) b.self-is ∙ (b.gather.ensures.same ∙ c.loop-known.invariant.1)
    | in_default b ↦ ap (λ (l : Log). l.entries.items) b.self-is ∙ c.loop-known.invariant.1
  ]),
  λ trace spots n groups are few. subst (λ (l : List Variable). AreMoved trace spots n c.match-known.entries.items groups l) (sym c.in_ok-push.ensures.items)
      (one_moved trace spots n groups c.loop-known.entries.items c.match-known.entries.items c.loop-known.moved.items c.match-known.variable
      (elim c.match-known.branch [
        | in-Waiting+in_ok-gather+in_ok-place b ↦ subst (λ (d : Variable). IsVariable trace spots (length c.loop-known.moved.items) n c.match-known.entries.items groups d) (sym b.variable-is)
            (subst (λ (v : Vec Entry Global). IsVariable trace spots (length c.loop-known.moved.items) n v.items groups (record { accesses = Waiting b.in_ok-place.place; run = known.run; latest = known.latest })) (sym b.entries-is)
            (waiting_own trace spots n groups (length c.loop-known.moved.items) c.args.self.now.entries.items b.put_all.new.entries.items known b.in-Waiting.newest b.in_ok-place.place b.as_slice.result.now b.in-Waiting.is
            (λ w. subst (λ (l : List Late). AreLate trace spots (length c.loop-known.moved.items) n 0 l) (sym b.as_slice.ensures.value)
            (b.in_ok-gather.ensures.gathered trace spots (length c.loop-known.moved.items) n (subst (λ (l : List Entry). AreWaiting trace spots (length c.loop-known.moved.items) n l b.in-Waiting.newest) (sym c.loop-known.invariant.1) w)))
            (b.in_ok-place.ensures.own (subst (λ (v : Vec Entry Global). length v.items ≤ 4294967295) b.entries-is few)) (are.each (length c.loop-known.moved.items) known there)))
        | in_default b ↦ subst (λ (d : Variable). IsVariable trace spots (length c.loop-known.moved.items) n c.match-known.entries.items groups d) (sym b.variable-is)
            (grouped_own trace spots n groups (length c.loop-known.moved.items) c.args.self.now.entries.items c.match-known.entries.items known b.in_default.field-0 b.in_default.is (are.each (length c.loop-known.moved.items) known there))
      ])
      (elim c.match-known.branch [
        | in-Waiting+in_ok-gather+in_ok-place b ↦ λ place late chain. subst (λ (v : Vec Entry Global). IsChain v.items place late) (sym b.entries-is) (b.in_ok-place.ensures.others place late chain (subst (λ (v : Vec Entry Global). length v.items ≤ 4294967295) b.entries-is few))
        | in_default b ↦ λ place late chain. subst (λ (v : Vec Entry Global). IsChain v.items place late) (sym b.entries-is) chain
      ])
      (c.loop-known.invariant.2 trace spots n groups are (elim c.match-known.branch [
        | in-Waiting+in_ok-gather+in_ok-place b ↦ (let more = b.in_ok-place.ensures.longer in let low = subst (λ (v : Vec Entry Global). length v.items ≤ 4294967295) b.entries-is few in omega (arith, more, low))
        | in_default b ↦ subst (λ (v : Vec Entry Global). length v.items ≤ 4294967295) b.entries-is few
      ]))),
)
  where
    known : Variable
    known = get_or c.as_slice-known-items.result.now c.loop-known.known-index no_variable

    there : slice_get c.args.variables.now.items (length c.loop-known.moved.items) ≡ Some known
    there = subst (λ (k : ℕ). slice_get c.args.variables.now.items k ≡ Some known) (sym c.loop-known.invariant.0)
        (subst (λ (l : List Variable). slice_get l c.loop-known.known-index ≡ Some known) c.as_slice-known-items.ensures.value (slice_get-get_or c.as_slice-known-items.result.now c.loop-known.known-index no_variable c.loop-known-test.true))

pub returns-clause-variables : goal.returns-clause-variables
returns-clause-variables c trace spots n groups few are = elim c.if-len.branch [
  | then-len w ↦ subst (λ (l : Log). AreVariables trace spots n l.entries.items groups c.if-len.variables.items) (sym w.self-is)
      (subst (λ (v : Vec Variable Global). AreVariables trace spots n c.loop-known.entries.items groups v.items) (sym w.variables-is) (record {
        each = c.loop-known.invariant.2 trace spots n groups are (let less = w.if-len.true in let new = c.len-3.ensures in let old = c.len-4.ensures in let same = ap (λ (l : List Entry). length l) c.loop-known.invariant.1 in let a = c.loop-known.entries.ok in let b = c.loop-known.self.entries.ok in omega (arith, less, new, old, same, a, b, few));
        wide = λ i x lt at. (let low = are.wide i x lt at in let done = c.loop-known-test.false in let all = c.as_slice-known-items.ensures.len in let as_many = c.loop-known.invariant.0 in let items = ap (λ (l : List Variable). length l) c.as_slice-known-items.ensures.value in omega (arith, low, done, as_many, items));
      }))
  | else-len w ↦ subst (λ (l : Log). AreVariables trace spots n l.entries.items groups c.if-len.variables.items) (sym w.self-is)
      (subst (λ (v : Vec Variable Global). AreVariables trace spots n c.loop-known.self.entries.items groups v.items) (sym w.variables-is)
      (subst (λ (l : List Entry). AreVariables trace spots n l groups c.args.variables.now.items) (sym c.loop-known.invariant.1) are))
]
