-- What a pass shows of its seat.
use Rattle.std.proofs.Common.{◌≡◌, ◌≢◌, ℕ, ◌+◌, ◌-◌, ◌<◌, ◌∷◌, ◌++◌, List, [], Bool, false, ltb, All, replicate, sym, ap, ◌∙◌, ap₂, subst, arith}
use Rattle.std.specs.List.Sorted.{IsStrictlyIncreasing}
use mathlib.Core.Logic.{dite}
use native.Mathlib.Decide.{ℕ_discrete}
use lib.ListN.{replicate-append-replicate}
use Rattle.atomic_table.specs.Seated.{TableId}
use Rattle.atomic_table.specs.declared.shared.Seat.{Seat}
use Rattle.shb_fan.specs.declared.ticket_table.Plan.{Plan}
use Rattle.shb_fan.specs.declared.ticket_table.PassView.{PassView}
use Rattle.shb_fan.specs.Drawing.{pass_view, gained, left_over, one_part}
use Rattle.atomic_table.specs.Table.{Me}
use Rattle.shb_fan.specs.Passes.{PassState, IsPass, fresh, source_of, state_of}
use Rattle.shb_fan.proofs.Counts.{rising_more}

pub seat_fresh : (seat : Seat (Unit {0}) PassView) (z : TableId) (plan : Plan) (parts : ℕ) → seat.table_id ≡ z → seat.me ≡ (pass_view parts plan [] 0 0 0, []) → state_of seat false ≡ fresh (source_of z plan)
seat_fresh seat z plan parts a b = λ i. record { source = source_of (a i) (b i).0.plan; drawn = (b i).0.drawn; spent = false; halted = ltb 0 (b i).0.halted; seen = ltb 0 (b i).0.seen }

pub one_more : (xs ys : List PassState) (n m : ℕ) (p q : PassState) → n + 1 ≡ m → ys ≡ xs ++ q ∷ [] → xs ≡ replicate n p → q ≡ p → ys ≡ replicate m p
one_more xs ys n m p q up longer same is = longer ∙ (ap₂ (λ (l : List PassState) (r : PassState). l ++ r ∷ []) same is ∙ (replicate-append-replicate n 1 p ∙ ap (λ (k : ℕ). replicate k p) up))

pub cut_again : (me next : Me (Unit {0}) PassView) (plan : Plan) (a b : ℕ) → a - 1 ≡ b → me ≡ (pass_view a plan [] 0 0 0, []) → next ≡ (left_over me.0, me.1) → next ≡ (pass_view b plan [] 0 0 0, [])
cut_again me next plan a b down was is = is ∙ (ap (λ (m : Me (Unit {0}) PassView). (left_over m.0, m.1)) was ∙ ap (λ (n : ℕ). (pass_view n plan [] 0 0 0, [])) down)

pub cut_off : (me new : Me (Unit {0}) PassView) (plan : Plan) (a : ℕ) → me ≡ (pass_view a plan [] 0 0 0, []) → new ≡ (one_part me.0, []) → new ≡ (pass_view 1 plan [] 0 0 0, [])
cut_off me new plan a was is = is ∙ ap (λ (m : Me (Unit {0}) PassView). (one_part m.0, [])) was

-- a seat that has drawn one number more, or that is as it was
drawn_more : (old new : Seat (Unit {0}) PassView) (spent : Bool) (drawn : List ℕ) → IsPass old spent → new.me ≡ (pass_view old.me.0.parts old.me.0.plan drawn old.me.0.spent old.me.0.halted old.me.0.seen, old.me.1) → IsStrictlyIncreasing drawn → IsPass new spent
drawn_more old new spent drawn was is rising =
    let halted = ap (λ (m : Me (Unit {0}) PassView). m.0.halted) is in
    let seen = ap (λ (m : Me (Unit {0}) PassView). m.0.seen) is in
    let halted_few = was.marked.0 in
    let seen_few = was.marked.1 in record {
      one = ap (λ (m : Me (Unit {0}) PassView). m.0.parts) is ∙ was.one;
      flag = ap (λ (m : Me (Unit {0}) PassView). m.0.spent) is ∙ was.flag;
      marked = (omega (arith, halted, halted_few), omega (arith, seen, seen_few));
      slots = ap (λ (m : Me (Unit {0}) PassView). m.1) is ∙ was.slots;
      rising = subst IsStrictlyIncreasing (sym (ap (λ (m : Me (Unit {0}) PassView). m.0.drawn) is)) rising;
    }

-- a try to draw the number k
pub drew_pass : (old new : Seat (Unit {0}) PassView) (spent : Bool) (k found : ℕ) → IsPass old spent → (found ≡ k → All (λ x. x < k) old.me.0.drawn × (new.me ≡ (gained old.me.0 k, old.me.1))) × (found ≢ k → new.me ≡ old.me) → IsPass new spent
drew_pass old new spent k found was told = dite (ℕ_discrete found k)
    (λ is. let t = told.0 is in drawn_more old new spent (old.me.0.drawn ++ k ∷ []) was t.1 (rising_more old.me.0.drawn k was.rising t.0))
    (λ ne. drawn_more old new spent old.me.0.drawn was (told.1 ne) was.rising)
