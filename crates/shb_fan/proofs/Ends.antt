-- What is known when every pass has come back.
use Rattle.std.proofs.Common.{◌≡◌, ℕ, zero, suc, ◌+◌, ◌<◌, ◌≤◌, Bool, true, false, ltb, List, [], ◌∷◌, ◌++◌, length, get_or, min, IsTrue, All, Any, sum_by, sym, refl, ap, ◌∙◌, subst, arith, not, eqb, Some}
use Rattle.std.specs.List.Sorted.{IsStrictlyIncreasing}
use Rattle.std.proofs.lemmas.Bool.Decides.{nat_tests}
use Rattle.std.proofs.lemmas.List.Elements.{All-pop, All-push, All-same}
use mathlib.Core.Logic.{dite}
use native.Mathlib.Decide.{ℕ_discrete}
use Rattle.std.proofs.lemmas.List.Sums.{sum_by-cons, get_or-le-sum_by}
use mathlib.Core.Option.{some, some-injective, some-ne-none}
use lib.ListN.{get_elem?}
use Rattle.atomic_table.specs.Table.{Final, Seen}
use Rattle.atomic_table.specs.declared.shared.Seat.{Seat}
use Rattle.shb_fan.specs.declared.ticket_table.Plan.{Plan}
use Rattle.shb_fan.specs.declared.ticket_table.PassView.{PassView}
use Rattle.shb_fan.specs.Numbers.{weight, times, once_below, total}
use Rattle.shb_fan.specs.Drawing.{Holds, KeepsDrawing}
use Rattle.shb_fan.specs.Passes.{TicketSource, PassState, state_of, IsPass}
use Rattle.shb_fan.proofs.Counts.{total-whole}

weight-positive : (n : ℕ) → n ≤ 1 → weight (ltb 0 n) ≡ n
weight-positive zero h = refl
weight-positive (suc zero) h = refl
weight-positive (suc (suc n)) h = absurd (omega arith)

module _ (seat : Seat (Unit {0}) PassView) (spent : Bool) (p : PassState) (is : IsPass seat spent) (shown : state_of seat spent ≡ p) where
  pub times-shown : (x : ℕ) → times x p.drawn ≡ times x seat.me.0.drawn
  times-shown x = ap (λ (q : PassState). times x q.drawn) (sym shown)

  pub halted-shown : weight p.halted ≡ seat.me.0.halted
  halted-shown = ap (λ (q : PassState). weight q.halted) (sym shown) ∙ weight-positive seat.me.0.halted is.marked.0

  pub seen-shown : weight p.seen ≡ seat.me.0.seen
  seen-shown = ap (λ (q : PassState). weight q.seen) (sym shown) ∙ weight-positive seat.me.0.seen is.marked.1

  pub spent-shown : weight p.spent ≡ seat.me.0.spent
  spent-shown = ap (λ (q : PassState). weight q.spent) (sym shown) ∙ sym is.flag

  pub rising-shown : IsStrictlyIncreasing p.drawn
  rising-shown = subst (λ (q : PassState). IsStrictlyIncreasing q.drawn) shown is.rising

-- with one list that rises, those before it rise too
pub all_rising : (rest ys xs : List PassState) (p : PassState) → rest ≡ ys ++ p ∷ [] → IsStrictlyIncreasing p.drawn
    → (All (λ q. IsStrictlyIncreasing q.drawn) rest → All (λ q. IsStrictlyIncreasing q.drawn) xs) → All (λ q. IsStrictlyIncreasing q.drawn) ys → All (λ q. IsStrictlyIncreasing q.drawn) xs
all_rising rest ys xs p longer rises later all = later (All-same (λ (q : PassState). IsStrictlyIncreasing q.drawn) rest (ys ++ p ∷ []) longer (All-push (λ (q : PassState). IsStrictlyIncreasing q.drawn) ys p all rises))

pub none_rising : (xs ys : List PassState) → length xs ≡ 0 → (All (λ q. IsStrictlyIncreasing q.drawn) xs → All (λ q. IsStrictlyIncreasing q.drawn) ys) → All (λ q. IsStrictlyIncreasing q.drawn) ys
none_rising xs ys none_left h = h (λ k d inside. absurd (omega arith))

index-at : (l : List ℕ) (i a : ℕ) → get_elem? l i ≡ some a → get_or l i 0 ≡ a
index-at [] i a e = absurd (some-ne-none a (sym e))
index-at (x ∷ xs) zero a e = some-injective x a e
index-at (x ∷ xs) (suc i) a e = index-at xs i a e

-- what the words tell a view with every part
pub record Told (plan : Plan) (v : PassView) (ticket stop : ℕ) : Type 0 where
  pub each : (x : ℕ) → times x v.drawn ≡ once_below x (min plan.limit ticket)
  pub halted : stop ≡ min 1 v.halted
  pub seen : stop ≡ 0 → v.seen ≡ 0
  pub ended : 0 < v.spent → stop ≡ 0 → plan.limit ≤ ticket

told : (plan : Plan) (t z : ℕ) (views : List PassView) → Holds plan t z views → (id : ℕ) (v : PassView) → get_elem? views id ≡ some v → v.parts ≡ plan.passes → Told plan v t z
told plan t z views r id v at whole =
    let all : total (λ (u : PassView). u.parts) views ≡ v.parts = r.parts ∙ sym whole in
    let h = total-whole (λ (u : PassView). u.parts) (λ (u : PassView). u.halted) views id v at all (λ i w e empty. ((r.sound i w e).nothing empty).1) in
    let n = total-whole (λ (u : PassView). u.parts) (λ (u : PassView). u.seen) views id v at all (λ i w e empty. ((r.sound i w e).nothing empty).2) in
    let s = total-whole (λ (u : PassView). u.parts) (λ (u : PassView). u.spent) views id v at all (λ i w e empty. let o = (r.sound i w e).once in omega arith) in record {
      each = λ x. sym (total-whole (λ (u : PassView). u.parts) (λ (u : PassView). times x u.drawn) views id v at all (λ i w e empty. ap (times x) ((r.sound i w e).nothing empty).0)) ∙ r.each x;
      halted = (let f = r.halted in omega arith);
      seen = (let f = r.seen in omega arith);
      ended = (let f = r.ended in omega arith);
    }

pub closes : (plan : Plan) (id : ℕ) (v : PassView) (ws : List ℕ) (xs : List (Unit {0})) → Final (Seen (KeepsDrawing plan) id v) ws xs → v.parts ≡ plan.passes
    → (t z : ℕ) → get_elem? ws 0 ≡ some t → get_elem? ws 1 ≡ some z → Told plan v t z
closes plan id v ws xs f whole t z first second = let s = f.0 in
    subst (λ (w : ℕ × ℕ). Told plan v w.0 w.1) (λ i. ((ap (λ (l : List ℕ). get_or l 0 0) f.2 ∙ index-at ws 0 t first) i, (ap (λ (l : List ℕ). get_or l 1 0) f.2 ∙ index-at ws 1 z second) i))
    (told plan (get_or s.words 0 0) (get_or s.words 1 0) s.views f.1.0.1 id v f.1.1 whole)

any_here : (f : PassState → Bool) (x : PassState) (xs : List PassState) (b : Bool) → f x ≡ b → (0 < sum_by (λ p. weight (f p)) xs → Any (λ p. IsTrue (f p)) xs) → 0 < weight b + sum_by (λ p. weight (f p)) xs
    → Any (λ p. IsTrue (f p)) (x ∷ xs)
any_here f x xs true e later h = (0, x, omega arith, refl, e)
any_here f x xs false e later h = let r = later (omega arith) in let l = r.2 in (suc r.0, r.1, omega arith, r.3, r.4)

pub any_from : (f : PassState → Bool) (xs : List PassState) → 0 < sum_by (λ p. weight (f p)) xs → Any (λ p. IsTrue (f p)) xs
any_from f [] h = absurd (omega arith)
any_from f (x ∷ xs) h = let s = sum_by-cons (λ (p : PassState). weight (f p)) x xs in any_here f x xs (f x) refl (any_from f xs) (omega arith)

pub any_to : (f : PassState → Bool) (xs : List PassState) → Any (λ p. IsTrue (f p)) xs → 0 < sum_by (λ p. weight (f p)) xs
any_to f xs a = let le = get_or-le-sum_by (λ (p : PassState). weight (f p)) xs a.0 a.1 a.2 in
    let one : weight (f (get_or xs a.0 a.1)) ≡ 1 = ap (λ (p : PassState). weight (f p)) a.3 ∙ ap weight a.4 in omega arith

pub ours_before : (z : TicketSource) (xs ys : List PassState) (p : PassState) → xs ≡ ys ++ p ∷ [] → All (λ q. q.source ≡ z) xs → All (λ q. q.source ≡ z) ys × (p.source ≡ z)
ours_before z xs ys p longer all = All-pop (λ (q : PassState). q.source ≡ z) xs ys (Some p) longer all

unset_set : (z : ℕ) → z ≡ 0 → not (eqb z 0) ≡ true → ⊥
unset_set z e set = grind (arith, nat_tests)

unset_is : (z : ℕ) → not (eqb z 0) ≡ false → z ≡ 0
unset_is z h = grind (arith, nat_tests)

is_set : (z : ℕ) → (z ≡ 0 → ⊥) → not (eqb z 0) ≡ true
is_set z h = grind (arith, nat_tests, h)

-- the words against all passes: of a seat whose view stands for all of them
module _ (plan : Plan) (v : PassView) (t z : ℕ) (passes : List PassState) (r : Told plan v t z) where
  pub each_once : (x : ℕ) → times x v.drawn ≡ sum_by (λ (q : PassState). times x q.drawn) passes → sum_by (λ (q : PassState). times x q.drawn) passes ≡ once_below x (min t plan.limit)
  each_once x e = sym e ∙ (r.each x ∙ ap (once_below x) (omega arith))

  pub stop_seen : v.halted ≡ sum_by (λ (q : PassState). weight q.halted) passes → not (eqb z 0) ≡ true → Any (λ p. IsTrue p.halted) passes
  stop_seen e set = dite (ℕ_discrete v.halted 0)
      (λ h. let is = r.halted in let a : z ≡ 0 = omega (arith, is, h) in absurd (unset_set z a set))
      (λ h. any_from (λ (p : PassState). p.halted) passes (omega arith))

  pub stop_set : v.halted ≡ sum_by (λ (q : PassState). weight q.halted) passes → Any (λ p. IsTrue p.halted) passes → not (eqb z 0) ≡ true
  stop_set e a = let more = any_to (λ (p : PassState). p.halted) passes a in let is = r.halted in let one : z ≡ 1 = omega (arith, e, more, is) in ap (λ (n : ℕ). not (eqb n 0)) one

  pub seen_set : v.seen ≡ sum_by (λ (q : PassState). weight q.seen) passes → Any (λ p. IsTrue p.seen) passes → not (eqb z 0) ≡ true
  seen_set e a = let more = any_to (λ (p : PassState). p.seen) passes a in is_set z (λ unset. let none_seen = r.seen unset in omega arith)

  pub all_drawn : v.spent ≡ sum_by (λ (q : PassState). weight q.spent) passes → not (eqb z 0) ≡ false → Any (λ p. IsTrue p.spent) passes → min t plan.limit ≡ plan.limit
  all_drawn e unset a = let more = any_to (λ (p : PassState). p.spent) passes a in let over = r.ended (omega arith) (unset_is z unset) in omega arith
