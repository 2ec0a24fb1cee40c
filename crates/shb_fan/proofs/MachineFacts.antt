-- Each allowed step keeps what holds of the machine.
use Rattle.std.proofs.Common.{◌≡◌, ◌≢◌, ℕ, zero, suc, ◌+◌, ◌-◌, ◌<◌, ◌≤◌, Bool, true, false, ltb, eqb, List, [], ◌∷◌, ◌++◌, length, get_or, min, cond, sum_by, replicate, sym, refl, ap, ◌∙◌, subst, arith, length-set, get_or-set_other}
use Rattle.std.proofs.lemmas.Bool.{lt-ltb, le-ltb, ltb-true}
use Rattle.std.proofs.lemmas.List.Sums.{sum_by-cons, sum_by-set}
use Rattle.std.proofs.lemmas.Grind.{get_or-set_at}
use mathlib.Core.Logic.{dite}
use native.Mathlib.Decide.{ℕ_discrete, dec_lt}
use Rattle.shb_fan.specs.declared.step.PieceState.{PieceState}
use Rattle.shb_fan.specs.declared.step.PieceState.TheVariants.{Empty, Claimed, Placed, Lifted, Freed}
use Rattle.shb_fan.specs.declared.step.Step.{Step}
use Rattle.shb_fan.specs.declared.step.Step.TheVariants.{Draw, Claim, Place, Lift, Free, Stop}
use Rattle.shb_fan.specs.Numbers.{weight, times, once_below}
use Rattle.shb_fan.specs.Machine.{ActorState, State, new_actor, actor_of, piece_of, start, Allowed, after_draw, with_piece, after, Runs, is_taken, is_busy, Facts}
use Rattle.shb_fan.proofs.Counts.{times-snoc, weight-most, once_below-more, once_below-nothing}
use Rattle.shb_fan.proofs.Spans.{span, span-list, span-window}

-- what each step keeps
record MachineInvariant (s : State) : Type 0 where
  each_once : (x : ℕ) → sum_by (λ a. times x a.drawn) s.actors ≡ once_below x (min s.next (length s.pieces))
  in_order : (k : ℕ) → is_taken (piece_of s k) ≡ ltb k s.taken
  -- a piece is claimed once the piece 64 before it is freed
  freed_first : (k : ℕ) → piece_of s (k + 64) ≢ Empty → piece_of s k ≡ Freed

true-apart : (b : Bool) → b ≡ true → b ≡ false → ⊥
true-apart b t f = grind arith

drew : (x next n : ℕ) (a : ActorState) → next < n → times x (after_draw next n a).drawn ≡ times x a.drawn + weight (eqb x next)
drew x next n a h = ap (λ (b : Bool). times x (cond b (record a { drawn = a.drawn ++ next ∷ [] }) (record a { spent = true })).drawn) (lt-ltb next n h) ∙ times-snoc x a.drawn next

drew_none : (x next n : ℕ) (a : ActorState) → n ≤ next → times x (after_draw next n a).drawn ≡ times x a.drawn
drew_none x next n a h = ap (λ (b : Bool). times x (cond b (record a { drawn = a.drawn ++ next ∷ [] }) (record a { spent = true })).drawn) (le-ltb next n h)

module _ (s : State) (r : MachineInvariant s) where
  draws : (a : ℕ) → a < length s.actors → MachineInvariant (after s (Draw a))
  draws a inside = let n = length s.pieces in let y : ActorState = after_draw s.next n (actor_of s a) in record {
    each_once = λ x. let t = sum_by-set (λ (b : ActorState). times x b.drawn) s.actors a y new_actor inside in let e = r.each_once x in dite (dec_lt s.next n)
        (λ l. let more = drew x s.next n (actor_of s a) l in let up = once_below-more x s.next in
        let was : once_below x (min s.next n) ≡ once_below x s.next = ap (once_below x) (omega arith) in
        let now : once_below x (min (s.next + 1) n) ≡ once_below x (s.next + 1) = ap (once_below x) (omega arith) in omega arith)
        (λ l. let same = drew_none x s.next n (actor_of s a) (omega arith) in
        let now : once_below x (min (s.next + 1) n) ≡ once_below x (min s.next n) = ap (once_below x) (omega arith) in omega arith);
    in_order = r.in_order;
    freed_first = r.freed_first;
  }

  -- piece k becomes p, which isn't empty
  moves : (k : ℕ) (p : PieceState) (taken : ℕ) → k < length s.pieces → piece_of s k ≢ Freed → ((j : ℕ) → j + 64 ≡ k → piece_of s j ≡ Freed) → is_taken p ≡ ltb k taken → ((j : ℕ) → j ≢ k → ltb j s.taken ≡ ltb j taken)
      → MachineInvariant (record (with_piece s k p) { taken = taken })
  moves k p taken inside unfreed before mine others = record {
    each_once = λ x. r.each_once x ∙ ap (λ (n : ℕ). once_below x (min s.next n)) (sym (length-set s.pieces k p));
    in_order = λ j. dite (ℕ_discrete j k)
        (λ e. ap is_taken (get_or-set_at s.pieces k j p Empty e inside) ∙ (mine ∙ ap (λ (i : ℕ). ltb i taken) (sym e)))
        (λ ne. ap is_taken (get_or-set_other s.pieces k j p Empty ne) ∙ (r.in_order j ∙ others j ne));
    freed_first = λ j some_piece. dite (ℕ_discrete j k)
        (λ e. absurd (unfreed (ap (piece_of s) (sym e) ∙ r.freed_first j (λ none. some_piece (get_or-set_other s.pieces k (j + 64) p Empty (λ h. absurd (omega arith)) ∙ none)))))
        (λ ne. get_or-set_other s.pieces k j p Empty ne ∙ dite (ℕ_discrete (j + 64) k) (λ e. before j e) (λ off. r.freed_first j (λ none. some_piece (get_or-set_other s.pieces k (j + 64) p Empty off ∙ none))));
  }

  -- a piece that isn't empty follows a freed one
  followed : (k : ℕ) → piece_of s k ≢ Empty → (j : ℕ) → j + 64 ≡ k → piece_of s j ≡ Freed
  followed k some_piece j e = r.freed_first j (λ none. some_piece (ap (piece_of s) (sym e) ∙ none))

  waits : (k : ℕ) → is_taken (piece_of s k) ≡ false → false ≡ ltb k s.taken
  waits k e = sym e ∙ r.in_order k

steps_keep : (s : State) (x : Step) → MachineInvariant s → Allowed s x → MachineInvariant (after s x)
steps_keep s (Draw a) r h = draws s r a h.0
steps_keep s (Claim a k) r h = moves s r k (Claimed a) s.taken h.1
    (λ f. absurd (true-apart (is_taken (piece_of s k)) (ap is_taken f) (ap is_taken h.3)))
    (λ j e. let back : k - 64 ≡ j = omega arith in ap (piece_of s) (sym back) ∙ h.4 (omega arith))
    (waits s r k (ap is_taken h.3)) (λ j ne. refl)
steps_keep s (Place a k) r h = moves s r k Placed s.taken h.1
    (λ f. absurd (true-apart (is_taken (piece_of s k)) (ap is_taken f) (ap is_taken h.2)))
    (followed s r k (λ e. absurd (true-apart (is_busy (piece_of s k)) (ap is_busy h.2) (ap is_busy e))))
    (waits s r k (ap is_taken h.2)) (λ j ne. refl)
steps_keep s (Lift k) r h = moves s r k Lifted (s.taken + 1) h.0
    (λ f. absurd (true-apart (is_taken (piece_of s k)) (ap is_taken f) (ap is_taken h.1)))
    (followed s r k (λ e. absurd (true-apart (is_busy (piece_of s k)) (ap is_busy h.1) (ap is_busy e))))
    (sym (lt-ltb k (s.taken + 1) (let e = h.2 in omega arith)))
    (λ j ne. let e = h.2 in dite (dec_lt j s.taken) (λ l. lt-ltb j s.taken l ∙ sym (lt-ltb j (s.taken + 1) (omega arith))) (λ l. le-ltb j s.taken (omega arith) ∙ sym (le-ltb j (s.taken + 1) (omega arith))))
steps_keep s (Free k) r h = moves s r k Freed s.taken h.0
    (λ f. absurd (true-apart (is_busy (piece_of s k)) (ap is_busy h.1) (ap is_busy f)))
    (followed s r k (λ e. absurd (true-apart (is_busy (piece_of s k)) (ap is_busy h.1) (ap is_busy e))))
    (sym (ap is_taken h.1) ∙ r.in_order k) (λ j ne. refl)
steps_keep s (Stop a) r h = record { each_once = r.each_once; in_order = r.in_order; freed_first = r.freed_first }

runs_keep : (xs : List Step) (s t : State) → MachineInvariant s → Runs s xs t → MachineInvariant t
runs_keep [] s t r h = subst MachineInvariant (sym h) r
runs_keep (x ∷ xs) s t r h = runs_keep xs (after s x) t (steps_keep s x r h.0) h.1

none_drawn : (x n : ℕ) → sum_by (λ (a : ActorState). times x a.drawn) (replicate n new_actor) ≡ 0
none_drawn x zero = refl
none_drawn x (suc n) = let c = sum_by-cons (λ (a : ActorState). times x a.drawn) new_actor (replicate n new_actor) in let r = none_drawn x n in omega arith

all_empty : (n k : ℕ) → get_or (replicate n Empty) k Empty ≡ Empty
all_empty zero k = refl
all_empty (suc n) zero = refl
all_empty (suc n) (suc k) = all_empty n k

starts : (actors pieces : ℕ) → MachineInvariant (start actors pieces)
starts actors pieces = record {
  each_once = λ x. let z = once_below-nothing x (min 0 (length (replicate pieces Empty))) (omega arith) in let n = none_drawn x actors in omega arith;
  in_order = λ k. ap is_taken (all_empty pieces k) ∙ sym (le-ltb k 0 (omega arith));
  freed_first = λ k some_piece. absurd (some_piece (all_empty pieces (k + 64)));
}

module _ (s : State) (r : MachineInvariant s) where
  busy : ℕ → ℕ
  busy k = weight (is_busy (piece_of s k))

  idle : (k : ℕ) (p : PieceState) → piece_of s k ≡ p → is_busy p ≡ false → busy k ≡ 0
  unfolding busy
  idle k p is e = ap weight (ap is_busy is ∙ e)

  not_empty : (k : ℕ) → busy k ≢ 0 → piece_of s k ≢ Empty
  not_empty k ne e = ne (idle k Empty e refl)

  most : (k : ℕ) → busy k ≤ 1
  unfolding busy
  most k = weight-most (is_busy (piece_of s k))

  one_of_two : (k : ℕ) → busy k + busy (k + 64) ≤ 1
  one_of_two k = let a = most k in let b = most (k + 64) in dite (ℕ_discrete (busy (k + 64)) 0) (λ e. omega arith) (λ ne. let z = idle k Freed (r.freed_first k (not_empty (k + 64) ne)) refl in omega arith)

  idle_low : (k : ℕ) → k < s.taken - 64 → busy k ≡ 0
  idle_low k h = idle k Freed (r.freed_first k (λ e. true-apart (is_taken (piece_of s (k + 64))) (r.in_order (k + 64) ∙ lt-ltb (k + 64) s.taken (omega arith)) (ap is_taken e))) refl

  idle_high : (k : ℕ) → s.taken - 64 + 128 ≤ k → busy k ≡ 0
  idle_high k h = dite (ℕ_discrete (busy k) 0) (λ e. e) (λ ne.
      let back : k ≡ k - 64 + 64 = omega arith in let f = followed s r k (not_empty k ne) (k - 64) (sym back) in
      let l = ltb-true (k - 64) s.taken (sym (r.in_order (k - 64)) ∙ ap is_taken f) in absurd (omega arith))

  few_busy : sum_by (λ p. weight (is_busy p)) s.pieces ≤ 64
  unfolding busy
  few_busy = let e = span-list (λ p. weight (is_busy p)) s.pieces Empty in let w = span-window busy (s.taken - 64) (length s.pieces) one_of_two idle_low idle_high in
      let same : span busy 0 (length s.pieces) ≡ span (λ k. weight (is_busy (get_or s.pieces k Empty))) 0 (length s.pieces) = refl in omega arith

pub facts_hold : (actors pieces : ℕ) (xs : List Step) (s : State) → Runs (start actors pieces) xs s → Facts s
facts_hold actors pieces xs s h = let r = runs_keep xs (start actors pieces) s (starts actors pieces) h in record { each_once = r.each_once; in_order = r.in_order; few = few_busy s r }
