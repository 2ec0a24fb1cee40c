-- Each step of a pass keeps the rule of the ticket table.
use Rattle.std.proofs.Common.{◌≡◌, ℕ, eqb, ◌+◌, ◌%◌, ◌^◌, ◌<◌, ◌≤◌, List, [], ◌∷◌, ◌++◌, length, get_or, set, sym, refl, ◌∙◌, subst, arith, min, All, length-set, get_or-set_same, get_or-set_other}
use mathlib.Core.Logic.{dite}
use mathlib.Core.Option.{none, some}
use native.Mathlib.Decide.{ℕ_discrete, dec_lt}
use prog.Atomic.{either}
use lib.ListN.{get_elem?}
use Rattle.atomic_table.specs.Table.{State, Me, Act, step, keeps, stepped, carried_after, Valid, Allows, Splits, Joins}
use Rattle.shb_fan.specs.declared.ticket_table.Plan.{Plan}
use Rattle.shb_fan.specs.declared.ticket_table.PassView.{PassView}
use Rattle.shb_fan.specs.Numbers.{once_below, total, times}
use Rattle.shb_fan.specs.Drawing.{Sound, Holds, KeepsDrawing, gained, used_up, drew, drew_this, saw, left_over, one_part, joined, spent_pass_view}
use Rattle.atomic_table.proofs.Lists.{set_again, set_else, exchanged}
use Rattle.shb_fan.proofs.Counts.{total-set, total-snoc, total-at, total-le, sound-set, sound-snoc, times-append, times-snoc, once_below-more, once_below-min, all-below}

abbrev St : Type 0
St = State (Unit {0}) PassView

abbrev M : Type 0
M = Me (Unit {0}) PassView

module _ (plan : Plan) where
  -- a step on the ticket, and one on the stop word
  on_ticket : (s : St) → length s.words ≡ 2 → (n id : ℕ) (me : M) (w : PassView) → Holds plan n (get_or s.words 1 0) (set s.views id w) → KeepsDrawing plan (stepped s 0 n id me.1 w keeps)
  on_ticket s wide n id me w h = (
    length-set s.words 0 n ∙ wide,
    subst (λ (z : ℕ × ℕ). Holds plan z.0 z.1 (set s.views id w)) (λ i. (sym (get_or-set_same s.words 0 n 0 (omega arith)) i, sym (get_or-set_other s.words 0 1 n 0 (omega arith)) i)) h,
  )

  on_stop : (s : St) → length s.words ≡ 2 → (n id : ℕ) (me : M) (w : PassView) → Holds plan (get_or s.words 0 0) n (set s.views id w) → KeepsDrawing plan (stepped s 1 n id me.1 w keeps)
  on_stop s wide n id me w h = (
    length-set s.words 1 n ∙ wide,
    subst (λ (z : ℕ × ℕ). Holds plan z.0 z.1 (set s.views id w)) (λ i. (sym (get_or-set_other s.words 1 0 n 0 (omega arith)) i, sym (get_or-set_same s.words 1 n 0 (omega arith)) i)) h,
  )

  module _ (t z : ℕ) (views : List PassView) (r : Holds plan t z views) (id : ℕ) (v : PassView) (at : get_elem? views id ≡ some v) where
    -- no more views are spent than there are parts
    spent_few : total (λ (u : PassView). u.spent) views ≤ plan.passes
    spent_few = let le = total-le (λ (u : PassView). u.spent) (λ (u : PassView). u.parts) views (λ i w e. (r.sound i w e).once) in let p = r.parts in omega arith

    -- what a view drew is below the ticket
    drawn_below : All (λ x. x < t) v.drawn
    drawn_below = all-below v.drawn t (λ x. let here = total-at (λ (u : PassView). times x u.drawn) views id v at in let e = r.each x in let less = once_below-min x plan.limit t in omega arith)

    gains : t < plan.limit → 0 < v.parts → Holds plan (t + 1) z (set views id (gained v t))
    gains room one = let w : PassView = gained v t in record {
      small = r.small;
      parts = (let s = total-set (λ (u : PassView). u.parts) views id v w at in let p = r.parts in omega arith);
      each = λ x. let s = total-set (λ (u : PassView). times x u.drawn) views id v w at in let e = r.each x in let more = times-snoc x v.drawn t in let up = once_below-more x t in
          let was : min plan.limit t ≡ t = omega arith in let now : min plan.limit (t + 1) ≡ t + 1 = omega arith in
          let e' = rw was at e in subst (λ (k : ℕ). total (λ (u : PassView). times x u.drawn) (set views id w) ≡ once_below x k) (sym now) (omega arith);
      low = (let s = total-set (λ (u : PassView). u.spent) views id v w at in let l = r.low in omega arith);
      halted = (let s = total-set (λ (u : PassView). u.halted) views id v w at in let h = r.halted in omega arith);
      seen = (let s = total-set (λ (u : PassView). u.seen) views id v w at in let h = r.seen in omega arith);
      ended = (let s = total-set (λ (u : PassView). u.spent) views id v w at in let h = r.ended in omega arith);
      sound = sound-set views id w (record { once = (r.sound id v at).once; nothing = λ empty. absurd (omega arith) }) r.sound;
    }

    -- the view is spent, by a ticket that goes up above the limit, or a stop that was seen
    ends : (t' : ℕ) → 0 < v.parts → v.spent ≡ 0 → min plan.limit t' ≡ min plan.limit t → t' ≤ t + 1 → t ≤ t' → (z ≡ 0 → plan.limit ≤ t') → Holds plan t' z (set views id (used_up v))
    ends t' one unspent same most least over = let w : PassView = used_up v in record {
      small = r.small;
      parts = (let s = total-set (λ (u : PassView). u.parts) views id v w at in let p = r.parts in omega arith);
      each = λ x. let s = total-set (λ (u : PassView). times x u.drawn) views id v w at in let e = r.each x in subst (λ (k : ℕ). total (λ (u : PassView). times x u.drawn) (set views id w) ≡ once_below x k) (sym same) (omega arith);
      low = (let s = total-set (λ (u : PassView). u.spent) views id v w at in let l = r.low in omega arith);
      halted = (let s = total-set (λ (u : PassView). u.halted) views id v w at in let h = r.halted in omega arith);
      seen = (let s = total-set (λ (u : PassView). u.seen) views id v w at in let h = r.seen in omega arith);
      ended = λ _. over;
      sound = sound-set views id w (record { once = omega arith; nothing = λ empty. absurd (omega arith) }) r.sound;
    }

    halts : 0 < v.parts → Holds plan t 1 (set views id (record v { halted = 1 }))
    halts one = let w : PassView = record v { halted = 1 } in let up = total-set (λ (u : PassView). u.halted) views id v w at in record {
      small = r.small;
      parts = (let s = total-set (λ (u : PassView). u.parts) views id v w at in let p = r.parts in omega arith);
      each = λ x. let s = total-set (λ (u : PassView). times x u.drawn) views id v w at in let e = r.each x in omega arith;
      low = (let s = total-set (λ (u : PassView). u.spent) views id v w at in let l = r.low in omega arith);
      halted = (let least = total-at (λ (u : PassView). u.halted) views id v at in omega arith);
      seen = λ e. absurd (omega arith);
      ended = λ _ e. absurd (omega arith);
      sound = sound-set views id w (record { once = (r.sound id v at).once; nothing = λ empty. absurd (omega arith) }) r.sound;
    }

    warns : 0 < v.parts → ¬ (z ≡ 0) → Holds plan t z (set views id (record v { seen = 1 }))
    warns one set_now = let w : PassView = record v { seen = 1 } in record {
      small = r.small;
      parts = (let s = total-set (λ (u : PassView). u.parts) views id v w at in let p = r.parts in omega arith);
      each = λ x. let s = total-set (λ (u : PassView). times x u.drawn) views id v w at in let e = r.each x in omega arith;
      low = (let s = total-set (λ (u : PassView). u.spent) views id v w at in let l = r.low in omega arith);
      halted = (let s = total-set (λ (u : PassView). u.halted) views id v w at in let h = r.halted in omega arith);
      seen = λ e. absurd (set_now e);
      ended = λ _ e. absurd (set_now e);
      sound = sound-set views id w (record { once = (r.sound id v at).once; nothing = λ empty. absurd (omega arith) }) r.sound;
    }

    stays : Holds plan t z (set views id v)
    stays = subst (Holds plan t z) (sym (set_again views id v at)) r

  -- two views with no part have drawn and stopped nothing and seen no stop
  nothing_joined : (v w : PassView) → Sound v → Sound w → v.parts + w.parts ≡ 0 → (v.drawn ++ w.drawn ≡ []) × (v.halted + w.halted ≡ 0) × (v.seen + w.seen ≡ 0)
  nothing_joined v w a b e = let p = a.nothing (omega arith) in let q = b.nothing (omega arith) in ((λ i. p.0 i ++ q.0 i), (let m = p.1 in let n = q.1 in omega arith), (let m = p.2 in let n = q.2 in omega arith))

  pub draws : (slots id : ℕ) (me : M) → 0 < me.0.parts → me.0.spent ≡ 0 → me.0.plan.limit ≡ plan.limit
      → Allows (KeepsDrawing plan) slots id me 0 (λ n. (n + 1) % 2 ^ 64) (drew (step slots 0 1 0 none) me)
  draws slots id me one unspent same s r _ at _ = let v : PassView = me.0 in let t : ℕ = get_or s.words 0 0 in let z : ℕ = get_or s.words 1 0 in let h = r.1 in
      let few = spent_few t z s.views h id v at in let low : t ≤ plan.limit + total (λ (u : PassView). u.spent) s.views = h.low in let small = h.small in
      let up : t + 1 ≡ (t + 1) % 18446744073709551616 = omega arith in dite (dec_lt t plan.limit)
      (λ room. (
        gained v t,
        keeps,
        tt,
        subst (λ (n : ℕ). KeepsDrawing plan (stepped s 0 n id me.1 (gained v t) keeps)) up (on_ticket s r.0 (t + 1) id me (gained v t) (gains t z s.views h id v at room one)),
        ((λ _. (drawn_below t z s.views h id v at, refl)), λ full. absurd (omega arith)),
      ))
      (λ full. (
        used_up v,
        keeps,
        tt,
        subst (λ (n : ℕ). KeepsDrawing plan (stepped s 0 n id me.1 (used_up v) keeps)) up (on_ticket s r.0 (t + 1) id me (used_up v) (ends t z s.views h id v at (t + 1) one unspent (omega arith) (omega arith) (omega arith) (λ _. omega arith))),
        ((λ room. absurd (omega arith)), λ _. refl),
      ))

  pub draws_this : (slots id : ℕ) (me : M) (k : ℕ) → 0 < me.0.parts → k < plan.limit
      → Allows (KeepsDrawing plan) slots id me 0 (λ n. either (eqb n k) (k + 1) n) (drew_this (step slots 0 k (k + 1) none) me)
  draws_this slots id me k one room s r _ at _ = let v : PassView = me.0 in let t : ℕ = get_or s.words 0 0 in let z : ℕ = get_or s.words 1 0 in let h = r.1 in
      exchanged t k (k + 1) (λ (n : ℕ). (w : PassView) × (a : Act (Unit {0})) × Valid s.homes me.1 a × KeepsDrawing plan (stepped s 0 n id me.1 w a) × drew_this (step slots 0 k (k + 1) none) me t (w, carried_after me.1 a))
      (λ is. (
        gained v k,
        keeps,
        tt,
        on_ticket s r.0 (k + 1) id me (gained v k) (subst (λ (n : ℕ). Holds plan (n + 1) z (set s.views id (gained v n))) is (gains t z s.views h id v at (omega arith) one)),
        ((λ _. (subst (λ (n : ℕ). All (λ x. x < n) v.drawn) is (drawn_below t z s.views h id v at), refl)), λ ne. absurd (ne is)),
      ))
      (λ ne. (v, keeps, tt, on_ticket s r.0 t id me v (stays t z s.views h id v at), ((λ is. absurd (ne is)), λ _. refl)))

  -- what a view that is halted knows of the stop word
  seen_halted : (t z : ℕ) (views : List PassView) → Holds plan t z views → (id : ℕ) (v : PassView) → get_elem? views id ≡ some v → z ≡ 0 → v.halted ≡ 0
  seen_halted t z views r id v at unset = dite (ℕ_discrete v.halted 0) (λ e. e) (λ e. let least = total-at (λ (u : PassView). u.halted) views id v at in let h = r.halted in absurd (omega arith))

  -- what a view that has seen a stop knows of the stop word
  seen_before : (t z : ℕ) (views : List PassView) → Holds plan t z views → (id : ℕ) (v : PassView) → get_elem? views id ≡ some v → z ≡ 0 → v.seen ≡ 0
  seen_before t z views r id v at unset = let least = total-at (λ (u : PassView). u.seen) views id v at in let h = r.seen unset in omega arith

  pub sees : (slots id : ℕ) (me : M) → 0 < me.0.parts → me.0.spent ≡ 0 → Allows (KeepsDrawing plan) slots id me 1 (λ n. n) (saw used_up (step slots 1 0 0 none) me)
  sees slots id me one unspent s r _ at _ = let v : PassView = me.0 in let t : ℕ = get_or s.words 0 0 in let z : ℕ = get_or s.words 1 0 in let h = r.1 in dite (ℕ_discrete z 0)
      (λ unset. (v, keeps, tt, on_stop s r.0 z id me v (stays t z s.views h id v at), ((λ _. (seen_halted t z s.views h id v at unset, seen_before t z s.views h id v at unset, refl)), λ more. absurd (omega arith))))
      (λ more. (
        used_up v,
        keeps,
        tt,
        on_stop s r.0 z id me (used_up v) (ends t z s.views h id v at t one unspent refl (omega arith) (omega arith) (λ e. absurd (more e))),
        ((λ e. absurd (more e)), λ _. refl),
      ))

  pub looks : (slots id : ℕ) (me : M) → 0 < me.0.parts → Allows (KeepsDrawing plan) slots id me 1 (λ n. n) (saw (λ v. record v { seen = 1 }) (step slots 1 0 0 none) me)
  looks slots id me one s r _ at _ = let v : PassView = me.0 in let t : ℕ = get_or s.words 0 0 in let z : ℕ = get_or s.words 1 0 in let h = r.1 in dite (ℕ_discrete z 0)
      (λ unset. (v, keeps, tt, on_stop s r.0 z id me v (stays t z s.views h id v at), ((λ _. (seen_halted t z s.views h id v at unset, seen_before t z s.views h id v at unset, refl)), λ more. absurd (omega arith))))
      (λ more. (record v { seen = 1 }, keeps, tt, on_stop s r.0 z id me (record v { seen = 1 }) (warns t z s.views h id v at one more), ((λ e. absurd (more e)), λ _. refl)))

  pub stops : (slots id : ℕ) (me : M) → 0 < me.0.parts → Allows (KeepsDrawing plan) slots id me 1 (λ _. 1) (λ _ left. left ≡ (record me.0 { halted = 1 }, me.1))
  stops slots id me one s r _ at _ = let v : PassView = me.0 in let t : ℕ = get_or s.words 0 0 in let z : ℕ = get_or s.words 1 0 in
      (record v { halted = 1 }, keeps, tt, on_stop s r.0 1 id me (record v { halted = 1 }) (halts t z s.views r.1 id v at one), refl)

  cut_views : (t z : ℕ) (views : List PassView) → Holds plan t z views → (id : ℕ) (v : PassView) → get_elem? views id ≡ some v → 1 < v.parts → v.spent ≡ 0
      → Holds plan t z (set views id (left_over v) ++ one_part v ∷ [])
  cut_views t z views r id v at more unspent = let w : PassView = left_over v in let u : PassView = one_part v in let cut = set views id w in record {
    small = r.small;
    parts = (let a = total-set (λ (u : PassView). u.parts) views id v w at in let b = total-snoc (λ (u : PassView). u.parts) cut u in let p = r.parts in omega arith);
    each = λ x. let a = total-set (λ (u : PassView). times x u.drawn) views id v w at in let b = total-snoc (λ (u : PassView). times x u.drawn) cut u in let e = r.each x in omega arith;
    low = (let a = total-set (λ (u : PassView). u.spent) views id v w at in let b = total-snoc (λ (u : PassView). u.spent) cut u in let l = r.low in omega arith);
    halted = (let a = total-set (λ (u : PassView). u.halted) views id v w at in let b = total-snoc (λ (u : PassView). u.halted) cut u in let h = r.halted in omega arith);
    seen = (let a = total-set (λ (u : PassView). u.seen) views id v w at in let b = total-snoc (λ (u : PassView). u.seen) cut u in let h = r.seen in omega arith);
    ended = (let a = total-set (λ (u : PassView). u.spent) views id v w at in let b = total-snoc (λ (u : PassView). u.spent) cut u in let h = r.ended in omega arith);
    sound = sound-snoc cut u (record { once = omega arith; nothing = λ empty. absurd (omega arith) })
        (sound-set views id w (record { once = omega arith; nothing = λ empty. absurd (omega arith) }) r.sound);
  }

  merge_views : (t z : ℕ) (views : List PassView) → Holds plan t z views → (id : ℕ) (v : PassView) → get_elem? views id ≡ some v → (other : ℕ) (w : PassView) → ¬ (other ≡ id)
      → get_elem? (set views id (joined v w)) other ≡ some w → Holds plan t z (set (set views id (joined v w)) other spent_pass_view)
  merge_views t z views r id v at other w apart there = let u : PassView = joined v w in let made = set views id u in
      let mine = r.sound id v at in let theirs = r.sound other w (sym (set_else views id other u apart) ∙ there) in
      let both : Sound u = record { once = (let a = mine.once in let b = theirs.once in omega arith); nothing = λ empty. nothing_joined v w mine theirs empty } in record {
        small = r.small;
        parts = (let a = total-set (λ (u : PassView). u.parts) views id v u at in let b = total-set (λ (u : PassView). u.parts) made other w spent_pass_view there in let p = r.parts in omega arith);
        each = λ x. let a = total-set (λ (u : PassView). times x u.drawn) views id v u at in let b = total-set (λ (u : PassView). times x u.drawn) made other w spent_pass_view there in let d = times-append x v.drawn w.drawn in let e = r.each x in omega arith;
        low = (let a = total-set (λ (u : PassView). u.spent) views id v u at in let b = total-set (λ (u : PassView). u.spent) made other w spent_pass_view there in let l = r.low in omega arith);
        halted = (let a = total-set (λ (u : PassView). u.halted) views id v u at in let b = total-set (λ (u : PassView). u.halted) made other w spent_pass_view there in let h = r.halted in omega arith);
        seen = (let a = total-set (λ (u : PassView). u.seen) views id v u at in let b = total-set (λ (u : PassView). u.seen) made other w spent_pass_view there in let h = r.seen in omega arith);
        ended = (let a = total-set (λ (u : PassView). u.spent) views id v u at in let b = total-set (λ (u : PassView). u.spent) made other w spent_pass_view there in let h = r.ended in omega arith);
        sound = sound-set made other spent_pass_view (record { once = omega arith; nothing = λ _. (refl, refl, refl) }) (sound-set views id u both r.sound);
      }

  pub cuts : (id : ℕ) (v : PassView) → 1 < v.parts → v.spent ≡ 0 → Splits (KeepsDrawing plan) id v (left_over v) (one_part v)
  cuts id v more unspent s r at = (r.0, cut_views (get_or s.words 0 0) (get_or s.words 1 0) s.views r.1 id v at more unspent)

  pub merges : (id : ℕ) (v : PassView) (other : ℕ) (w : PassView) → Joins (KeepsDrawing plan) id v other w (joined v w) spent_pass_view
  merges id v other w s r at apart there = (r.0, merge_views (get_or s.words 0 0) (get_or s.words 1 0) s.views r.1 id v at other w apart there)
