-- What a worker drew and placed, one step after the other.
use Rattle.std.proofs.Common.{◌≡◌, ℕ, ◌+◌, ◌<◌, ◌≤◌, Bool, true, false, List, [], ◌∷◌, ◌++◌, length, ◌⊎◌, inl, inr, ⊎_elim, All, Any, suc, zero, sum_by, refl, get_or, IsTrue, eqb, ltb, sym, ap, ◌∙◌, subst, arith}
use Rattle.std.proofs.lemmas.List.Sums.{sum_by-cons, sum_by_push}
use Rattle.std.proofs.lemmas.Bool.Decides.{nat_tests}
use mathlib.Core.Logic.{dite}
use native.Mathlib.Decide.{ℕ_discrete, dec_lt}
use Rattle.shb_fan.specs.Numbers.{weight, times, once_below}
use Rattle.shb_fan.specs.declared.shares.Seat.{Seat}
use Rattle.shb_fan.specs.declared.crew.Worker.{Worker}
use Rattle.shb_fan.specs.Passes.{PassState}
use Rattle.shb_fan.specs.Seated.{placed_of, lifted_of}
use Rattle.shb_fan.specs.Streamed.{Accounts, Balanced, HasAccounts, HasLifted, HasPlacedAllBut, IsOwed}
use Rattle.shb_fan.proofs.Counts.{times-snoc, times-below, weight-false, weight-most, once-within}
use Rattle.shb_fan.proofs.Words.{equal_one, unequal_none}

untrue : (b : Bool) → b ≡ false → IsTrue b → ⊥
untrue b is h = let f : weight true ≡ weight false = ap weight (sym h ∙ is) in omega (arith, f)

-- nothing was drawn
pub accounts_none : (drawn placed : List ℕ) (halted : Bool) → drawn ≡ [] → placed ≡ [] → halted ≡ false → Accounts drawn placed halted
accounts_none drawn placed halted none_drawn none_placed running = record {
  within = λ k. let a = ap (times k) none_drawn in let b = ap (times k) none_placed in omega (arith, a, b);
  owed = λ h. absurd (untrue halted running h);
}

-- a number above all others is drawn
pub accounts_drawn : (drawn placed more : List ℕ) (k : ℕ) (halted new : Bool) → Accounts drawn placed halted → more ≡ drawn ++ k ∷ [] → new ≡ false → All (λ x. x < k) drawn → Accounts more placed new × IsOwed more placed k
accounts_drawn drawn placed more k halted new accounts is running above =
    let here = ap (times k) is ∙ times-snoc k drawn k in
    let one = equal_one k k refl in
    let unseen = times-below k drawn above in
    let few = accounts.within k in (
      record {
        within = λ j. let up = ap (times j) is ∙ times-snoc j drawn k in let le = accounts.within j in omega (arith, up, le);
        owed = λ h. absurd (untrue new running h);
      },
      (omega (arith, here, one), omega (arith, unseen, few)),
    )

-- a piece that was drawn is placed
pub accounts_placed : (drawn placed more : List ℕ) (k : ℕ) (halted new : Bool) → Accounts drawn placed halted → IsOwed drawn placed k → more ≡ placed ++ k ∷ [] → new ≡ false → Accounts drawn more new
accounts_placed drawn placed more k halted new accounts here is running = record {
  within = λ j. let up = ap (times j) is ∙ times-snoc j placed k in dite (ℕ_discrete j k)
      (λ same.
      let most = weight-most (eqb j k) in
      let none_yet : times j placed ≡ 0 = ap (λ (i : ℕ). times i placed) same ∙ here.1 in
      let some_drawn : times j drawn ≡ times k drawn = ap (λ (i : ℕ). times i drawn) same in
      let d = here.0 in omega (arith, up, most, none_yet, some_drawn, d))
      (λ other. let z = unequal_none j k other in let le = accounts.within j in omega (arith, up, z, le));
  owed = λ h. absurd (untrue new running h);
}

-- ---- the same of a worker, before and after a step

module _ {T M : Type 0} (old new : Worker T M) (accounts : HasAccounts old) where
  pub drawn_at : (k : ℕ) → placed_of new.seat ≡ placed_of old.seat → new.pass.drawn ≡ old.pass.drawn ++ k ∷ [] → new.pass.halted ≡ false → All (λ x. x < k) old.pass.drawn → HasAccounts new × IsOwed new.pass.drawn (placed_of new.seat) k
  drawn_at k placed drawn running above =
      subst (λ (l : List ℕ). Accounts new.pass.drawn l new.pass.halted × IsOwed new.pass.drawn l k) (sym placed)
      (accounts_drawn old.pass.drawn (placed_of old.seat) new.pass.drawn k old.pass.halted new.pass.halted accounts drawn running above)

  module _ (k : ℕ) (owes : IsOwed old.pass.drawn (placed_of old.seat) k) where
    pub placed_at : old.pass.halted ≡ false → new.pass.drawn ≡ old.pass.drawn → new.pass.halted ≡ old.pass.halted → placed_of new.seat ≡ placed_of old.seat ++ k ∷ [] → HasAccounts new
    placed_at running drawn halted placed =
        subst (λ (l : List ℕ). Accounts l (placed_of new.seat) new.pass.halted) (sym drawn)
        (accounts_placed old.pass.drawn (placed_of old.seat) (placed_of new.seat) k old.pass.halted new.pass.halted accounts owes placed (halted ∙ running))

module _ {T M : Type 0} (old new : Worker T M) (k : ℕ) where
  pub kept_at : HasPlacedAllBut old [] → placed_of new.seat ≡ placed_of old.seat → new.pass.drawn ≡ old.pass.drawn ++ k ∷ [] → HasPlacedAllBut new (k ∷ [])
  kept_at all placed drawn j =
      let was = all j in
      let same = ap (times j) placed in
      let up = ap (times j) drawn ∙ times-snoc j old.pass.drawn k in omega (arith, was, same, up)

  pub made_at : HasPlacedAllBut old (k ∷ []) → new.pass.drawn ≡ old.pass.drawn → placed_of new.seat ≡ placed_of old.seat ++ k ∷ [] → HasPlacedAllBut new []
  made_at all drawn placed j =
      let was = all j in
      let same = ap (times j) drawn in
      let up = ap (times j) placed ∙ times-snoc j (placed_of old.seat) k in omega (arith, was, same, up)

-- one piece more was lifted
pub lifted_more : {T M : Type 0} (old new : Worker T M) (k : ℕ) → HasLifted old k → lifted_of new.seat ≡ lifted_of old.seat ++ k ∷ [] → HasLifted new (k + 1)
lifted_more old new k lifted is j lt =
    let up = ap (times j) is ∙ times-snoc j (lifted_of old.seat) k in dite (ℕ_discrete j k)
    (λ same. let one = equal_one j k same in omega (arith, up, one))
    (λ other. let before = lifted j (omega (arith, lt, other)) in omega (arith, up, before))

-- ---- what several passes drew, against what several seats placed

module _ (P : PassState → Type 0) where
  any_at : (xs : List PassState) (y : PassState) (i : ℕ) (x : PassState) → i < length (xs ++ y ∷ []) → get_or (xs ++ y ∷ []) i x ≡ x → P x → Any P xs ⊎ P y
  any_at [] y zero x lt e p = inr (subst P (sym e) p)
  any_at [] y (suc i) x lt e p = absurd (omega (arith, lt))
  any_at (z ∷ xs) y zero x lt e p = inl (0, x, omega arith, e, p)
  any_at (z ∷ xs) y (suc i) x lt e p = ⊎_elim
      (λ (t : Any P xs). let inside = t.2 in inl (suc t.0, t.1, omega (arith, inside), t.3, t.4))
      (λ (q : P y). inr q)
      (any_at xs y i x (omega (arith, lt)) e p)

  any_push : (xs : List PassState) (y : PassState) → Any P (xs ++ y ∷ []) → Any P xs ⊎ P y
  any_push xs y a = any_at xs y a.0 a.1 a.2 a.3 a.4

module _ {T M : Type 0} where
  none_placed : (k : ℕ) (seats : List (Seat T M)) → All (λ s. placed_of s ≡ []) seats → sum_by (λ s. times k (placed_of s)) seats ≡ 0
  none_placed k [] all = refl
  none_placed k (s ∷ seats) all =
      let c = sum_by-cons (λ (u : Seat T M). times k (placed_of u)) s seats in
      let here = ap (times k) (all 0 s (omega arith)) in
      let rest = none_placed k seats (λ i d lt. all (suc i) d (omega (arith, lt))) in omega (arith, c, here, rest)

  pub balanced_none : (passes : List PassState) (seats : List (Seat T M)) → passes ≡ [] → All (λ s. placed_of s ≡ []) seats → Balanced passes seats
  balanced_none passes seats empty all = record {
    within = λ k. let z = none_placed k seats all in omega (arith, z);
    owed = λ some_halted. absurd (let inside = some_halted.2 in let long = ap length empty in omega (arith, inside, long));
  }

  -- The accounts still balance when one worker's pass and seat are added at the end: `more` are the passes with its own, `others`
  -- the seats with its own, and what it drew and placed balances by itself. `placed` and `drawn` say how the sums grow.
  pub balanced_more : (passes more : List PassState) (seats others : List (Seat T M)) (p : PassState) (s : Seat T M) → Balanced passes seats → Accounts p.drawn (placed_of s) p.halted → more ≡ passes ++ p ∷ [] → others ≡ seats ++ s ∷ [] → Balanced more others
  balanced_more passes more seats others p s balanced accounts longer wider =
      let placed : (k : ℕ) → sum_by (λ u. times k (placed_of u)) others ≡ sum_by (λ u. times k (placed_of u)) seats + times k (placed_of s) =
      (λ k. ap (sum_by (λ (u : Seat T M). times k (placed_of u))) wider ∙ sum_by_push (λ (u : Seat T M). times k (placed_of u)) seats s) in
      let drawn : (k : ℕ) → sum_by (λ (q : PassState). times k q.drawn) more ≡ sum_by (λ (q : PassState). times k q.drawn) passes + times k p.drawn =
      (λ k. ap (sum_by (λ (q : PassState). times k q.drawn)) longer ∙ sum_by_push (λ (q : PassState). times k q.drawn) passes p) in record {
        within = λ k. let a = placed k in let b = drawn k in let c = balanced.within k in let d = accounts.within k in omega (arith, a, b, c, d);
        owed = λ some_halted. ⊎_elim
            (λ (t : Any (λ (q : PassState). IsTrue q.halted) passes). let old = balanced.owed t in let a = placed old.0 in let b = drawn old.0 in let c = old.1 in let d = accounts.within old.0 in (old.0, omega (arith, a, b, c, d)))
            (λ (t : IsTrue p.halted). let new = accounts.owed t in let a = placed new.0 in let b = drawn new.0 in let c = balanced.within new.0 in let d = new.1.0 in let e = new.1.1 in (new.0, omega (arith, a, b, c, d, e)))
            (any_push (λ (q : PassState). IsTrue q.halted) passes p (subst (λ (l : List PassState). Any (λ (q : PassState). IsTrue q.halted) l) longer some_halted));
      }

-- ---- all pieces were lifted by one seat

module _ {T M : Type 0} (passes : List PassState) (seats rest : List (Seat T M)) (own : Seat T M) (cut : seats ≡ rest ++ own ∷ []) (balanced : Balanced passes seats) (drawn limit : ℕ) (once : (x : ℕ) → sum_by (λ (q : PassState). times x q.drawn) passes ≡ once_below x drawn) (few : drawn ≤ limit)
    (before : (k : ℕ) → sum_by (λ s. times k (lifted_of s)) seats ≤ sum_by (λ s. times k (placed_of s)) seats) (lifted : (k : ℕ) → k < limit → 0 < times k (lifted_of own)) where
  placed_one : (k : ℕ) → k < limit → 0 < sum_by (λ s. times k (placed_of s)) seats
  placed_one k lt =
      let here = lifted k lt in
      let le = before k in
      let sum : sum_by (λ s. times k (lifted_of s)) seats ≡ sum_by (λ s. times k (lifted_of s)) rest + times k (lifted_of own) = ap (sum_by (λ (s : Seat T M). times k (lifted_of s))) cut ∙ sum_by_push (λ (s : Seat T M). times k (lifted_of s)) rest own in
      omega (arith, here, le, sum)

  -- so each was drawn
  pub drawn_whole : drawn ≡ limit
  drawn_whole = dite (dec_lt drawn limit)
      (λ lt.
      let some_placed = placed_one drawn lt in
      let le = balanced.within drawn in
      let is = once drawn in
      let none_below = unreached_below drawn in absurd (omega (arith, some_placed, le, is, none_below)))
      (λ ge. omega (arith, few, ge))
    where
      unreached_below : (n : ℕ) → once_below n n ≡ 0
      unreached_below n = weight-false (ltb n n) (grind (arith, nat_tests))

  -- and nobody stopped
  pub unstopped : (stopped : Bool) → (IsTrue stopped → Any (λ p. IsTrue p.halted) passes) → stopped ≡ false
  unstopped false halted = refl
  unstopped true halted =
      let owed = balanced.owed (halted refl) in
      let less = owed.1 in
      let is = once owed.0 in
      let within : owed.0 < drawn = once-within owed.0 drawn (omega (arith, less, is)) in
      let most = weight-most (ltb owed.0 drawn) in
      let some_placed = placed_one owed.0 (omega (arith, within, few)) in absurd (omega (arith, less, is, most, some_placed))
