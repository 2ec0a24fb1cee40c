-- What the order answers for the own thread and for another, from the row before an event.
use Rattle.std.proofs.Common.{◌≡◌, ◌≢◌, ℕ, ◌+◌, ◌≤◌, inl, inr, List, [], Some, get_or, arith, subst, ap, sym, ◌∙◌}
use Rattle.std.specs.Prelude.{count_by}
use Rattle.shb_stamps.proofs.Words.{BelowPred, Event, IsBelowPredCount, IsDisciplined, IsNumberOf, IsRowFor, below_pred_earlier, cases_eq, cases_lt, is_of, local_time, number_same, thread_at, thread_below_pred}
use Rattle.shb_stamps.proofs.Fronts.{number_up_to, thread_in_range}
use Rattle.shb_stamps.proofs.Locals.{time_rises, time_within}

-- an entry of another thread is the number of its events that are below the predecessor
pub count_other : (trace seen : List Event) (rows : List (List ℕ)) (e u t r n : ℕ) (row : List ℕ) → trace ≡ seen → IsRowFor trace rows u (λ k. BelowPred trace k e) r → row ≡ get_or rows r [] → t ≢ u → n ≡ get_or row t 0 → IsBelowPredCount seen t e n
count_other trace seen rows e u t r n row same h row_is ne is = subst (λ (tr : List Event). IsBelowPredCount tr t e n) same (subst (λ (m : ℕ). IsBelowPredCount trace t e m) (sym (is ∙ ap (λ (xs : List ℕ). get_or xs t 0) row_is)) (number_same _ _ _ (λ k. (
  (λ g. (g.0, (h.front.exact t k g.0 ne).0 g.1)),
  (λ g. (g.0, (h.front.exact t k g.0 ne).1 g.1)),
)) (number_up_to trace t (get_or (get_or rows r []) t 0) (h.front.within t ne))))

-- the events of a thread below the predecessor of its own event are those before it
pub count_own : (trace seen : List Event) → IsDisciplined trace → trace ≡ seen → (t u e n : ℕ) → thread_at trace e ≡ Some u → t ≡ u → n + 1 ≡ local_time trace u e → IsBelowPredCount seen t e n
count_own trace seen disciplined same t u e n of_e is next = subst (λ (tr : List Event). IsBelowPredCount tr t e n) same (subst (λ (v : ℕ). IsBelowPredCount trace v e n) (sym is) counted)
  where
    within : n ≤ count_by (is_of u) trace
    within = let le = time_within trace u e (thread_in_range trace e u of_e) in omega (arith, le, next)

    listed : IsNumberOf (λ k. (thread_at trace k ≡ Some u) × (local_time trace u k ≤ n)) n
    listed = number_up_to trace u n within

    below : (k : ℕ) → thread_at trace k ≡ Some u → local_time trace u k ≤ n → BelowPred trace k e
    below k of_k le = elim (cases_lt k e) [
      | inl lt ↦ thread_below_pred trace u k e lt of_k of_e
      | inr past ↦ absurd (elim (cases_eq e k) [
        | inl at ↦ (let p = ap (λ (m : ℕ). local_time trace u m) at in omega (arith, p, le, next))
        | inr ne ↦ (let rise = time_rises trace u e k of_k (omega (arith, past, ne)) in omega (arith, rise, le, next))
      ])
    ]

    counted : IsBelowPredCount trace u e n
    counted = record {
      members = listed.members;
      rising = listed.rising;
      all = λ k. ((λ c. let h = (listed.all k).0 c in (h.0, below k h.0 h.1)), (λ h. (listed.all k).1 (h.0, (let rise = time_rises trace u k e of_e (below_pred_earlier trace disciplined k e h.1) in omega (arith, rise, next)))));
      number = listed.number;
    }
