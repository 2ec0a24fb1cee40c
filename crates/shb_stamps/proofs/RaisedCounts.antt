-- Counts that are raised to what is below the predecessor of an event.
use Rattle.std.proofs.Common.{◌≡◌, ◌≢◌, ℕ, ◌+◌, ◌-◌, ◌<◌, ◌≤◌, ◌⊎◌, inl, inr, List, [], ◌++◌, Some, length, get_or, take, arith, refl, sym, subst, ◌∙◌, ap, get_or-set_same, get_or-set_other, length-set}
use Rattle.std.specs.Prelude.{max, replicate}
use Rattle.shb_stamps.proofs.Words.{AreRaisedCounts, BelowPred, Event, IsBelowPredCount, IsDisciplined, IsRaisedCount, IsRowFor, cases_eq, get_or-take, local_time, set, thread_at}
use Rattle.shb_stamps.proofs.Counting.{count_other, count_own}
use Rattle.shb_stamps.proofs.Locals.{time_at}
use Rattle.shb_stamps.proofs.Raised.{zeros_after}

-- the first n counts are raised, the others as they were
pub record AreRaisedTo (trace : List Event) (e : ℕ) (old now : List ℕ) (n : ℕ) : Type 0 where
  pub long : length now ≡ length old
  pub done : (t : ℕ) → t < n → IsRaisedCount trace t e (get_or old t 0) (get_or now t 0)
  pub rest : (t : ℕ) → n ≤ t → get_or now t 0 ≡ get_or old t 0

module _ (trace : List Event) (e : ℕ) where
  pub counts_start : (old : List ℕ) → AreRaisedTo trace e old old 0
  counts_start old = record {
    long = refl;
    done = λ t lt. absurd (omega (arith, lt));
    rest = λ t le. refl;
  }

  -- one more
  pub counts_more : (old now after : List ℕ) (t below x : ℕ) → AreRaisedTo trace e old now t → t < length old → IsBelowPredCount trace t e below → x ≡ max (get_or now t 0) below → after ≡ set now t x → AreRaisedTo trace e old after (t + 1)
  counts_more old now after t below x raised low count x_is after_is = record {
    long = ap length after_is ∙ (length-set now t x ∙ raised.long);
    done = λ k lt. go k lt (cases_eq k t);
    rest = λ k le. entry k ∙ (get_or-set_other now t k x 0 (λ same. omega (arith, le, same)) ∙ raised.rest k (omega (arith, le)));
  }
    where
      entry : (k : ℕ) → ◌≡◌ {A = ℕ} (get_or after k 0) (get_or (set now t x) k 0)
      entry k = ap (λ (xs : List ℕ). get_or xs k 0) after_is

      own : get_or after t 0 ≡ max (get_or old t 0) below
      own = let at = get_or-set_same now t x 0 (let long = raised.long in omega (arith, low, long)) in let before = raised.rest t (omega arith) in let same = entry t in
          omega (arith, at, before, same, x_is)

      go : (k : ℕ) → k < t + 1 → (k ≡ t) ⊎ (k ≢ t) → IsRaisedCount trace k e (get_or old k 0) (get_or after k 0)
      go k lt (inl same) = subst (λ (m : ℕ). IsRaisedCount trace m e (get_or old m 0) (get_or after m 0)) (sym same) (record { count = below; is = count; raised = own })
      go k lt (inr ne) = subst (λ (x : ℕ). IsRaisedCount trace k e (get_or old k 0) x) (sym (entry k ∙ get_or-set_other now t k x 0 ne)) (raised.done k (omega (arith, lt, ne)))

  pub counts_done : (old now : List ℕ) (t : ℕ) → length old ≤ t → AreRaisedTo trace e old now t → AreRaisedCounts trace e old now
  counts_done old now t most raised = record { as_long = raised.long; each = λ k lt. raised.done k (omega (arith, lt, most)) }

  -- by a row, but for the own thread, whose count is raised to the events before e
  pub counts_by_row : IsDisciplined trace → (rows : List (List ℕ)) (row u count size m : ℕ) (old raised resized new : List ℕ) → thread_at trace e ≡ Some u → IsRowFor trace rows u (λ k. BelowPred trace k e) row
      → count ≡ max (get_or old u 0) (local_time trace u e - 1) → ((t : ℕ) → get_or raised t 0 ≡ max (get_or old t 0) (get_or (get_or rows row []) t 0))
      → size ≡ length old → resized ≡ take size raised ++ replicate m 0 → length new ≡ size → ((t : ℕ) → t ≢ u → get_or new t 0 ≡ get_or resized t 0) → (u < size → get_or new u 0 ≡ count)
      → AreRaisedCounts trace e old new
  counts_by_row disciplined rows row u count size m old raised resized new of_e is count_is raised_is size_is resized_is long others own = record {
    as_long = long ∙ size_is;
    each = λ t lt. go t lt (cases_eq t u);
  }
    where
      kept : (t : ℕ) → t < length old → get_or resized t 0 ≡ get_or raised t 0
      kept t lt = ap (λ (xs : List ℕ). get_or xs t 0) resized_is ∙ (zeros_after (take size raised) m t ∙ get_or-take size raised t 0 (omega (arith, lt, size_is)))

      go : (t : ℕ) → t < length old → (t ≡ u) ⊎ (t ≢ u) → IsRaisedCount trace t e (get_or old t 0) (get_or new t 0)
      go t lt (inl same) = record {
        count = local_time trace u e - 1;
        is = count_own trace trace disciplined refl t u e (local_time trace u e - 1) of_e same (let time = time_at trace u e of_e in omega (arith, time));
        raised = subst (λ (v : ℕ). get_or new v 0 ≡ max (get_or old v 0) (local_time trace u e - 1)) (sym same) (own (omega (arith, lt, size_is, same)) ∙ count_is);
      }
      go t lt (inr ne) = record {
        count = get_or (get_or rows row []) t 0;
        is = count_other trace trace rows e u t row _ (get_or rows row []) refl is refl ne refl;
        raised = others t ne ∙ (kept t lt ∙ raised_is t);
      }
