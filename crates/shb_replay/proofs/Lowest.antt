-- The lowest reason of an event, and the first index with a reason.
use Rattle.std.proofs.Common.{◌≡◌, ℕ, zero, suc, ◌+◌, ◌<◌, ◌≤◌, ◌⊎◌, inl, inr, List, Option, Some, None, length, refl, sym, ◌∙◌, ap, arith, subst}
use Rattle.std.specs.Prelude.{slice_get, ◌↔◌}
use Rattle.shb_replay.proofs.Words.{Event, HasReason, IsAnswer, IsBroken, IsDisciplined, IsFirstReason, IsLowest, IsLowestIn, IsNext, IsNotNext, IsSchedule, IsUnbroken, Why, cases_eq, cases_lt, number_of, slice_get_within}
use Rattle.shb_replay.specs.declared.broken.Broken.{Broken}
use Rattle.shb_replay.specs.declared.broken.Why.TheVariants as whys
use Rattle.shb_replay.proofs.Law.{of_schedule, schedule_of}

-- a reason is known by its number
abbrev why_of : ℕ → Why
why_of (suc zero) = whys.NoSuchEvent
why_of (suc (suc zero)) = whys.Repeated
why_of (suc (suc (suc zero))) = whys.ThreadOrder
why_of (suc (suc (suc (suc zero)))) = whys.ForkMissing
why_of (suc (suc (suc (suc (suc zero))))) = whys.JoinEarly
why_of (suc (suc (suc (suc (suc (suc zero)))))) = whys.LockOrder
why_of (suc (suc (suc (suc (suc (suc (suc zero))))))) = whys.LastWrite
why_of _ = whys.NotNext

-- it is that of its number, which is from 1 to 8
numbered : (why : Why) → (why_of (number_of why) ≡ why) × (1 ≤ number_of why) × (number_of why ≤ 8)
numbered whys.NoSuchEvent = (refl, omega arith, omega arith)
numbered whys.Repeated = (refl, omega arith, omega arith)
numbered whys.ThreadOrder = (refl, omega arith, omega arith)
numbered whys.ForkMissing = (refl, omega arith, omega arith)
numbered whys.JoinEarly = (refl, omega arith, omega arith)
numbered whys.LockOrder = (refl, omega arith, omega arith)
numbered whys.LastWrite = (refl, omega arith, omega arith)
numbered whys.NotNext = (refl, omega arith, omega arith)

pub same_why : (why other : Why) → number_of why ≡ number_of other → why ≡ other
same_why why other same = sym (numbered why).0 ∙ (ap why_of same ∙ (numbered other).0)

module _ (Has : Why → Type 0) where
  -- where a reason doesn't hold, one that does and has no lower number has a higher one
  pub above : (why other : Why) → (Has why → ⊥) → number_of why ≤ number_of other → Has other → number_of why + 1 ≤ number_of other
  above why other none le has = elim (cases_eq (number_of why) (number_of other)) [
    | inl same ↦ absurd (none (subst Has (sym (same_why why other same)) has))
    | inr ne ↦ omega (arith, le, ne)
  ]

  module _ (one : Has whys.NoSuchEvent → ⊥) where
    pub lowest_two : Has whys.Repeated → IsLowest number_of Has (Some whys.Repeated)
    lowest_two h = (h, λ other has. above whys.NoSuchEvent other one (numbered other).1 has)

    module _ (two : Has whys.Repeated → ⊥) where
      from_three : (other : Why) → Has other → 3 ≤ number_of other
      from_three other has = above whys.Repeated other two (above whys.NoSuchEvent other one (numbered other).1 has) has

      pub lowest_three : (why : Why) → IsLowestIn 3 4 Has (Some why) → IsLowest number_of Has (Some why)
      lowest_three why (has, from, low) = (has, λ other h. low other (from_three other h) h)

      module _ (none : IsLowestIn 3 4 Has None) where
        from_five : (other : Why) → Has other → 5 ≤ number_of other
        from_five other has = elim (cases_lt (number_of other) 5) [ inl lt ↦ absurd (none other (from_three other has) (omega (arith, lt)) has) | inr ge ↦ ge ]

        pub lowest_five : (o : Option Why) → IsLowestIn 5 8 Has o → IsLowest number_of Has o
        lowest_five None rest = λ other has. rest other (from_five other has) (numbered other).2 has
        lowest_five (Some why) (has, from, low) = (has, λ other h. low other (from_five other h) h)

module _ (trace : List Event) (s : List ℕ) where
  pub unbroken_start : IsUnbroken trace s 0
  unbroken_start p e why lt at h = omega (arith, lt)

  pub unbroken_more : (n : ℕ) → ((e : ℕ) → slice_get s n ≡ Some e → (why : Why) → HasReason trace s n e why → ⊥) → IsUnbroken trace s n → IsUnbroken trace s (n + 1)
  unbroken_more n none old p e why lt at h = go (cases_lt p n)
    where
      go : (p < n) ⊎ (n ≤ p) → ⊥
      go (inl low) = old p e why low at h
      go (inr high) =
          let same : p ≡ n = omega (arith, lt, high) in
          none e (subst (λ (k : ℕ). slice_get s k ≡ Some e) same at) why (subst (λ (k : ℕ). HasReason trace s k e why) same h)

  pub broken_here : (i j at : ℕ) (why : Why) → IsFirstReason trace s at why → IsBroken trace s i j at why
  broken_here i j at whys.NotNext h = absurd h.lowest.0
  broken_here i j at whys.NoSuchEvent h = h
  broken_here i j at whys.Repeated h = h
  broken_here i j at whys.ThreadOrder h = h
  broken_here i j at whys.ForkMissing h = h
  broken_here i j at whys.JoinEarly h = h
  broken_here i j at whys.LockOrder h = h
  broken_here i j at whys.LastWrite h = h

  -- an index with a reason isn't among those without one
  pub not_before : (p n : ℕ) (why : Why) → IsFirstReason trace s p why → IsUnbroken trace s n → p < n → ⊥
  not_before p n why h unbroken lt = unbroken p h.event why lt h.there h.lowest.0

  -- an answer is the first reason of an index, or that an access isn't next
  pub two_ways : (i j at : ℕ) (why : Why) → IsBroken trace s i j at why → ((why ≡ whys.NotNext) × IsNotNext trace s i j at) ⊎ IsFirstReason trace s at why
  two_ways i j at whys.NotNext h = inl (refl, h)
  two_ways i j at whys.NoSuchEvent h = inr h
  two_ways i j at whys.Repeated h = inr h
  two_ways i j at whys.ThreadOrder h = inr h
  two_ways i j at whys.ForkMissing h = inr h
  two_ways i j at whys.JoinEarly h = inr h
  two_ways i j at whys.LockOrder h = inr h
  two_ways i j at whys.LastWrite h = inr h

  -- a list with an answer is no schedule
  pub broken_no_schedule : (i j at : ℕ) (why : Why) → IsBroken trace s i j at why → IsUnbroken trace s (length s) × IsNext trace s i × IsNext trace s j → ⊥
  broken_no_schedule i j at why h all = elim (two_ways i j at why h) [
    | inl end ↦ elim end.1.not_next [ inl not ↦ not all.1 | inr not ↦ not all.2 ]
    | inr first ↦ not_before at (length s) why first all.0 (slice_get_within s at first.event first.there)
  ]

-- None is answered exactly for schedules
pub answer_none : (trace : List Event) (s : List ℕ) (i j : ℕ) (answer : Option Broken) → IsDisciplined trace → IsAnswer trace s i j answer → answer ≡ None ↔ IsSchedule trace s i j
answer_none trace s i j None disciplined h = ((λ is. schedule_of trace disciplined s i j h), (λ schedule. refl))
answer_none trace s i j (Some broken) disciplined h = (
  (λ is. absurd (let f : ⊥ = cc in f)),
  (λ schedule. absurd (broken_no_schedule trace s i j broken.at broken.why h (of_schedule trace disciplined s i j schedule))),
)
