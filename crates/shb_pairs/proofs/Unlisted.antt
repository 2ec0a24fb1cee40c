-- A conflicting pair that is no race is ordered.
use Rattle.std.proofs.Common.{ℕ, ◌<◌, inl, inr, List}
use Rattle.shb_pairs.proofs.Words.{BelowPred, Conflict, Event, Race, cases_Bool, is_below_pred, reflect_below_pred}

pub below_without_race : (trace : List Event) (i j : ℕ) → Conflict trace i j → i < j → ¬ Race trace i j → BelowPred trace i j
below_without_race trace i j conflict earlier no_race = elim (cases_Bool (is_below_pred trace i j)) [
  | inl h ↦ (reflect_below_pred trace i j).0 h
  | inr h ↦ absurd (no_race (record { conflict = conflict; earlier = earlier; unordered = λ below. let passes = (reflect_below_pred trace i j).1 below in (let f : ⊥ = cc in f) }))
]
