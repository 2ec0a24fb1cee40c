-- What a taker was given, one result more.
use Rattle.std.proofs.Common.{◌≡◌, ℕ, suc, ◌+◌, List, [], ◌∷◌, ◌++◌, length, sym, ap, ap₂, ◌∙◌, arith}
use Rattle.std.proofs.lemmas.List.{length-map, map-append}
use Rattle.shb_fan.specs.Values.{values_of}
use Rattle.shb_fan.specs.Streamed.{AreFirst}
use Rattle.shb_fan.proofs.Values.{length-values}

module _ {T M : Type 0} (meaning : T → M) (value : ℕ → M) where
  pub first-more : (k : ℕ) (given : List T) (out : T) → AreFirst meaning value k given → meaning out ≡ value k → AreFirst meaning value (k + 1) (given ++ out ∷ [])
  first-more k given out first right = map-append meaning given (out ∷ []) ∙ (ap₂ (λ (l : List M) (m : M). l ++ m ∷ []) first right ∙ ap (values_of value) (let up : suc k ≡ k + 1 = omega arith in up))

  pub first-long : (k : ℕ) (given : List T) → AreFirst meaning value k given → length given ≡ k
  first-long k given first = sym (length-map given meaning) ∙ (ap length first ∙ length-values value k)
