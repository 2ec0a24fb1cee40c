-- What holds of each element of a list.
use Rattle.std.proofs.Common.{◌≡◌, ℕ, zero, suc, List, [], ◌∷◌, ◌++◌, take, Some, refl, subst}
use Rattle.std.specs.Prelude.{slice_get}
use Rattle.shb_format.proofs.Words.{AllByRecursion}

pub each-push : {A : Type 0} (P : A → Type 0) (xs : List A) (x : A) → AllByRecursion P xs → P x → AllByRecursion P (xs ++ x ∷ [])
each-push P [] x h p = (p, tt)
each-push P (y ∷ xs) x h p = (h.0, each-push P xs x h.1 p)

pub each-weaker : {A : Type 0} (P Q : A → Type 0) (xs : List A) → ((x : A) → P x → Q x) → AllByRecursion P xs → AllByRecursion Q xs
each-weaker P Q [] weaker h = tt
each-weaker P Q (x ∷ xs) weaker h = (weaker x h.0, each-weaker P Q xs weaker h.1)

pub each-take : {A : Type 0} (P : A → Type 0) (n : ℕ) (xs : List A) → AllByRecursion P xs → AllByRecursion P (take n xs)
each-take P zero xs h = tt
each-take P (suc n) [] h = tt
each-take P (suc n) (x ∷ xs) h = (h.0, each-take P n xs h.1)

pub each_of : (P : ℕ → Type 0) (xs : List ℕ) → ((k a : ℕ) → slice_get xs k ≡ Some a → P a) → AllByRecursion P xs
each_of P [] h = tt
each_of P (x ∷ xs) h = (h 0 x refl, each_of P xs (λ k a at. h (suc k) a at))

pub each_at : {A : Type 0} (P : A → Type 0) (xs : List A) (k : ℕ) (x : A) → slice_get xs k ≡ Some x → AllByRecursion P xs → P x
each_at P [] k x at h = absurd (let f : ⊥ = cc in f)
each_at P (y ∷ xs) zero x at h = let same : y ≡ x = cc in subst P same h.0
each_at P (y ∷ xs) (suc k) x at h = each_at P xs k x at h.1
