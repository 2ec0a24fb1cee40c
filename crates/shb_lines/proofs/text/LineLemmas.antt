-- What a reader's tables say of the line at hand.
use Rattle.std.proofs.Common.{◌≡◌, ◌⊎◌, inl, inr, ◌+◌, ◌≤◌, ℕ, suc, List, [], ◌∷◌, length, refl, ap, arith}
use Rattle.std.specs.List.{AllZip}
use Rattle.shb_lines.specs.declared.event.Kind.{Kind}
use Rattle.shb_lines.specs.declared.event.Kind.TheVariants as kinds
use Rattle.shb_lines.specs.text.Numbering.{with_names}
use Rattle.shb_lines.specs.text.Text.{threads_among}
use Rattle.shb_lines.proofs.text.NameLemmas.{length-with_names_le}

length_zip : {A B : Type 0} (R : A → B → Type 0) (xs : List A) (ys : List B) → AllZip R xs ys → length ys ≡ length xs
length_zip R [] [] h = refl
length_zip R [] (y ∷ ys) h = absurd h
length_zip R (x ∷ xs) [] h = absurd h
length_zip R (x ∷ xs) (y ∷ ys) h = ap (λ n. suc n) (length_zip R xs ys h.1)

-- a fork or a join names a thread
pub threads_among-thread : (kind : Kind) (name : List ℕ) → (kind ≡ kinds.Fork) ⊎ (kind ≡ kinds.Join) → threads_among kind name ≡ name ∷ []
threads_among-thread kinds.Fork name h = refl
threads_among-thread kinds.Join name h = refl
threads_among-thread kinds.Read name h = elim h [ inl e ↦ absurd cc | inr e ↦ absurd cc ]
threads_among-thread kinds.Write name h = elim h [ inl e ↦ absurd cc | inr e ↦ absurd cc ]
threads_among-thread kinds.Acquire name h = elim h [ inl e ↦ absurd cc | inr e ↦ absurd cc ]
threads_among-thread kinds.Release name h = elim h [ inl e ↦ absurd cc | inr e ↦ absurd cc ]
threads_among-thread kinds.BeginMark name h = elim h [ inl e ↦ absurd cc | inr e ↦ absurd cc ]
threads_among-thread kinds.EndMark name h = elim h [ inl e ↦ absurd cc | inr e ↦ absurd cc ]

-- what is neither names none
pub threads_among-none : (kind : Kind) (name : List ℕ) → (kind ≡ kinds.Fork → ⊥) → (kind ≡ kinds.Join → ⊥) → threads_among kind name ≡ []
threads_among-none kinds.Fork name f j = absurd (f refl)
threads_among-none kinds.Join name f j = absurd (j refl)
threads_among-none kinds.Read name f j = refl
threads_among-none kinds.Write name f j = refl
threads_among-none kinds.Acquire name f j = refl
threads_among-none kinds.Release name f j = refl
threads_among-none kinds.BeginMark name f j = refl
threads_among-none kinds.EndMark name f j = refl

-- an event names two threads at most
pub length-threads_le : (kind : Kind) (thread operand : List ℕ) (names : List (List ℕ)) → length (with_names names (thread ∷ threads_among kind operand)) ≤ length names + 2
length-threads_le kind thread operand names = omega (arith, length-with_names_le (thread ∷ threads_among kind operand) names, one kind)
  where
    one : (k : Kind) → length (threads_among k operand) ≤ 1
    one kinds.Fork = omega arith
    one _ = omega arith
