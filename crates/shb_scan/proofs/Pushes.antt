-- Lists with one item more at their end.
use Rattle.std.proofs.Common.{◌≡◌, ◌⊎◌, inl, inr, ◌<◌, ℕ, zero, suc, List, [], ◌∷◌, ◌++◌, length, map, take, option_and_then, Option, Some, None, slice_get, unwrap_or, refl, sym, ap, subst, ◌∙◌, arith}
use Rattle.shb_scan.proofs.Words.{AllZip, Event, IsDisciplined, MayCome, get_or-append_seam, get_or_append_left, take-append-le, take-append_seam, unwrap_or-slice_get, variable_at, variable_of}
use Rattle.shb_lines.specs.events.Events.{op_at}

pub at_push : {X : Type 0} (xs : List X) (x : X) (k : ℕ) (y : X) → slice_get (xs ++ x ∷ []) k ≡ Some y → ((k < length xs) × (slice_get xs k ≡ Some y)) ⊎ ((k ≡ length xs) × (x ≡ y))
at_push [] x zero y h = inr (refl, let e : x ≡ y = cc in e)
at_push [] x (suc k) y h = absurd cc
at_push (z ∷ xs) x zero y h = inl (omega arith, h)
at_push (z ∷ xs) x (suc k) y h = elim (at_push xs x k y h) [ inl low ↦ inl (omega (arith, low.0), low.1) | inr last ↦ inr (ap (λ n. suc n) last.0, last.1) ]

pub last_push : {X : Type 0} (xs : List X) (x : X) → slice_get (xs ++ x ∷ []) (length xs) ≡ Some x
last_push [] x = refl
last_push (z ∷ xs) x = last_push xs x

pub AllZip-length : {A B : Type 0} (R : A → B → Type 0) (xs : List A) (ys : List B) → AllZip R xs ys → length xs ≡ length ys
AllZip-length R [] [] all = refl
AllZip-length R [] (y ∷ ys) all = absurd all
AllZip-length R (x ∷ xs) [] all = absurd all
AllZip-length R (x ∷ xs) (y ∷ ys) all = ap (λ n. suc n) (AllZip-length R xs ys all.1)

pub count_map : {X Y : Type 0} (f : X → Y) (xs : List X) → length (map f xs) ≡ length xs
count_map f [] = refl
count_map f (x ∷ xs) = ap (λ n. suc n) (count_map f xs)

-- what stands before the last one
pub front_push : {X : Type 0} (xs : List X) (x : X) (k : ℕ) → k ≡ length xs → take k (xs ++ x ∷ []) ≡ xs
front_push xs x k is = ap (λ n. take n (xs ++ x ∷ [])) is ∙ take-append_seam xs (x ∷ [])

-- an event more that may come
pub disciplined_push : (past : List Event) (e : Event) → IsDisciplined past → MayCome past e → IsDisciplined (past ++ e ∷ [])
disciplined_push past e all may k d at = elim (at_push past e k d at) [
  | inl low ↦ subst (λ es. MayCome es d) (sym (take-append-le k past (e ∷ []) (omega (arith, low.0)))) (all k d low.1)
  | inr last ↦ subst (λ es. MayCome es d) (sym (front_push past e k last.0)) (subst (MayCome past) last.1 may)
]

-- an access is an event that accesses
pub accessing : (es : List Event) (k x : ℕ) → variable_at es k ≡ Some x → (e : Event) × (slice_get es k ≡ Some e) × (variable_of e.op ≡ Some x)
unfolding op_at
accessing es k x h = by (slice_get es k) refl h
  where
    by : (o : Option Event) → slice_get es k ≡ o → option_and_then variable_of (option_and_then (λ (e : Event). Some e.op) o) ≡ Some x → (e : Event) × (slice_get es k ≡ Some e) × (variable_of e.op ≡ Some x)
    by (Some e) is has = (e, is, has)
    by None is has = absurd cc

pub accesses : (es : List Event) (k x : ℕ) (e : Event) → slice_get es k ≡ Some e → variable_of e.op ≡ Some x → variable_at es k ≡ Some x
unfolding op_at
accesses es k x e at has = ap (λ (o : Option Event). option_and_then variable_of (option_and_then (λ (d : Event). Some d.op) o)) at ∙ has

-- the lines of events
abbrev line : List (List ℕ) → ℕ → List ℕ
line lines k = unwrap_or (slice_get lines k) []

pub line_before : (lines : List (List ℕ)) (text : List ℕ) (k : ℕ) → k < length lines → line (lines ++ text ∷ []) k ≡ line lines k
line_before lines text k lt = unwrap_or-slice_get (lines ++ text ∷ []) k [] ∙ get_or_append_left lines (text ∷ []) [] k lt ∙ sym (unwrap_or-slice_get lines k [])

pub line_last : (lines : List (List ℕ)) (text : List ℕ) (k : ℕ) → k ≡ length lines → line (lines ++ text ∷ []) k ≡ text
line_last lines text k is = ap (line (lines ++ text ∷ [])) is ∙ unwrap_or-slice_get (lines ++ text ∷ []) (length lines) [] ∙ get_or-append_seam lines text [] []
