-- The races of an access, one comparison with an earlier access at a time.
use Rattle.std.proofs.Common.{◌≡◌, ℕ, zero, suc, ◌+◌, ◌<◌, ◌⊎◌, inl, inr, Bool, true, false, List, [], ◌∷◌, ◌++◌, Some, length, get_or, map, take, refl, arith, ap, sym, ◌∙◌}
use Rattle.std.specs.Prelude.{cond, filter}
use Rattle.shb_pairs.proofs.Words.{Event, Race, accesses_at, append-nil, append_assoc, cases_Bool, ends, filter-append, filter_more, is_race, map_push, numbers_all, reflect_race, variable_at}
use Rattle.shb_lines.specs.events.Reach.{numbers_where}
use Rattle.shb_lines.specs.declared.event.Pair.{Pair}
use Rattle.shb_pairs.proofs.PieceRaces.{race_accesses}

-- pairs with the later access j
abbrev pub pairs_with : ℕ → List ℕ → List (ℕ × ℕ)
pairs_with j ks = map (λ i. (i, j)) ks

abbrev pub racing : List Event → ℕ → List ℕ → List ℕ
racing trace j ks = filter (λ i. is_race trace i j) ks

pub earlier_below : (trace : List Event) (x j : ℕ) (ks : List ℕ) (k d : ℕ) → ks ≡ numbers_where (accesses_at trace x) j → k < length ks → get_or ks k d < j
earlier_below trace x j ks k d is lt = go (numbers_all (λ k. k < j) (accesses_at trace x) j (λ k below h. below))
  where
    go : ((k d : ℕ) → k < length (numbers_where (accesses_at trace x) j) → get_or (numbers_where (accesses_at trace x) j) k d < j) → get_or ks k d < j
    go each = rw is (each k d (let size = ap length is in omega (arith, size, lt)))

pub not_racing : (trace : List Event) (i j : ℕ) → (Race trace i j → ⊥) → is_race trace i j ≡ false
not_racing trace i j fails = elim (cases_Bool (is_race trace i j)) [ inl h ↦ absurd (fails ((reflect_race trace i j).0 h)) | inr h ↦ h ]

-- an access that races, and one that doesn't
pub racing_more : (trace : List Event) (j k d : ℕ) (ks : List ℕ) (old : List (ℕ × ℕ)) (found new : List Pair) → k < length ks → is_race trace (get_or ks k d) j ≡ true → map ends found ≡ old ++ pairs_with j (racing trace j (take k ks)) → new ≡ found ++ record { first = get_or ks k d; second = j } ∷ [] → map ends new ≡ old ++ pairs_with j (racing trace j (take (k + 1) ks))
racing_more trace j k d ks old found new lt passes so is =
    let here : racing trace j (take (k + 1) ks) ≡ racing trace j (take k ks) ++ get_or ks k d ∷ [] = filter_more (λ i. is_race trace i j) ks k d lt ∙ rw passes refl in
    ap (λ (ps : List Pair). map ends ps) is
    ∙ (map_push ends found (record { first = get_or ks k d; second = j })
    ∙ (ap (λ (ps : List (ℕ × ℕ)). ps ++ (get_or ks k d, j) ∷ []) so
    ∙ (append_assoc old (pairs_with j (racing trace j (take k ks))) ((get_or ks k d, j) ∷ [])
    ∙ ap (λ (ps : List (ℕ × ℕ)). old ++ ps) (sym (ap (λ (is : List ℕ). pairs_with j is) here ∙ map_push (λ i. (i, j)) (racing trace j (take k ks)) (get_or ks k d))))))

pub racing_same : (trace : List Event) (j k d : ℕ) (ks : List ℕ) (old : List (ℕ × ℕ)) (found new : List Pair) → k < length ks → is_race trace (get_or ks k d) j ≡ false → map ends found ≡ old ++ pairs_with j (racing trace j (take k ks)) → new ≡ found → map ends new ≡ old ++ pairs_with j (racing trace j (take (k + 1) ks))
racing_same trace j k d ks old found new lt fails so is =
    let here : racing trace j (take (k + 1) ks) ≡ racing trace j (take k ks) = filter_more (λ i. is_race trace i j) ks k d lt ∙ rw (fails, append-nil) refl in
    ap (λ (ps : List Pair). map ends ps) is ∙ (so ∙ ap (λ (is : List ℕ). old ++ pairs_with j is) (sym here))

numbers_filter : (f g : ℕ → Bool) (n : ℕ) → ((k : ℕ) → f k ≡ true → g k ≡ true) → filter f (numbers_where g n) ≡ numbers_where f n
unfolding numbers_where
numbers_filter f g zero within = refl
numbers_filter f g (suc n) within = filter-append f (numbers_where g n) (cond (g n) (n ∷ []) []) ∙ (ap (λ (xs : List ℕ). xs ++ filter f (cond (g n) (n ∷ []) [])) (numbers_filter f g n within) ∙ ap (λ (xs : List ℕ). numbers_where f n ++ xs) (last (cases_Bool (f n)) (cases_Bool (g n))))
  where
    last : (f n ≡ true) ⊎ (f n ≡ false) → (g n ≡ true) ⊎ (g n ≡ false) → filter f (cond (g n) (n ∷ []) []) ≡ cond (f n) (n ∷ []) []
    last (inl a) (inl b) = rw (a, b) (rw a refl)
    last (inr a) (inl b) = rw (a, b) (rw a refl)
    last (inl a) (inr b) = absurd (let c = within n a in (let f : ⊥ = cc in f))
    last (inr a) (inr b) = rw (a, b) refl

-- the accesses of the variable of j before j that race with j are all events that do
pub racing_all : (trace : List Event) (x j : ℕ) (ks : List ℕ) → variable_at trace j ≡ Some x → ks ≡ numbers_where (accesses_at trace x) j → racing trace j ks ≡ numbers_where (λ i. is_race trace i j) j
racing_all trace x j ks of_j is = ap (λ (ns : List ℕ). racing trace j ns) is ∙ numbers_filter (λ i. is_race trace i j) (accesses_at trace x) j (λ i passes. race_accesses trace x i j of_j passes)
