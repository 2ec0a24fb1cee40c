-- The values of all pieces, joined, are the races of all variables.
use Rattle.std.proofs.Common.{◌≡◌, ℕ, zero, suc, ◌+◌, ◌-◌, ◌*◌, ◌≤◌, inl, inr, List, [], ◌∷◌, ◌++◌, length, get_or, take, drop, refl, arith, subst, ap, sym, ◌∙◌, add-one}
use Rattle.std.specs.Prelude.{Contains, flat_map, map, min}
use Rattle.shb_pairs.proofs.Words.{Event, IsNumberedByAccess, IsRaceList, OpenTrace, Piece, accesses_in, all_is_race_list, all_races, append-nil, cases_Bool, contains_head, div_ceil, flat_map-append, is_open, joined, length-drop, listed_accesses, map_more, min_comm, numbered_piece, numbers_below, pieces_in, races_on, races_on_parts, races_with, take_all, take_min, variables_in}
use Rattle.shb_stamps.specs.Settling.{AreOpen}
use Rattle.shb_lines.specs.events.Reach.{numbers_where}
use Rattle.shb_pairs.specs.Races.{first_pieces, pieces_below, races_at, races_of}
use Rattle.std.proofs.Math.Seq.{take-add}
use Rattle.shb_fan.specs.Values.{values_of}
use Rattle.shb_pairs.proofs.PieceRaces.{no_pieces, pieces_on, listed_closed, listed_open}

joined-map : {X A : Type 0} (f : X → List A) (xs : List X) → joined (map f xs) ≡ flat_map f xs
joined-map f [] = refl
joined-map f (x ∷ xs) = ap (λ (rest : List _). f x ++ rest) (joined-map f xs)

values_of_front : {X M : Type 0} (f : X → M) (xs : List X) (d : X) (n : ℕ) → n ≤ length xs → values_of (λ k. f (get_or xs k d)) n ≡ map f (take n xs)
values_of_front f xs d zero le = refl
values_of_front {X} {M} f xs d (suc n) le =
    let ih = values_of_front f xs d n (omega arith) in
    let more : map f (take (suc n) xs) ≡ map f (take n xs) ++ f (get_or xs n d) ∷ [] = rw (← add-one) (map_more f xs n d (omega arith)) in
    ap (λ (ms : List M). ms ++ f (get_or xs n d) ∷ []) ih ∙ sym more

joined_values : {X A : Type 0} (f : X → List A) (xs : List X) (d : X) → joined (values_of (λ k. f (get_or xs k d)) (length xs)) ≡ flat_map f xs
joined_values f xs d = ap (λ lists. joined lists) (values_of_front f xs d (length xs) (omega arith) ∙ ap (λ (ys : List _). map f ys) (take_all (length xs) xs (omega arith))) ∙ joined-map f xs

-- the runs of one variable
piece_span : (xs : List ℕ) (k : ℕ) → take ((64 * k + min (length xs - 64 * k) 64) - 64 * k) (drop (64 * k) xs) ≡ take 64 (drop (64 * k) xs)
piece_span xs k =
    let size : (64 * k + min (length xs - 64 * k) 64) - 64 * k ≡ min 64 (length (drop (64 * k) xs)) = rw (length-drop (64 * k) xs, min_comm 64 (length xs - 64 * k)) (omega arith) in
    ap (λ (n : ℕ). take n (drop (64 * k) xs)) size ∙ take_min 64 (drop (64 * k) xs)

piece_has_races : (trace : List Event) (x k : ℕ) → races_of trace (numbered_piece x (length (accesses_in trace x)) k) ≡ flat_map (races_with trace) (take 64 (drop (64 * k) (accesses_in trace x)))
unfolding races_of
piece_has_races trace x k = ap (λ (ys : List ℕ). flat_map (races_with trace) ys) (piece_span (accesses_in trace x) k)

all_joined : (trace : List Event) (x k : ℕ) → flat_map (races_of trace) (first_pieces x (length (accesses_in trace x)) k) ≡ flat_map (races_with trace) (take (64 * k) (accesses_in trace x))
unfolding first_pieces
all_joined trace x zero = refl
all_joined trace x (suc k) =
    let xs : List ℕ = accesses_in trace x in
    let front = all_joined trace x k in
    let last = piece_has_races trace x k in
    let size : 64 * suc k ≡ 64 * k + 64 = omega arith in
    flat_map-append (races_of trace) (first_pieces x (length xs) k) (numbered_piece x (length xs) k ∷ [])
    ∙ (ap (λ (ys : List (ℕ × ℕ)). flat_map (races_of trace) (first_pieces x (length xs) k) ++ ys) (append-nil (races_of trace (numbered_piece x (length xs) k)) ∙ last)
    ∙ (ap (λ (ys : List (ℕ × ℕ)). ys ++ flat_map (races_with trace) (take 64 (drop (64 * k) xs))) front
    ∙ (sym (flat_map-append (races_with trace) (take (64 * k) xs) (take 64 (drop (64 * k) xs)))
    ∙ (ap (λ (ys : List ℕ). flat_map (races_with trace) ys) (sym (take-add (64 * k) 64 xs))
    ∙ ap (λ (n : ℕ). flat_map (races_with trace) (take n xs)) (sym size)))))

pub pieces_enough : (n : ℕ) → n ≤ 64 * div_ceil n 64
pieces_enough n = omega arith

pub open_joined : (trace : List Event) (x : ℕ) → flat_map (races_of trace) (first_pieces x (length (accesses_in trace x)) (div_ceil (length (accesses_in trace x)) 64)) ≡ races_on trace x
open_joined trace x = all_joined trace x _ ∙ ap (λ (ys : List ℕ). flat_map (races_with trace) ys) (take_all _ (accesses_in trace x) (pieces_enough (length (accesses_in trace x))))

-- a variable without races adds none
no_members : {X : Type 0} (xs : List X) → ((p : X) → Contains xs p → ⊥) → xs ≡ []
no_members [] none = refl
no_members (x ∷ xs) none = absurd (none x (contains_head x xs))

variable_joined : (a : OpenTrace) → AreOpen a.trace a.flags → (x : ℕ) → flat_map (races_of a.trace) (pieces_on x (listed_accesses a x)) ≡ races_on a.trace x
variable_joined a free_write x = elim (cases_Bool (is_open a.flags x)) [
  | inl h ↦ ap (λ (ks : List ℕ). flat_map (races_of a.trace) (pieces_on x ks)) (listed_open a x h) ∙ open_joined a.trace x
  | inr h ↦ ap (λ (ks : List ℕ). flat_map (races_of a.trace) (pieces_on x ks)) (listed_closed a x h) ∙ (ap (λ (ps : List Piece). flat_map (races_of a.trace) ps) (no_pieces x) ∙ sym (no_members (races_on a.trace x) (λ p c. let there = races_on_parts a.trace x p c in free_write x h p.0 p.1 there.0 there.1)))
]

pieces_joined : (a : OpenTrace) → AreOpen a.trace a.flags → (n : ℕ) → flat_map (races_of a.trace) (pieces_below a n) ≡ flat_map (races_on a.trace) (numbers_below n)
unfolding pieces_below numbers_where
pieces_joined a free_write zero = refl
pieces_joined a free_write (suc x) =
    flat_map-append (races_of a.trace) (pieces_below a x) (pieces_on x (listed_accesses a x))
    ∙ (ap (λ (ys : List (ℕ × ℕ)). ys ++ flat_map (races_of a.trace) (pieces_on x (listed_accesses a x))) (pieces_joined a free_write x)
    ∙ (ap (λ (ys : List (ℕ × ℕ)). flat_map (races_on a.trace) (numbers_below x) ++ ys) (variable_joined a free_write x ∙ sym (append-nil (races_on a.trace x)))
    ∙ sym (flat_map-append (races_on a.trace) (numbers_below x) (x ∷ []))))

pub values_joined : (a : OpenTrace) → AreOpen a.trace a.flags → joined (values_of (races_at a) (length (pieces_in a))) ≡ all_races a.trace
unfolding races_at
values_joined a free_write = joined_values (races_of a.trace) (pieces_in a) _ ∙ pieces_joined a free_write (variables_in a.trace)

pub values_are_race_list : (a : OpenTrace) → IsNumberedByAccess a.trace → AreOpen a.trace a.flags → IsRaceList a.trace (joined (values_of (races_at a) (length (pieces_in a))))
values_are_race_list a numbered free_write = subst (IsRaceList a.trace) (sym (values_joined a free_write)) (all_is_race_list a.trace numbered)
