-- Runs of accesses, and the races of a run one access at a time.
use Rattle.shb_pairs.proofs.Words.{All-append, All-nil, All-push, Contains-get_or, Event, OpenTrace, Piece, access_from_test, accesses_at, accesses_in, append-nil, append_assoc, cases_Bool, cases_lt, common_steps, div_ceil, flat_map-append, get_or-drop, get_or_append_left, get_or_push, is_open, is_race, length-drop, length_push, listed_accesses, numbered_piece, numbers_listed, piece_at, pieces_in, races_with, reflect_race, take-append-le, take_at, take_more, test_from_access, variable_at, variables_in}
use Rattle.shb_pairs.specs.Races.{AsksOpen, first_pieces, pieces_below, races_at, races_of}
use Rattle.shb_lines.specs.events.Reach.{numbers_where}
use Rattle.std.proofs.Common.{◌≡◌, ℕ, zero, suc, ◌+◌, ◌-◌, ◌*◌, ◌<◌, ◌≤◌, ◌⊎◌, inl, inr, Bool, true, false, List, [], ◌∷◌, ◌++◌, Some, length, get_or, take, drop, refl, arith, subst, ap, sym, ◌∙◌, add-one}
use Rattle.std.specs.Prelude.{All, flat_map, min, cond, slice_range}

-- the listed accesses of a variable
pub listed_open : (a : OpenTrace) (x : ℕ) → is_open a.flags x ≡ true → listed_accesses a x ≡ accesses_in a.trace x
listed_open a x h = ap (λ (b : Bool). cond b (accesses_in a.trace x) []) h

pub listed_closed : (a : OpenTrace) (x : ℕ) → is_open a.flags x ≡ false → listed_accesses a x ≡ []
listed_closed a x h = ap (λ (b : Bool). cond b (accesses_in a.trace x) []) h

-- a run lies within the accesses of its variable, which is open
pub record IsPieceOf (trace : List Event) (flags : List Bool) (p : Piece) : Type 0 where
  pub variable : p.variable < variables_in trace
  pub listed : is_open flags p.variable ≡ true
  pub forward : p.from ≤ p.to
  pub within : p.to ≤ length (accesses_in trace p.variable)

pub piece_starts : (n k : ℕ) → k < div_ceil n 64 → 64 * k < n
piece_starts n k lt = omega arith

first_within : (a : OpenTrace) (x k : ℕ) → x < variables_in a.trace → is_open a.flags x ≡ true → k ≤ div_ceil (length (accesses_in a.trace x)) 64 → All (IsPieceOf a.trace a.flags) (first_pieces x (length (accesses_in a.trace x)) k)
unfolding first_pieces
first_within a x zero below opened le = All-nil (IsPieceOf a.trace a.flags)
first_within a x (suc k) below opened le =
    let start = piece_starts (length (accesses_in a.trace x)) k (omega arith) in
    All-push (IsPieceOf a.trace a.flags) (first_pieces x (length (accesses_in a.trace x)) k) (numbered_piece x (length (accesses_in a.trace x)) k) (first_within a x k below opened (omega arith)) (record { variable = below; listed = opened; forward = omega arith; within = omega arith })

-- the runs of the listed accesses of a variable
abbrev pub pieces_on : ℕ → List ℕ → List Piece
pieces_on x ks = first_pieces x (length ks) (div_ceil (length ks) 64)

zero_pieces : (x n k : ℕ) → k ≡ 0 → first_pieces x n k ≡ []
unfolding first_pieces
zero_pieces x n k e = rw e refl

pub no_pieces : (x : ℕ) → pieces_on x [] ≡ []
no_pieces x = zero_pieces x 0 (div_ceil 0 64) (omega arith)

pieces_of_variable : (a : OpenTrace) (x : ℕ) → x < variables_in a.trace → All (IsPieceOf a.trace a.flags) (pieces_on x (listed_accesses a x))
pieces_of_variable a x below = grind (arith, common_steps, cases_Bool, listed_open, first_within, listed_closed, no_pieces, All-nil)

pieces_within : (a : OpenTrace) (n : ℕ) → n ≤ variables_in a.trace → All (IsPieceOf a.trace a.flags) (pieces_below a n)
unfolding pieces_below
pieces_within a zero le = All-nil (IsPieceOf a.trace a.flags)
pieces_within a (suc x) le = All-append (IsPieceOf a.trace a.flags) (pieces_below a x) (pieces_on x (listed_accesses a x)) (pieces_within a x (omega arith)) (pieces_of_variable a x (omega arith))

pub piece_within : (a : OpenTrace) (k : ℕ) (d : Piece) → k < length (pieces_in a) → IsPieceOf a.trace a.flags (get_or (pieces_in a) k d)
piece_within a k d lt = pieces_within a (variables_in a.trace) (omega arith) k d lt

-- one run more, and one variable more
pub first_more : (x n k : ℕ) → first_pieces x n (k + 1) ≡ first_pieces x n k ++ numbered_piece x n k ∷ []
unfolding first_pieces
first_more x n k = rw add-one refl

pub pieces_more : (a : OpenTrace) (x : ℕ) → pieces_below a (x + 1) ≡ pieces_below a x ++ pieces_on x (listed_accesses a x)
unfolding pieces_below
pieces_more a x = rw add-one refl

-- the numbers before the one at q are the first q
pub numbers_front : (f : ℕ → Bool) (n q : ℕ) → q < length (numbers_where f n) → take q (numbers_where f n) ≡ numbers_where f (get_or (numbers_where f n) q 0)
unfolding numbers_where
numbers_front f zero q lt = absurd (omega arith)
numbers_front f (suc n) q lt = go (cases_Bool (f n)) (cases_lt q (length (numbers_where f n))) (λ h. numbers_front f n q h) lt
  where
    go : (f n ≡ true) ⊎ (f n ≡ false) → (q < length (numbers_where f n)) ⊎ (length (numbers_where f n) ≤ q) → (q < length (numbers_where f n) → take q (numbers_where f n) ≡ numbers_where f (get_or (numbers_where f n) q 0)) → q < length (numbers_where f n ++ cond (f n) (n ∷ []) []) → take q (numbers_where f n ++ cond (f n) (n ∷ []) []) ≡ numbers_where f (get_or (numbers_where f n ++ cond (f n) (n ∷ []) []) q 0)
    go e (inl below) ih within =
        let here : get_or (numbers_where f n ++ cond (f n) (n ∷ []) []) q 0 ≡ get_or (numbers_where f n) q 0 = get_or_append_left (numbers_where f n) (cond (f n) (n ∷ []) []) 0 q below in
        take-append-le q (numbers_where f n) (cond (f n) (n ∷ []) []) (omega arith) ∙ (ih below ∙ ap (λ (m : ℕ). numbers_where f m) (sym here))
    go (inl e) (inr past) ih within =
        let size : length (numbers_where f n ++ cond (f n) (n ∷ []) []) ≡ length (numbers_where f n) + 1 = rw e (length_push (numbers_where f n) n) in
        let at : length (numbers_where f n) ≡ q = omega (arith, size) in
        let here : get_or (numbers_where f n ++ cond (f n) (n ∷ []) []) q 0 ≡ n = rw e (get_or_push (numbers_where f n) n 0 q at) in
        take_at (numbers_where f n) (cond (f n) (n ∷ []) []) q at ∙ ap (λ (m : ℕ). numbers_where f m) (sym here)
    go (inr e) (inr past) ih within = absurd (let size : length (numbers_where f n ++ cond (f n) (n ∷ []) []) ≡ length (numbers_where f n) = rw (e, append-nil) refl in omega (arith, size))

pub race_accesses : (trace : List Event) (x i j : ℕ) → variable_at trace j ≡ Some x → is_race trace i j ≡ true → accesses_at trace x i ≡ true
race_accesses trace x i j of_j h = grind (arith, common_steps, reflect_race, test_from_access)

-- the races of a run, one access more
pub races_more : (trace : List Event) (xs : List ℕ) (from q : ℕ) → from ≤ q → q < length xs → flat_map (races_with trace) (take ((q + 1) - from) (drop from xs)) ≡ flat_map (races_with trace) (take (q - from) (drop from xs)) ++ races_with trace (get_or xs q 0)
races_more trace xs from q le lt =
    let size = length-drop from xs in
    let one : take ((q + 1) - from) (drop from xs) ≡ take (q - from) (drop from xs) ++ get_or xs q 0 ∷ [] =
    (let e : (q + 1) - from ≡ (q - from) + 1 = omega arith in
    let there : get_or (drop from xs) (q - from) 0 ≡ get_or xs q 0 = get_or-drop from xs (q - from) 0 ∙ ap (λ (m : ℕ). get_or xs m 0) (let s : from + (q - from) ≡ q = omega arith in s) in
    rw e (take_more (drop from xs) (q - from) 0 (omega (arith, size)) ∙ ap (λ (y : ℕ). take (q - from) (drop from xs) ++ y ∷ []) there)) in
    ap (λ (ys : List ℕ). flat_map (races_with trace) ys) one ∙ (flat_map-append (races_with trace) (take (q - from) (drop from xs)) (get_or xs q 0 ∷ []) ∙ ap (λ (ps : List (ℕ × ℕ)). flat_map (races_with trace) (take (q - from) (drop from xs)) ++ ps) (append-nil (races_with trace (get_or xs q 0))))

-- the accesses before the one at q, and its variable
pub access_front : (trace : List Event) (x q : ℕ) → q < length (accesses_in trace x) → (variable_at trace (get_or (accesses_in trace x) q 0) ≡ Some x) × (take q (accesses_in trace x) ≡ numbers_where (accesses_at trace x) (get_or (accesses_in trace x) q 0)) × (get_or (accesses_in trace x) q 0 < length trace)
access_front trace x q lt =
    let member = ((numbers_listed (accesses_at trace x) (length trace)).members (get_or (accesses_in trace x) q 0)).0 (Contains-get_or (accesses_in trace x) q 0 lt) in
    (access_from_test trace x (get_or (accesses_in trace x) q 0) member.1, numbers_front (accesses_at trace x) (length trace) q lt, member.0)

-- a run is pushed
pub piece_pushed : (old pieces new : List Piece) (x n k m : ℕ) → new ≡ pieces ++ record { variable = x; from = 64 * k; to = 64 * k + m } ∷ [] → m ≡ min (n - 64 * k) 64 → pieces ≡ old ++ first_pieces x n k → new ≡ old ++ first_pieces x n (k + 1)
piece_pushed old pieces new x n k m is least so = grind (arith, common_steps, append_assoc, first_more)

-- piece k, and its races
pub piece_known : (a : OpenTrace) (k : ℕ) (piece : Piece) → k < length (pieces_in a) → piece ≡ piece_at (pieces_in a) k → IsPieceOf a.trace a.flags piece
piece_known a k piece lt own = subst (IsPieceOf a.trace a.flags) (sym own) (piece_within a k _ lt)

pub piece_races : (a : OpenTrace) (k : ℕ) (p : Piece) → p ≡ piece_at (pieces_in a) k → races_at a k ≡ flat_map (races_with a.trace) (slice_range (accesses_in a.trace p.variable) p.from p.to)
unfolding races_at races_of
piece_races a k p own = ap (λ (q : Piece). flat_map (races_with a.trace) (slice_range (accesses_in a.trace q.variable) q.from q.to)) (sym own)

-- the accesses that the job of an open variable goes over
pub seen_accesses : (a seen : OpenTrace) (x : ℕ) (accesses : List ℕ) → a ≡ seen → is_open seen.flags x ≡ true → accesses ≡ listed_accesses a x → accesses ≡ accesses_in seen.trace x
seen_accesses a seen x accesses same opened is = is ∙ (ap (λ (b : OpenTrace). listed_accesses b x) same ∙ listed_open seen x opened)

-- one of them: the accesses before it are those of its variable, and the order can be asked about it
pub record IsAccess (trace : List Event) (asks : ℕ → Bool) (x q : ℕ) (accesses : List ℕ) : Type 0 where
  pub in_range : get_or accesses q 0 < length trace
  pub asked : asks (get_or accesses q 0) ≡ true
  pub variable : variable_at trace (get_or accesses q 0) ≡ Some x
  pub earlier : take q accesses ≡ numbers_where (accesses_at trace x) (get_or accesses q 0)

known_access : (a : OpenTrace) (asks : ℕ → Bool) (x q : ℕ) → AsksOpen asks a.flags a.trace → is_open a.flags x ≡ true → q < length (accesses_in a.trace x) → IsAccess a.trace asks x q (accesses_in a.trace x)
known_access a asks x q asked opened lt =
    let front = access_front a.trace x q lt in
    record { in_range = front.2; asked = asked (get_or (accesses_in a.trace x) q 0) x front.0 opened; variable = front.0; earlier = front.1 }

pub piece_access : (a seen : OpenTrace) (trace : List Event) (asks : ℕ → Bool) (x q to : ℕ) (accesses : List ℕ) → a ≡ seen → a.trace ≡ trace → AsksOpen asks a.flags trace → is_open seen.flags x ≡ true → to ≤ length (accesses_in seen.trace x) → q < to → accesses ≡ listed_accesses a x → IsAccess trace asks x q accesses
piece_access a seen trace asks x q to accesses same of_trace asked opened within lt is =
    let here = seen_accesses a seen x accesses same opened is in
    let of_seen : trace ≡ seen.trace = sym of_trace ∙ ap (λ (b : OpenTrace). b.trace) same in
    let asked_seen : AsksOpen asks seen.flags seen.trace = subst (λ (tr : List Event). AsksOpen asks seen.flags tr) of_seen (subst (λ (b : OpenTrace). AsksOpen asks b.flags trace) same asked) in
    subst (λ (tr : List Event). IsAccess tr asks x q accesses) (sym of_seen) (subst (λ (ks : List ℕ). IsAccess seen.trace asks x q ks) (sym here) (known_access seen asks x q asked_seen opened (omega (arith, lt, within))))

-- the races of one access of a piece more, and of all
pub piece_more : (a seen : OpenTrace) (trace : List Event) (x from q to : ℕ) (accesses : List ℕ) (old new : List (ℕ × ℕ)) → a ≡ seen → a.trace ≡ trace → is_open seen.flags x ≡ true → to ≤ length (accesses_in seen.trace x) → from ≤ q → q < to → accesses ≡ listed_accesses a x → old ≡ flat_map (races_with seen.trace) (take (q - from) (drop from accesses)) → new ≡ old ++ races_with trace (get_or accesses q 0) → new ≡ flat_map (races_with seen.trace) (take ((q + 1) - from) (drop from accesses))
piece_more a seen trace x from q to accesses old new same of_trace opened within le lt is so added =
    let long = ap length (seen_accesses a seen x accesses same opened is) in
    let of_seen : trace ≡ seen.trace = sym of_trace ∙ ap (λ (b : OpenTrace). b.trace) same in
    added
    ∙ (ap (λ (ps : List (ℕ × ℕ)). ps ++ races_with trace (get_or accesses q 0)) so
    ∙ (ap (λ (tr : List Event). flat_map (races_with seen.trace) (take (q - from) (drop from accesses)) ++ races_with tr (get_or accesses q 0)) of_seen
    ∙ sym (races_more seen.trace accesses from q le (omega (arith, lt, within, long)))))

pub piece_whole : (a seen : OpenTrace) (x from q to : ℕ) (accesses : List ℕ) (found races : List (ℕ × ℕ)) → a ≡ seen → is_open seen.flags x ≡ true → accesses ≡ listed_accesses a x → q ≡ to → found ≡ flat_map (races_with seen.trace) (take (q - from) (drop from accesses)) → races ≡ flat_map (races_with seen.trace) (slice_range (accesses_in seen.trace x) from to) → found ≡ races
piece_whole a seen x from q to accesses found races same opened is end so value =
    so
    ∙ (ap (λ (ks : List ℕ). flat_map (races_with seen.trace) (take (q - from) (drop from ks))) (seen_accesses a seen x accesses same opened is)
    ∙ (ap (λ (n : ℕ). flat_map (races_with seen.trace) (take (n - from) (drop from (accesses_in seen.trace x)))) end ∙ sym value))
