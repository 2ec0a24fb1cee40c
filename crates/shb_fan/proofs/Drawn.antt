-- Rising lists of all numbers below a bound are what as many draws leave.
use Rattle.std.proofs.Common.{◌≡◌, ◌≢◌, ℕ, zero, suc, ◌+◌, ◌<◌, ◌≤◌, ◌⊎◌, inl, inr, true, false, ltb, cond, List, [], ◌∷◌, ◌++◌, Some, length, map, take, get_or, set, replicate, sum_by, refl, sym, ◌∙◌, ap, arith, subst}
use Rattle.std.specs.Prelude.{slice_get, Contains}
use Rattle.std.specs.List.Sorted.{IsStrictlyIncreasing}
use Rattle.std.proofs.lemmas.Bool.{cases_eq, cases_lt, cases_order, eq-eqb, ne_eqb}
use Rattle.std.proofs.lemmas.Bool.Decides.{nat_tests}
use Rattle.std.proofs.lemmas.List.{length-map, length-replicate, length_push, get_or_push, take_all, take_more}
use Rattle.std.proofs.lemmas.List.Sums.{sum_by-cons}
use Rattle.std.proofs.Math.ListN.{get_or-append}
use Rattle.std.proofs.lemmas.Option.{slice_get_within, get_or_from_slice_get, slice_get-get_or}
use Rattle.shb_fan.specs.declared.step.PieceState.TheVariants.{Empty}
use Rattle.shb_fan.specs.declared.step.Step.{Step}
use Rattle.shb_fan.specs.declared.step.Step.TheVariants.{Draw, Stop}
use Rattle.shb_fan.specs.Turns.{AreDrawn, AreDraws, IsDrawer, drawn_state}
use Rattle.shb_fan.specs.Machine.{ActorState, State, Allowed, Runs, after, after_draw, new_actor, start}
use Rattle.shb_fan.specs.Numbers.{weight, times, once_below}
use Rattle.shb_fan.proofs.Counts.{rising_tail}
use Rattle.shb_fan.proofs.Starts.{first_more}

lt-true : (a b : ℕ) → a < b → ltb a b ≡ true
lt-true a b h = grind (arith, nat_tests)

pub lt-false : (a b : ℕ) → b ≤ a → ltb a b ≡ false
lt-false a b h = grind (arith, nat_tests)

-- the numbers of a list that are below m
abbrev below : ℕ → List ℕ → List ℕ
below m [] = []
below m (x ∷ xs) = cond (ltb x m) (x ∷ below m xs) (below m xs)

-- one number of a list
times-other : (m x : ℕ) (xs : List ℕ) → m ≢ x → times m (x ∷ xs) ≡ times m xs
times-other m x xs ne = let e = ap weight (ne_eqb m x ne) in omega (arith, e)

times-same : (m x : ℕ) (xs : List ℕ) → m ≡ x → times m (x ∷ xs) ≡ 1 + times m xs
times-same m x xs same = let e = ap weight (eq-eqb m x same) in omega (arith, e)

times-none : (m : ℕ) (xs : List ℕ) → ((k : ℕ) → k < length xs → m < get_or xs k 0) → times m xs ≡ 0
times-none m [] all = refl
times-none m (x ∷ xs) all =
    let here = all 0 (omega arith) in
    let rest = times-none m xs (λ k lt. all (suc k) (omega (arith, lt))) in
    times-other m x xs (λ same. omega (arith, here, same)) ∙ rest

times-at : (xs : List ℕ) (k : ℕ) → k < length xs → 0 < times (get_or xs k 0) xs
times-at [] k lt = absurd (omega (arith, lt))
times-at (x ∷ xs) zero lt = let one = times-same x x xs refl in omega (arith, one)
times-at (x ∷ xs) (suc k) lt = let rest = times-at xs k (omega (arith, lt)) in omega (arith, rest)

contains-times : (xs : List ℕ) (m k : ℕ) → k < length xs → get_or xs k m ≡ m → 0 < times m xs
contains-times [] m k lt is = absurd (omega (arith, lt))
contains-times (x ∷ xs) m zero lt is = let one = times-same m x xs (sym is) in omega (arith, one)
contains-times (x ∷ xs) m (suc k) lt is = let rest = contains-times xs m k (omega (arith, lt)) is in omega (arith, rest)

times-contains : (xs : List ℕ) (m : ℕ) → 0 < times m xs → Contains xs m
times-contains [] m some = absurd (omega (arith, some))
times-contains (x ∷ xs) m some = go (cases_eq m x) (times-contains xs m)
  where
    later : Contains xs m → Contains (x ∷ xs) m
    later c = (suc c.0, (let lt = c.1 in omega (arith, lt)), c.2)

    go : (m ≡ x) ⊎ (m ≡ x → ⊥) → (0 < times m xs → Contains xs m) → Contains (x ∷ xs) m
    go (inl same) rest = (0, omega arith, sym same)
    go (inr ne) rest = later (rest (let e = times-other m x xs ne in omega (arith, e, some)))

-- the numbers below m, one number more
below-none : (m : ℕ) (xs : List ℕ) → ((k : ℕ) → k < length xs → m ≤ get_or xs k 0) → below m xs ≡ []
below-none m [] all = refl
below-none m (x ∷ xs) all = rw (lt-false x m (all 0 (omega arith))) (below-none m xs (λ k lt. all (suc k) (omega (arith, lt))))

below-all : (m : ℕ) (xs : List ℕ) → ((k : ℕ) → k < length xs → get_or xs k 0 < m) → below m xs ≡ xs
below-all m [] all = refl
below-all m (x ∷ xs) all = rw (lt-true x m (all 0 (omega arith))) (ap (λ (ys : List ℕ). x ∷ ys) (below-all m xs (λ k lt. all (suc k) (omega (arith, lt)))))

below-same : (m : ℕ) (xs : List ℕ) → times m xs ≡ 0 → below (m + 1) xs ≡ below m xs
below-same m [] none = refl
below-same m (x ∷ xs) none = go (cases_order x m) (below-same m xs (omega (arith, none)))
  where
    go : (x ≡ m) ⊎ ((x < m) ⊎ (m < x)) → below (m + 1) xs ≡ below m xs → below (m + 1) (x ∷ xs) ≡ below m (x ∷ xs)
    go (inl same) rest = absurd (let one = times-same m x xs (sym same) in omega (arith, one, none))
    go (inr (inl lt)) rest = rw (lt-true x m lt, lt-true x (m + 1) (omega (arith, lt))) (ap (λ (ys : List ℕ). x ∷ ys) rest)
    go (inr (inr gt)) rest = rw (lt-false x m (omega (arith, gt)), lt-false x (m + 1) (omega (arith, gt))) rest

rising-first : (x : ℕ) (xs : List ℕ) → IsStrictlyIncreasing (x ∷ xs) → (k : ℕ) → k < length xs → x < get_or xs k 0
rising-first x xs rising zero lt = rising 0 (omega (arith, lt))
rising-first x xs rising (suc k) lt =
    let before = rising-first x xs rising k (omega (arith, lt)) in
    let next : get_or xs k 0 < get_or xs (suc k) 0 = subst (λ (n : ℕ). get_or xs k 0 < get_or (x ∷ xs) n 0) (let e : suc k + 1 ≡ suc (suc k) = omega arith in e) (rising (suc k) (omega (arith, lt))) in
    omega (arith, before, next)

below-next : (m : ℕ) (xs : List ℕ) → IsStrictlyIncreasing xs → 0 < times m xs → below (m + 1) xs ≡ below m xs ++ m ∷ []
below-next m [] rising some = absurd (omega (arith, some))
below-next m (x ∷ xs) rising some = go (cases_order x m) (below-next m xs (rising_tail x xs rising))
  where
    above : (k : ℕ) → k < length xs → x < get_or xs k 0
    above = rising-first x xs rising

    go : (x ≡ m) ⊎ ((x < m) ⊎ (m < x)) → (0 < times m xs → below (m + 1) xs ≡ below m xs ++ m ∷ []) → below (m + 1) (x ∷ xs) ≡ below m (x ∷ xs) ++ m ∷ []
    go (inl same) rest =
        rw (lt-false x m (omega (arith, same)), lt-true x (m + 1) (omega (arith, same)))
        (ap (λ (ys : List ℕ). x ∷ ys) (below-none (m + 1) xs (λ k lt. let a = above k lt in omega (arith, a, same))) ∙ (ap (λ (n : ℕ). n ∷ []) same ∙ sym (ap (λ (ys : List ℕ). ys ++ m ∷ []) (below-none m xs (λ k lt. let a = above k lt in omega (arith, a, same))))))
    go (inr (inl lt)) rest = rw (lt-true x m lt, lt-true x (m + 1) (omega (arith, lt))) (ap (λ (ys : List ℕ). x ∷ ys) (rest (let e = times-other m x xs (λ same. omega (arith, lt, same)) in omega (arith, e, some))))
    go (inr (inr gt)) rest = absurd (let e = times-other m x xs (λ same. omega (arith, gt, same)) in let none = times-none m xs (λ k lt. let a = above k lt in omega (arith, a, gt)) in omega (arith, e, none, some))

-- an actor that drew the numbers of its list that are below m
abbrev actor_at : ℕ → List ℕ → ActorState
actor_at m xs = record { drawn = below m xs; spent = false }

abbrev whole_actor : List ℕ → ActorState
whole_actor xs = record { drawn = xs; spent = false }

abbrev state_at : List (List ℕ) → ℕ → ℕ → State
state_at lists m pieces = record { next = m; actors = map (actor_at m) lists; pieces = replicate pieces Empty; taken = 0; stopped = false }

one_le_sum : (m : ℕ) (lists : List (List ℕ)) (a : ℕ) → a < length lists → times m (get_or lists a []) ≤ sum_by (times m) lists
one_le_sum m [] a lt = absurd (omega (arith, lt))
one_le_sum m (xs ∷ lists) zero lt = let c = sum_by-cons (times m) xs lists in omega (arith, c)
one_le_sum m (xs ∷ lists) (suc a) lt = let c = sum_by-cons (times m) xs lists in let rest = one_le_sum m lists a (omega (arith, lt)) in omega (arith, c, rest)

lists-same : (m : ℕ) (lists : List (List ℕ)) → sum_by (times m) lists ≡ 0 → map (actor_at (m + 1)) lists ≡ map (actor_at m) lists
lists-same m [] none = refl
lists-same m (xs ∷ lists) none =
    let c = sum_by-cons (times m) xs lists in
    let here = below-same m xs (omega (arith, c, none)) in
    let rest = lists-same m lists (omega (arith, c, none)) in
    λ i. whole_actor (here i) ∷ rest i

lists-next : (m : ℕ) (lists : List (List ℕ)) (a : ℕ) → ((b : ℕ) → IsStrictlyIncreasing (get_or lists b [])) → a < length lists → 0 < times m (get_or lists a []) → sum_by (times m) lists ≡ 1
    → map (actor_at (m + 1)) lists ≡ set (map (actor_at m) lists) a (whole_actor (below m (get_or lists a []) ++ m ∷ []))
lists-next m [] a rising lt some one = absurd (omega (arith, lt))
lists-next m (xs ∷ lists) zero rising lt some one =
    let c = sum_by-cons (times m) xs lists in
    let here = below-next m xs (rising 0) some in
    let rest = lists-same m lists (omega (arith, c, one, some)) in
    λ i. whole_actor (here i) ∷ rest i
lists-next m (xs ∷ lists) (suc a) rising lt some one =
    let c = sum_by-cons (times m) xs lists in
    let le = one_le_sum m lists a (omega (arith, lt)) in
    let here = below-same m xs (omega (arith, c, one, some, le)) in
    let rest = lists-next m lists a (λ b. rising (suc b)) (omega (arith, lt)) some (omega (arith, c, one, some, le)) in
    λ i. whole_actor (here i) ∷ rest i

actor_there : (m : ℕ) (lists : List (List ℕ)) (a : ℕ) → a < length lists → get_or (map (actor_at m) lists) a new_actor ≡ actor_at m (get_or lists a [])
actor_there m [] a lt = absurd (omega (arith, lt))
actor_there m (xs ∷ lists) zero lt = refl
actor_there m (xs ∷ lists) (suc a) lt = actor_there m lists a (omega (arith, lt))

below-zero : (xs : List ℕ) → below 0 xs ≡ []
below-zero xs = below-none 0 xs (λ k lt. omega arith)

lists-start : (lists : List (List ℕ)) → map (actor_at 0) lists ≡ replicate (length lists) new_actor
lists-start [] = refl
lists-start (xs ∷ lists) = λ i. whole_actor (below-zero xs i) ∷ lists-start lists i

lists-end : (n : ℕ) (lists : List (List ℕ)) → ((y : ℕ) → 0 < sum_by (times y) lists → y < n) → map (actor_at n) lists ≡ map whole_actor lists
lists-end n [] low = refl
lists-end n (xs ∷ lists) low =
    let here = below-all n xs (λ k lt. low (get_or xs k 0) (let c = sum_by-cons (times (get_or xs k 0)) xs lists in let some = times-at xs k lt in omega (arith, c, some))) in
    let rest = lists-end n lists (λ y some. low y (let c = sum_by-cons (times y) xs lists in omega (arith, c, some))) in
    λ i. whole_actor (here i) ∷ rest i

once-yes : (x n : ℕ) → x < n → once_below x n ≡ 1
once-yes x n h = ap weight (lt-true x n h)

once-no : (x n : ℕ) → n ≤ x → once_below x n ≡ 0
once-no x n h = ap weight (lt-false x n h)

module _ (lists : List (List ℕ)) (n : ℕ) (drawn : AreDrawn lists n) where
  contained : (m a : ℕ) → IsDrawer lists m a → 0 < times m (get_or lists a [])
  contained m a h = contains-times (get_or lists a []) m h.drew.0 h.drew.1 h.drew.2

  module _ (pieces : ℕ) (le : n ≤ pieces) where
    allowed : (m a : ℕ) → m < n → IsDrawer lists m a → Allowed (state_at lists m pieces) (Draw a)
    allowed m a lt h = (
      (let long = length-map lists (actor_at m) in let inside = h.actor in omega (arith, long, inside)),
      ap (λ (x : ActorState). x.spent) (actor_there m lists a h.actor),
    )

    drew : (m a : ℕ) → m < n → IsDrawer lists m a → after_draw m (length (replicate pieces Empty)) (get_or (map (actor_at m) lists) a new_actor) ≡ whole_actor (below m (get_or lists a []) ++ m ∷ [])
    drew m a lt h =
        let long = length-replicate pieces Empty in
        let goes = lt-true m (length (replicate pieces Empty)) (omega (arith, long, lt, le)) in
        rw (actor_there m lists a h.actor, goes) refl

    leads : (m a : ℕ) → m < n → IsDrawer lists m a → after (state_at lists m pieces) (Draw a) ≡ state_at lists (m + 1) pieces
    leads m a lt h =
        let next = lists-next m lists a drawn.rising h.actor (contained m a h) (drawn.each_once m ∙ once-yes m n lt) in
        let step = drew m a lt h in
        ap (λ (actors : List ActorState). record { next = m + 1; actors = actors; pieces = replicate pieces Empty; taken = 0; stopped = false }) (ap (λ (x : ActorState). set (map (actor_at m) lists) a x) step ∙ sym next)

    module _ (steps : List Step) (draws : AreDraws lists n steps) where
      front : (m : ℕ) → m ≤ n → Runs (start (length lists) pieces) (take m steps) (state_at lists m pieces)
      front zero small = ap (λ (actors : List ActorState). record { next = 0; actors = actors; pieces = replicate pieces Empty; taken = 0; stopped = false }) (lists-start lists)
      front (suc m) small =
          let found = draws.each m (omega (arith, small)) in
          let within = slice_get_within steps m (Draw found.0) found.1 in
          let before = front m (omega (arith, small)) in
          let one = first_more (take m steps) (start (length lists) pieces) (state_at lists m pieces) (Draw found.0) before (allowed m found.0 (omega (arith, small)) found.2) in
          let more : take (m + 1) steps ≡ take m steps ++ Draw found.0 ∷ [] = take_more steps m (Draw found.0) within ∙ ap (λ (x : Step). take m steps ++ x ∷ []) (get_or_from_slice_get steps m (Draw found.0) (Draw found.0) found.1) in
          let up : m + 1 ≡ suc m = omega arith in
          subst (λ (k : ℕ). Runs (start (length lists) pieces) (take k steps) (state_at lists k pieces)) up
          (subst (λ (xs : List Step). Runs (start (length lists) pieces) xs (state_at lists (m + 1) pieces)) (sym more)
          (subst (λ (s : State). Runs (start (length lists) pieces) (take m steps ++ Draw found.0 ∷ []) s) (leads m found.0 (omega (arith, small)) found.2) one))

      low : (y : ℕ) → 0 < sum_by (times y) lists → (y < n) ⊎ (n ≤ y) → y < n
      low y some (inl lt) = lt
      low y some (inr ge) = absurd (let is = drawn.each_once y in let none = once-no y n ge in omega (arith, is, none, some))

      pub lead : Runs (start (length lists) pieces) steps (drawn_state lists n pieces false)
      lead =
          let whole : take n steps ≡ steps = take_all n steps (let long = draws.as_long in omega (arith, long)) in
          let ended = lists-end n lists (λ y some. low y some (cases_lt y n)) in
          subst (λ (xs : List Step). Runs (start (length lists) pieces) xs (drawn_state lists n pieces false)) whole
          (subst (λ (actors : List ActorState). Runs (start (length lists) pieces) (take n steps) record { next = n; actors = actors; pieces = replicate pieces Empty; taken = 0; stopped = false }) ended (front n (omega arith)))

      pub stop : (a : ℕ) → a < length lists → Runs (start (length lists) pieces) (steps ++ Stop a ∷ []) (drawn_state lists n pieces true)
      stop a inside = first_more steps (start (length lists) pieces) (drawn_state lists n pieces false) (Stop a) lead (let long = length-map lists whole_actor in omega (arith, long, inside))

-- some list has a number that the lists have
some_drawer : (m : ℕ) (lists : List (List ℕ)) → 0 < sum_by (times m) lists → (a : ℕ) × IsDrawer lists m a
some_drawer m [] some = absurd (omega (arith, some))
some_drawer m (xs ∷ lists) some = go (cases_lt 0 (times m xs)) (some_drawer m lists)
  where
    later : (a : ℕ) × IsDrawer lists m a → (a : ℕ) × IsDrawer (xs ∷ lists) m a
    later found = (suc found.0, record { actor = (let lt = found.1.actor in omega (arith, lt)); drew = found.1.drew })

    go : (0 < times m xs) ⊎ (times m xs ≤ 0) → (0 < sum_by (times m) lists → (a : ℕ) × IsDrawer lists m a) → (a : ℕ) × IsDrawer (xs ∷ lists) m a
    go (inl here) rest = (0, record { actor = omega arith; drew = times-contains xs m here })
    go (inr none) rest = later (rest (let c = sum_by-cons (times m) xs lists in omega (arith, c, none, some)))

-- one draw more
module _ (lists : List (List ℕ)) (n : ℕ) (drawn : AreDrawn lists n) where
  draws_more : (m : ℕ) (steps : List Step) (a : ℕ) → IsDrawer lists m a → AreDraws lists m steps → AreDraws lists (suc m) (steps ++ Draw a ∷ [])
  draws_more m steps a here draws = record {
    as_long = (let long = length_push steps (Draw a) in let old = draws.as_long in omega (arith, long, old));
    each = λ k lt. go k (cases_lt k m) lt;
  }
    where
      low : (k : ℕ) → k < suc m → k < length (steps ++ Draw a ∷ [])
      low k lt = let long = length_push steps (Draw a) in let old = draws.as_long in omega (arith, long, old, lt)

      go : (k : ℕ) → (k < m) ⊎ (m ≤ k) → k < suc m → (b : ℕ) × (slice_get (steps ++ Draw a ∷ []) k ≡ Some (Draw b)) × IsDrawer lists k b
      go k (inl before) lt =
          let found = draws.each k before in
          let at = slice_get-get_or (steps ++ Draw a ∷ []) k (Draw found.0) (low k lt) in
          let same = get_or-append steps (Draw a ∷ []) (Draw found.0) k (slice_get_within steps k (Draw found.0) found.1) in
          let is = get_or_from_slice_get steps k (Draw found.0) (Draw found.0) found.1 in
          (found.0, at ∙ ap (λ (x : Step). Some x) (same ∙ is), found.2)
      go k (inr past) lt =
          let same : m ≡ k = omega (arith, past, lt) in
          let at = slice_get-get_or (steps ++ Draw a ∷ []) k (Draw a) (low k lt) in
          let is = get_or_push steps (Draw a) (Draw a) k (draws.as_long ∙ same) in
          (a, at ∙ ap (λ (x : Step). Some x) is, subst (λ (j : ℕ). IsDrawer lists j a) same here)

  exists_to : (m : ℕ) → m ≤ n → (steps : List Step) × AreDraws lists m steps
  exists_to zero le = ([], record { as_long = refl; each = λ k lt. absurd (omega (arith, lt)) })
  exists_to (suc m) le =
      let before = exists_to m (omega (arith, le)) in
      let drawer = some_drawer m lists (let is = drawn.each_once m in let one = once-yes m n (omega (arith, le)) in omega (arith, is, one)) in
      (before.0 ++ Draw drawer.0 ∷ [], draws_more m before.0 drawer.0 drawer.1 before.1)

  pub exist : (steps : List Step) × AreDraws lists n steps
  exist = exists_to n (omega arith)
