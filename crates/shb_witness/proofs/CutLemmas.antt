-- The greater of two answers of an order is a cut, and nothing after a predecessor is below it.
use Rattle.std.proofs.Common.{◌≡◌, ℕ, zero, suc, ◌+◌, ◌-◌, ◌<◌, ◌≤◌, ◌⊎◌, inl, inr, List, [], ◌∷◌, ◌++◌, Err, Global, Ok, Result, Some, Vec, length, get_or, refl, subst, sym, ap, arith, ◌∙◌}
use Rattle.std.specs.Prelude.{Contains, IfOk, max, replicate, ◌↔◌}
use Rattle.shb_witness.proofs.Words.{AreOfThreads, AreRaisedCounts, AreWithinCuts, BelowEither, Contains-append_cases, Contains-append_left, Contains-append_right, Contains-get_or, EndsBefore, Event, HasCuts, IsCut, IsListed, IsPrintedSchedule, IsRest, IsStrictlyIncreasing, IsWithin, IsWithinCut, IsWithinCuts, NoMemory, Reach, Sizes, below_from_local, below_pred_in_range, cases_lt, get_or-append, get_or-append_right, get_or-replicate, length-append, length-replicate, listed_more_yes, listed_none, local_from_below, local_time, range_with_len, thread_at, thread_item, thread_within}
use Rattle.shb_lines.specs.declared.event.Op.TheVariants.{Read}
use Rattle.shb_lines.specs.events.Order.{IsBelowPredCount}
use Rattle.shb_positions.proofs.RunLemmas.{range_more}
use Rattle.shb_witness.proofs.Grouping.{time_of}

pub cut_is : (trace ordered : List Event) (i j t n m : ℕ) → ordered ≡ trace → IsBelowPredCount ordered t i n → IsBelowPredCount ordered t j m → IsCut trace i j t (max n m)
cut_is trace ordered i j t n m same first second k of_k = (below, within)
  where
    first_count : IsBelowPredCount trace t i n
    first_count = subst (λ (tr : List Event). IsBelowPredCount tr t i n) same first

    second_count : IsBelowPredCount trace t j m
    second_count = subst (λ (tr : List Event). IsBelowPredCount tr t j m) same second

    below : local_time trace t k ≤ max n m → BelowEither trace i j k
    below le = elim (cases_lt n (local_time trace t k)) [
      | inl above ↦ inr (below_from_local trace t j m second_count k of_k (omega arith))
      | inr low ↦ inl (below_from_local trace t i n first_count k of_k low)
    ]

    within : BelowEither trace i j k → local_time trace t k ≤ max n m
    within (inl h) = let le = local_from_below trace t i n first_count k of_k h in omega (arith, le)
    within (inr h) = let le = local_from_below trace t j m second_count k of_k h in omega (arith, le)

-- zeros that are raised to what is below the one predecessor, and then to what is below the other
pub cuts_raised : (trace ordered : List Event) (i j n : ℕ) (first both : List ℕ) → ordered ≡ trace → AreRaisedCounts ordered i (replicate n 0) first → AreRaisedCounts ordered j first both → HasCuts trace i j n both
cuts_raised trace ordered i j n first both same one other = record {
  as_long = other.as_long ∙ long;
  each = λ t lt.
      let a = one.each t (subst (λ (m : ℕ). t < m) (sym (length-replicate {A = ℕ} n 0)) lt) in
      let b = other.each t (subst (λ (m : ℕ). t < m) (sym long) lt) in
      let none = get_or-replicate {A = ℕ} n t 0 0 lt in
      subst (λ (cut : ℕ). IsCut trace i j t cut) (let old = a.raised in let new = b.raised in omega (arith, none, old, new)) (cut_is trace ordered i j t a.count b.count same a.is b.is);
}
  where
    long : length first ≡ n
    long = one.as_long ∙ length-replicate {A = ℕ} n 0

-- the test of an event
pub within_test : (trace linked : List Event) (cuts : List ℕ) (k t time : ℕ) → linked ≡ trace → thread_at trace k ≡ Some t → ((u : ℕ) → thread_at linked k ≡ Some u → time ≡ local_time linked u k) → (time ≤ get_or cuts t 0) ↔ IsWithinCuts trace cuts k
within_test trace linked cuts k t time same of_k times = (
  (λ le. record { thread = t; of = of_k; within = (let is = own in omega (arith, le, is)) }),
  (λ h. (let le = subst (λ (u : ℕ). local_time trace u k ≤ get_or cuts u 0) (thread_same h) h.within in let is = own in omega (arith, le, is))),
)
  where
    own : time ≡ local_time trace t k
    own = time_of trace linked k t time same of_k times

    thread_same : (h : IsWithinCuts trace cuts k) → h.thread ≡ t
    thread_same h = let e : Some h.thread ≡ Some t = sym h.of ∙ of_k in cc

-- all numbers below n
all_listed : (P : ℕ → Type 0) (n : ℕ) → ((k : ℕ) → k < n → P k) → IsListed P n (range_with_len 0 n)
all_listed P zero all = listed_none P
all_listed P (suc n) all =
    let before = all_listed P n (λ k lt. all k (omega (arith, lt))) in
    let more : IsListed P (n + 1) (range_with_len 0 n ++ n ∷ []) = listed_more_yes P n (range_with_len 0 n) (all n (omega arith)) before in
    let on : n + 1 ≡ suc n = omega arith in
    subst (λ (m : ℕ). IsListed P m (range_with_len 0 m)) on (subst (λ (l : List ℕ). IsListed P (n + 1) l) (sym (range_more 0 n (n + 1) n (omega arith) refl)) more)

-- the front is all events before a position
pub front_listed : (trace : List Event) (cuts : List ℕ) (n : ℕ) → n ≤ length trace → Reach trace n cuts → IsListed (IsWithinCuts trace cuts) n (range_with_len 0 n)
front_listed trace cuts n inside reached = all_listed (IsWithinCuts trace cuts) n (λ k lt. (
    let d : Event = record { thread = 0; op = Read 0; line = 0 } in
    let of = thread_item trace k d (omega (arith, lt, inside)) in
    record { thread = (get_or trace k d).thread; of = of; within = reached k _ lt of }))

-- all of them are found before the end
pub found_all : (trace : List Event) (cuts s : List ℕ) (end : ℕ) → EndsBefore trace end cuts → IsListed (IsWithinCuts trace cuts) end s → AreWithinCuts trace cuts s
found_all trace cuts s end above found = record {
  rising = found.rising;
  members = λ k. ((λ c. ((found.members k).0 c).1), (λ h. (found.members k).1 (above k h, h)));
}

-- one thread more, whose events from the front on are added
pub rest_more : (trace : List Event) (cuts old part events grown : List ℕ) (front n : ℕ) → ((k : ℕ) → Contains old k ↔ IsRest trace cuts front n k) → ((k : ℕ) → Contains part k ↔ ((front ≤ k) × Contains events k)) → ((k : ℕ) → Contains events k ↔ IsWithinCut trace n (get_or cuts n 0) k) → grown ≡ old ++ part
    → (k : ℕ) → Contains grown k ↔ IsRest trace cuts front (n + 1) k
rest_more trace cuts old part events grown front n before new those is k = subst (λ (l : List ℕ). Contains l k ↔ IsRest trace cuts front (n + 1) k) (sym is) (there, back)
  where
    there : Contains (old ++ part) k → IsRest trace cuts front (n + 1) k
    there c = elim (Contains-append_cases old part k c) [
      | inl h ↦ (let rest = (before k).0 h in record { is = rest.is; from = rest.from; low = (let lt = rest.low in omega (arith, lt)) })
      | inr h ↦ (let own = (new k).0 h in let known = (those k).0 own.1 in record { is = record { thread = n; of = known.0; within = known.1 }; from = own.0; low = omega arith })
    ]

    back : IsRest trace cuts front (n + 1) k → Contains (old ++ part) k
    back h = elim (cases_lt h.is.thread n) [
      | inl earlier ↦ Contains-append_left old part k ((before k).1 (record { is = h.is; from = h.from; low = earlier }))
      | inr last ↦
          (let lt = h.low in
          let here : h.is.thread ≡ n = omega (arith, lt, last) in
          Contains-append_right old part k ((new k).1 (
            h.from,
            (those k).1 (
              subst (λ (u : ℕ). thread_at trace k ≡ Some u) here h.is.of,
              subst (λ (u : ℕ). local_time trace u k ≤ get_or cuts u 0) here h.is.within,
            ),
          )))
    ]

-- the same numbers in another order, once all threads are added
pub rest_all : (trace : List Event) (cuts : List ℕ) (front n : ℕ) (rest : List ℕ) (r : Result (Vec ℕ Global) NoMemory) → n ≡ length cuts → ((k : ℕ) → Contains rest k ↔ IsRest trace cuts front n k) → ((k : ℕ) → IfOk r (λ found. Contains found.items k ↔ Contains rest k))
    → (k : ℕ) → IfOk r (λ found. Contains found.items k ↔ IsRest trace cuts front (length cuts) k)
rest_all trace cuts front n rest (Ok found) is all same k = subst (λ (m : ℕ). Contains found.items k ↔ IsRest trace cuts front m k) is ((λ c. (all k).0 ((same k).0 c)), (λ h. (same k).1 ((all k).1 h)))
rest_all trace cuts front n rest (Err e) is all same k = tt

-- numbers that rise, after smaller ones that do
rising_append : (xs ys : List ℕ) → IsStrictlyIncreasing xs → IsStrictlyIncreasing ys → ((a b : ℕ) → Contains xs a → Contains ys b → a < b) → IsStrictlyIncreasing (xs ++ ys)
rising_append xs ys first second between k lt = go (cases_lt (k + 1) (length xs)) (cases_lt k (length xs))
  where
    long : length (xs ++ ys) ≡ length xs + length ys
    long = length-append xs ys

    there : (i : ℕ) → length xs ≤ i → get_or (xs ++ ys) i 0 ≡ get_or ys (i - length xs) 0
    there i le = get_or-append_right xs ys (length xs) i 0 refl le

    go : (k + 1 < length xs) ⊎ (length xs ≤ k + 1) → (k < length xs) ⊎ (length xs ≤ k) → get_or (xs ++ ys) k 0 < get_or (xs ++ ys) (k + 1) 0
    go (inl both) _ = (let h = first k both in let a = get_or-append xs ys 0 k (omega (arith, both)) in let b = get_or-append xs ys 0 (k + 1) both in omega (arith, h, a, b))
    go (inr past) (inl last) =
        let a = get_or-append xs ys 0 k last in
        let b = there (k + 1) past in
        let h = between (get_or xs k 0) (get_or ys (k + 1 - length xs) 0) (Contains-get_or xs k 0 last) (Contains-get_or ys (k + 1 - length xs) 0 (omega (arith, lt, long, past))) in
        omega (arith, a, b, h)
    go (inr past) (inr beyond) =
        let at : k - length xs + 1 ≡ k + 1 - length xs = omega (arith, beyond) in
        let h = second (k - length xs) (omega (arith, lt, long, beyond)) in
        let a = there k beyond in
        let b = there (k + 1) past ∙ sym (ap (λ (i : ℕ). get_or ys i 0) at) in
        omega (arith, h, a, b)

-- the front and the rest are all of them
pub front_and_rest : (trace : List Event) (cuts rest s : List ℕ) (front n : ℕ) → AreOfThreads trace n → front ≤ length trace → Reach trace front cuts → IsStrictlyIncreasing rest → ((k : ℕ) → Contains rest k ↔ IsRest trace cuts front n k) → s ≡ range_with_len 0 front ++ rest → AreWithinCuts trace cuts s
front_and_rest trace cuts rest s front n threads inside reached rising members is = subst (AreWithinCuts trace cuts) (sym is) (record {
  rising = rising_append (range_with_len 0 front) rest listed.rising rising (λ a b in_front in_rest. (let lt = ((listed.members a).0 in_front).0 in let le = ((members b).0 in_rest).from in omega (arith, lt, le)));
  members = λ k. (there k, back k);
})
  where
    listed : IsListed (IsWithinCuts trace cuts) front (range_with_len 0 front)
    listed = front_listed trace cuts front inside reached

    there : (k : ℕ) → Contains (range_with_len 0 front ++ rest) k → IsWithinCuts trace cuts k
    there k c = elim (Contains-append_cases (range_with_len 0 front) rest k c) [
      | inl h ↦ ((listed.members k).0 h).1
      | inr h ↦ ((members k).0 h).is
    ]

    back : (k : ℕ) → IsWithinCuts trace cuts k → Contains (range_with_len 0 front ++ rest) k
    back k h = elim (cases_lt k front) [
      | inl earlier ↦ Contains-append_left (range_with_len 0 front) rest k ((listed.members k).1 (earlier, h))
      | inr later ↦ Contains-append_right (range_with_len 0 front) rest k ((members k).1 (record { is = h; from = later; low = threads k h.thread h.of }))
    ]

-- they are the printed schedule
pub cuts_printed : (trace : List Event) (i j n : ℕ) (cuts s : List ℕ) → AreOfThreads trace n → HasCuts trace i j n cuts → AreWithinCuts trace cuts s → IsPrintedSchedule trace s i j
cuts_printed trace i j n cuts s threads has all = record {
  in_order = all.rising;
  members = λ k. (
    (λ c. (let h = (all.members k).0 c in (has.each h.thread (threads k h.thread h.of) k h.of).0 h.within)),
    (λ below. (all.members k).1 (within k below)),
  );
}
  where
    inside : (k : ℕ) → BelowEither trace i j k → k < length trace
    inside k (inl h) = below_pred_in_range trace k i h
    inside k (inr h) = below_pred_in_range trace k j h

    within : (k : ℕ) → BelowEither trace i j k → IsWithinCuts trace cuts k
    within k below =
        let d : Event = record { thread = 0; op = Read 0; line = 0 } in
        let of = thread_item trace k d (inside k below) in
        record { thread = (get_or trace k d).thread; of = of; within = (has.each (get_or trace k d).thread (threads k _ of) k of).1 below }

-- cuts of all threads
pub threads_of : (trace seen : List Event) (sizes : Sizes) (i j : ℕ) (cuts held : List ℕ) → seen ≡ trace → IsWithin trace sizes → HasCuts trace i j sizes.threads cuts → held ≡ cuts → AreOfThreads seen (length held)
threads_of trace seen sizes i j cuts held same within has is = subst (λ (tr : List Event). AreOfThreads tr (length held)) (sym same) (subst (λ (l : List ℕ). AreOfThreads trace (length l)) (sym is) (λ k t of. (let low = thread_within trace sizes k t within of in let long = has.as_long in omega (arith, low, long))))

-- a list of all events within the cuts is the printed schedule
pub made_printed : (trace seen : List Event) (sizes : Sizes) (i j : ℕ) (cuts held : List ℕ) (r : Result (List ℕ) NoMemory) → seen ≡ trace → IsWithin trace sizes → HasCuts trace i j sizes.threads cuts → held ≡ cuts → IfOk r (AreWithinCuts seen held) → IfOk r (λ s. IsPrintedSchedule trace s i j)
made_printed trace seen sizes i j cuts held (Ok s) same within has is all =
    cuts_printed trace i j sizes.threads cuts s (λ k t of. thread_within trace sizes k t within of) has
    (subst (λ (tr : List Event). AreWithinCuts tr cuts s) same (subst (λ (l : List ℕ). AreWithinCuts seen l s) is all))
made_printed trace seen sizes i j cuts held (Err e) same within has is all = tt
