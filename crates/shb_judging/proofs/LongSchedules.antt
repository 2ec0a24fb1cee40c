-- The first positions of a list, one more than the trace has events, tell whether and where it is broken.
use Rattle.std.proofs.Common.{◌≡◌, ℕ, zero, suc, ◌+◌, ◌<◌, ◌≤◌, inl, inr, ◌==◌, false, List, [], ◌∷◌, Some, length, take, refl, sym, ap, subst, ◌∙◌, arith}
use Rattle.std.specs.Prelude.{slice_get, Contains}
use Rattle.shb_judging.proofs.Words.{Event, HasReason, IsBroken, IsFirstReason, IsLatestWrite, IsSchedule, IsUnbroken, StandsEarlier, Why, cases_lt, each_of, eqb-true, length-take-le, ne_eqb, slice_get_within, take_all}
use Rattle.std.specs.List.{IsDistinct}
use Rattle.std.proofs.lemmas.Map.Steps.{length-le_from_distinct_below}
use Rattle.std.proofs.lemmas.Map.Views.{Contains-from_any}
use Rattle.shb_replay.specs.declared.broken.Why.TheVariants as whys
use Rattle.shb_replay.proofs.Closed.{once}
use Rattle.shb_replay.proofs.Cuts.{members_in_trace}

-- the lists have the same at each index before n
AgreeBelow : List ℕ → List ℕ → ℕ → Type 0
AgreeBelow s r n = (q : ℕ) → q < n → slice_get s q ≡ slice_get r q

turned : (s r : List ℕ) (n : ℕ) → AgreeBelow s r n → AgreeBelow r s n
unfolding AgreeBelow
turned s r n alike = λ q lt. sym (alike q lt)

at_same : (s r : List ℕ) (n : ℕ) → AgreeBelow s r n → (q e : ℕ) → q < n → slice_get s q ≡ Some e → slice_get r q ≡ Some e
unfolding AgreeBelow
at_same s r n alike q e lt at = sym (alike q lt) ∙ at

take_alike : (n : ℕ) (s : List ℕ) → AgreeBelow (take n s) s n
unfolding AgreeBelow
take_alike zero s = λ q lt. absurd (omega (arith, lt))
take_alike (suc n) [] = λ q lt. refl
take_alike (suc n) (x ∷ s) = by (take_alike n s)
  where
    by : ((q : ℕ) → q < n → slice_get (take n s) q ≡ slice_get s q) → (q : ℕ) → q < suc n → slice_get (x ∷ take n s) q ≡ slice_get (x ∷ s) q
    by rest zero lt = refl
    by rest (suc q) lt = rest q (omega (arith, lt))

-- what an index has for a reason is the same in both lists
stands_same : (s r : List ℕ) (n : ℕ) → AgreeBelow s r n → (p a : ℕ) → p ≤ n → StandsEarlier s p a → StandsEarlier r p a
stands_same s r n alike p a le h =
    let lt = h.earlier in
    record { index = h.index; earlier = lt; at = at_same s r n alike h.index a (omega (arith, lt, le)) h.at }

latest_same : (trace : List Event) (s r : List ℕ) (n : ℕ) → AgreeBelow s r n → (p x w : ℕ) → p ≤ n → IsLatestWrite trace s p x w → IsLatestWrite trace r p x w
latest_same trace s r n alike p x w le h =
    let lt = h.earlier in
    record {
      index = h.index;
      earlier = lt;
      at = at_same s r n alike h.index w (omega (arith, lt, le)) h.at;
      writes = h.writes;
      latest = λ q k low high at. h.latest q k low high (at_same r s n (turned s r n alike) q k (omega (arith, high, le)) at);
    }

reason_same : (trace : List Event) (s r : List ℕ) (n : ℕ) → AgreeBelow s r n → (p e : ℕ) → p ≤ n → (why : Why) → HasReason trace s p e why → HasReason trace r p e why
reason_same trace s r n alike p e le whys.NoSuchEvent h = h
reason_same trace s r n alike p e le whys.Repeated h = stands_same s r n alike p e le h
reason_same trace s r n alike p e le whys.ThreadOrder (a, before, absent) = (a, before, λ stands. absent (stands_same r s n (turned s r n alike) p a le stands))
reason_same trace s r n alike p e le whys.ForkMissing (f, fork, absent) = (f, fork, λ stands. absent (stands_same r s n (turned s r n alike) p f le stands))
reason_same trace s r n alike p e le whys.JoinEarly (inl (a, h)) = inl (a, record { thread = h.thread; joins = h.joins; of = h.of; absent = λ stands. h.absent (stands_same r s n (turned s r n alike) p a le stands) })
reason_same trace s r n alike p e le whys.JoinEarly (inr (j, h)) = inr (j, record { thread = h.thread; forks = h.forks; joins = h.joins; stands = stands_same s r n alike p j le h.stands })
reason_same trace s r n alike p e le whys.LockOrder (b, h) =
    (b, record { lock = h.lock; acquires = h.acquires; releases = h.releases; earlier = h.earlier; absent = λ stands. h.absent (stands_same r s n (turned s r n alike) p b le stands) })
reason_same trace s r n alike p e le whys.LastWrite (x, h) = (
  x,
  record {
    reads = h.reads;
    differ = λ same. h.differ (λ w. (
      (λ latest. (same w).0 (latest_same trace s r n alike p x w le latest)),
      (λ last. latest_same trace r s n (turned s r n alike) p x w le ((same w).1 last)),
    ));
  },
)
reason_same trace s r n alike p e le whys.NotNext h = h

unbroken_same : (trace : List Event) (s r : List ℕ) (n : ℕ) → AgreeBelow s r n → (m : ℕ) → m ≤ n → IsUnbroken trace s m → IsUnbroken trace r m
unbroken_same trace s r n alike m le unbroken = λ p e why lt at h.
    unbroken p e why lt (at_same r s n (turned s r n alike) p e (omega (arith, lt, le)) at) (reason_same trace r s n (turned s r n alike) p e (omega (arith, lt, le)) why h)

first_same : (trace : List Event) (s r : List ℕ) (n : ℕ) → AgreeBelow s r n → (p : ℕ) (why : Why) → p < n → IsFirstReason trace s p why → IsFirstReason trace r p why
first_same trace s r n alike p why lt h = record {
  event = h.event;
  there = at_same s r n alike p h.event lt h.there;
  lowest = (
    reason_same trace s r n alike p h.event (omega (arith, lt)) why h.lowest.0,
    (λ other g. h.lowest.1 other (reason_same trace r s n (turned s r n alike) p h.event (omega (arith, lt)) other g)),
  );
  earlier = unbroken_same trace s r n alike p (omega (arith, lt)) h.earlier;
}

-- different numbers below n are at most n
distinct_by : (s : List ℕ) → ((p q a : ℕ) → p < q → slice_get s p ≡ Some a → slice_get s q ≡ Some a → ⊥) → IsDistinct (λ a b. a == b) s
unfolding IsDistinct
distinct_by [] once = tt
distinct_by (x ∷ s) once = (
  each_of (λ y. (x == y) ≡ false) s (λ k y at. ne_eqb x y (λ same. once 0 (suc k) y (omega arith) (ap (λ a. Some a) same) at)),
  distinct_by s (λ p q a lt at_p at_q. once (suc p) (suc q) a (omega (arith, lt)) at_p at_q),
)

pub few_different : (n : ℕ) (s : List ℕ) → ((a : ℕ) → Contains s a → a < n) → ((p q a : ℕ) → p < q → slice_get s p ≡ Some a → slice_get s q ≡ Some a → ⊥) → length s ≤ n
few_different n s low once = length-le_from_distinct_below s n (distinct_by s once) (λ q any. low q (Contains-from_any (λ x y same. eqb-true x y same) q s any))

-- so a list without a reason is no longer than the trace
unbroken_few : (trace : List Event) (s : List ℕ) → IsUnbroken trace s (length s) → length s ≤ length trace
unbroken_few trace s unbroken =
    few_different (length trace) s (members_in_trace trace s unbroken)
    (λ p q a lt at_p at_q. once trace s (length s) unbroken q a (slice_get_within s q a at_q) at_q (record { index = p; earlier = lt; at = at_p }))

schedule_few : (trace : List Event) (s : List ℕ) (i j : ℕ) → IsSchedule trace s i j → length s ≤ length trace
schedule_few trace s i j h =
    let positions = h.reordering.positions in
    few_different (length trace) s positions.in_range
    (λ p q a lt at_p at_q. positions.distinct a (record { index = p; later_index = q; before = lt; first = at_p; second = at_q }))

-- the answers on a list from those on its first positions
module _ (trace : List Event) (s : List ℕ) (i j : ℕ) where
  pub schedule_by_front : IsSchedule trace (take (length trace + 1) s) i j → IsSchedule trace s i j
  schedule_by_front h = elim (cases_lt (length trace) (length s)) [
    | inl more ↦ absurd (let few = schedule_few trace (take (length trace + 1) s) i j h in let whole = length-take-le (length trace + 1) s (omega (arith, more)) in omega (arith, few, whole))
    | inr le ↦ subst (λ (l : List ℕ). IsSchedule trace l i j) (take_all (length trace + 1) s (omega (arith, le))) h
  ]

  first_by_front : (p : ℕ) (why : Why) → length trace < length s → IsFirstReason trace (take (length trace + 1) s) p why → IsFirstReason trace s p why
  first_by_front p why more h =
      let whole = length-take-le (length trace + 1) s (omega (arith, more)) in
      let within = slice_get_within (take (length trace + 1) s) p h.event h.there in
      first_same trace (take (length trace + 1) s) s (length trace + 1) (take_alike (length trace + 1) s) p why (omega (arith, whole, within)) h

  of_long : (p : ℕ) (why : Why) → length trace < length s → IsBroken trace (take (length trace + 1) s) i j p why → IsBroken trace s i j p why
  of_long p whys.NotNext more h =
      let front = take (length trace + 1) s in
      let few = unbroken_few trace front (subst (IsUnbroken trace front) h.at_end h.earlier) in
      let whole = length-take-le (length trace + 1) s (omega (arith, more)) in
      absurd (omega (arith, few, whole))
  of_long p whys.NoSuchEvent more h = first_by_front p whys.NoSuchEvent more h
  of_long p whys.Repeated more h = first_by_front p whys.Repeated more h
  of_long p whys.ThreadOrder more h = first_by_front p whys.ThreadOrder more h
  of_long p whys.ForkMissing more h = first_by_front p whys.ForkMissing more h
  of_long p whys.JoinEarly more h = first_by_front p whys.JoinEarly more h
  of_long p whys.LockOrder more h = first_by_front p whys.LockOrder more h
  of_long p whys.LastWrite more h = first_by_front p whys.LastWrite more h

  pub broken_by_front : (p : ℕ) (why : Why) → IsBroken trace (take (length trace + 1) s) i j p why → IsBroken trace s i j p why
  broken_by_front p why h = elim (cases_lt (length trace) (length s)) [
    | inl more ↦ of_long p why more h
    | inr le ↦ subst (λ (l : List ℕ). IsBroken trace l i j p why) (take_all (length trace + 1) s (omega (arith, le))) h
  ]
