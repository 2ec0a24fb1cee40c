-- Accesses that wait to be taken into the groups of their variable.
use Rattle.std.proofs.Common.{◌≡◌, ℕ, zero, suc, ◌+◌, ◌<◌, ◌≤◌, inl, inr, Bool, false, List, [], ◌∷◌, ◌++◌, Some, length, drop, get_or, arith, refl, sym, ap, subst, ◌∙◌}
use Rattle.std.specs.Prelude.{AllPairs, Contains, slice_get}
use Rattle.shb_nearest.proofs.Words.{All-contains, All-nil, All-push, All-weaker, AreGroups, AreLate, BelowPred, Class, Contains-append_left, Contains-append_right, Contains-push, Event, Group, IsBefore, IsInstead, IsLastOf, IsLate, IsLateIn, IsOfClass, Late, Spot, access_in, access_op, all_pairs_push, all_pairs_remove, cases_eq, class_of, contains_cases, contains_none, contains_tail, drop_all, drop_more, remove, slice_get_within, variable_at}
use Rattle.shb_nearest.proofs.ClassLemmas.{class_own, class_variable, class_with, last_before, one_class_at}
use Rattle.shb_nearest.proofs.GroupLemmas.{groups_until}
use Rattle.shb_nearest.proofs.Members.{all_remove, index_of, member_at, member_remove, middle}

abbrev pub no_access : Late
no_access = record { event = 0; thread = 0; time = 0; location = 0; writes = false; barred = false; after_all = false }

-- the element between two lists
module _ {X : Type 0} where
  middle_before : (R : X → X → Type 0) (p : List X) (a : X) (q : List X) → AllPairs R (p ++ a ∷ q) → (b : X) → Contains q b → R a b
  middle_before R [] a q all b there = subst (λ (c : X). R a c) there.2 (let low = there.1 in all zero (suc there.0) b (omega arith) (omega (arith, low)))
  middle_before R (c ∷ p) a q all b there = middle_before R p a q (λ i j d lt within. all (suc i) (suc j) d (omega (arith, lt)) (omega (arith, within))) b there

  without_middle : (p : List X) (a : X) (q : List X) → remove (p ++ a ∷ q) (length p) ≡ p ++ q
  without_middle [] a q = refl
  without_middle (b ∷ p) a q = ap (λ (l : List X). b ∷ l) (without_middle p a q)

module _ (trace : List Event) (spots : List Spot) (x : ℕ) where
  -- no access before n
  pub late_none : (n : ℕ) → ((i : ℕ) → i < n → variable_at trace i ≡ Some x → ⊥) → AreLate trace spots x n 0 []
  late_none n never = record {
    within = omega arith;
    each = All-nil (IsLateIn trace spots x 0 n);
    rising = λ i j d lt within. absurd (omega (arith, lt, within));
    covers = λ c k of_x is from. absurd (never k is.newest.past (class_variable trace spots c k is.newest.own ∙ ap (λ (y : ℕ). Some y) of_x));
  }

  -- groups up to m, and no access since
  late_over : (groups : List Group) (m n : ℕ) → AreLate trace spots x n m [] → AreGroups trace spots x m n groups → AreGroups trace spots x n n groups
  late_over groups m n late are = groups_until trace spots x m groups n n late.within (λ c k of_x is from lt. let found = late.covers c k of_x is from in contains_none found.0 found.1) are

  -- the first one that waits
  module _ (n m : ℕ) (a : Late) (rest : List Late) (h : AreLate trace spots x n m (a ∷ rest)) where
    late_head : IsLateIn trace spots x m n a
    late_head = h.each zero a (omega arith)

    later_than : (b : Late) → Contains rest b → a.event < b.event
    later_than b there =
        let low = there.1 in
        let rise = h.rising zero (suc there.0) b (omega arith) (omega (arith, low)) in
        let same = ap (λ (l : Late). l.event) there.2 in
        omega (arith, rise, same)

    late_gap : (groups : List Group) → AreGroups trace spots x m n groups → AreGroups trace spots x a.event n groups
    late_gap groups are = groups_until trace spots x m groups a.event n late_head.from (λ c k of_x is from lt. let found = h.covers c k of_x is from in let at_k = found.2 in elim (contains_cases a found.0 rest found.1) [
      | inl same ↦ (let e = ap (λ (l : Late). l.event) same in omega (arith, e, at_k, lt))
      | inr more ↦ (let after = later_than found.0 more in omega (arith, after, at_k, lt))
    ]) are

    late_tail : AreLate trace spots x n (a.event + 1) rest
    late_tail = record {
      within = (let past = late_head.past in omega (arith, past));
      each = λ k d lt. (let one = h.each (suc k) d (omega (arith, lt)) in let rise = h.rising zero (suc k) d (omega arith) (omega (arith, lt)) in record { own = one.own; from = omega (arith, rise); past = one.past });
      rising = λ i j d lt within. h.rising (suc i) (suc j) d (omega (arith, lt)) (omega (arith, within));
      covers = λ c k of_x is from. (
          let first = late_head.from in
          let found = h.covers c k of_x is (omega (arith, first, from)) in
          let at_k = found.2 in
          elim (contains_cases a found.0 rest found.1) [
            | inl same ↦ absurd (let e = ap (λ (l : Late). l.event) same in omega (arith, e, at_k, from))
            | inr more ↦ (found.0, more, found.2)
          ]);
    }

  later_in : (m n : ℕ) (a : Late) → IsLateIn trace spots x m n a → IsLateIn trace spots x m (n + 1) a
  later_in m n a h = record { own = h.own; from = h.from; past = (let lt = h.past in omega (arith, lt)) }

  -- an access more
  pub late_push : (n m : ℕ) (late : List Late) (a : Late) → a.event ≡ n → IsLate trace spots x a → AreLate trace spots x n m late → AreLate trace spots x (n + 1) m (late ++ a ∷ [])
  late_push n m late a at_n own h = record {
    within = (let within = h.within in omega (arith, within));
    each = All-push (IsLateIn trace spots x m (n + 1)) late a (All-weaker (IsLateIn trace spots x m n) (IsLateIn trace spots x m (n + 1)) (later_in m n) late h.each) (record { own = own; from = (let within = h.within in omega (arith, within, at_n)); past = omega (arith, at_n) });
    rising = all_pairs_push IsBefore late a h.rising (λ k d lt. let past = (h.each k d lt).past in omega (arith, past, at_n));
    covers = λ c k of_x is from. elim (cases_eq k n) [
      | inl same ↦ (a, Contains-push late a, at_n ∙ sym same)
      | inr other ↦ (let found = h.covers c k of_x (last_before trace spots n c k is other) from in (found.0, Contains-append_left late (a ∷ []) found.0 found.1, found.2))
    ];
  }

  -- without one instead of which a later one is enough
  module _ (n m : ℕ) (p q : List Late) (a b : Late) (h : AreLate trace spots x n m (p ++ a ∷ q)) (later : Contains q b) (instead : IsInstead b a) where
    there : slice_get (p ++ a ∷ q) (length p) ≡ Some a
    there = middle p a q

    inside : length p < length (p ++ a ∷ q)
    inside = slice_get_within (p ++ a ∷ q) (length p) a there

    member : (d : Late) → Contains (p ++ a ∷ q) d → IsLateIn trace spots x m n d
    member d is = All-contains (IsLateIn trace spots x m n) (p ++ a ∷ q) d h.each is

    -- a later one is enough instead of it
    stays : (c : Class) (k : ℕ) → IsLastOf trace spots n c k → (d : Late) → slice_get (p ++ a ∷ q) (length p) ≡ Some d → d.event ≡ k → ⊥
    stays c k is d here at_k =
        let same : d ≡ a = (let s : Some d ≡ Some a = sym here ∙ there in cc) in
        let event : a.event ≡ k = ap (λ (l : Late). l.event) (sym same) ∙ at_k in
        let kept = member a (member_at (p ++ a ∷ q) (length p) a there) in
        let last = member b (Contains-append_right p (a ∷ q) b (contains_tail a b q later)) in
        let of_c : class_of x (access_in a) ≡ c = one_class_at trace spots (class_of x (access_in a)) c a.event (class_own trace spots x (access_in a) kept.own.own) (subst (λ (i : ℕ). IsOfClass trace spots c i) (sym event) is.newest.own) in
        let past = last.past in
        let rise = middle_before IsBefore p a q h.rising b later in
        let own = class_own trace spots x (access_in b) last.own.own in
        elim instead.after [
          | inl all ↦ is.none_after b.event (omega (arith, rise, event)) past
              (own.op_is ∙ (ap (λ (w : Bool). Some (access_op w x)) instead.writes_is ∙ ap (λ (d : Class). Some (access_op d.writes d.variable)) of_c))
              (own.location_is ∙ (ap (λ (l : ℕ). Some l) instead.location_is ∙ ap (λ (d : Class). Some d.location) of_c))
              (subst (λ (i : ℕ). BelowPred trace i b.event) event (last.own.after all a.event rise (class_variable trace spots (class_of x (access_in a)) a.event (class_own trace spots x (access_in a) kept.own.own))))
          | inr same ↦ (
              let of_one : class_of x (access_in b) ≡ class_of x (access_in a) = λ i. class_with x (instead.location_is i) (same i) (instead.writes_is i) in
              let le = is.newest.last b.event past (subst (λ (d : Class). IsOfClass trace spots d b.event) (of_one ∙ of_c) own) in
              omega (arith, le, rise, event))
        ]

    pub late_without : AreLate trace spots x n m (p ++ q)
    late_without = subst (λ (l : List Late). AreLate trace spots x n m l) (without_middle p a q) (record {
      within = h.within;
      each = all_remove (IsLateIn trace spots x m n) (p ++ a ∷ q) (length p) inside h.each;
      rising = all_pairs_remove IsBefore (p ++ a ∷ q) (length p) inside h.rising;
      covers = λ c k of_x is from. (
          let found = h.covers c k of_x is from in
          let index = index_of (p ++ a ∷ q) found.0 found.1 in
          (found.0, member_remove (p ++ a ∷ q) (length p) index.0 found.0 inside index.1 (λ same. stays c k is found.0 (ap (slice_get (p ++ a ∷ q)) (sym same) ∙ index.1) found.2), found.2));
    })

  -- an event more that doesn't access the variable
  pub late_skip : (n m : ℕ) (late : List Late) → (variable_at trace n ≡ Some x → ⊥) → AreLate trace spots x n m late → AreLate trace spots x (n + 1) m late
  late_skip n m late never h = record {
    within = (let within = h.within in omega (arith, within));
    each = All-weaker (IsLateIn trace spots x m n) (IsLateIn trace spots x m (n + 1)) (later_in m n) late h.each;
    rising = h.rising;
    covers = λ c k of_x is from. h.covers c k of_x (last_before trace spots n c k is (λ same. never (subst (λ (i : ℕ). variable_at trace i ≡ Some x) same (class_variable trace spots c k is.newest.own ∙ ap (λ (y : ℕ). Some y) of_x)))) from;
  }

  -- groups up to some event, and the accesses since from an index on
  pub record HasTaken (n index : ℕ) (late : List Late) (groups : List Group) : Type 0 where
    pub since : ℕ
    pub are : AreGroups trace spots x since n groups
    pub rest : AreLate trace spots x n since (drop index late)

  pub last_taken : (n index : ℕ) (late : List Late) (groups : List Group) → length late ≤ index → HasTaken n index late groups → AreGroups trace spots x n n groups
  last_taken n index late groups le h = late_over groups h.since n (subst (λ (l : List Late). AreLate trace spots x n h.since l) (drop_all index late le) h.rest) h.are

  -- one more is taken in
  module _ (n index : ℕ) (late : List Late) (a : Late) (old new : List Group) (lt : index < length late) (is : a ≡ get_or late index a) (h : HasTaken n index late old) where
    next : AreLate trace spots x n h.since (a ∷ drop (index + 1) late)
    next = subst (λ (l : List Late). AreLate trace spots x n h.since l) (drop_more late index a lt ∙ ap (λ (b : Late). b ∷ drop (index + 1) late) (sym is)) h.rest

    pub late_first : IsLate trace spots x a × (a.event < n)
    late_first = let first = late_head n h.since a (drop (index + 1) late) next in (first.own, first.past)

    pub late_taken : (AreGroups trace spots x a.event n old → AreGroups trace spots x (a.event + 1) n new) → HasTaken n (index + 1) late new
    late_taken taken = record {
      since = a.event + 1;
      are = taken (late_gap n h.since a (drop (index + 1) late) next old h.are);
      rest = late_tail n h.since a (drop (index + 1) late) next;
    }
