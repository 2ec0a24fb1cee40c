-- The groups of a variable, an access more.
use Rattle.std.proofs.Common.{◌≡◌, ℕ, suc, ◌+◌, ◌<◌, ◌≤◌, ◌⊎◌, inl, inr, Bool, true, false, cond, ◌&&◌, List, [], ◌∷◌, ◌++◌, None, Option, Some, length, take, filter, get_or, arith, refl, sym, ap, subst, ◌∙◌}
use Rattle.std.specs.Bool.{beq}
use Rattle.std.specs.Prelude.{All, AllPairs, Contains, nat_eq, slice_get}
use Rattle.shb_nearest.proofs.Words.{All-contains, All-nil, All-push, All-set, All-weaker, AreGroups, Class, Contains-append_left, Contains-get_or, Contains-push, Contains-push_cases, Event, FoundAccess, Group, HasGroupAt, HasKept, HasLast, HasLastOf, IsEarlier, IsFoundAccess, IsGroup, IsKept, IsLastOf, IsNewestOf, IsOfClass, IsOfGroup, IsRun, KeepsAccess, KeptAccess, Run, Spot, access_of, all_pairs_push, all_pairs_remove, cases_Bool, cases_eq, cases_lt, class_of, eq-eqb, eqb-true, get_or-take, get_or_append_left, get_or_from_slice_get, get_or_push, is_newest_in, is_newest_kept, length-take, length_push, local_time, newest_in, remove, remove-append_left, same_class, set, slice_get_read, slice_get_within, take-suc, thread_at}
use Rattle.std.proofs.lemmas.List.Kept.{AllPairs-filter}
use Rattle.std.specs.List.Retain.{RetainsInTurn}
use Rattle.shb_nearest.specs.Classes.{HasPut}
use Rattle.shb_nearest.proofs.ClassLemmas.{class_own, last_before, one_class_at}
use Rattle.shb_nearest.proofs.Members.{index_of, longer_cases, member_at, member_filter, member_of_filter, member_of_remove, member_remove, member_set, stays_or_is}

-- equal classes are the same
same_kind_is : (a b : Bool) → beq a b ≡ true → a ≡ b
same_kind_is true true is = refl
same_kind_is true false is = absurd (let f : ⊥ = cc in f)
same_kind_is false true is = absurd (let f : ⊥ = cc in f)
same_kind_is false false is = refl

and_left : (a b : Bool) → (a && b) ≡ true → a ≡ true
and_left true b is = refl
and_left false b is = absurd (let f : ⊥ = cc in f)

and_right : (a b : Bool) → (a && b) ≡ true → b ≡ true
and_right true b is = is
and_right false b is = absurd (let f : ⊥ = cc in f)

abbrev class_made : ℕ → ℕ → ℕ → Bool → Class
class_made x l t w = record { variable = x; location = l; thread = t; writes = w }

pub one_class : (a b : Class) → same_class a b ≡ true → a ≡ b
one_class a b is =
    let x = and_left (nat_eq a.variable b.variable) _ is in
    let rest = and_right (nat_eq a.variable b.variable) _ is in
    let l = and_left (nat_eq a.location b.location) _ rest in
    let more = and_right (nat_eq a.location b.location) _ rest in
    let t = and_left (nat_eq a.thread b.thread) _ more in
    let w = same_kind_is a.writes b.writes (and_right (nat_eq a.thread b.thread) _ more) in
    λ i. class_made (eqb-true a.variable b.variable x i) (eqb-true a.location b.location l i) (eqb-true a.thread b.thread t i) (w i)

same_kind_self : (a : Bool) → beq a a ≡ true
same_kind_self true = refl
same_kind_self false = refl

and_both : (a b : Bool) → a ≡ true → b ≡ true → (a && b) ≡ true
and_both true b is rest = rest
and_both false b is rest = is

pub class_self : (a : Class) → same_class a a ≡ true
class_self a = and_both (nat_eq a.variable a.variable) _ (eq-eqb a.variable a.variable refl) (and_both (nat_eq a.location a.location) _ (eq-eqb a.location a.location refl) (and_both (nat_eq a.thread a.thread) _ (eq-eqb a.thread a.thread refl) (same_kind_self a.writes)))

-- the newest of a class is so by the test
pub newest_passes : (newest : List (Class × ℕ)) (class : Class) (k event : ℕ) → newest_in newest class ≡ Some k → event ≡ k → is_newest_in newest class event ≡ true
newest_passes newest class k event is same = ap (λ (o : Option ℕ). elim o [ Some m ↦ nat_eq m event | None ↦ false ]) is ∙ eq-eqb k event (sym same)

-- a group was there, or keeps nothing
pub group_from : (old new : List Group) (t : ℕ) (w : Bool) (at : ℕ) → HasGroupAt old new t w at → (g : Group) → Contains new g → Contains old g ⊎ (g.kept.items ≡ [])
group_from old new t w at found g there =
    let k = index_of new g there in
    elim (found.from k.0 g k.1) [ inl was ↦ inl (member_at old k.0 g was) | inr none ↦ inr none ]

module _ (trace : List Event) (spots : List Spot) (x n : ℕ) where
  kept_until : (m : ℕ) → n ≤ m → (t : ℕ) (w : Bool) (a : KeptAccess) → IsKept trace spots x n t w a → IsKept trace spots x m t w a
  kept_until m le t w a h = record { own = h.own; time_is = h.time_is; past = (let lt = h.past in omega (arith, lt, le)) }

  pub group_until : (m : ℕ) → n ≤ m → (g : Group) → IsGroup trace spots x n g → IsGroup trace spots x m g
  group_until m le g h = record { each = All-weaker (IsKept trace spots x n g.thread g.writes) (IsKept trace spots x m g.thread g.writes) (kept_until m le g.thread g.writes) g.kept.items h.each; rising = h.rising }

  group_later : (g : Group) → IsGroup trace spots x n g → IsGroup trace spots x (n + 1) g
  group_later = group_until (n + 1) (omega arith)

  pub group_empty : (m : ℕ) (g : Group) → g.kept.items ≡ [] → IsGroup trace spots x m g
  group_empty m g none = record {
    each = subst (λ (l : List KeptAccess). All (IsKept trace spots x m g.thread g.writes) l) (sym none) (All-nil (IsKept trace spots x m g.thread g.writes));
    rising = subst (λ (l : List KeptAccess). AllPairs IsEarlier l) (sym none) (λ i j d lt within. absurd (omega (arith, lt, within)));
  }

  -- before m come none instead of which no later one before `last` is enough
  pub groups_until : (groups : List Group) (m last : ℕ) → n ≤ m → ((c : Class) (k : ℕ) → c.variable ≡ x → IsLastOf trace spots last c k → n ≤ k → k < m → ⊥) → AreGroups trace spots x n last groups → AreGroups trace spots x m last groups
  groups_until groups m last le none are = record {
    each = All-weaker (IsGroup trace spots x n) (IsGroup trace spots x m) (group_until m le) groups are.each;
    covers = λ c k of_x is lt. elim (cases_lt k n) [
      | inl low ↦ are.covers c k of_x is low
      | inr high ↦ absurd (none c k of_x is high lt)
    ];
  }

  -- an event more
  pub groups_next : (groups : List Group) (m : ℕ) → n ≤ m → AreGroups trace spots x n m groups → AreGroups trace spots x n (m + 1) groups
  groups_next groups m le are = record {
    each = are.each;
    covers = λ c k of_x is lt. are.covers c k of_x (last_before trace spots m c k is (λ same. omega (arith, same, lt, le))) lt;
  }

  module _ (access : FoundAccess) (here : access.event ≡ n) (own : IsFoundAccess trace spots x access) (kept : KeptAccess) (at_event : kept.event ≡ access.event) (at_spot : kept.spot ≡ access.spot) (time_is : kept.time ≡ local_time trace access.thread access.event) where
    own_kept : IsKept trace spots x (n + 1) access.thread access.writes kept
    own_kept = record {
      own = subst (λ (a : FoundAccess). IsFoundAccess trace spots x a) (sym (λ i. made (at_event i) (at_spot i))) own;
      time_is = time_is ∙ ap (local_time trace access.thread) (sym at_event);
      past = omega (arith, at_event, here);
    }
      where
        made : ℕ → Spot → FoundAccess
        made e s = record { event = e; thread = access.thread; writes = access.writes; spot = s }

    abbrev pub class_in : Group → KeptAccess → Class
    class_in g a = class_of x (access_of g.thread g.writes a)

    module _ (old new : Group) (is_of : IsOfGroup old access.thread access.writes) (h : HasKept kept old new) (was : IsGroup trace spots x n old) where
      abbrev pub pushed : List KeptAccess
      pushed = old.kept.items ++ kept ∷ []

      pushed_each : All (IsKept trace spots x (n + 1) new.thread new.writes) pushed
      pushed_each = All-push (IsKept trace spots x (n + 1) new.thread new.writes) old.kept.items kept
          (subst (λ (t : ℕ). All (IsKept trace spots x (n + 1) t new.writes) old.kept.items) (sym h.own.thread_is) (subst (λ (w : Bool). All (IsKept trace spots x (n + 1) old.thread w) old.kept.items) (sym h.own.writes_is) (group_later old was).each))
          (subst (λ (t : ℕ). IsKept trace spots x (n + 1) t new.writes kept) (sym (h.own.thread_is ∙ is_of.thread_is)) (subst (λ (w : Bool). IsKept trace spots x (n + 1) access.thread w kept) (sym (h.own.writes_is ∙ is_of.writes_is)) own_kept))

      pushed_rising : AllPairs IsEarlier pushed
      pushed_rising = all_pairs_push IsEarlier old.kept.items kept was.rising (λ k d lt. let past = (was.each k d lt).past in omega (arith, past, at_event, here))

      pub group_kept : IsGroup trace spots x (n + 1) new
      group_kept = record {
        each = λ k d lt. All-contains (IsKept trace spots x (n + 1) new.thread new.writes) pushed (get_or new.kept.items k d) pushed_each (h.from (get_or new.kept.items k d) (Contains-get_or new.kept.items k d lt));
        rising = h.rising pushed_rising;
      }

      -- the last at a location is kept
      pub newest_kept : (a : KeptAccess) → Contains pushed a → ((b : KeptAccess) → Contains pushed b → b.spot.location ≡ a.spot.location → b.event ≤ a.event) → Contains new.kept.items a
      newest_kept = h.last pushed_rising

      -- each access of the group is of the class of its location
      pub in_class : (b : KeptAccess) → Contains pushed b → IsOfClass trace spots (class_in new b) b.event × (b.event < n + 1)
      in_class b there = let k = All-contains (IsKept trace spots x (n + 1) new.thread new.writes) pushed b pushed_each there in (class_own trace spots x (access_of new.thread new.writes b) k.own, k.past)

    pub noted : (last : ℕ) → n < last → (groups mid : List Group) (at : ℕ) (old new : Group) → AreGroups trace spots x n last groups → HasGroupAt groups mid access.thread access.writes at → slice_get mid at ≡ Some old → HasKept kept old new → AreGroups trace spots x (n + 1) last (set mid at new)
    noted last within groups mid at old new are found at_old h = record { each = All-set (IsGroup trace spots x (n + 1)) mid at new (group_kept old new is_of h was) mid_each; covers = covers }
      where
        is_of : IsOfGroup old access.thread access.writes
        is_of = subst (λ (g : Group). IsOfGroup g access.thread access.writes) (let s : Some found.group ≡ Some old = sym found.there ∙ at_old in let e : found.group ≡ old = cc in e) found.own

        mid_group : (m : ℕ) → (g : Group) → Contains mid g → (Contains groups g → IsGroup trace spots x m g) → IsGroup trace spots x m g
        mid_group m g there old_one = elim (group_from groups mid access.thread access.writes at found g there) [ inl stays ↦ old_one stays | inr none ↦ group_empty m g none ]

        was : IsGroup trace spots x n old
        was = mid_group n old (member_at mid at old at_old) (λ there. All-contains (IsGroup trace spots x n) groups old are.each there)

        mid_each : All (IsGroup trace spots x (n + 1)) mid
        mid_each = λ k d lt. mid_group (n + 1) (get_or mid k d) (Contains-get_or mid k d lt) (λ there. group_later (get_or mid k d) (All-contains (IsGroup trace spots x n) groups (get_or mid k d) are.each there))

        in_new : Contains (set mid at new) new
        in_new = member_set mid at new (slice_get_within mid at old at_old)

        -- what is in the group at the location of a newest access isn't after it
        last_in : (c : Class) (k : ℕ) → IsNewestOf trace spots last c k → c.variable ≡ x → new.thread ≡ c.thread → new.writes ≡ c.writes → (b : KeptAccess) → Contains (old.kept.items ++ kept ∷ []) b → b.spot.location ≡ c.location → b.event ≤ k
        last_in c k is of_x thread writes b there at =
            let own_b = in_class old new is_of h was b there in
            let lt = own_b.1 in
            is.last b.event (omega (arith, lt, within)) (subst (λ (d : Class). IsOfClass trace spots d b.event) (λ i. class_made (sym of_x i) (at i) (thread i) (writes i)) own_b.0)

        new_thread : new.thread ≡ access.thread
        new_thread = h.own.thread_is ∙ is_of.thread_is

        new_writes : new.writes ≡ access.writes
        new_writes = h.own.writes_is ∙ is_of.writes_is

        -- the access itself
        own_class : (c : Class) (k : ℕ) → IsNewestOf trace spots last c k → k ≡ n → c.variable ≡ x → KeepsAccess (set mid at new) c k
        own_class c k is at_n of_x =
            let e : access.event ≡ k = omega (arith, at_n, here) in
            let same : class_of x access ≡ c = one_class_at trace spots (class_of x access) c access.event (class_own trace spots x access own) (subst (λ (m : ℕ). IsOfClass trace spots c m) (sym e) is.own) in
            let location = ap (λ (s : Spot). s.location) at_spot ∙ ap (λ (d : Class). d.location) same in
            let thread = new_thread ∙ ap (λ (d : Class). d.thread) same in
            let writes = new_writes ∙ ap (λ (d : Class). d.writes) same in
            let event : kept.event ≡ k = at_event ∙ e in
            record {
              group = new;
              there = in_new;
              thread_is = thread;
              writes_is = writes;
              kept = kept;
              among = newest_kept old new is_of h was kept (Contains-push old.kept.items kept) (λ b there at_b. let le = last_in c k is of_x thread writes b there (at_b ∙ location) in omega (arith, le, event));
              event_is = event;
              location_is = location;
            }

        -- another class
        other_class : (c : Class) (k : ℕ) → IsNewestOf trace spots last c k → c.variable ≡ x → KeepsAccess groups c k → KeepsAccess (set mid at new) c k
        other_class c k is of_x keeps = elim (stays_or_is mid at old new at_old keeps.group (found.stay keeps.group keeps.there)) [
          | inr stays ↦ record { group = keeps.group; there = stays; thread_is = keeps.thread_is; writes_is = keeps.writes_is; kept = keeps.kept; among = keeps.among; event_is = keeps.event_is; location_is = keeps.location_is }
          | inl same ↦ (
              let thread = h.own.thread_is ∙ (sym (ap (λ (g : Group). g.thread) same) ∙ keeps.thread_is) in
              let writes = h.own.writes_is ∙ (sym (ap (λ (g : Group). g.writes) same) ∙ keeps.writes_is) in
              let event = keeps.event_is in
              record {
                group = new;
                there = in_new;
                thread_is = thread;
                writes_is = writes;
                kept = keeps.kept;
                among = newest_kept old new is_of h was keeps.kept (Contains-append_left old.kept.items (kept ∷ []) keeps.kept (subst (λ (g : Group). Contains g.kept.items keeps.kept) same keeps.among))
                    (λ b there at_b. let le = last_in c k is of_x thread writes b there (at_b ∙ keeps.location_is) in omega (arith, le, event));
                event_is = keeps.event_is;
                location_is = keeps.location_is;
              })
        ]

        covers : (c : Class) (k : ℕ) → c.variable ≡ x → IsLastOf trace spots last c k → k < n + 1 → KeepsAccess (set mid at new) c k
        covers c k of_x is lt = elim (cases_eq k n) [
          | inl same ↦ own_class c k is.newest same of_x
          | inr other ↦ other_class c k is.newest of_x (are.covers c k of_x is (omega (arith, lt, other)))
        ]

-- a table of the last access of each class of some, by the event and the class of each, and one more
module _ {A : Type 0} (event : A → ℕ) (class_at : A → Class) where
  pub last_more : (old new : List (Class × ℕ)) (items : List A) (m : ℕ) (y : A) (class : Class) → class ≡ class_at y → AllPairs (λ (a b : A). event a < event b) items → slice_get items m ≡ Some y → HasPut old new class (event y) → HasLastOf event class_at old (take m items) → HasLastOf event class_at new (take (m + 1) items)
  last_more old new items m y class of_y rising at put h a there last = elim (Contains-push_cases (take m items) y a (subst (λ (l : List A). Contains l a) more there)) [
    | inr same ↦ subst (λ (b : A). newest_in new (class_at b) ≡ Some (event b)) same (put_y (class_at y) ∙ ap (λ (b : Bool). cond b (Some (event y)) (newest_in old (class_at y))) (class_self (class_at y)))
    | inl before ↦ put_y (class_at a) ∙ (ap (λ (b : Bool). cond b (Some (event y)) (newest_in old (class_at a))) (other before) ∙ h a before (λ b in_front of_a. last b (subst (λ (l : List A). Contains l b) (sym more) (Contains-append_left (take m items) (y ∷ []) b in_front)) of_a))
  ]
    where
      put_y : HasPut old new (class_at y) (event y)
      put_y = subst (λ (c : Class). HasPut old new c (event y)) of_y put

      more : take (m + 1) items ≡ take m items ++ y ∷ []
      more = (let e : m + 1 ≡ suc m = omega arith in ap (λ (k : ℕ). take k items) e) ∙ (take-suc items m y (slice_get_within items m y at) ∙ ap (λ (b : A). take m items ++ b ∷ []) (get_or_from_slice_get items m y y at))

      earlier : Contains (take m items) a → event a < event y
      earlier before =
          let long = length-take m items in
          let low = before.1 in
          let lt : before.0 < m = omega (arith, long, low) in
          let in_list = get_or-take m items before.0 a lt in
          let rise = rising before.0 m a lt (slice_get_within items m y at) in
          let at_a = ap event (sym in_list ∙ before.2) in
          let at_y = ap event (get_or_from_slice_get items m y a at) in
          omega (arith, rise, at_a, at_y)

      other : Contains (take m items) a → same_class (class_at y) (class_at a) ≡ false
      other before = elim (cases_Bool (same_class (class_at y) (class_at a))) [
        | inr differs ↦ differs
        | inl same ↦ absurd (
            let le = last y (subst (λ (l : List A). Contains l y) (sym more) (Contains-push (take m items) y)) (one_class (class_at y) (class_at a) same) in
            let lt = earlier before in
            omega (arith, le, lt))
      ]

-- a group that is there, and one that is made
pub group_found : (groups : List Group) (t : ℕ) (w : Bool) (at : ℕ) (g : Group) → slice_get groups at ≡ Some g → IsOfGroup g t w → HasGroupAt groups groups t w at
group_found groups t w at g there own = record { group = g; there = there; own = own; stay = λ h in_old. in_old; from = λ k h in_new. inl in_new }

pub group_made : (old new : List Group) (t : ℕ) (w : Bool) (at : ℕ) (g : Group) → at ≡ length old → new ≡ old ++ g ∷ [] → g.thread ≡ t → g.writes ≡ w → g.kept.items ≡ [] → HasGroupAt old new t w at
group_made old new t w at g at_end more of_t of_w empty = record {
  group = g;
  there = subst (λ (l : List Group). slice_get l at ≡ Some g) (sym more) (slice_get_read (old ++ g ∷ []) (length (old ++ g ∷ [])) at g refl (let long = length_push old g in omega (arith, long, at_end)) (sym (get_or_push old g g at (sym at_end))));
  own = record { thread_is = of_t; writes_is = of_w };
  stay = λ h in_old. subst (λ (l : List Group). Contains l h) (sym more) (Contains-append_left old (g ∷ []) h in_old);
  from = λ k h in_new. elim (longer_cases old g k h (subst (λ (l : List Group). slice_get l k ≡ Some h) more in_new)) [
    | inl before ↦ inl before
    | inr same ↦ inr (subst (λ (k : Group). k.kept.items ≡ []) same.1 empty)
  ];
}

pub group_same : (g h : Group) → Some g ≡ Some h → g ≡ h
group_same g h is = let e : g ≡ h = cc in e

-- a group that keeps an access more and all before it, or all but one at its location, or those that a table has
module _ (access : KeptAccess) (old new : Group) (of_t : new.thread ≡ old.thread) (of_w : new.writes ≡ old.writes) where
  abbrev both : List KeptAccess
  both = old.kept.items ++ access ∷ []

  pub kept_all : new.kept.items ≡ both → HasKept access old new
  kept_all is = record {
    own = record { thread_is = of_t; writes_is = of_w };
    from = λ a there. subst (λ (l : List KeptAccess). Contains l a) is there;
    rising = subst (λ (l : List KeptAccess). AllPairs IsEarlier l) (sym is);
    last = λ up a there none_later. subst (λ (l : List KeptAccess). Contains l a) (sym is) there;
  }

  pub kept_without : (at : ℕ) (gone : KeptAccess) → slice_get old.kept.items at ≡ Some gone → gone.spot.location ≡ access.spot.location → new.kept.items ≡ remove old.kept.items at ++ access ∷ [] → HasKept access old new
  kept_without at gone there location is = record {
    own = record { thread_is = of_t; writes_is = of_w };
    from = λ a found. member_of_remove both at a within (subst (λ (l : List KeptAccess). Contains l a) all found);
    rising = λ up. subst (λ (l : List KeptAccess). AllPairs IsEarlier l) (sym all) (all_pairs_remove IsEarlier both at within up);
    last = λ up a found none_later.
        let index = index_of both a found in
        subst (λ (l : List KeptAccess). Contains l a) (sym all) (member_remove both at index.0 a within index.1 (λ same.
        let gone_is : gone ≡ a = (let s : Some gone ≡ Some a = sym at_gone ∙ (ap (slice_get both) (sym same) ∙ index.1) in cc) in
        let le = none_later access (Contains-push old.kept.items access) (sym location ∙ ap (λ (b : KeptAccess). b.spot.location) gone_is) in
        let rise = up at (length old.kept.items) access inside (omega (arith, long)) in
        let first = ap (λ (b : KeptAccess). b.event) (get_or_from_slice_get both at gone access at_gone ∙ gone_is) in
        let second = ap (λ (b : KeptAccess). b.event) (get_or_push old.kept.items access access (length old.kept.items) refl) in
        omega (arith, le, rise, first, second)));
  }
    where
      inside : at < length old.kept.items
      inside = slice_get_within old.kept.items at gone there

      long : length both ≡ length old.kept.items + 1
      long = length_push old.kept.items access

      within : at < length both
      within = omega (arith, inside, long)

      at_gone : slice_get both at ≡ Some gone
      at_gone = slice_get_read both (length both) at gone refl within (sym (get_or_append_left old.kept.items (access ∷ []) gone at inside ∙ get_or_from_slice_get old.kept.items at gone gone there))

      all : new.kept.items ≡ remove both at
      all = is ∙ sym (remove-append_left old.kept.items (access ∷ []) at inside)

  pub kept_some : (pushed seen : List KeptAccess) (newest : List (Class × ℕ)) (x : ℕ) → pushed ≡ both → seen ≡ pushed → (AllPairs IsEarlier seen → HasLast newest x old.thread old.writes seen)
      → new.kept.items ≡ filter (is_newest_kept newest x old.thread old.writes) pushed → HasKept access old new
  kept_some pushed seen newest x more same last forgot = record {
    own = record { thread_is = of_t; writes_is = of_w };
    from = λ a there. member_of_filter passes both a (subst (λ (l : List KeptAccess). Contains l a) is there);
    rising = λ up. subst (λ (l : List KeptAccess). AllPairs IsEarlier l) (sym is) (AllPairs-filter IsEarlier passes both up);
    last = λ up a there none_later. subst (λ (l : List KeptAccess). Contains l a) (sym is) (member_filter passes both a there (newest_passes newest (class_at a) a.event a.event
        (subst (λ (l : List KeptAccess). AllPairs IsEarlier l → HasLast newest x old.thread old.writes l) (same ∙ more) last up a there (λ b found of_class. none_later b found (ap (λ (c : Class). c.location) of_class))) refl));
  }
    where
      passes : KeptAccess → Bool
      passes = is_newest_kept newest x old.thread old.writes

      class_at : KeptAccess → Class
      class_at a = class_of x (access_of old.thread old.writes a)

      is : new.kept.items ≡ filter passes both
      is = forgot ∙ ap (filter passes) more

-- the run of a variable, an access more
module _ (trace : List Event) (spots : List Spot) (x : ℕ) (access : FoundAccess) (own : IsFoundAccess trace spots x access) where
  pub run_goes_on : (run : Run) → run.thread ≡ access.thread → IsRun trace x access.event run → IsRun trace x (access.event + 1) run
  run_goes_on run same is = record {
    alone = λ i from lt at. elim (cases_eq i access.event) [
      | inl here ↦ ap (thread_at trace) here ∙ (own.thread_is ∙ ap (λ (t : ℕ). Some t) (sym same))
      | inr other ↦ is.alone i from (omega (arith, lt, other)) at
    ];
  }

  pub run_begun : IsRun trace x (access.event + 1) (record { thread = access.thread; start = access.event })
  run_begun = record {
    alone = λ i from lt at. (let here : i ≡ access.event = omega (arith, from, lt) in ap (thread_at trace) here ∙ own.thread_is);
  }

-- where no call of a test changes the test or the element, those stay that pass
pub retained_passing : {X F : Type 0} (R : F → X → Bool → F → X → Type 0) (test : X → Bool) (f : F) → ((x : X) (b : Bool) (g : F) (y : X) → R f x b g y → (b ≡ test x) × (g ≡ f) × (y ≡ x))
    → (xs ys : List X) → RetainsInTurn R f xs ys → ys ≡ filter test xs
retained_passing R test f says [] ys h = h
retained_passing R test f says (x ∷ xs) ys h =
    let said = says x h.0 h.1 h.2 h.3 in
    let rest = retained_passing R test f says xs h.4 (subst (λ g. RetainsInTurn R g xs h.4) said.1 h.5) in
    h.6 ∙ (λ i. cond (said.0 i) (said.2 i ∷ rest i) (rest i))
