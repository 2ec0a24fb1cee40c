-- The accesses that race with the next one, from what the groups keep.
use Rattle.std.proofs.Common.{◌≡◌, ◌≢◌, ℕ, suc, ◌+◌, ◌-◌, ◌<◌, ◌≤◌, ◌⊎◌, inl, inr, Bool, true, false, List, [], ◌∷◌, ◌++◌, Some, map, drop, take, get_or, arith, refl, sym, ap, subst, ◌∙◌}
use Rattle.shb_nearest.proofs.Words.{All-contains, All-weaker, AreGroups, AreMarked, AreMet, AreRivals, BelowPred, CanRace, Contains-push_cases, Event, FoundAccess, Global, Group, Groups, HasMet, HasMetGroup, IsBelowPredCount, IsCovered, IsDisciplined, IsDone, IsFoundAccess, IsGroup, IsIn, IsKept, IsOver, IsRun, IsSettled, KeptAccess, Numbers, Race, Run, Sites, Spot, Write, access_of, access_op, below_pred_closed, cases_Bool, cases_eq, cases_lt, contains_none, get_or_from_slice_get, happens_before, location_in, of_group, of_kind, op_at, same_thread, slice_get-get_or, slice_get_within, take-suc, thread_at, variable_at, variable_of}
use Rattle.std.specs.Prelude.{Box, Contains, option_and_then, slice_get}
use Rattle.shb_lines.proofs.events.Prefix.{below_from_local, local_from_below}
use Rattle.shb_nearest.proofs.ClassLemmas.{class_with, kind_at, last_rival, op_variable}
use Rattle.shb_nearest.proofs.Members.{index_of, member_drop, member_map, member_of_drop, member_of_map}

write_is : (writes : Bool) (x y : ℕ) → access_op writes x ≡ Write y → writes ≡ true
write_is true x y is = refl
write_is false x y is = absurd (let f : ⊥ = cc in f)

pub writes_where : (trace : List Event) (i x y : ℕ) (writes : Bool) → op_at trace i ≡ Some (access_op writes x) → op_at trace i ≡ Some (Write y) → writes ≡ true
writes_where trace i x y writes own is = write_is writes x y (let s : Some (access_op writes x) ≡ Some (Write y) = sym own ∙ is in cc)

write_at : (trace : List Event) (i x : ℕ) (writes : Bool) → op_at trace i ≡ Some (access_op writes x) → writes ≡ true → op_at trace i ≡ Some (Write x)
write_at trace i x writes own is = own ∙ ap (λ (w : Bool). Some (access_op w x)) is

module _ (trace : List Event) (spots : List Spot) (x : ℕ) where
  pub variable_is : (a : FoundAccess) → IsFoundAccess trace spots x a → variable_at trace a.event ≡ Some x
  variable_is a own = ap (option_and_then variable_of) own.op_is ∙ op_variable a.writes x

  module _ (access : FoundAccess) (own : IsFoundAccess trace spots x access) where
    thread_other : (a : FoundAccess) → IsFoundAccess trace spots x a → a.thread ≢ access.thread → thread_at trace a.event ≢ thread_at trace access.event
    thread_other a is other same = other (let s : Some a.thread ≡ Some access.thread = sym is.thread_is ∙ (same ∙ own.thread_is) in cc)

    -- an earlier access of another thread that isn't below races, where one of both writes
    races_where : (a : FoundAccess) → IsFoundAccess trace spots x a → a.event < access.event → a.thread ≢ access.thread → (a.writes ≡ true) ⊎ (access.writes ≡ true) → (BelowPred trace a.event access.event → ⊥) → Race trace a.event access.event
    races_where a is lt other one unordered = record {
      conflict = record {
        variable = x;
        first_accesses = variable_is a is;
        second_accesses = variable_is access own;
        one_writes = elim one [ inl w ↦ inl (write_at trace a.event x a.writes is.op_is w) | inr w ↦ inr (write_at trace access.event x access.writes own.op_is w) ];
        other_thread = thread_other a is other;
      };
      earlier = lt;
      unordered = unordered;
    }

    -- and what races is so
    can_where : (group : Group) (a : FoundAccess) → IsFoundAccess trace spots x a → a.thread ≡ group.thread → a.writes ≡ group.writes → Race trace a.event access.event → CanRace group access
    can_where group a is thread writes race = record {
      other = λ same. race.conflict.other_thread (is.thread_is ∙ (ap (λ (t : ℕ). Some t) (thread ∙ same) ∙ sym own.thread_is));
      one_writes = elim race.conflict.one_writes [
        | inl w ↦ inl (sym writes ∙ writes_where trace a.event x race.conflict.variable a.writes is.op_is w)
        | inr w ↦ inr (writes_where trace access.event x race.conflict.variable access.writes own.op_is w)
      ];
    }

    -- a group that has the access already: nothing is met where nothing can race
    pub met_none : (group : Group) → IsGroup trace spots x (access.event + 1) group → (groups : Groups) (since : ℕ) (old : List FoundAccess) → (CanRace group access → ⊥) → HasMetGroup trace spots x groups access since group old old
    met_none group kept groups since old cannot = record {
      stay = λ a there. there;
      from = λ a there. inl there;
      met = λ a there from race. absurd (cannot (can_where group (access_of group.thread group.writes a) (All-contains (IsKept trace spots x (access.event + 1) group.thread group.writes) group.kept.items a kept.each there).own refl refl race));
    }

    -- and it doesn't, where it is another thread's
    pub group_before : (group : Group) → group.thread ≢ access.thread → IsGroup trace spots x (access.event + 1) group → IsGroup trace spots x access.event group
    group_before group other is = record {
      each = All-weaker (IsKept trace spots x (access.event + 1) group.thread group.writes) (IsKept trace spots x access.event group.thread group.writes) before group.kept.items is.each;
      rising = is.rising;
    }
      where
        before : (a : KeptAccess) → IsKept trace spots x (access.event + 1) group.thread group.writes a → IsKept trace spots x access.event group.thread group.writes a
        before a h = record {
          own = h.own;
          time_is = h.time_is;
          past = elim (cases_eq a.event access.event) [
            | inl here ↦ absurd (other (let s : Some group.thread ≡ Some access.thread = sym h.own.thread_is ∙ (ap (thread_at trace) here ∙ own.thread_is) in cc))
            | inr there ↦ (let lt = h.past in omega (arith, lt, there))
          ];
        }

    module _ (group : Group) (kept : IsGroup trace spots x access.event group) where
      is_kept : (a : KeptAccess) → Contains group.kept.items a → IsKept trace spots x access.event group.thread group.writes a
      is_kept a there = All-contains (IsKept trace spots x access.event group.thread group.writes) group.kept.items a kept.each there

      module _ (below : ℕ) (count : IsBelowPredCount trace group.thread access.event below) where
        looked_races : CanRace group access → (a : KeptAccess) → Contains group.kept.items a → below < a.time → Race trace a.event access.event
        looked_races can a there above =
            let h = is_kept a there in
            races_where (access_of group.thread group.writes a) h.own h.past can.other can.one_writes
            (λ is_below. let le = local_from_below trace group.thread access.event below count a.event h.own.thread_is is_below in let time = h.time_is in omega (arith, le, time, above))

        over_none : (since k m : ℕ) (a b : KeptAccess) → slice_get group.kept.items k ≡ Some a → slice_get group.kept.items m ≡ Some b → k ≤ m → IsOver b below since → since ≤ a.event → Race trace a.event access.event → ⊥
        over_none since k m a b at_a at_b le over from race = elim over [
          | inl low ↦ race.unordered (elim order [
            | inl same ↦ subst (λ (e : ℕ). BelowPred trace e access.event) (sym same) (below_b low)
            | inr lt ↦ below_pred_closed trace a.event b.event access.event (happens_before (record { earlier = lt; rule = same_thread group.thread (is_kept a (member a k at_a)).own.thread_is of_b })) (below_b low)
          ])
          | inr early ↦ elim order [
            | inl same ↦ absurd (omega (arith, same, early, from))
            | inr lt ↦ absurd (omega (arith, lt, early, from))
          ]
        ]
          where
            member : (c : KeptAccess) (i : ℕ) → slice_get group.kept.items i ≡ Some c → Contains group.kept.items c
            member c i at = (i, slice_get_within group.kept.items i c at, get_or_from_slice_get group.kept.items i c c at)

            of_b : thread_at trace b.event ≡ Some group.thread
            of_b = (is_kept b (member b m at_b)).own.thread_is

            below_b : b.time ≤ below → BelowPred trace b.event access.event
            below_b low = below_from_local trace group.thread access.event below count b.event of_b (let time = (is_kept b (member b m at_b)).time_is in omega (arith, time, low))

            order : (a.event ≡ b.event) ⊎ (a.event < b.event)
            order = elim (cases_eq k m) [
              | inl same ↦ inl (let s : Some a ≡ Some b = sym at_a ∙ (ap (slice_get group.kept.items) same ∙ at_b) in let e : a ≡ b = cc in ap (λ (c : KeptAccess). c.event) e)
              | inr ne ↦ inr (
                  let rise = kept.rising k m a (omega (arith, le, ne)) (slice_get_within group.kept.items m b at_b) in
                  let at_k = get_or_from_slice_get group.kept.items k a a at_a in
                  let at_m = get_or_from_slice_get group.kept.items m b a at_b in
                  let ek = ap (λ (c : KeptAccess). c.event) at_k in
                  let em = ap (λ (c : KeptAccess). c.event) at_m in
                  omega (arith, rise, ek, em))
            ]

        -- what was looked at is what races
        pub met_some : (groups : Groups) (since : ℕ) (old new : List FoundAccess) → CanRace group access → HasMet groups access.spot.location group below since old new → HasMetGroup trace spots x groups access since group old new
        met_some groups since old new can h = record {
          stay = h.more.stay;
          from = λ a there. elim (h.more.from a there) [
            | inl before ↦ inl before
            | inr new_one ↦ inr (found a new_one)
          ];
          met = λ a there from race. h.more.covers (access_of group.thread group.writes a) (looked a there from race);
        }
          where
            added : List FoundAccess
            added = map (access_of group.thread group.writes) (drop h.from group.kept.items)

            found : (a : FoundAccess) → Contains added a → IsFoundAccess trace spots x a × Race trace a.event access.event
            found a there =
                let m = member_of_map (access_of group.thread group.writes) (drop h.from group.kept.items) a there in
                let k = member_of_drop h.from group.kept.items m.0 m.1 in
                let in_group : Contains group.kept.items m.0 = (k.0, slice_get_within group.kept.items k.0 m.0 k.2, get_or_from_slice_get group.kept.items k.0 m.0 m.0 k.2) in
                let race = looked_races can m.0 in_group (h.from_is.need.after k.0 m.0 k.1 k.2).0 in
                subst (λ (b : FoundAccess). IsFoundAccess trace spots x b × Race trace b.event access.event) m.2 ((is_kept m.0 in_group).own, race)

            looked : (a : KeptAccess) → Contains group.kept.items a → since ≤ a.event → Race trace a.event access.event → Contains added (access_of group.thread group.writes a)
            looked a there from race =
                let k = index_of group.kept.items a there in
                elim (cases_lt k.0 h.from) [
                  | inr high ↦ member_map (access_of group.thread group.writes) (drop h.from group.kept.items) a (member_drop h.from k.0 group.kept.items a high k.1)
                  | inl low ↦ (
                      let within = h.from_is.need.within in
                      let m = h.from - 1 in
                      let last = get_or group.kept.items m a in
                      let at_m = slice_get-get_or group.kept.items m a (omega (arith, within, low)) in
                      absurd (over_none since k.0 m a last k.1 at_m (omega (arith, low)) (h.from_is.stop m last (omega (arith, low)) at_m) from race))
                ]

    -- none where no other thread accessed the variable
    pub no_rivals : (run : Run) (groups : Groups) (since : ℕ) → access.thread ≡ run.thread → run.start ≤ since → IsRun trace x access.event run → AreRivals trace spots x groups access since []
    no_rivals run groups since same from is = record {
      races = λ a there. absurd (contains_none a there);
      each = λ i l race at later. absurd (
          let c = race.conflict in
          let one : c.variable ≡ x = (let s : Some c.variable ≡ Some x = sym c.second_accesses ∙ variable_is access own in cc) in
          let of_i = is.alone i (omega (arith, from, later)) race.earlier (c.first_accesses ∙ ap (λ (y : ℕ). Some y) one) in
          c.other_thread (of_i ∙ (ap (λ (t : ℕ). Some t) (sym same) ∙ sym own.thread_is)));
    }

    -- no group so far
    pub met_start : (all : Groups) (since : ℕ) → AreMet trace spots x all access since [] []
    met_start all since = record {
      races = λ a there. absurd (contains_none a there);
      met = λ g a there. absurd (contains_none g there);
    }

    settled_by : (all : Groups) (sites : Box Sites Global) → all.sites ≡ Some sites → (numbers : Numbers) (since l e : ℕ) → IsDone sites.value.all.items numbers access.spot.location since → IsIn sites.value.all.items numbers l e → since ≤ e → IsSettled all l access.spot.location
    settled_by all sites is numbers since l e done found from = record { sites = sites; sites_are = is; pair = done.pairs l e found from }

    -- a group whose sites are done
    pub met_done : (all : Groups) (at since : ℕ) (group : Group) (old : List FoundAccess) → AreMarked all → slice_get all.each.items at ≡ Some group → (sites : Box Sites Global) → all.sites ≡ Some sites → IsDone sites.value.all.items (of_group sites.value at) access.spot.location since → HasMetGroup trace spots x all access since group old old
    met_done all at since group old marked there sites is done = record {
      stay = λ a covered. covered;
      from = λ a among. inl among;
      met = λ a among from race. inr (settled_by all sites is (of_group sites.value at) since a.spot.location a.event done (marked sites is at group there done.few a among).group from);
    }

    -- all groups, where the sites of both kinds are done
    pub met_all : (all : Groups) (since n m : ℕ) → AreMarked all → AreGroups trace spots x n m all.each.items → (sites : Box Sites Global) → all.sites ≡ Some sites → IsDone sites.value.all.items sites.value.writes access.spot.location since
        → (access.writes ≡ true → (more : Box Sites Global) × (all.sites ≡ Some more) × IsDone more.value.all.items more.value.reads access.spot.location since) → AreMet trace spots x all access since all.each.items []
    met_all all since n m marked are sites is writes reads = record {
      races = λ a there. absurd (contains_none a there);
      met = λ g a there among from race. inr (
          let at = index_of all.each.items g there in
          let own = (All-contains (IsKept trace spots x n g.thread g.writes) g.kept.items a (All-contains (IsGroup trace spots x n) all.each.items g are.each there).each among).own in
          let can = can_where g (access_of g.thread g.writes a) own refl refl race in
          elim (cases_Bool g.writes) [
            | inl w ↦ settled_by all sites is sites.value.writes since a.spot.location a.event writes (subst (λ (b : Bool). IsIn sites.value.all.items (of_kind sites.value b) a.spot.location a.event) w (marked sites is at.0 g at.1 writes.few a among).kind) from
            | inr r ↦ (
                let is_writing : access.writes ≡ true = elim can.one_writes [ inl wrong ↦ absurd (let f : true ≡ false = sym wrong ∙ r in (let c : ⊥ = cc in c)) | inr of_access ↦ of_access ] in
                let done = reads is_writing in
                settled_by all done.0 done.1 done.0.value.reads since a.spot.location a.event done.2 (subst (λ (b : Bool). IsIn done.0.value.all.items (of_kind done.0.value b) a.spot.location a.event) r (marked done.0 done.1 at.0 g at.1 done.2.few a among).kind) from)
          ]);
    }

    -- a group more
    pub met_more : (all : Groups) (since n : ℕ) (groups : List Group) (group : Group) (old new : List FoundAccess) → slice_get groups n ≡ Some group → AreMet trace spots x all access since (take n groups) old → HasMetGroup trace spots x all access since group old new → AreMet trace spots x all access since (take (n + 1) groups) new
    met_more all since n groups group old new at are h = record {
      races = λ a there. elim (h.from a there) [ inl before ↦ are.races a before | inr found ↦ found ];
      met = λ g a there in_group from race. elim (Contains-push_cases (take n groups) group g (subst (λ (l : List Group). Contains l g) more there)) [
        | inl before ↦ elim (are.met g a before in_group from race) [ inl covered ↦ inl (h.stay (access_of g.thread g.writes a) covered) | inr settled ↦ inr settled ]
        | inr same ↦ subst (λ (b : Group). IsCovered new (access_of b.thread b.writes a) ⊎ IsSettled all a.spot.location access.spot.location) same (h.met a (subst (λ (b : Group). Contains b.kept.items a) (sym same) in_group) from race)
      ];
    }
      where
        more : take (n + 1) groups ≡ take n groups ++ group ∷ []
        more = (let e : n + 1 ≡ suc n = omega arith in ap (λ (m : ℕ). take m groups) e) ∙ (take-suc groups n group (slice_get_within groups n group at) ∙ ap (λ (b : Group). take n groups ++ b ∷ []) (get_or_from_slice_get groups n group group at))

    -- all groups: each access that races has a rival at its location that isn't before it
    pub rivals_are : IsDisciplined trace → (all : Groups) (since : ℕ) (rivals : List FoundAccess) → AreGroups trace spots x (access.event + 1) (access.event + 1) all.each.items → AreMet trace spots x all access since all.each.items rivals → AreRivals trace spots x all access since rivals
    rivals_are disciplined all since rivals are met = record { races = met.races; each = each }
      where
        each : (i l : ℕ) → Race trace i access.event → location_in spots i ≡ Some l → since ≤ i → ((a : FoundAccess) × Contains rivals a × (a.spot.location ≡ l) × (i ≤ a.event)) ⊎ IsSettled all l access.spot.location
        each i l race at from =
            let c = race.conflict in
            let one : c.variable ≡ x = (let s : Some c.variable ≡ Some x = sym c.second_accesses ∙ variable_is access own in cc) in
            let kind = kind_at trace i x (c.first_accesses ∙ ap (λ (y : ℕ). Some y) one) in
            let last = last_rival trace spots disciplined access.event x l kind.0 i (record { race = race; op_is = kind.1; location_is = at }) in
            let k = last.0 in
            let before = last.2.race.earlier in
            let keeps = are.covers (class_with x l last.1 kind.0) k refl last.4 (omega (arith, before)) in
            let le = last.3 in
            let at_k = keeps.event_is in
            elim (met.met keeps.group keeps.kept keeps.there keeps.among (omega (arith, from, le, at_k)) (subst (λ (m : ℕ). Race trace m access.event) (sym at_k) last.2.race)) [
              | inl covered ↦ inl (let later = covered.not_before in (covered.rival, covered.there, covered.location_is ∙ keeps.location_is, omega (arith, le, at_k, later)))
              | inr settled ↦ inr (subst (λ (m : ℕ). IsSettled all m access.spot.location) keeps.location_is settled)
            ]
