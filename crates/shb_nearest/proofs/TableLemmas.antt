-- The tables after an access more, and after another event.
use Rattle.std.proofs.Common.{◌≡◌, ◌≢◌, ℕ, ◌+◌, ◌-◌, ◌^◌, ◌<◌, ◌≤◌, inl, inr, Bool, true, false, cond, List, [], ◌∷◌, ◌++◌, None, Option, Some, length, take, arith, refl, sym, ap, subst, ◌∙◌}
use Rattle.std.specs.Prelude.{All, min, option_and_then, reverse, slice_get, unwrap_or}
use Rattle.shb_nearest.proofs.Words.{Accesses, All-contains, All-nil, AreAccesses, AreClasses, AreGroups, AreMoreVariables, ArePlaces, AreTables, AreVariables, Class, Entry, Event, FoundAccess, Group, Grouped, Groups, HasGroupAt, HaveGroups, IsAccess, IsAt, IsBelowPredCount, IsDisciplined, IsFoundAccess, IsGroup, IsKept, IsNextAccess, IsNumberOf, IsOfClass, IsOfGroup, IsRun, IsScreened, IsSince, IsVariable, Op, PlaceEntry, Race, Run, Spot, StayGroups, StayWaiting, StreamClocks, Tables, Variable, Waiting, access_of, access_op, cases_Bool, cases_lt, class_of, increasing_equal, is_of, length-set, length-take, local_time, newest_in, op_at, same_class, screened_later, screened_never, set, set_cases, thread_at, variable_at, variable_of}
use Rattle.std.proofs.lemmas.List.Sums.{count_by-le-length}
use Rattle.shb_stamps.proofs.Counting.{count_own}
use Rattle.shb_stamps.proofs.Locals.{time_at}
use Rattle.shb_stamps.specs.declared.screen.Epoch.{Epoch}
use Rattle.shb_stamps.specs.declared.screen.Latest.{Latest}
use Rattle.shb_nearest.specs.Classes.{HasPut}
use Rattle.shb_nearest.proofs.GroupLemmas.{class_self, group_empty, group_same, groups_next, groups_until, one_class}
use Rattle.shb_nearest.proofs.ClassLemmas.{class_own, class_variable, class_with, op_variable}
use Rattle.shb_nearest.proofs.LateLemmas.{late_none, late_skip}
use Rattle.shb_nearest.proofs.Members.{at_other, member_at}
use Rattle.shb_nearest.proofs.RivalLemmas.{variable_is, writes_where}

module _ (trace : List Event) (spots : List Spot) where
  no_race : (i j : ℕ) (op : Op) → op_at trace j ≡ Some op → variable_of op ≡ None → Race trace i j → ⊥
  no_race i j op is none race =
      let v = sym race.conflict.second_accesses ∙ (ap (option_and_then variable_of) is ∙ none) in (let f : ⊥ = cc in f)

  module _ (n : ℕ) where
    -- the classes, an access more
    pub classes_put : (before newest : List (Class × ℕ)) (x : ℕ) (access : FoundAccess) → access.event < n → IsFoundAccess trace spots x access → HasPut before newest (class_of x access) access.event → AreClasses trace spots n before → AreClasses trace spots n newest
    classes_put before newest x access past own put are = record { own = own_class }
      where
        is_new : (c : Class) → class_of x access ≡ c → newest_in newest c ≡ Some access.event
        is_new c same = put c ∙ ap (λ (b : Bool). cond b (Some access.event) (newest_in before c)) (subst (λ (d : Class). same_class (class_of x access) d ≡ true) same (class_self (class_of x access)))

        is_old : (c : Class) → same_class (class_of x access) c ≡ false → newest_in newest c ≡ newest_in before c
        is_old c other = put c ∙ ap (λ (b : Bool). cond b (Some access.event) (newest_in before c)) other

        own_class : (c : Class) (k : ℕ) → newest_in newest c ≡ Some k → IsOfClass trace spots c k × (k < n)
        own_class c k is = elim (cases_Bool (same_class (class_of x access) c)) [
          | inr other ↦ are.own c k (sym (is_old c other) ∙ is)
          | inl same ↦ (
              let one = one_class (class_of x access) c same in
              let e : access.event ≡ k = (let s : Some access.event ≡ Some k = sym (is_new c one) ∙ is in cc) in
              (subst (λ (m : ℕ). IsOfClass trace spots c m) e (subst (λ (d : Class). IsOfClass trace spots d access.event) one (class_own trace spots x access own)), omega (arith, e, past)))
        ]

    -- an event more, without a change
    pub classes_later : (entries : List (Class × ℕ)) → AreClasses trace spots n entries → AreClasses trace spots (n + 1) entries
    classes_later entries are = record { own = λ c k at. (let h = are.own c k at in (h.0, (let lt = h.1 in omega (arith, lt)))) }

    -- an access that a group of the class keeps
    pub since_kept : (x : ℕ) (access : FoundAccess) (since : ℕ) (groups mid : List Group) (last at : ℕ) (group : Group) → access.event ≡ n → AreGroups trace spots x n last groups → HasGroupAt groups mid access.thread access.writes at → slice_get mid at ≡ Some group → IsAt group.kept.items access.spot.location since → IsSince trace spots x access since
    since_kept x access since groups mid last at group at_n are made there is = elim is [
      | inl none ↦ inl none
      | inr found ↦ (
          let same = group_same made.group group (sym made.there ∙ there) in
          let is_of : IsOfGroup group access.thread access.writes = subst (λ (g : Group). IsOfGroup g access.thread access.writes) same made.own in
          let g : IsGroup trace spots x n group = elim (made.from at group there) [
            | inl before ↦ All-contains (IsGroup trace spots x n) groups group are.each (member_at groups at group before)
            | inr empty ↦ group_empty trace spots x n n group empty
          ] in
          let k = All-contains (IsKept trace spots x n group.thread group.writes) group.kept.items found.0 g.each found.1 in
          let own = class_own trace spots x (access_of group.thread group.writes found.0) k.own in
          let e = found.3 in
          let lt = k.past in
          inr (subst (λ (m : ℕ). IsOfClass trace spots (class_of x access) m) e (subst (λ (c : Class). IsOfClass trace spots c found.0.event) (λ i. class_with x (found.2 i) (is_of.thread_is i) (is_of.writes_is i)) own), omega (arith, lt, e, at_n)))
    ]

    -- what was the newest of the class
    pub since_is : (before : List (Class × ℕ)) (x since : ℕ) (access : FoundAccess) → access.event ≡ n → AreClasses trace spots n before → since ≡ unwrap_or (newest_in before (class_of x access)) 0 → IsSince trace spots x access since
    since_is before x since access at_n are is = go (newest_in before (class_of x access)) refl is
      where
        go : (o : Option ℕ) → newest_in before (class_of x access) ≡ o → since ≡ unwrap_or o 0 → IsSince trace spots x access since
        go None none h = inl h
        go (Some k) some h = (let own = are.own (class_of x access) k some in inr (subst (λ (m : ℕ). IsOfClass trace spots (class_of x access) m) (sym h) own.0, (let lt = own.1 in omega (arith, lt, h, at_n))))

    -- a run without an access more
    pub run_later : (x : ℕ) (run : Run) → (variable_at trace n ≡ Some x → ⊥) → IsRun trace x n run → IsRun trace x (n + 1) run
    run_later x run never is = record {
      alone = λ i from lt at. elim (cases_lt i n) [
        | inl low ↦ is.alone i from low at
        | inr high ↦ absurd (let same : i ≡ n = omega (arith, lt, high) in never (subst (λ (m : ℕ). variable_at trace m ≡ Some x) same at))
      ];
    }

    -- groups without an access more
    groups_skip : (x : ℕ) (groups : List Group) → (variable_at trace n ≡ Some x → ⊥) → AreGroups trace spots x n n groups → AreGroups trace spots x (n + 1) (n + 1) groups
    groups_skip x groups never are = groups_until trace spots x n groups (n + 1) (n + 1) (omega arith)
        (λ c k of_x is from lt. let same : k ≡ n = omega (arith, from, lt) in never (subst (λ (i : ℕ). variable_at trace i ≡ Some x) same (class_variable trace spots c k is.newest.own ∙ ap (λ (y : ℕ). Some y) of_x)))
        (groups_next trace spots x n groups n (omega arith) are)

    -- accesses without one more
    accesses_later : (x : ℕ) (entries : List Entry) (groups : List Groups) (accesses : Accesses) → (variable_at trace n ≡ Some x → ⊥) → AreAccesses trace spots x n entries groups accesses → AreAccesses trace spots x (n + 1) entries groups accesses
    accesses_later x entries groups (Waiting place) never w = record { late = w.late; chain = w.chain; are = late_skip trace spots x n 0 (reverse w.late) never w.are }
    accesses_later x entries groups (Grouped at) never h = record { groups = h.groups; there = h.there; own = h.own; are = groups_skip x h.groups.each.items never h.are }

    -- accesses of a variable beside one that waits more, and beside one that comes to groups
    pub beside_waiting : (x : ℕ) (old new : List Entry) (groups : List Groups) → StayWaiting trace spots x old new → (y : ℕ) → y ≢ x → (accesses : Accesses) → AreAccesses trace spots y n old groups accesses → AreAccesses trace spots y n new groups accesses
    beside_waiting x old new groups stay y other (Waiting place) w = stay y n place other w
    beside_waiting x old new groups stay y other (Grouped at) h = h

    pub beside_groups : (x : ℕ) (entries : List Entry) (old new : List Groups) → StayGroups x old new → (y : ℕ) → y ≢ x → (accesses : Accesses) → AreAccesses trace spots y n entries old accesses → AreAccesses trace spots y n entries new accesses
    beside_groups x entries old new stay y other (Waiting place) w = w
    beside_groups x entries old new stay y other (Grouped at) h = record { groups = h.groups; there = stay at h.groups (λ same. other (sym h.own ∙ same)) h.there; own = h.own; are = h.are }

    -- no groups, of no access
    pub none_grouped : (x : ℕ) (groups : List Group) → groups ≡ [] → AreGroups trace spots x 0 n groups
    none_grouped x groups none = record {
      each = subst (λ (l : List Group). All (IsGroup trace spots x 0) l) (sym none) (All-nil (IsGroup trace spots x 0));
      covers = λ c k of_x is lt. absurd (omega (arith, lt));
    }

    -- a variable that nothing accessed
    variable_new : (x : ℕ) (entries : List Entry) (groups : List Groups) (variable : Variable) → ((i : ℕ) → i < n → variable_at trace i ≡ Some x → ⊥) → variable.accesses ≡ Waiting 0 → IsVariable trace spots x n entries groups variable
    variable_new x entries groups variable never is = record {
      accesses = subst (λ (a : Accesses). AreAccesses trace spots x n entries groups a) (sym is) (record { late = []; chain = refl; are = late_none trace spots x n never });
      run = record { alone = λ i from lt is. absurd (never i lt is) };
      screened = screened_never trace x n variable.latest never;
    }

    -- a variable without an access more
    variable_later : (x : ℕ) (entries : List Entry) (groups : List Groups) (variable : Variable) → (variable_at trace n ≡ Some x → ⊥) → IsVariable trace spots x n entries groups variable → IsVariable trace spots x (n + 1) entries groups variable
    variable_later x entries groups variable never is = record {
      accesses = accesses_later x entries groups variable.accesses never is.accesses;
      run = run_later x variable.run never is.run;
      screened = screened_later trace x n variable.latest never is.screened;
    }

    -- variables more
    pub variables_space : (entries : List Entry) (groups : List Groups) (old mid : List Variable) → AreMoreVariables old mid → AreVariables trace spots n entries groups old → AreVariables trace spots n entries groups mid
    variables_space entries groups old mid more are = record {
      each = λ x variable at. elim (more.from x variable at) [
        | inl was ↦ are.each x variable was
        | inr empty ↦ variable_new x entries groups variable (λ i lt is. let low = are.wide i x lt is in let high = empty.0 in omega (arith, low, high)) empty.1
      ];
      wide = λ i x lt is. (let low = are.wide i x lt is in let long = more.longer in omega (arith, low, long));
    }

    -- the variables, an access of one more
    pub variables_put : (x : ℕ) (access : FoundAccess) → access.event ≡ n → IsFoundAccess trace spots x access → (mid : List Variable) (new : Variable) → x < length mid → (old_entries entries : List Entry) (old_groups groups : List Groups)
        → ((y : ℕ) → y ≢ x → (accesses : Accesses) → AreAccesses trace spots y n old_entries old_groups accesses → AreAccesses trace spots y n entries groups accesses)
        → AreVariables trace spots n old_entries old_groups mid → IsVariable trace spots x (n + 1) entries groups new → AreVariables trace spots (n + 1) entries groups (set mid x new)
    variables_put x access at_n found mid new low old_entries entries old_groups groups beside are own = record {
      each = λ y variable at. elim (set_cases mid x y new variable low at) [
        | inl same ↦ subst (λ (z : ℕ). IsVariable trace spots z (n + 1) entries groups variable) (sym same.0) (subst (λ (v : Variable). IsVariable trace spots x (n + 1) entries groups v) (sym same.1) own)
        | inr other ↦ (
            let was = are.each y variable other.1 in
            variable_later y entries groups variable (λ is. other.0 (only y is)) (record { accesses = beside y (λ same. other.0 same) variable.accesses was.accesses; run = was.run; screened = was.screened }))
      ];
      wide = λ i y lt is. (let long = length-set mid x new in elim (cases_lt i n) [
        | inl past ↦ (let within = are.wide i y past is in omega (arith, within, long))
        | inr high ↦ (let same : i ≡ n = omega (arith, lt, high) in let e = only y (subst (λ (m : ℕ). variable_at trace m ≡ Some y) same is) in omega (arith, e, low, long))
      ]);
    }
      where
        only : (y : ℕ) → variable_at trace n ≡ Some y → y ≡ x
        only y is = (let s : Some y ≡ Some x = sym is ∙ subst (λ (m : ℕ). variable_at trace m ≡ Some x) at_n (variable_is trace spots x access found) in cc)

    -- and the access came to the groups of its variable
    pub variables_grouped : (x : ℕ) (access : FoundAccess) → access.event ≡ n → IsFoundAccess trace spots x access → (mid : List Variable) (at : ℕ) (run : Run) (latest : Latest) → x < length mid → (old_entries entries : List Entry) → entries ≡ old_entries
        → (old between groups : List Groups) → StayGroups x old between → StayGroups x between groups → AreVariables trace spots n old_entries old mid → HaveGroups trace spots x (n + 1) groups at → IsRun trace x (n + 1) run → IsScreened trace x (n + 1) latest
        → AreVariables trace spots (n + 1) entries groups (set mid x (record { accesses = Grouped at; run = run; latest = latest }))
    variables_grouped x access at_n found mid at run latest low old_entries entries same old between groups first then are have is_run screened =
        variables_put x access at_n found mid (record { accesses = Grouped at; run = run; latest = latest }) low old_entries entries old groups
        (λ y other accesses was. beside_groups x entries between groups then y other accesses (beside_groups x entries old between first y other accesses (subst (λ (l : List Entry). AreAccesses trace spots y n l old accesses) (sym same) was)))
        are (record { accesses = have; run = is_run; screened = screened })

    -- the places, an event more that races with none before it
    pub places_later : (by_variable : Bool) (entries : List PlaceEntry) → ((i : ℕ) → Race trace i n → ⊥) → ArePlaces by_variable trace spots n entries → ArePlaces by_variable trace spots (n + 1) entries
    places_later by_variable entries none are = record {
      each = λ p r at. (let h = are.each p r at in record {
        accesses = h.accesses;
        place_is = h.place_is;
        is_race = h.is_race;
        past = (let lt = h.past in omega (arith, lt));
        nearest = λ k l lt race at. elim (cases_lt l n) [
          | inl low ↦ h.nearest k l low race at
          | inr high ↦ absurd (never k l lt high race)
        ];
      });
      known = λ p i j lt race at. elim (cases_lt j n) [
        | inl low ↦ are.known p i j low race at
        | inr high ↦ absurd (never i j lt high race)
      ];
    }
      where
        never : (i j : ℕ) → j < n + 1 → n ≤ j → Race trace i j → ⊥
        never i j lt high race = let same : j ≡ n = omega (arith, lt, high) in none i (subst (λ (m : ℕ). Race trace i m) same race)

    -- an event that is no access
    pub tables_skip : (by_variable : Bool) (tables : Tables) (op : Op) → op_at trace n ≡ Some op → variable_of op ≡ None → AreTables by_variable trace spots n tables → AreTables by_variable trace spots (n + 1) tables
    tables_skip by_variable tables op is none are = record {
      classes = classes_later tables.opened.classes.newest.entries are.classes;
      variables = record {
        each = λ x variable at. variable_later x tables.log.entries.items tables.opened.each.items variable (no_access x) (are.variables.each x variable at);
        wide = λ i x lt at. elim (cases_lt i n) [
          | inl low ↦ are.variables.wide i x low at
          | inr high ↦ absurd (let same : i ≡ n = omega (arith, lt, high) in no_access x (subst (λ (m : ℕ). variable_at trace m ≡ Some x) same at))
        ];
      };
      short = ((let low = are.short.0 in omega (arith, low)), (let low = are.short.1 in omega (arith, low)));
      places = places_later by_variable tables.places.races.entries (λ i race. no_race i n op is none race) are.places;
      sites = are.sites;
    }
      where
        no_access : (x : ℕ) → variable_at trace n ≡ Some x → ⊥
        no_access x at = let v = sym at ∙ (ap (option_and_then variable_of) is ∙ none) in (let f : ⊥ = cc in f)

-- what follows from what is kept of a variable for its next access
pub taken_next : (past : List Event) (e : Event) (spots : List Spot) (x : ℕ) (clocks : StreamClocks) (access : FoundAccess) → IsNextAccess past e spots x clocks access → (own : Epoch) → own.thread ≡ access.thread → own.time ≡ local_time (past ++ e ∷ []) access.thread access.event → (old : Latest) (P : ℕ → Type 0)
    → (IsAccess (past ++ e ∷ []) (length past) x own access.writes → IsScreened (past ++ e ∷ []) x (length past) old → P (length past)) → IsScreened (past ++ e ∷ []) x access.event old → P access.event
taken_next past e spots x clocks access next own same time old P taken =
    let trace = past ++ e ∷ [] in
    subst (λ (n : ℕ). IsAccess trace n x own access.writes → IsScreened trace x n old → P n) (sym next.event_is) taken (record {
      own_is = record { thread_is = next.own.thread_is ∙ ap (λ (t : ℕ). Some t) (sym same); time_is = time ∙ ap (λ (t : ℕ). local_time trace t access.event) (sym same) };
      accesses = variable_is trace spots x access next.own;
      reads = λ reads writes. (let w = sym (writes_where trace access.event x x access.writes next.own.op_is writes) ∙ reads in let f : ⊥ = cc in f);
    })

-- a number of events is one number
number_one : (P : ℕ → Type 0) (m n : ℕ) → IsNumberOf P m → IsNumberOf P n → m ≡ n
number_one P m n one other =
    sym one.number ∙ (ap (λ (l : List ℕ). length l) (increasing_equal one.members other.members one.rising other.rising (λ k. ((λ h. (other.all k).1 ((one.all k).0 h)), (λ h. (one.all k).1 ((other.all k).0 h))))) ∙ other.number)

-- the local time of an event is one more than how many events of its thread are below its predecessor
pub time_next : (trace : List Event) → IsDisciplined trace → (t j count time : ℕ) → thread_at trace j ≡ Some t → j + 1 < 2 ^ 32 → IsBelowPredCount trace t j count → time ≡ min (count + 1) (2 ^ 32 - 1) → time ≡ local_time trace t j
time_next trace disciplined t j count time of_j few counted is =
    let own = time_at trace t j of_j in
    let some : (local_time trace t j - 1) + 1 ≡ local_time trace t j = omega (arith, own) in
    let same = number_one _ _ _ counted (count_own trace trace disciplined refl t t j (local_time trace t j - 1) of_j refl some) in
    let most = count_by-le-length (is_of t) (take j trace) in
    let long = length-take j trace in
    omega (arith, own, same, is, most, long, few)

-- the groups of a variable changed
pub stay_groups : (trace : List Event) (spots : List Spot) (x n : ℕ) (each : List Groups) (at : ℕ) (new : Groups) → HaveGroups trace spots x n each at → StayGroups x each (set each at new)
stay_groups trace spots x n each at new have k groups other there = at_other each at k new groups
    (λ same. other (let s : Some groups ≡ Some have.groups = sym there ∙ (ap (slice_get each) same ∙ have.there) in subst (λ (g : Groups). g.variable ≡ x) (let e : have.groups ≡ groups = cc in e) have.own)) there
