-- What is known of the accesses of a stream stays so when an event comes.
use Rattle.std.proofs.Common.{◌≡◌, ℕ, zero, suc, ◌<◌, ◌≤◌, Bool, List, [], ◌∷◌, ◌++◌, Some, length, arith, refl, sym, ap, ◌∙◌}
use Rattle.std.specs.Prelude.{option_and_then, reverse, slice_get}
use Rattle.shb_nearest.proofs.Words.{Accesses, All-weaker, AreAccesses, AreGroups, AreLate, AreTables, Class, Entry, Event, FoundAccess, FoundRace, Group, Grouped, Groups, IsAtPlace, IsDisciplined, IsFoundAccess, IsGroup, IsKept, IsLastOf, IsLateIn, IsNearestAt, IsNewestOf, IsOfClass, KeptAccess, Late, Place, Race, Spot, Tables, Waiting, access_in, access_of, location_in, op_at, screened_longer, thread_at, variable_at, variable_of}
use Rattle.shb_lines.proofs.events.Longer.{below_pred_longer, op_longer, race_longer, thread_longer, time_longer}

spot_longer : (spots more : List Spot) (k : ℕ) → k < length spots → slice_get (spots ++ more) k ≡ slice_get spots k
spot_longer [] more k lt = absurd (omega arith)
spot_longer (s ∷ spots) more zero lt = refl
spot_longer (s ∷ spots) more (suc k) lt = spot_longer spots more k (omega arith)

module _ (past : List Event) (e : Event) (spots : List Spot) (s : Spot) (as_many : length spots ≡ length past) (whole : IsDisciplined (past ++ e ∷ [])) where
  same_place : (k : ℕ) → k < length past → location_in (spots ++ s ∷ []) k ≡ location_in spots k
  same_place k lt = ap (option_and_then (λ (t : Spot). Some t.location)) (spot_longer spots (s ∷ []) k (omega (arith, lt, as_many)))

  same_thread_at : (k : ℕ) → k < length past → thread_at (past ++ e ∷ []) k ≡ thread_at past k
  same_thread_at k lt = thread_longer past (e ∷ []) k lt

  same_op_at : (k : ℕ) → k < length past → op_at (past ++ e ∷ []) k ≡ op_at past k
  same_op_at k lt = op_longer past (e ∷ []) k lt

  access_longer : (x : ℕ) (a : FoundAccess) → a.event < length past → IsFoundAccess past spots x a → IsFoundAccess (past ++ e ∷ []) (spots ++ s ∷ []) x a
  access_longer x a lt h = record {
    thread_is = same_thread_at a.event lt ∙ h.thread_is;
    op_is = same_op_at a.event lt ∙ h.op_is;
    spot_is = spot_longer spots (s ∷ []) a.event (omega (arith, lt, as_many)) ∙ h.spot_is;
  }

  class_longer : (c : Class) (k : ℕ) → k < length past → IsOfClass past spots c k → IsOfClass (past ++ e ∷ []) (spots ++ s ∷ []) c k
  class_longer c k lt h = record { thread_is = same_thread_at k lt ∙ h.thread_is; op_is = same_op_at k lt ∙ h.op_is; location_is = same_place k lt ∙ h.location_is }

  class_back : (c : Class) (k : ℕ) → k < length past → IsOfClass (past ++ e ∷ []) (spots ++ s ∷ []) c k → IsOfClass past spots c k
  class_back c k lt h = record { thread_is = sym (same_thread_at k lt) ∙ h.thread_is; op_is = sym (same_op_at k lt) ∙ h.op_is; location_is = sym (same_place k lt) ∙ h.location_is }

  module _ (x n : ℕ) (within : n ≤ length past) where
    kept_longer : (t : ℕ) (w : Bool) (a : KeptAccess) → IsKept past spots x n t w a → IsKept (past ++ e ∷ []) (spots ++ s ∷ []) x n t w a
    kept_longer t w a h = let before = h.past in record {
      own = access_longer x (access_of t w a) (omega (arith, before, within)) h.own;
      time_is = h.time_is ∙ sym (time_longer past (e ∷ []) t a.event (omega (arith, before, within)));
      past = h.past;
    }

    group_longer : (g : Group) → IsGroup past spots x n g → IsGroup (past ++ e ∷ []) (spots ++ s ∷ []) x n g
    group_longer g h = record {
      each = All-weaker (IsKept past spots x n g.thread g.writes) (IsKept (past ++ e ∷ []) (spots ++ s ∷ []) x n g.thread g.writes) (kept_longer g.thread g.writes) g.kept.items h.each;
      rising = h.rising;
    }

  newest_back : (c : Class) (k : ℕ) → IsNewestOf (past ++ e ∷ []) (spots ++ s ∷ []) (length past) c k → IsNewestOf past spots (length past) c k
  newest_back c k is = record { own = class_back c k is.past is.own; past = is.past; last = λ i lt own. is.last i lt (class_longer c i lt own) }

  last_back : (c : Class) (k : ℕ) → IsLastOf (past ++ e ∷ []) (spots ++ s ∷ []) (length past) c k → IsLastOf past spots (length past) c k
  last_back c k is = record {
    newest = newest_back c k is.newest;
    none_after = λ i low lt op at below. is.none_after i low lt (same_op_at i lt ∙ op) (same_place i lt ∙ at) ((below_pred_longer past (e ∷ []) whole k i lt).1 below);
  }

  groups_longer : (x n : ℕ) (groups : List Group) → n ≤ length past → AreGroups past spots x n (length past) groups → AreGroups (past ++ e ∷ []) (spots ++ s ∷ []) x n (length past) groups
  groups_longer x n groups within h = record {
    each = All-weaker (IsGroup past spots x n) (IsGroup (past ++ e ∷ []) (spots ++ s ∷ []) x n) (group_longer x n within) groups h.each;
    covers = λ c k of_x is. h.covers c k of_x (last_back c k is);
  }

  same_variable_at : (k : ℕ) → k < length past → variable_at (past ++ e ∷ []) k ≡ variable_at past k
  same_variable_at k lt = ap (option_and_then variable_of) (same_op_at k lt)

  late_in_longer : (x m : ℕ) (a : Late) → IsLateIn past spots x m (length past) a → IsLateIn (past ++ e ∷ []) (spots ++ s ∷ []) x m (length past) a
  late_in_longer x m a h = record {
    own = record {
      own = access_longer x (access_in a) h.past h.own.own;
      time_is = h.own.time_is ∙ sym (time_longer past (e ∷ []) a.thread a.event h.past);
      after = λ all k lt of_k. (let before = h.past in (below_pred_longer past (e ∷ []) whole k a.event before).1 (h.own.after all k lt (sym (same_variable_at k (omega (arith, lt, before))) ∙ of_k)));
    };
    from = h.from;
    past = h.past;
  }

  late_longer : (x m : ℕ) (late : List Late) → AreLate past spots x (length past) m late → AreLate (past ++ e ∷ []) (spots ++ s ∷ []) x (length past) m late
  late_longer x m late h = record {
    within = h.within;
    each = All-weaker (IsLateIn past spots x m (length past)) (IsLateIn (past ++ e ∷ []) (spots ++ s ∷ []) x m (length past)) (late_in_longer x m) late h.each;
    rising = h.rising;
    covers = λ c k of_x is. h.covers c k of_x (last_back c k is);
  }

  accesses_longer : (x : ℕ) (entries : List Entry) (groups : List Groups) (accesses : Accesses) → AreAccesses past spots x (length past) entries groups accesses → AreAccesses (past ++ e ∷ []) (spots ++ s ∷ []) x (length past) entries groups accesses
  accesses_longer x entries groups (Waiting place) w = record { late = w.late; chain = w.chain; are = late_longer x 0 (reverse w.late) w.are }
  accesses_longer x entries groups (Grouped at) h = record { groups = h.groups; there = h.there; own = h.own; are = groups_longer x (length past) h.groups.each.items (omega arith) h.are }

  race_back : (i j : ℕ) → j < length past → Race (past ++ e ∷ []) i j → Race past i j
  race_back i j lt race = (race_longer past (e ∷ []) whole i j lt).0 race

  at_place_back : (by_variable : Bool) (p : Place) (i j : ℕ) → i < j → j < length past → IsAtPlace by_variable (past ++ e ∷ []) (spots ++ s ∷ []) p i j → IsAtPlace by_variable past spots p i j
  at_place_back by_variable p i j before lt h = record {
    first_is = sym (same_place i (omega (arith, before, lt))) ∙ h.first_is;
    second_is = sym (same_place j lt) ∙ h.second_is;
    variable_is = λ x is. h.variable_is x (same_variable_at j lt ∙ is);
  }

  nearest_longer : (by_variable : Bool) (p : Place) (r : FoundRace) → IsNearestAt by_variable past spots (length past) p r → IsNearestAt by_variable (past ++ e ∷ []) (spots ++ s ∷ []) (length past) p r
  nearest_longer by_variable p r h = record {
    accesses = record {
      first_is = access_longer r.variable r.first (let before = h.is_race.earlier in let lt = h.past in omega (arith, before, lt)) h.accesses.first_is;
      second_is = access_longer r.variable r.second h.past h.accesses.second_is;
    };
    place_is = h.place_is;
    is_race = (race_longer past (e ∷ []) whole r.first.event r.second.event h.past).1 h.is_race;
    past = h.past;
    nearest = λ k l lt race at. (let own = race_back k l lt race in h.nearest k l lt own (at_place_back by_variable p k l own.earlier lt at));
  }

  pub tables_longer : (by_variable : Bool) (tables : Tables) → AreTables by_variable past spots (length past) tables → AreTables by_variable (past ++ e ∷ []) (spots ++ s ∷ []) (length past) tables
  tables_longer by_variable tables are = record {
    classes = record {
      own = λ c k at. (let h = are.classes.own c k at in (class_longer c k h.1 h.0, h.1));
    };
    variables = record {
      each = λ x variable at. (let h = are.variables.each x variable at in record {
        accesses = accesses_longer x tables.log.entries.items tables.opened.each.items variable.accesses h.accesses;
        run = record { alone = λ i from lt is. same_thread_at i lt ∙ h.run.alone i from lt (sym (same_variable_at i lt) ∙ is) };
        screened = screened_longer past e whole x variable.latest h.screened;
      });
      wide = λ i x lt is. are.variables.wide i x lt (sym (same_variable_at i lt) ∙ is);
    };
    short = are.short;
    places = record {
      each = λ p r at. nearest_longer by_variable p r (are.places.each p r at);
      known = λ p i j lt race at. (let own = race_back i j lt race in are.places.known p i j lt own (at_place_back by_variable p i j own.earlier lt at));
    };
    sites = are.sites;
  }
