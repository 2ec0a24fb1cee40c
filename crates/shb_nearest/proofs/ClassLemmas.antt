-- Classes: of each access one, and of each the newest access before an event.
use Rattle.std.proofs.Common.{◌≡◌, ◌≢◌, ℕ, ◌+◌, ◌<◌, ◌≤◌, ◌⊎◌, inl, inr, Bool, true, false, List, None, Option, Some, arith, refl, sym, ap, subst, ◌∙◌}
use Rattle.std.specs.Prelude.{option_and_then}
use Rattle.shb_nearest.proofs.Words.{BelowPred, Class, Conflict, Decided, Event, FoundAccess, IsDisciplined, IsFoundAccess, IsLastOf, IsNewestOf, IsOfClass, Op, Race, Read, Spot, Write, access_op, cases_Bool, cases_eq, cases_lt, class_of, event_at_access, is_race, location_in, op_at, path_append, reflect_race, strictly_below_below, thread_at, thread_below_pred, thread_is, variable_at, variable_of}
use Rattle.shb_nearest.proofs.NearestLaws.{greatest}

-- the variable of an access, and whether it writes
pub op_variable : (writes : Bool) (x : ℕ) → variable_of (access_op writes x) ≡ Some x
op_variable true x = refl
op_variable false x = refl

pub access_kind : (op : Op) (x : ℕ) → variable_of op ≡ Some x → (writes : Bool) × (op ≡ access_op writes x)
access_kind (Read y) x is = (false, ap (λ (z : ℕ). Read z) (let e : y ≡ x = cc in e))
access_kind (Write y) x is = (true, ap (λ (z : ℕ). Write z) (let e : y ≡ x = cc in e))
access_kind _ x is = absurd (let f : ⊥ = cc in f)

pub kind_at : (trace : List Event) (i x : ℕ) → variable_at trace i ≡ Some x → (writes : Bool) × (op_at trace i ≡ Some (access_op writes x))
kind_at trace i x is = go (op_at trace i) refl is
  where
    go : (o : Option Op) → op_at trace i ≡ o → option_and_then variable_of o ≡ Some x → (writes : Bool) × (op_at trace i ≡ Some (access_op writes x))
    go (Some op) at h = let k = access_kind op x h in (k.0, at ∙ ap (λ (p : Op). Some p) k.1)
    go None at h = absurd (let f : ⊥ = cc in f)

pub location_of_access : (trace : List Event) (spots : List Spot) (x : ℕ) (a : FoundAccess) → IsFoundAccess trace spots x a → location_in spots a.event ≡ Some a.spot.location
location_of_access trace spots x a own = ap (option_and_then (λ (s : Spot). Some s.location)) own.spot_is

kind_same : (v w : Bool) (x y : ℕ) → access_op v x ≡ access_op w y → (v ≡ w) × (x ≡ y)
kind_same true true x y is = (refl, (let e : x ≡ y = cc in e))
kind_same true false x y is = absurd (let f : ⊥ = cc in f)
kind_same false true x y is = absurd (let f : ⊥ = cc in f)
kind_same false false x y is = (refl, (let e : x ≡ y = cc in e))

abbrev pub class_with : ℕ → ℕ → ℕ → Bool → Class
class_with x l t w = record { variable = x; location = l; thread = t; writes = w }

module _ (trace : List Event) (spots : List Spot) where
  -- an event has one class
  pub one_class_at : (c d : Class) (i : ℕ) → IsOfClass trace spots c i → IsOfClass trace spots d i → c ≡ d
  one_class_at c d i a b =
      let t : c.thread ≡ d.thread = (let s : Some c.thread ≡ Some d.thread = sym a.thread_is ∙ b.thread_is in cc) in
      let l : c.location ≡ d.location = (let s : Some c.location ≡ Some d.location = sym a.location_is ∙ b.location_is in cc) in
      let o : access_op c.writes c.variable ≡ access_op d.writes d.variable = (let s : Some (access_op c.writes c.variable) ≡ Some (access_op d.writes d.variable) = sym a.op_is ∙ b.op_is in cc) in
      let k = kind_same c.writes d.writes c.variable d.variable o in
      λ i. class_with (k.1 i) (l i) (t i) (k.0 i)

  pub class_own : (x : ℕ) (access : FoundAccess) → IsFoundAccess trace spots x access → IsOfClass trace spots (class_of x access) access.event
  class_own x access own = record { thread_is = own.thread_is; op_is = own.op_is; location_is = location_of_access trace spots x access own }

  pub class_variable : (c : Class) (i : ℕ) → IsOfClass trace spots c i → variable_at trace i ≡ Some c.variable
  class_variable c i h = ap (option_and_then variable_of) h.op_is ∙ op_variable c.writes c.variable

number_or_not : (o : Option ℕ) (x : ℕ) → Decided (o ≡ Some x)
number_or_not None x = inr (λ h. let f : ⊥ = cc in f)
number_or_not (Some y) x = elim (cases_eq y x) [ inl same ↦ inl (ap (λ (z : ℕ). Some z) same) | inr other ↦ inr (λ h. other (let e : y ≡ x = cc in e)) ]

kind_or_not : (v w : Bool) → (v ≡ w) ⊎ (v ≢ w)
kind_or_not true true = inl refl
kind_or_not true false = inr (λ h. let f : ⊥ = cc in f)
kind_or_not false true = inr (λ h. let f : ⊥ = cc in f)
kind_or_not false false = inl refl

module _ (trace : List Event) (spots : List Spot) where
  op_or_not : (i x : ℕ) (w : Bool) → Decided (op_at trace i ≡ Some (access_op w x))
  op_or_not i x w = go (number_or_not (variable_at trace i) x)
    where
      by : (k : (writes : Bool) × (op_at trace i ≡ Some (access_op writes x))) → (k.0 ≡ w) ⊎ (k.0 ≢ w) → Decided (op_at trace i ≡ Some (access_op w x))
      by k (inl same) = inl (k.1 ∙ ap (λ (v : Bool). Some (access_op v x)) same)
      by k (inr other) = inr (λ h. other (kind_same k.0 w x x (let s : Some (access_op k.0 x) ≡ Some (access_op w x) = sym k.1 ∙ h in cc)).0)

      go : Decided (variable_at trace i ≡ Some x) → Decided (op_at trace i ≡ Some (access_op w x))
      go (inl accesses) = let k = kind_at trace i x accesses in by k (kind_or_not k.0 w)
      go (inr fails) = inr (λ h. fails (ap (option_and_then variable_of) h ∙ op_variable w x))

  -- the newest access before n + 1 that isn't n is the newest before n
  pub newest_before : (n : ℕ) (c : Class) (k : ℕ) → IsNewestOf trace spots (n + 1) c k → (k ≡ n → ⊥) → IsNewestOf trace spots n c k
  newest_before n c k is other = record {
    own = is.own;
    past = (let lt = is.past in omega (arith, lt, other));
    last = λ i lt h. is.last i (omega (arith, lt)) h;
  }

  pub last_before : (n : ℕ) (c : Class) (k : ℕ) → IsLastOf trace spots (n + 1) c k → (k ≡ n → ⊥) → IsLastOf trace spots n c k
  last_before n c k is other = record { newest = newest_before n c k is.newest other; none_after = λ i low lt. is.none_after i low (omega (arith, lt)) }

  -- a race with n has one at its location and of its kind, no earlier one, instead of which no later access is enough
  module _ (disciplined : IsDisciplined trace) (n x l : ℕ) (writes : Bool) where
    pub record IsRival (k : ℕ) : Type 0 where
      pub race : Race trace k n
      pub op_is : op_at trace k ≡ Some (access_op writes x)
      pub location_is : location_in spots k ≡ Some l

    rival_or_not : (k : ℕ) → Decided (IsRival k)
    rival_or_not k = go (cases_Bool (is_race trace k n)) (op_or_not k x writes) (number_or_not (location_in spots k) l)
      where
        go : (is_race trace k n ≡ true) ⊎ (is_race trace k n ≡ false) → Decided (op_at trace k ≡ Some (access_op writes x)) → Decided (location_in spots k ≡ Some l) → Decided (IsRival k)
        go (inl passes) (inl b) (inl d) = inl (record { race = (reflect_race trace k n).0 passes; op_is = b; location_is = d })
        go (inl passes) (inl b) (inr f) = inr (λ h. f h.location_is)
        go (inl passes) (inr f) d = inr (λ h. f h.op_is)
        go (inr fails) b d = inr (λ h. let t = (reflect_race trace k n).1 h.race in (let f : ⊥ = cc in f))

    below_through : (a b : ℕ) → BelowPred trace a b → BelowPred trace b n → BelowPred trace a n
    below_through a b first then = (then.0, then.1, path_append trace a b then.0 (strictly_below_below trace disciplined a b (inl first)) then.2)

    -- what is after a rival is one
    rival_after : (k i : ℕ) → IsRival k → i < n → op_at trace i ≡ Some (access_op writes x) → location_in spots i ≡ Some l → BelowPred trace k i → IsRival i
    rival_after k i h lt op at below = record {
      race = record {
        conflict = record {
          variable = c.variable;
          first_accesses = ap (option_and_then variable_of) same ∙ c.first_accesses;
          second_accesses = c.second_accesses;
          one_writes = elim c.one_writes [ inl w ↦ inl (same ∙ w) | inr w ↦ inr w ];
          other_thread = λ of_n. (let e = event_at_access trace i c.variable (ap (option_and_then variable_of) same ∙ c.first_accesses) in let t = thread_is trace i e.0 e.1 in
              h.race.unordered (below_through k i below (thread_below_pred trace e.0.thread i n lt t (sym of_n ∙ t))));
        };
        earlier = lt;
        unordered = λ after. h.race.unordered (below_through k i below after);
      };
      op_is = op;
      location_is = at;
    }
      where
        c : Conflict trace k n
        c = h.race.conflict

        same : op_at trace i ≡ op_at trace k
        same = op ∙ sym h.op_is

    pub last_rival : (i : ℕ) → IsRival i → (k : ℕ) × (t : ℕ) × IsRival k × (i ≤ k) × IsLastOf trace spots (n + 1) (class_with x l t writes) k
    last_rival i h = go (greatest IsRival rival_or_not n)
      where
        go : ((m : ℕ) × (m < n) × IsRival m × ((k : ℕ) → k < n → IsRival k → k ≤ m)) ⊎ ((k : ℕ) → k < n → IsRival k → ⊥) → (k : ℕ) × (t : ℕ) × IsRival k × (i ≤ k) × IsLastOf trace spots (n + 1) (class_with x l t writes) k
        go (inr none) = absurd (none i h.race.earlier h)
        go (inl found) =
            let k = found.0 in
            let own = found.2 in
            let c = own.race.conflict in
            let e = event_at_access trace k c.variable c.first_accesses in
            let t = thread_is trace k e.0 e.1 in
            let past = found.1 in (
              k,
              e.0.thread,
              own,
              found.3 i h.race.earlier h,
              record {
                newest = record {
                  own = record { thread_is = t; op_is = own.op_is; location_is = own.location_is };
                  past = omega (arith, past);
                  last = λ j lt of_c. elim (cases_eq j n) [
                    | inl here ↦ absurd (c.other_thread (t ∙ (sym of_c.thread_is ∙ ap (thread_at trace) here)))
                    | inr other ↦ elim (cases_lt k j) [
                      | inl later ↦ found.3 j (omega (arith, lt, other)) (rival_after k j own (omega (arith, lt, other)) of_c.op_is of_c.location_is (thread_below_pred trace e.0.thread k j later t of_c.thread_is))
                      | inr before ↦ before
                    ]
                  ];
                };
                none_after = λ j low lt op at below. elim (cases_eq j n) [
                  | inl here ↦ own.race.unordered (subst (λ (m : ℕ). BelowPred trace k m) here below)
                  | inr other ↦ (let le = found.3 j (omega (arith, lt, other)) (rival_after k j own (omega (arith, lt, other)) op at below) in omega (arith, le, low))
                ];
              },
            )
