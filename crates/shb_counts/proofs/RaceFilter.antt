-- The races of an access are a filter over the accesses of its variable, in order.
use Rattle.std.proofs.Common.{◌≡◌, ℕ, ◌<◌, ◌⊎◌, inl, inr, Bool, true, false, List, Option, Some, None, refl, arith, ap, sym, ◌∙◌}
use Rattle.std.specs.Prelude.{nat_lt, ◌&&◌, ◌||◌}
use Rattle.std.proofs.lemmas.Bool.{cases_lt, eq-eqb, eqb-true, le-ltb, lt-ltb}
use Rattle.std.proofs.lemmas.Grind.{common_steps}
use Rattle.shb_lines.specs.declared.event.Event.{Event}
use Rattle.shb_lines.specs.declared.event.Op.{Op}
use Rattle.shb_lines.specs.declared.event.Op.TheVariants.{Write}
use Rattle.shb_lines.specs.events.Discipline.{local_time}
use Rattle.shb_lines.specs.events.Events.{op_at, thread_at}
use Rattle.shb_lines.specs.events.Order.{IsBelowPredCount}
use Rattle.shb_lines.specs.events.Race.{Race, variable_at}
use Rattle.shb_lines.specs.events.Reach.{is_race, writes_at}
use Rattle.shb_lines.specs.events.Tests.{writes_variable}
use Rattle.shb_lines.proofs.events.Prefix.{below_from_local, local_from_below}
use Rattle.shb_lines.proofs.events.Reach.{reflect_race}
use Rattle.shb_lines.proofs.events.Schedulable.{thread_below_pred}
use Rattle.shb_stamps.specs.Accesses.{accesses_at}
use Rattle.shb_stamps.proofs.Accesses.{test_from_access}

-- a write by its test
writes_is : (op : Op) (x : ℕ) → writes_variable op x ≡ true → op ≡ Write x
writes_is op x h = grind (arith, common_steps, eqb-true)

some_writes : (x : ℕ) (o : Option Op) → (elim o [ Some op ↦ writes_variable op x | None ↦ false ]) ≡ true → o ≡ Some (Write x)
some_writes x o h = grind (arith, common_steps, writes_is)

write_from_test : (trace : List Event) (x k : ℕ) → writes_at trace x k ≡ true → op_at trace k ≡ Some (Write x)
unfolding writes_at
write_from_test trace x k h = some_writes x (op_at trace k) h

test_from_write : (trace : List Event) (x k : ℕ) → op_at trace k ≡ Some (Write x) → writes_at trace x k ≡ true
unfolding writes_at
test_from_write trace x k h = rw (h, writes_at) (eq-eqb x x refl)

same_bool : (a b : Bool) → (a ≡ true → b ≡ true) → (b ≡ true → a ≡ true) → a ≡ b
same_bool true b there back = sym (there refl)
same_bool false true there back = back refl
same_bool false false there back = refl

or_parts : (a b : Bool) → (a || b) ≡ true → (a ≡ true) ⊎ (b ≡ true)
or_parts true b h = inl refl
or_parts false b h = inr h

or_first : (a b : Bool) → a ≡ true → (a || b) ≡ true
or_first a b h = ap (λ (q : Bool). q || b) h

or_second : (a b : Bool) → b ≡ true → (a || b) ≡ true
or_second true b h = refl
or_second false b h = h

both : (a b : Bool) → a ≡ true → b ≡ true → (a && b) ≡ true
both a b of_a of_b = ap (λ (q : Bool). q && b) of_a ∙ of_b

both_parts : (a b : Bool) → (a && b) ≡ true → (a ≡ true) × (b ≡ true)
both_parts true b h = (refl, h)
both_parts false b h = absurd (let f : ⊥ = cc in f)

module _ (trace : List Event) (x e : ℕ) (access : variable_at trace e ≡ Some x) where
  -- an access of x before e by thread u, of which so many events are below the predecessor of e
  pub record IsEarlier (u n i : ℕ) : Type 0 where
    pub earlier : i < e
    pub variable : variable_at trace i ≡ Some x
    pub thread : thread_at trace i ≡ Some u
    pub below : IsBelowPredCount trace u e n

  -- one of the two writes
  abbrev pub one_writes : ℕ → Bool
  one_writes i = writes_at trace x i || writes_at trace x e

  above_races : (u n i : ℕ) → IsEarlier u n i → one_writes i ≡ true → n < local_time trace u i → Race trace i e
  above_races u n i h writes above = record {
    conflict = record {
      variable = x;
      first_accesses = h.variable;
      second_accesses = access;
      one_writes = elim (or_parts (writes_at trace x i) (writes_at trace x e) writes) [
        | inl first ↦ inl (write_from_test trace x i first)
        | inr second ↦ inr (write_from_test trace x e second)
      ];
      other_thread = λ same. (let le = local_from_below trace u e n h.below i h.thread (thread_below_pred trace u i e h.earlier h.thread (sym same ∙ h.thread)) in omega (arith, le, above));
    };
    earlier = h.earlier;
    unordered = λ known. (let le = local_from_below trace u e n h.below i h.thread known in omega (arith, le, above));
  }

  race_above : (u n i : ℕ) → IsEarlier u n i → Race trace i e → (one_writes i ≡ true) × (n < local_time trace u i)
  race_above u n i h race =
      let same : race.conflict.variable ≡ x = (let s : Some race.conflict.variable ≡ Some x = sym race.conflict.second_accesses ∙ access in cc) in (
        elim race.conflict.one_writes [
          | inl first ↦ or_first (writes_at trace x i) (writes_at trace x e) (test_from_write trace x i (first ∙ ap (λ (y : ℕ). Some (Write y)) same))
          | inr second ↦ or_second (writes_at trace x i) (writes_at trace x e) (test_from_write trace x e (second ∙ ap (λ (y : ℕ). Some (Write y)) same))
        ],
        elim (cases_lt n (local_time trace u i)) [
          | inl lt ↦ lt
          | inr le ↦ absurd (race.unordered (below_from_local trace u e n h.below i h.thread le))
        ],
      )

  -- the test of two events, with no need to look at their threads
  pub race_test : (u n i : ℕ) → IsEarlier u n i → is_race trace i e ≡ (one_writes i && nat_lt n (local_time trace u i))
  race_test u n i h = same_bool (is_race trace i e) (one_writes i && nat_lt n (local_time trace u i))
      (λ races. let is = race_above u n i h ((reflect_race trace i e).0 races) in both (one_writes i) (nat_lt n (local_time trace u i)) is.0 (lt-ltb n (local_time trace u i) is.1))
      (λ passes.
      let parts = both_parts (one_writes i) (nat_lt n (local_time trace u i)) passes in
      elim (cases_lt n (local_time trace u i)) [
        | inl lt ↦ (reflect_race trace i e).1 (above_races u n i h parts.0 lt)
        | inr le ↦ absurd (let shut = le-ltb n (local_time trace u i) le in let bad : true ≡ false = sym parts.1 ∙ shut in cc)
      ])

  race_accesses : (i : ℕ) → is_race trace i e ≡ true → accesses_at trace x i ≡ true
  race_accesses i races =
      let race = (reflect_race trace i e).0 races in
      let same : race.conflict.variable ≡ x = (let s : Some race.conflict.variable ≡ Some x = sym race.conflict.second_accesses ∙ access in cc) in
      test_from_access trace x i (race.conflict.first_accesses ∙ ap (λ (y : ℕ). Some y) same)
