-- A search by halves for where entries begin that are past a limit.
use Rattle.std.proofs.Common.{◌≡◌, ℕ, ◌+◌, ◌-◌, ◌<◌, ◌≤◌, inl, inr, Bool, true, false, List, Some, length, get_or, arith, refl, ap, sym, ◌∙◌}
use Rattle.std.specs.Prelude.{nat_lt, not, slice_get, ◌&&◌}
use Rattle.std.proofs.lemmas.Bool.{cases_Bool, cases_lt, le-ltb, lt-ltb}
use Rattle.std.proofs.lemmas.Option.{slice_get-get_or}
use Rattle.shb_counts.specs.declared.accesses.Entry.{Entry}
use Rattle.shb_counts.specs.declared.finder.Limit.{Limit}
use Rattle.shb_counts.specs.declared.finder.Limit.TheVariants.{Above, From}
use Rattle.shb_counts.specs.declared.finder.Window.{Window}
use Rattle.shb_counts.specs.Windows.{AreRising, IsFirst, IsWindow, is_between, is_past}
use Rattle.shb_counts.proofs.WindowLemmas.{has_not}

-- what comes after an entry that is past the limit is past it too
abbrev pub Rises : Limit → List Entry → ℕ → ℕ → Type 0
Rises limit entries from to = (g h : ℕ) (entry later : Entry) → slice_get entries g ≡ Some entry → slice_get entries h ≡ Some later → from ≤ g → g ≤ h → h < to → is_past limit entry ≡ true → is_past limit later ≡ true

lt_more : (a b n : ℕ) → a ≤ b → not (nat_lt a n) ≡ true → not (nat_lt b n) ≡ true
lt_more a b n le h = elim (cases_lt a n) [
  | inl lt ↦ absurd (let bad : true ≡ false = sym h ∙ ap not (lt-ltb a n lt) in cc)
  | inr past ↦ ap not (le-ltb b n (omega (arith, le, past)))
]

above_more : (n a b : ℕ) → a ≤ b → nat_lt n a ≡ true → nat_lt n b ≡ true
above_more n a b le h = elim (cases_lt n a) [
  | inl lt ↦ lt-ltb n b (omega (arith, le, lt))
  | inr past ↦ absurd (let bad : true ≡ false = sym h ∙ le-ltb n a past in cc)
]

pub limit_rises : (limit : Limit) (entries : List Entry) (from to : ℕ) → AreRising entries from to → Rises limit entries from to
limit_rises (From event) entries from to h g k entry later of_g of_k begins le lt past = lt_more entry.event later.event event (h.rise g k entry later of_g of_k begins le lt).0 past
limit_rises (Above time) entries from to h g k entry later of_g of_k begins le lt past = above_more time entry.time later.time (h.rise g k entry later of_g of_k begins le lt).1 past

-- those before `low` aren't past, and those from `high` on are
pub record IsBetween (limit : Limit) (entries : List Entry) (from to low high : ℕ) : Type 0 where
  pub begins : from ≤ low
  pub forward : low ≤ high
  pub ends : high ≤ to
  pub before : (g : ℕ) (entry : Entry) → slice_get entries g ≡ Some entry → from ≤ g → g < low → is_past limit entry ≡ false
  pub after : (g : ℕ) (entry : Entry) → slice_get entries g ≡ Some entry → high ≤ g → g < to → is_past limit entry ≡ true

module _ (limit : Limit) (entries : List Entry) (from to low high at : ℕ) (d : Entry) (rising : AreRising entries from to) (so_far : IsBetween limit entries from to low high) (begins : low ≤ at) (ends : at < high) where
  rises : Rises limit entries from to
  rises = limit_rises limit entries from to rising

  within : to ≤ length entries
  within = rising.within

  pub past_found : is_past limit (get_or entries at d) ≡ true → IsBetween limit entries from to low at
  past_found past = record {
    begins = so_far.begins;
    forward = begins;
    ends = (let e = so_far.ends in omega (arith, ends, e));
    before = so_far.before;
    after = λ g entry is le lt. rises at g (get_or entries at d) entry (slice_get-get_or entries at d (let e = so_far.ends in omega (arith, ends, e, within))) is (let b = so_far.begins in omega (arith, b, begins)) le lt past;
  }

  pub none_found : is_past limit (get_or entries at d) ≡ false → IsBetween limit entries from to (at + 1) high
  none_found none = record {
    begins = (let b = so_far.begins in omega (arith, b, begins));
    forward = omega (arith, ends);
    ends = so_far.ends;
    before = λ g entry is le lt. elim (cases_Bool (is_past limit entry)) [
      | inr h ↦ h
      | inl h ↦ absurd (let bad : true ≡ false = sym (rises g at entry (get_or entries at d) is (slice_get-get_or entries at d (let e = so_far.ends in omega (arith, ends, e, within))) le (omega (arith, lt)) (let e = so_far.ends in omega (arith, ends, e)) h) ∙ none in cc)
    ];
    after = so_far.after;
  }

-- the same of equal numbers
pub next_between : {limit : Limit} {entries : List Entry} {from to low high l h : ℕ} → l ≡ low → h ≡ high → IsBetween limit entries from to low high → IsBetween limit entries from to l h
next_between is is' so_far = rw (is, is') so_far

-- an index is the first one past the limit, by the entries on both sides of it
pub first_here : (limit : Limit) (entries : List Entry) (from to at : ℕ) → AreRising entries from to → from ≤ at → at ≤ to → ((entry : Entry) → slice_get entries at ≡ Some entry → at < to → is_past limit entry ≡ true)
    → ((entry : Entry) → slice_get entries (at - 1) ≡ Some entry → from < at → is_past limit entry ≡ false) → IsFirst limit entries from to at
first_here limit entries from to at rising begins ends past none =
    let within = rising.within in
    let rises = limit_rises limit entries from to rising in record {
      begins = begins;
      ends = ends;
      before = λ g entry is le lt. elim (cases_Bool (is_past limit entry)) [
        | inr h ↦ h
        | inl h ↦ (
            let last = slice_get-get_or entries (at - 1) entry (omega (arith, lt, ends, within)) in
            absurd (let bad : true ≡ false = sym (rises g (at - 1) entry (get_or entries (at - 1) entry) is last le (omega (arith, lt)) (omega (arith, lt, ends)) h) ∙ none (get_or entries (at - 1) entry) last (omega (arith, le, lt)) in cc))
      ];
      after = λ g entry is le lt. (
          let there = slice_get-get_or entries at entry (omega (arith, le, lt, within)) in
          rises at g (get_or entries at entry) entry there is begins le lt (past (get_or entries at entry) there (omega (arith, le, lt))));
    }

and_false : (b : Bool) → (b && false) ≡ false
and_false true = refl
and_false false = refl

not_true : (b : Bool) → not b ≡ true → b ≡ false
not_true false h = refl
not_true true h = absurd (let f : ⊥ = cc in f)

-- no entry is before an event and above a time, if none is above it before an index, and none before the event from there on
pub empty_here : (entries : List Entry) (from to at event time : ℕ) → AreRising entries from to → from < at → at ≤ to → ((entry : Entry) → slice_get entries at ≡ Some entry → at < to → is_past (From event) entry ≡ true)
    → ((entry : Entry) → slice_get entries (at - 1) ≡ Some entry → from < at → is_past (Above time) entry ≡ false) → IsWindow (is_between event time) entries from to (record { start = at; end = at })
empty_here entries from to at event time rising more ends past none =
    let within = rising.within in
    let window : Window = record { start = at; end = at } in record {
      begins = omega (arith, more);
      forward = omega arith;
      ends = ends;
      passing = λ j entry is begins lt. elim (cases_lt j at) [
        | inl before ↦ (
            let last = slice_get-get_or entries (at - 1) entry (omega (arith, more, ends, within)) in
            let low : nat_lt time entry.time ≡ false = elim (cases_Bool (nat_lt time entry.time)) [
              | inr h ↦ h
              | inl h ↦ absurd (let bad : true ≡ false = sym (limit_rises (Above time) entries from to rising j (at - 1) entry (get_or entries (at - 1) entry) is last begins (omega (arith, before)) (omega (arith, more, ends)) h) ∙ none (get_or entries (at - 1) entry) last more in cc)
            ] in
            ap (λ (b : Bool). nat_lt entry.event event && b) low ∙ (and_false (nat_lt entry.event event) ∙ sym (has_not j window (inl before))))
        | inr on ↦ (
            let there = slice_get-get_or entries at entry (omega (arith, on, lt, within)) in
            let up = limit_rises (From event) entries from to rising at j (get_or entries at entry) entry there is (omega (arith, more)) on lt (past (get_or entries at entry) there (omega (arith, on, lt))) in
            ap (λ (b : Bool). b && nat_lt time entry.time) (not_true (nat_lt entry.event event) up) ∙ sym (has_not j window (inr on)))
      ];
    }
