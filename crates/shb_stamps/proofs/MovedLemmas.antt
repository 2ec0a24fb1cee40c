-- Rows that are moved: the marks of those in use, the new rows, and what tables mean among them.
use Rattle.std.proofs.Common.{◌≡◌, ℕ, ◌+◌, ◌-◌, ◌<◌, ◌≤◌, ◌⊎◌, inl, inr, List, [], Some, length, get_or, arith, subst, ap, sym, refl, ◌∙◌}
use Rattle.shb_stamps.proofs.Words.{AreAlike, AreMarked, Event, HasCompacted, HasMarked, HasTaken, IsFrontBut, IsLatestStamp, IsMovedRow, IsMovedStamp, IsNewNumber, IsRowFor, MovesRow, ShbBelow, Stamp, cases_eq, empty_stamp, local_time, of_event, of_none}

pub marked_chain : (one two three : List ℕ) → HasMarked one two → HasMarked two three → HasMarked one three
marked_chain one two three first then = record { as_many = then.as_many ∙ first.as_many; more = λ a some. then.more a (first.more a some) }

pub marked_further : (before after : List ℕ) (row : ℕ → ℕ) (n : ℕ) → AreMarked before row n → HasMarked before after → AreMarked after row n
marked_further before after row n are marked x lt low = marked.more (row x) (are x lt (let many = marked.as_many in omega (arith, many, low)))

-- the items before x are alike, and the others are as they were
pub record PartAlike {A : Type 0} (default : A) (IsAlike : A → A → Type 0) (before after : List A) (x : ℕ) : Type 0 where
  pub as_many : length after ≡ length before
  pub done : (y : ℕ) → y < x → IsAlike (get_or before y default) (get_or after y default)
  pub rest : (y : ℕ) → x ≤ y → get_or after y default ≡ get_or before y default

-- the first row and those from n on were moved
pub record AreTaken (old rest new : List (List ℕ)) (marks moved : List ℕ) (n : ℕ) : Type 0 where
  pub some : 0 < n
  pub as_many : length moved ≡ length marks
  pub few : length new + n ≤ length marks + 1
  pub kept : (a : ℕ) → a < n → get_or rest a [] ≡ get_or old a []
  pub marked : (a : ℕ) → 0 < a → a < n → get_or moved a 0 ≡ get_or marks a 0
  pub first : 0 < get_or marks 0 0 → get_or moved 0 0 ≡ 1
  pub each : (a : ℕ) → (a ≡ 0) ⊎ (n ≤ a) → a < length marks → 0 < get_or marks a 0 → IsMovedRow old new a (get_or moved a 0 - 1)

pub taken_first : (old new : List (List ℕ)) (marks moved : List ℕ) → 0 < length marks → HasTaken old 0 [] new marks moved → AreTaken old old new marks moved (length marks)
taken_first old new marks moved some taken = record {
  some = some;
  as_many = taken.as_many;
  few = (let few = taken.few in omega (arith, few));
  kept = λ a lt. refl;
  marked = λ a later lt. taken.others a (λ same. omega (arith, same, later));
  first = λ own. (taken.moved own).0;
  each = λ a where_is low own. elim where_is [
    | inl zero_is ↦ subst (λ (m : ℕ). IsMovedRow old new m (get_or moved m 0 - 1)) (sym zero_is)
        (let at = taken.moved (subst (λ (m : ℕ). 0 < get_or marks m 0) zero_is own) in subst (IsMovedRow old new 0) (let is = at.0 in omega (arith, is)) at.1)
    | inr past ↦ absurd (omega (arith, past, low))
  ];
}

-- one row more, before which all others stay
pub taken_more : (old rest after new more : List (List ℕ)) (marks moved moved_after : List ℕ) (n next : ℕ) → next ≡ n + 1 → AreTaken old rest new marks moved next → 0 < n → HasTaken rest n new more moved moved_after → ((a : ℕ) → a < n → get_or after a [] ≡ get_or rest a [])
    → AreTaken old after more marks moved_after n
taken_more old rest after new more marks moved moved_after n next next_is are some taken stays = record {
  some = some;
  as_many = taken.as_many ∙ are.as_many;
  few = (let few = are.few in let one = taken.few in omega (arith, few, one, next_is));
  kept = λ a lt. stays a lt ∙ are.kept a (omega (arith, lt, next_is));
  marked = λ a later lt. taken.others a (λ same. omega (arith, same, lt)) ∙ are.marked a later (omega (arith, lt, next_is));
  first = λ own. taken.others 0 (λ same. omega (arith, same, some)) ∙ are.first own;
  each = λ a where_is low own. elim (cases_eq a n) [
    | inl same ↦ subst (λ (m : ℕ). IsMovedRow old more m (get_or moved_after m 0 - 1)) (sym same)
        (let at = taken.moved (let is = are.marked n some (omega (arith, next_is)) in let its = subst (λ (m : ℕ). 0 < get_or marks m 0) same own in omega (arith, is, its)) in
        record {
          in_range = (let is = at.0 in let range = at.1.in_range in omega (arith, is, range));
          same = ap (λ (m : ℕ). get_or more m []) (let is = at.0 in let next : get_or moved_after n 0 - 1 ≡ length new = omega (arith, is) in next) ∙ (at.1.same ∙ are.kept n (omega (arith, next_is)));
        })
    | inr ne ↦ subst (λ (m : ℕ). IsMovedRow old more a (m - 1)) (sym (taken.others a ne))
        (let row = are.each a (elim where_is [ inl zero_is ↦ inl zero_is | inr past ↦ inr (omega (arith, past, ne, next_is)) ]) low own in
        record {
          in_range = (let range = row.in_range in let long = taken.rows.as_long in omega (arith, range, long));
          same = taken.rows.same (get_or moved a 0 - 1) row.in_range ∙ row.same;
        })
  ];
}

-- by the new numbers the tables name the rows that they named
module _ (old new : List (List ℕ)) (marks moved : List ℕ) (done : HasCompacted old new marks moved) (long : length marks ≡ length old) where
  moves_row : (a b : ℕ) → (a < length marks → 0 < get_or marks a 0) → IsNewNumber moved a b → MovesRow old new a b
  moves_row a b marked is lt = let low : a < length marks = omega (arith, lt, long) in subst (IsMovedRow old new a) (sym is) (done.each a low (marked low))

  pub numbers_moved : (before after : List ℕ) → AreMarked marks (λ x. get_or before x 0) (length before) → AreAlike 0 (IsNewNumber moved) before after → AreAlike 0 (MovesRow old new) before after
  numbers_moved before after marked alike = record { as_many = alike.as_many; each = λ x lt. moves_row (get_or before x 0) (get_or after x 0) (marked x lt) (alike.each x lt) }

  pub stamps_moved : (before after : List Stamp) → AreMarked marks (λ x. (get_or before x empty_stamp).row) (length before) → AreAlike empty_stamp (IsMovedStamp (IsNewNumber moved)) before after → AreAlike empty_stamp (IsMovedStamp (MovesRow old new)) before after
  stamps_moved before after marked alike = record {
    as_many = alike.as_many;
    each = λ x lt. (let one = alike.each x lt in record { thread = one.thread; time = one.time; row = moves_row (get_or before x empty_stamp).row (get_or after x empty_stamp).row (marked x lt) one.row });
  }

  pub first_moved : 0 < length old → 0 < get_or marks 0 0 → IsMovedRow old new 0 0
  first_moved some own = subst (IsMovedRow old new 0) (let is = done.first own in let zero_is : get_or moved 0 0 - 1 ≡ 0 = omega (arith, is) in zero_is) (done.each 0 (omega (arith, some, long)) own)

-- what the tables name is the same among the new rows
module _ (trace : List Event) (old new : List (List ℕ)) where
  pub row_moved : (t a b : ℕ) (P : ℕ → Type 0) → IsMovedRow old new a b → IsRowFor trace old t P a → IsRowFor trace new t P b
  row_moved t a b P h row = record { in_range = h.in_range; front = subst (IsFrontBut trace t P) (sym h.same) row.front }

  pub latest_moved : (P : ℕ → Type 0) (n : ℕ) (a b : Stamp) → IsMovedStamp (MovesRow old new) a b → IsLatestStamp trace old P n a → IsLatestStamp trace new P n b
  latest_moved P n a b moved (of_event e latest is) = of_event e latest (record {
    of_thread = is.of_thread ∙ ap (λ (t : ℕ). Some t) (sym moved.thread);
    time_is = moved.time ∙ (is.time_is ∙ ap (λ (t : ℕ). local_time trace t e) (sym moved.thread));
    row_is = subst (λ (t : ℕ). IsRowFor trace new t (λ k. ShbBelow trace k e) b.row) (sym moved.thread) (row_moved a.thread a.row b.row (λ k. ShbBelow trace k e) (moved.row is.row_is.in_range) is.row_is);
  })
  latest_moved P n a b moved (of_none absent none) = of_none absent (moved.time ∙ none)
