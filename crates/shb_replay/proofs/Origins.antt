-- What must stand before each event: its predecessor, the latest release of its lock, the latest write of its variable.
use Rattle.shb_replay.proofs.Words.{Acquire, Event, Exactly, HasPreds, IsLatestTable, IsOrigin, IsPred, Latest, Op, Read, ReleasesLock, Sizes, WritesVariable, cases_lt, common_steps, get_or-append, get_or_push, get_or_read, length_push, op_at, op_other_at, op_within_at}
use Rattle.std.proofs.Common.{◌≡◌, ℕ, ◌+◌, ◌<◌, ◌≤◌, ◌⊎◌, inl, inr, List, [], ◌∷◌, ◌++◌, Option, Some, None, length, get_or, arith, subst, sym, ◌∙◌}
use Rattle.shb_lines.specs.events.Sizes.{IsWithin}

module _ (trace : List Event) (sizes : Sizes) (e : ℕ) (within : IsWithin trace sizes) where
  -- the origin of an event, from the tables of what stands before it
  pub release_found : (table : List (Option ℕ)) (l : ℕ) → op_at trace e ≡ Some (Acquire l) → IsLatestTable (ReleasesLock trace) e sizes.locks table → IsOrigin trace e (get_or table l None)
  release_found table l acquires has = record {
    releases = λ m others. (
        let low : l < sizes.locks = op_within_at trace sizes e (Acquire l) within acquires in
        let both : Some (Acquire l) ≡ Some (Acquire m) = sym acquires ∙ others in
        let same : l ≡ m = cc in
        subst (λ (k : ℕ). Latest (ReleasesLock trace k) e (get_or table l None)) same (has.each l low));
    writes = λ x reads. absurd (let both : Some (Acquire l) ≡ Some (Read x) = sym acquires ∙ reads in let f : ⊥ = cc in f);
  }

  pub write_found : (table : List (Option ℕ)) (x : ℕ) → op_at trace e ≡ Some (Read x) → IsLatestTable (WritesVariable trace) e sizes.variables table → IsOrigin trace e (get_or table x None)
  write_found table x reads has = record {
    releases = λ l acquires. absurd (let both : Some (Read x) ≡ Some (Acquire l) = sym reads ∙ acquires in let f : ⊥ = cc in f);
    writes = λ y others. (
        let low : x < sizes.variables = op_within_at trace sizes e (Read x) within reads in
        let both : Some (Read x) ≡ Some (Read y) = sym reads ∙ others in
        let same : x ≡ y = cc in
        subst (λ (k : ℕ). Latest (WritesVariable trace k) e (get_or table x None)) same (has.each x low));
  }

-- what acquires and reads nothing needs nothing
pub none_found : (trace : List Event) (e : ℕ) (op : Op) → op_at trace e ≡ Some op → ((l : ℕ) → op ≡ Acquire l → ⊥) → ((x : ℕ) → op ≡ Read x → ⊥) → IsOrigin trace e None
none_found trace e op does no_acquire no_read = grind (arith, common_steps, op_other_at)

-- one more entry of a table
entries_more : (P : ℕ → Option ℕ → Type 0) (n : ℕ) (xs : List (Option ℕ)) (x : Option ℕ) → length xs ≡ n → P n x → ((e : ℕ) → e < n → P e (get_or xs e None)) → (e : ℕ) → e < n + 1 → (e < n) ⊎ (n ≤ e) → P e (get_or (xs ++ x ∷ []) e None)
entries_more P n xs x long is old e lt (inl low) = subst (λ (o : Option ℕ). P e o) (sym (get_or-append xs (x ∷ []) None e (omega (arith, long, low)))) (old e low)
entries_more P n xs x long is old e lt (inr le) =
    let same : n ≡ e = omega (arith, lt, le) in
    subst (λ (o : Option ℕ). P e o) (sym (get_or_push xs x None e (long ∙ same))) (subst (λ (k : ℕ). P k x) same is)

entry_read : (P : Option ℕ → Type 0) (xs : List (Option ℕ)) (x : Option ℕ) (e : ℕ) → e < length xs → x ≡ get_or xs e x → P (get_or xs e None) → P x
entry_read P xs x e lt is known = subst P (sym (get_or_read xs e x lt is None)) known

pub preds_more : (trace : List Event) (n : ℕ) (xs : List (Option ℕ)) (x : Option ℕ) → Exactly (λ p. IsPred trace p n) x → HasPreds trace n xs → HasPreds trace (n + 1) (xs ++ x ∷ [])
preds_more trace n xs x is old = grind (arith, common_steps, length_push, entries_more, cases_lt)

pub pred_is : (trace : List Event) (n e : ℕ) (xs : List (Option ℕ)) (x : Option ℕ) → HasPreds trace n xs → e < n → x ≡ get_or xs e x → Exactly (λ p. IsPred trace p e) x
pred_is trace n e xs x has lt is = entry_read (λ o. Exactly (λ p. IsPred trace p e) o) xs x e (let long = has.as_long in omega (arith, long, lt)) is (has.each e lt)
