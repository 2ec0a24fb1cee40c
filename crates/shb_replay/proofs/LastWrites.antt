-- The latest write before an index of a list, against the last write in the trace.
use Rattle.shb_replay.proofs.Words.{Decided, Event, Exactly, IsLatest, IsLatestWrite, LastWrite, LastWriteIn, Read, StandsBefore, Write, cases_eq, cases_order, common_steps, find_last_write, last_write_unique, latest_below, op_at, writes_at, writes_at_is, writes_at_true}
use Rattle.std.proofs.Common.{◌≡◌, ◌≢◌, ℕ, ◌<◌, ◌⊎◌, inl, inr, Bool, true, false, List, Option, Some, None, refl, sym, ◌∙◌, ap, arith, subst}
use Rattle.std.specs.Prelude.{slice_get, ◌↔◌}
use Rattle.shb_replay.proofs.Standing.{one_value, same_index}

-- a list has at most one latest write before an index
pub latest_unique : (trace : List Event) (s : List ℕ) (p x v w : ℕ) → IsLatestWrite trace s p x v → IsLatestWrite trace s p x w → v ≡ w
latest_unique trace s p x v w hv hw = grind (arith, common_steps, cases_order, one_value)

-- whether the event at an index of the list writes x
abbrev writes_there : (trace : List Event) (x : ℕ) → Option ℕ → Bool
writes_there trace x (Some k) = writes_at trace x k
writes_there trace x None = false

writes_there_is : (trace : List Event) (s : List ℕ) (x q k : ℕ) → slice_get s q ≡ Some k → op_at trace k ≡ Some (Write x) → writes_there trace x (slice_get s q) ≡ true
writes_there_is trace s x q k at writes = ap (writes_there trace x) at ∙ writes_at_is trace x k writes

writes_there_true : (trace : List Event) (x : ℕ) (o : Option ℕ) → writes_there trace x o ≡ true → (k : ℕ) × (o ≡ Some k) × (op_at trace k ≡ Some (Write x))
writes_there_true trace x (Some k) h = (k, refl, writes_at_true trace x k h)
writes_there_true trace x None h = absurd (let f : ⊥ = cc in f)

pub find_latest : (trace : List Event) (s : List ℕ) (p x : ℕ) → (o : Option ℕ) × Exactly (IsLatestWrite trace s p x) o
find_latest trace s p x = go (latest_below (λ q. writes_there trace x (slice_get s q)) p)
  where
    later : (q k : ℕ) → writes_there trace x (slice_get s q) ≡ false → slice_get s q ≡ Some k → op_at trace k ≢ Some (Write x)
    later q k fails at writes = let passes = writes_there_is trace s x q k at writes in (let f : ⊥ = cc in f)

    go : ((q : ℕ) × IsLatest (λ r. writes_there trace x (slice_get s r)) p q) ⊎ ((m : ℕ) → m < p → writes_there trace x (slice_get s m) ≡ false) → (o : Option ℕ) × Exactly (IsLatestWrite trace s p x) o
    go (inl (q, found)) =
        let event = writes_there_true trace x (slice_get s q) found.passing in (
          Some event.0,
          record {
            index = q;
            earlier = found.below;
            at = event.1;
            writes = event.2;
            latest = λ r k low high at. later r k (found.last r low high) at;
          },
        )
    go (inr none) = (None, λ w h. later h.index w (none h.index h.earlier) h.at h.writes)

found_last_write : (trace : List Event) (r : ℕ) → (o : Option ℕ) × Exactly (λ w. LastWrite trace w r) o
found_last_write trace r = go (find_last_write trace r)
  where
    go : ((w : ℕ) × LastWrite trace w r) ⊎ ((w : ℕ) → LastWrite trace w r → ⊥) → (o : Option ℕ) × Exactly (λ w. LastWrite trace w r) o
    go (inl (w, h)) = (Some w, h)
    go (inr none) = (None, none)

cases_option : (o p : Option ℕ) → (o ≡ p) ⊎ (o ≡ p → ⊥)
cases_option None None = inl refl
cases_option None (Some w) = inr (λ h. (let f : ⊥ = cc in f))
cases_option (Some v) None = inr (λ h. (let f : ⊥ = cc in f))
cases_option (Some v) (Some w) = go (cases_eq v w)
  where
    go : (v ≡ w) ⊎ (v ≡ w → ⊥) → (Some v ≡ Some w) ⊎ (Some v ≡ Some w → ⊥)
    go (inl e) = inl (ap (λ (n : ℕ). Some n) e)
    go (inr ne) = inr (λ h. ne (let g : v ≡ w = cc in g))

-- two answers agree where the facts that they answer do
module _ (A B : ℕ → Type 0) (one_a : (v w : ℕ) → A v → A w → v ≡ w) (one_b : (v w : ℕ) → B v → B w → v ≡ w) where
  agree : (o p : Option ℕ) → Exactly A o → Exactly B p → o ≡ p → (w : ℕ) → A w ↔ B w
  agree (Some v) p a b same w = let known : B v = subst (λ (q : Option ℕ). Exactly B q) (sym same) b in ((λ h. subst B (one_a v w a h) known), (λ h. subst A (one_b v w known h) a))
  agree None p a b same w = ((λ h. absurd (a w h)), (λ h. absurd (subst (λ (q : Option ℕ). Exactly B q) (sym same) b w h)))

  differ : (o p : Option ℕ) → Exactly A o → Exactly B p → (o ≡ p → ⊥) → ((w : ℕ) → A w ↔ B w) → ⊥
  differ (Some v) (Some w) a b ne same = ne (ap (λ (n : ℕ). Some n) (one_b v w ((same v).0 a) b))
  differ (Some v) None a b ne same = b v ((same v).0 a)
  differ None (Some w) a b ne same = a w ((same w).1 b)
  differ None None a b ne same = ne refl

-- whether the latest write in the list is the last one in the trace
module _ (trace : List Event) (s : List ℕ) (p x e : ℕ) where
  pub writes_agree : (o l : Option ℕ) → Exactly (IsLatestWrite trace s p x) o → Exactly (λ w. LastWrite trace w e) l → o ≡ l → (w : ℕ) → IsLatestWrite trace s p x w ↔ LastWrite trace w e
  writes_agree = agree (IsLatestWrite trace s p x) (λ w. LastWrite trace w e) (latest_unique trace s p x) (λ v w. last_write_unique trace v w e)

  pub writes_differ : (o l : Option ℕ) → Exactly (IsLatestWrite trace s p x) o → Exactly (λ w. LastWrite trace w e) l → (o ≡ l → ⊥) → ((w : ℕ) → IsLatestWrite trace s p x w ↔ LastWrite trace w e) → ⊥
  writes_differ = differ (IsLatestWrite trace s p x) (λ w. LastWrite trace w e) (latest_unique trace s p x) (λ v w. last_write_unique trace v w e)

  pub decide_agree : Decided ((w : ℕ) → IsLatestWrite trace s p x w ↔ LastWrite trace w e)
  decide_agree =
      let latest = find_latest trace s p x in
      let last = found_last_write trace e in
      elim (cases_option latest.0 last.0) [
        | inl same ↦ inl (writes_agree latest.0 last.0 latest.1 last.1 same)
        | inr ne ↦ inr (writes_differ latest.0 last.0 latest.1 last.1 ne)
      ]

-- in a list of different positions the latest write before the index of a read is the last write in the list
module _ (trace : List Event) (s : List ℕ) (distinct : (a : ℕ) → ¬ StandsBefore s a a) (q x r : ℕ) (at : slice_get s q ≡ Some r) where
  pub latest_in : (w : ℕ) → op_at trace r ≡ Some (Read x) → IsLatestWrite trace s q x w → LastWriteIn trace s w r
  latest_in w reads h = record {
    variable = x;
    reads = reads;
    writes = h.writes;
    earlier = record { index = h.index; later_index = q; before = h.earlier; first = h.at; second = at };
    latest = λ k after before. between k after before;
  }
    where
      between : (k : ℕ) → StandsBefore s w k → StandsBefore s k r → op_at trace k ≢ Some (Write x)
      between k after before =
          let first = same_index s distinct after.index h.index w after.first h.at in
          let middle = same_index s distinct after.later_index before.index k after.second before.first in
          let last = same_index s distinct before.later_index q r before.second at in
          let low = after.before in
          let high = before.before in
          h.latest after.later_index k (omega (arith, first, low)) (omega (arith, middle, last, high)) after.second

  pub latest_out : (w : ℕ) → (h : LastWriteIn trace s w r) → h.variable ≡ x → IsLatestWrite trace s q x w
  latest_out w h same = record {
    index = h.earlier.index;
    earlier = (let last = same_index s distinct h.earlier.later_index q r h.earlier.second at in let lt = h.earlier.before in omega (arith, last, lt));
    at = h.earlier.first;
    writes = rw (← same) h.writes;
    latest = λ p k low high at_k. rw (← same) (h.latest k (record { index = h.earlier.index; later_index = p; before = low; first = h.earlier.first; second = at_k }) (record { index = p; later_index = q; before = high; first = at_k; second = at }));
  }
