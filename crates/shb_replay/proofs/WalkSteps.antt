-- What stands, one index further.
use Rattle.std.proofs.Common.{◌≡◌, ◌≢◌, ℕ, ◌+◌, ◌<◌, ◌⊎◌, inl, inr, Bool, true, false, List, Option, Some, None, length, get_or, sym, ◌∙◌, arith, subst, get_or-set_same, get_or-set_other}
use Rattle.std.specs.Prelude.{slice_get}
use Rattle.shb_replay.proofs.Words.{AreFlags, AreLatestWrites, Event, Exactly, IsLatestWrite, IsWalked, Join, JoinStands, Sizes, StandsEarlier, Tells, Walked, Write, cases_eq, cases_order, length-set, op_at, set, set_cases, with_item}
use Rattle.shb_replay.proofs.Standing.{widen, one_value, stands_next, stands_here}

-- flags of facts that stay, but for one that now holds
flags_set : (P Q : ℕ → Type 0) (size k : ℕ) (flags : List Bool) → k < size → Q k → ((j : ℕ) → P j → Q j) → ((j : ℕ) → Q j → P j ⊎ (j ≡ k)) → AreFlags P size flags → AreFlags Q size (set flags k true)
flags_set P Q size k flags lt holds to from old = record {
  as_long = length-set flags k true ∙ old.as_long;
  each = λ j flag at. go j flag (set_cases flags k j true flag (let long = old.as_long in omega (arith, long, lt)) at);
}
  where
    kept : (j : ℕ) (flag : Bool) → j ≢ k → Tells flag (P j) → Tells flag (Q j)
    kept j true ne h = to j h
    kept j false ne h = λ q. elim (from j q) [ inl p ↦ h p | inr same ↦ ne same ]

    go : (j : ℕ) (flag : Bool) → ((j ≡ k) × (flag ≡ true)) ⊎ ((j ≢ k) × (slice_get flags j ≡ Some flag)) → Tells flag (Q j)
    go j flag (inl (same, is)) = rw is (rw same holds)
    go j flag (inr (ne, at)) = kept j flag ne (old.each j flag at)

flags_same : (P Q : ℕ → Type 0) (size : ℕ) (flags : List Bool) → ((j : ℕ) → P j → Q j) → ((j : ℕ) → Q j → P j) → AreFlags P size flags → AreFlags Q size flags
flags_same P Q size flags to from old = record { as_long = old.as_long; each = λ j flag at. kept j flag (old.each j flag at) }
  where
    kept : (j : ℕ) (flag : Bool) → Tells flag (P j) → Tells flag (Q j)
    kept j true h = to j h
    kept j false h = λ q. h (from j q)

module _ (trace : List Event) (sizes : Sizes) (s : List ℕ) (p e : ℕ) (at : slice_get s p ≡ Some e) where
  stands_more : (flags : List Bool) → e < length trace → AreFlags (StandsEarlier s p) (length trace) flags → AreFlags (StandsEarlier s (p + 1)) (length trace) (set flags e true)
  stands_more flags lt = flags_set (StandsEarlier s p) (StandsEarlier s (p + 1)) (length trace) e flags lt (stands_here s p e at) (λ j. widen s p (p + 1) j (omega arith)) (λ j. stands_next s p e j at)

  join_kept : (u : ℕ) → JoinStands trace s p u → JoinStands trace s (p + 1) u
  join_kept u h = record { event = h.event; joins = h.joins; stands = widen s p (p + 1) h.event (omega arith) h.stands }

  join_before : (u : ℕ) → JoinStands trace s (p + 1) u → JoinStands trace s p u ⊎ (op_at trace e ≡ Some (Join u))
  join_before u h = elim (stands_next s p e h.event at h.stands) [
    | inl stands ↦ inl (record { event = h.event; joins = h.joins; stands = stands })
    | inr same ↦ inr (subst (λ (k : ℕ). op_at trace k ≡ Some (Join u)) same h.joins)
  ]

  joined_more : (flags : List Bool) (t : ℕ) → op_at trace e ≡ Some (Join t) → t < sizes.threads → AreFlags (JoinStands trace s p) sizes.threads flags → AreFlags (JoinStands trace s (p + 1)) sizes.threads (set flags t true)
  joined_more flags t joins lt = flags_set (JoinStands trace s p) (JoinStands trace s (p + 1)) sizes.threads t flags lt (record { event = e; joins = joins; stands = stands_here s p e at }) join_kept (λ u h. elim (join_before u h) [ inl before ↦ inl before | inr now ↦ inr (let same : Some (Join u) ≡ Some (Join t) = sym now ∙ joins in cc) ])

  joined_same : (flags : List Bool) → ((u : ℕ) → op_at trace e ≢ Some (Join u)) → AreFlags (JoinStands trace s p) sizes.threads flags → AreFlags (JoinStands trace s (p + 1)) sizes.threads flags
  joined_same flags none = flags_same (JoinStands trace s p) (JoinStands trace s (p + 1)) sizes.threads flags join_kept (λ u h. elim (join_before u h) [ inl before ↦ before | inr now ↦ absurd (none u now) ])

  write_here : (x : ℕ) → op_at trace e ≡ Some (Write x) → IsLatestWrite trace s (p + 1) x e
  write_here x writes = record { index = p; earlier = omega arith; at = at; writes = writes; latest = λ q k low high at_k. absurd (omega (arith, low, high)) }

  write_kept : (x : ℕ) (o : Option ℕ) → op_at trace e ≢ Some (Write x) → Exactly (IsLatestWrite trace s p x) o → Exactly (IsLatestWrite trace s (p + 1) x) o
  write_kept x (Some w) other h = record {
    index = h.index;
    earlier = (let lt = h.earlier in omega (arith, lt));
    at = h.at;
    writes = h.writes;
    latest = λ q k low high at_k. still q k low (cases_order q p) high at_k;
  }
    where
      still : (q k : ℕ) → h.index < q → (q ≡ p) ⊎ ((q < p) ⊎ (p < q)) → q < p + 1 → slice_get s q ≡ Some k → op_at trace k ≢ Some (Write x)
      still q k low (inl same) high at_k = λ writes. other (subst (λ (j : ℕ). op_at trace j ≡ Some (Write x)) (one_value s p k e (subst (λ (r : ℕ). slice_get s r ≡ Some k) same at_k) at) writes)
      still q k low (inr (inl lt)) high at_k = h.latest q k low lt at_k
      still q k low (inr (inr gt)) high at_k = absurd (omega (arith, gt, high))
  write_kept x None other none = λ w h. refuse w h (cases_order h.index p)
    where
      refuse : (w : ℕ) (h : IsLatestWrite trace s (p + 1) x w) → (h.index ≡ p) ⊎ ((h.index < p) ⊎ (p < h.index)) → ⊥
      refuse w h (inl same) = other (subst (λ (j : ℕ). op_at trace j ≡ Some (Write x)) (one_value s p w e (subst (λ (r : ℕ). slice_get s r ≡ Some w) same h.at) at) h.writes)
      refuse w h (inr (inl lt)) = none w (record { index = h.index; earlier = lt; at = h.at; writes = h.writes; latest = λ q k low high at_k. h.latest q k low (omega (arith, high)) at_k })
      refuse w h (inr (inr gt)) = let lt = h.earlier in omega (arith, gt, lt)

  writes_more : (writes : List (Option ℕ)) (x : ℕ) → op_at trace e ≡ Some (Write x) → x < sizes.variables → AreLatestWrites trace s p sizes.variables writes → AreLatestWrites trace s (p + 1) sizes.variables (set writes x (Some e))
  writes_more writes x is lt old = record {
    as_long = length-set writes x (Some e) ∙ old.as_long;
    each = λ y within. go y within (cases_eq y x);
  }
    where
      go : (y : ℕ) → y < sizes.variables → (y ≡ x) ⊎ (y ≡ x → ⊥) → Exactly (IsLatestWrite trace s (p + 1) y) (get_or (set writes x (Some e)) y None)
      go y within (inl same) = rw same (rw (get_or-set_same writes x (Some e) None (let long = old.as_long in omega (arith, long, lt))) (write_here x is))
      go y within (inr ne) = rw (get_or-set_other writes x y (Some e) None ne) (write_kept y (get_or writes y None) (λ other. ne (let both : Some (Write y) ≡ Some (Write x) = sym other ∙ is in cc)) (old.each y within))

  writes_same : (writes : List (Option ℕ)) → ((x : ℕ) → op_at trace e ≢ Some (Write x)) → AreLatestWrites trace s p sizes.variables writes → AreLatestWrites trace s (p + 1) sizes.variables writes
  writes_same writes none old = record { as_long = old.as_long; each = λ y within. write_kept y (get_or writes y None) (none y) (old.each y within) }

  module _ (lt : e < length trace) (walked : Walked) (old : IsWalked trace sizes s p walked) where
    pub walked_join : (t : ℕ) → op_at trace e ≡ Some (Join t) → t < sizes.threads → IsWalked trace sizes s (p + 1) record { stands = with_item walked.stands e true; joined = with_item walked.joined t true; writes = walked.writes }
    walked_join t joins within = record {
      stands = stands_more walked.stands.items lt old.stands;
      joined = joined_more walked.joined.items t joins within old.joined;
      writes = writes_same walked.writes.items (λ x is. (let both : Some (Write x) ≡ Some (Join t) = sym is ∙ joins in (let f : ⊥ = cc in f))) old.writes;
    }

    pub walked_write : (x : ℕ) → op_at trace e ≡ Some (Write x) → x < sizes.variables → IsWalked trace sizes s (p + 1) record { stands = with_item walked.stands e true; joined = walked.joined; writes = with_item walked.writes x (Some e) }
    walked_write x is within = record {
      stands = stands_more walked.stands.items lt old.stands;
      joined = joined_same walked.joined.items (λ u joins. (let both : Some (Write x) ≡ Some (Join u) = sym is ∙ joins in (let f : ⊥ = cc in f))) old.joined;
      writes = writes_more walked.writes.items x is within old.writes;
    }

    pub walked_other : ((x : ℕ) → op_at trace e ≢ Some (Write x)) → ((u : ℕ) → op_at trace e ≢ Some (Join u)) → IsWalked trace sizes s (p + 1) record { stands = with_item walked.stands e true; joined = walked.joined; writes = walked.writes }
    walked_other no_write no_join = record {
      stands = stands_more walked.stands.items lt old.stands;
      joined = joined_same walked.joined.items no_join old.joined;
      writes = writes_same walked.writes.items no_write old.writes;
    }
