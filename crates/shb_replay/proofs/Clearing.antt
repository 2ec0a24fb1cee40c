-- What is left of what stands, while its indices are forgotten one by one.
use Rattle.std.proofs.Common.{◌≡◌, ◌≢◌, ℕ, ◌+◌, ◌<◌, ◌≤◌, ◌⊎◌, inl, inr, Bool, true, false, List, Option, Some, None, length, get_or, refl, sym, ◌∙◌, ap, arith, subst, get_or-set_same, get_or-set_other}
use Rattle.std.specs.Prelude.{slice_get}
use Rattle.shb_replay.proofs.Words.{AreFlags, AreFlagsOnly, AreWritesOnly, Event, Exactly, IsBetween, IsLatestWrite, IsLeft, IsWalked, Join, JoinStands, Sizes, StandsEarlier, Walked, Write, cases_eq, cases_lt, length-set, op_at, set, set_cases, with_item}
use Rattle.shb_replay.proofs.Standing.{one_value}

-- the flags, at first
flags_only : (P Q : ℕ → Type 0) (size : ℕ) (flags : List Bool) → ((k : ℕ) → P k → Q k) → AreFlags P size flags → AreFlagsOnly Q size flags
flags_only P Q size flags to h = record { as_long = h.as_long; each = λ k at. to k (h.each k true at) }

write_there : (trace : List Event) (s : List ℕ) (p x w : ℕ) (o : Option ℕ) → Exactly (IsLatestWrite trace s p x) o → o ≡ Some w → IsBetween s 0 p (λ b. op_at trace b ≡ Some (Write x))
write_there trace s p x w (Some v) h same = record { index = h.index; from = omega arith; below = h.earlier; event = v; at = h.at; holds = h.writes }
write_there trace s p x w None h same = absurd (let f : ⊥ = cc in f)

pub all_left : (trace : List Event) (sizes : Sizes) (s : List ℕ) (p : ℕ) (walked : Walked) → IsWalked trace sizes s p walked → IsLeft trace sizes s 0 p walked
all_left trace sizes s p walked h = record {
  stands = flags_only (StandsEarlier s p) (λ a. IsBetween s 0 p (λ b. b ≡ a)) (length trace) walked.stands.items (λ a stands. record { index = stands.index; from = omega arith; below = stands.earlier; event = a; at = stands.at; holds = refl }) h.stands;
  joined = flags_only (JoinStands trace s p) (λ t. IsBetween s 0 p (λ b. op_at trace b ≡ Some (Join t))) sizes.threads walked.joined.items (λ t joined. record { index = joined.stands.index; from = omega arith; below = joined.stands.earlier; event = joined.event; at = joined.stands.at; holds = joined.joins }) h.joined;
  writes = record { as_long = h.writes.as_long; each = λ x w lt is. write_there trace s p x w (get_or walked.writes.items x None) (h.writes.each x lt) is };
}

no_write : (trace : List Event) (s : List ℕ) (x : ℕ) (o : Option ℕ) → ((w : ℕ) → o ≡ Some w → ⊥) → Exactly (IsLatestWrite trace s 0 x) o
no_write trace s x (Some w) none = absurd (none w refl)
no_write trace s x None none = λ w h. (let lt = h.earlier in omega (arith, lt))

-- one index less
module _ (trace : List Event) (sizes : Sizes) (s : List ℕ) (m p e : ℕ) (at : slice_get s m ≡ Some e) where
  later : (P : ℕ → Type 0) → IsBetween s m p P → (P e → ⊥) → IsBetween s (m + 1) p P
  later P h other = record { index = h.index; from = go (cases_lt m h.index); below = h.below; event = h.event; at = h.at; holds = h.holds }
    where
      go : (m < h.index) ⊎ (h.index ≤ m) → m + 1 ≤ h.index
      go (inl lt) = omega (arith, lt)
      go (inr le) =
          let same : h.index ≡ m = let from = h.from in omega (arith, from, le) in
          absurd (other (subst P (one_value s m h.event e (subst (λ (k : ℕ). slice_get s k ≡ Some h.event) same h.at) at) h.holds))

  flags_less : (P : ℕ → ℕ → Type 0) (size k : ℕ) (flags : List Bool) → k < size → ((j : ℕ) → j ≢ k → P j e → ⊥) → AreFlagsOnly (λ j. IsBetween s m p (P j)) size flags → AreFlagsOnly (λ j. IsBetween s (m + 1) p (P j)) size (set flags k false)
  flags_less P size k flags lt other h = record { as_long = length-set flags k false ∙ h.as_long; each = λ j at_j. go j (set_cases flags k j false true (let long = h.as_long in omega (arith, long, lt)) at_j) }
    where
      go : (j : ℕ) → ((j ≡ k) × (true ≡ false)) ⊎ ((j ≢ k) × (slice_get flags j ≡ Some true)) → IsBetween s (m + 1) p (P j)
      go j (inl (same, is)) = absurd (let f : ⊥ = cc in f)
      go j (inr (ne, at_j)) = later (P j) (h.each j at_j) (other j ne)

  flags_kept : (P : ℕ → ℕ → Type 0) (size : ℕ) (flags : List Bool) → ((j : ℕ) → P j e → ⊥) → AreFlagsOnly (λ j. IsBetween s m p (P j)) size flags → AreFlagsOnly (λ j. IsBetween s (m + 1) p (P j)) size flags
  flags_kept P size flags other h = record { as_long = h.as_long; each = λ j at_j. later (P j) (h.each j at_j) (other j) }

  writes_less : (writes : List (Option ℕ)) (x : ℕ) → x < sizes.variables → op_at trace e ≡ Some (Write x) → AreWritesOnly (λ y. IsBetween s m p (λ b. op_at trace b ≡ Some (Write y))) sizes.variables writes → AreWritesOnly (λ y. IsBetween s (m + 1) p (λ b. op_at trace b ≡ Some (Write y))) sizes.variables (set writes x None)
  writes_less writes x lt is h = record { as_long = length-set writes x None ∙ h.as_long; each = λ y w within at_y. go y w within at_y (cases_eq y x) }
    where
      go : (y w : ℕ) → y < sizes.variables → get_or (set writes x None) y None ≡ Some w → (y ≡ x) ⊎ (y ≡ x → ⊥) → IsBetween s (m + 1) p (λ b. op_at trace b ≡ Some (Write y))
      go y w within at_y (inl same) =
          let gone : get_or (set writes x None) y None ≡ None = ap (λ (k : ℕ). get_or (set writes x None) k None) same ∙ get_or-set_same writes x None None (let long = h.as_long in omega (arith, long, lt)) in
          absurd (let f : ⊥ = cc in f)
      go y w within at_y (inr ne) = later (λ b. op_at trace b ≡ Some (Write y)) (h.each y w within (sym (get_or-set_other writes x y None None ne) ∙ at_y)) (λ writes_y. ne (let both : Some (Write y) ≡ Some (Write x) = sym writes_y ∙ is in cc))

  writes_kept : (writes : List (Option ℕ)) → ((x : ℕ) → op_at trace e ≢ Some (Write x)) → AreWritesOnly (λ y. IsBetween s m p (λ b. op_at trace b ≡ Some (Write y))) sizes.variables writes → AreWritesOnly (λ y. IsBetween s (m + 1) p (λ b. op_at trace b ≡ Some (Write y))) sizes.variables writes
  writes_kept writes none h = record { as_long = h.as_long; each = λ y w within at_y. later (λ b. op_at trace b ≡ Some (Write y)) (h.each y w within at_y) (none y) }

  stands_less : (flags : List Bool) → e < length trace → AreFlagsOnly (λ a. IsBetween s m p (λ b. b ≡ a)) (length trace) flags → AreFlagsOnly (λ a. IsBetween s (m + 1) p (λ b. b ≡ a)) (length trace) (set flags e false)
  stands_less flags lt = flags_less (λ a b. b ≡ a) (length trace) e flags lt (λ j ne same. ne (sym same))

  module _ (lt : e < length trace) (walked : Walked) (old : IsLeft trace sizes s m p walked) where
    pub left_join : (t : ℕ) → op_at trace e ≡ Some (Join t) → t < sizes.threads → IsLeft trace sizes s (m + 1) p record { stands = with_item walked.stands e false; joined = with_item walked.joined t false; writes = walked.writes }
    left_join t joins within = record {
      stands = stands_less walked.stands.items lt old.stands;
      joined = flags_less (λ u b. op_at trace b ≡ Some (Join u)) sizes.threads t walked.joined.items within (λ u ne other. ne (let both : Some (Join u) ≡ Some (Join t) = sym other ∙ joins in cc)) old.joined;
      writes = writes_kept walked.writes.items (λ x is. (let both : Some (Write x) ≡ Some (Join t) = sym is ∙ joins in (let f : ⊥ = cc in f))) old.writes;
    }

    pub left_write : (x : ℕ) → op_at trace e ≡ Some (Write x) → x < sizes.variables → IsLeft trace sizes s (m + 1) p record { stands = with_item walked.stands e false; joined = walked.joined; writes = with_item walked.writes x None }
    left_write x is within = record {
      stands = stands_less walked.stands.items lt old.stands;
      joined = flags_kept (λ u b. op_at trace b ≡ Some (Join u)) sizes.threads walked.joined.items (λ u joins. (let both : Some (Write x) ≡ Some (Join u) = sym is ∙ joins in (let f : ⊥ = cc in f))) old.joined;
      writes = writes_less walked.writes.items x within is old.writes;
    }

    pub left_other : ((x : ℕ) → op_at trace e ≢ Some (Write x)) → ((u : ℕ) → op_at trace e ≢ Some (Join u)) → IsLeft trace sizes s (m + 1) p record { stands = with_item walked.stands e false; joined = walked.joined; writes = walked.writes }
    left_other no_write no_join = record {
      stands = stands_less walked.stands.items lt old.stands;
      joined = flags_kept (λ u b. op_at trace b ≡ Some (Join u)) sizes.threads walked.joined.items no_join old.joined;
      writes = writes_kept walked.writes.items no_write old.writes;
    }
