-- The accesses of open variables by variable are those by event, in another order.
use Rattle.std.proofs.Common.{◌≡◌, ◌≢◌, ℕ, zero, suc, ◌<◌, ◌⊎◌, inl, inr, Bool, true, false, cond, List, [], ◌∷◌, ◌++◌, Option, Some, None, get_or, length, map, refl, arith, ap, sym, subst, ◌∙◌, append-nil, append_assoc}
use Rattle.std.specs.Prelude.{All, ◌==◌, ◌&&◌, flat_map, nat_lt}
use Rattle.std.specs.List.Sorted.{IsPermutation}
use Rattle.std.specs.Option.{option_map_or}
use Rattle.std.proofs.lemmas.Bool.{cases_Bool, cases_eq, cases_lt, eq-eqb, le-ltb, lt-ltb}
use Rattle.std.proofs.lemmas.List.Concat.{flat_map-append}
use Rattle.std.proofs.lemmas.List.Elements.{Contains-get_or}
use Rattle.std.proofs.lemmas.List.Sorted.{Contains-permutation, IsPermutation-append_left, IsPermutation-cons, IsPermutation-middle, IsPermutation-refl, IsPermutation-sym, IsPermutation-to_front, IsPermutation-trans}
use Rattle.shb_lines.specs.declared.event.Event.{Event}
use Rattle.shb_lines.specs.events.Race.{variable_at}
use Rattle.shb_lines.specs.events.Reach.{numbers_where}
use Rattle.shb_stamps.specs.Accesses.{accesses_at, accesses_in}
use Rattle.shb_stamps.specs.Open.{accesses_open, is_open}
use Rattle.shb_stamps.proofs.Accesses.{key_no}
use Rattle.shb_lines.proofs.events.Reach.{numbers_listed}
use Rattle.shb_stamps.proofs.FlatMaps.{map_contains}
use Rattle.shb_counts.specs.Accesses.{AreAccesses}
use Rattle.shb_counts.specs.declared.accesses.Access.{Access}
use Rattle.shb_counts.specs.declared.accesses.Accesses.{Accesses}
use Rattle.shb_counts.proofs.GatherLemmas.{open_variable}
use Rattle.shb_counts.proofs.ReportPlaces.{listed}

-- ---- numbers that pass one test or another

pub numbers_alike : (f g : ℕ → Bool) (n : ℕ) → ((k : ℕ) → k < n → f k ≡ g k) → numbers_where f n ≡ numbers_where g n
unfolding numbers_where
numbers_alike f g zero same = refl
numbers_alike f g (suc n) same = ap (λ (xs : List ℕ). xs ++ cond (f n) (n ∷ []) []) (numbers_alike f g n (λ k lt. same k (omega arith))) ∙ ap (λ (b : Bool). numbers_where g n ++ cond b (n ∷ []) []) (same n (omega arith))

no_numbers : (f : ℕ → Bool) (n : ℕ) → ((k : ℕ) → f k ≡ false) → numbers_where f n ≡ []
unfolding numbers_where
no_numbers f zero fails = refl
no_numbers f (suc n) fails = ap (λ (b : Bool). numbers_where f n ++ cond b (n ∷ []) []) (fails n) ∙ (append-nil (numbers_where f n) ∙ no_numbers f n fails)

-- a number passes the first test, or the second, and then the third, or none
pub data Splits (p q r : Bool) : Type 0 where
  first : p ≡ true → q ≡ false → r ≡ true → Splits p q r
  second : p ≡ false → q ≡ true → r ≡ true → Splits p q r
  neither : p ≡ false → q ≡ false → r ≡ false → Splits p q r

module _ (n : ℕ) (ps qs rs : List ℕ) (before : IsPermutation rs (ps ++ qs)) where
  one_first : IsPermutation (rs ++ n ∷ []) ((ps ++ n ∷ []) ++ qs)
  one_first = rw (append_assoc ps (n ∷ []) qs)
      (IsPermutation-trans (rs ++ n ∷ []) (n ∷ rs) (ps ++ n ∷ qs) (IsPermutation-to_front rs n)
      (IsPermutation-trans (n ∷ rs) (n ∷ (ps ++ qs)) (ps ++ n ∷ qs) (IsPermutation-cons n rs (ps ++ qs) before) (IsPermutation-sym (ps ++ n ∷ qs) (n ∷ (ps ++ qs)) (IsPermutation-middle ps n qs))))

  one_second : IsPermutation (rs ++ n ∷ []) (ps ++ (qs ++ n ∷ []))
  one_second = rw (← append_assoc ps qs (n ∷ [])) (IsPermutation-append_left (n ∷ []) rs (ps ++ qs) before)

pub numbers_split : (p q r : ℕ → Bool) (n : ℕ) → ((k : ℕ) → Splits (p k) (q k) (r k)) → IsPermutation (numbers_where r n) (numbers_where p n ++ numbers_where q n)
unfolding numbers_where
numbers_split p q r zero each = IsPermutation-refl []
numbers_split p q r (suc n) each = go (each n) (numbers_split p q r n each)
  where
    go : Splits (p n) (q n) (r n) → IsPermutation (numbers_where r n) (numbers_where p n ++ numbers_where q n)
        → IsPermutation (numbers_where r n ++ cond (r n) (n ∷ []) []) ((numbers_where p n ++ cond (p n) (n ∷ []) []) ++ (numbers_where q n ++ cond (q n) (n ∷ []) []))
    go (first a b c) ih = rw (a, b, c, append-nil (numbers_where q n)) (one_first n (numbers_where p n) (numbers_where q n) (numbers_where r n) ih)
    go (second a b c) ih = rw (a, b, c, append-nil (numbers_where p n)) (one_second n (numbers_where p n) (numbers_where q n) (numbers_where r n) ih)
    go (neither a b c) ih = rw (a, b, c, append-nil (numbers_where p n), append-nil (numbers_where q n), append-nil (numbers_where r n)) ih

-- ---- accesses of the open variables below v

abbrev of_low : List Bool → ℕ → Option ℕ → Bool
of_low flags v o = option_map_or (λ x. is_open flags x && nat_lt x v) o false

abbrev of_one : ℕ → Option ℕ → Bool
of_one v o = elim o [ Some y ↦ y == v | None ↦ false ]

low_step : (x v : ℕ) → x ≢ v → nat_lt x (suc v) ≡ nat_lt x v
low_step x v other = elim (cases_lt x v) [
  | inl lt ↦ lt-ltb x (suc v) (omega (arith, lt)) ∙ sym (lt-ltb x v lt)
  | inr le ↦ le-ltb x (suc v) (omega (arith, le, other)) ∙ sym (le-ltb x v le)
]

splits_at : (flags : List Bool) (v : ℕ) (o : Option ℕ) → is_open flags v ≡ true → Splits (of_low flags v o) (of_one v o) (of_low flags (suc v) o)
splits_at flags v None open_is = neither refl refl refl
splits_at flags v (Some x) open_is = elim (cases_eq x v) [
  | inl same ↦ second
      (rw (same, open_is) (le-ltb v v (omega arith)))
      (eq-eqb x v same)
      (rw (same, open_is) (lt-ltb v (suc v) (omega arith)))
  | inr other ↦ (
      let more : (is_open flags x && nat_lt x (suc v)) ≡ (is_open flags x && nat_lt x v) = ap (λ (b : Bool). is_open flags x && b) (low_step x v other) in
      elim (cases_Bool (is_open flags x && nat_lt x v)) [
        | inl low ↦ first low (key_no x v other) (more ∙ low)
        | inr high ↦ neither high (key_no x v other) (more ∙ high)
      ])
]

shut_at : (flags : List Bool) (v : ℕ) (o : Option ℕ) → is_open flags v ≡ false → of_low flags (suc v) o ≡ of_low flags v o
shut_at flags v None shut = refl
shut_at flags v (Some x) shut = elim (cases_eq x v) [
  | inl same ↦ rw (same, shut) refl
  | inr other ↦ ap (λ (b : Bool). is_open flags x && b) (low_step x v other)
]

none_low : (flags : List Bool) (o : Option ℕ) → of_low flags 0 o ≡ false
none_low flags None = refl
none_low flags (Some x) = go (is_open flags x)
  where
    go : (b : Bool) → (b && nat_lt x 0) ≡ false
    go true = le-ltb x 0 (omega arith)
    go false = refl

all_low : (flags : List Bool) (v : ℕ) (o : Option ℕ) → ((x : ℕ) → o ≡ Some x → x < v) → option_map_or (is_open flags) o false ≡ of_low flags v o
all_low flags v None within = refl
all_low flags v (Some x) within = go (is_open flags x)
  where
    go : (b : Bool) → b ≡ (b && nat_lt x v)
    go true = sym (lt-ltb x v (within x refl))
    go false = refl

module _ (trace : List Event) (flags : List Bool) where
  listed_open : (v : ℕ) → is_open flags v ≡ true → listed trace flags (suc v) ≡ listed trace flags v ++ accesses_in trace v
  unfolding numbers_where
  listed_open v is = ap (λ (b : Bool). flat_map (accesses_in trace) (numbers_where (is_open flags) v ++ cond b (v ∷ []) [])) is
      ∙ (flat_map-append (accesses_in trace) (numbers_where (is_open flags) v) (v ∷ []) ∙ ap (λ (l : List ℕ). listed trace flags v ++ l) (append-nil (accesses_in trace v)))

  listed_shut : (v : ℕ) → is_open flags v ≡ false → listed trace flags (suc v) ≡ listed trace flags v
  unfolding numbers_where
  listed_shut v shut = ap (λ (b : Bool). flat_map (accesses_in trace) (numbers_where (is_open flags) v ++ cond b (v ∷ []) [])) shut
      ∙ ap (flat_map (accesses_in trace)) (append-nil (numbers_where (is_open flags) v))

  split_at : (v i : ℕ) → is_open flags v ≡ true → Splits (of_low flags v (variable_at trace i)) (accesses_at trace v i) (of_low flags (suc v) (variable_at trace i))
  unfolding accesses_at
  split_at v i open_is = splits_at flags v (variable_at trace i) open_is

  low_accesses : (v : ℕ) → IsPermutation (numbers_where (λ i. of_low flags v (variable_at trace i)) (length trace)) (listed trace flags v)
  unfolding numbers_where
  low_accesses zero = rw (no_numbers (λ i. of_low flags zero (variable_at trace i)) (length trace) (λ i. none_low flags (variable_at trace i))) (IsPermutation-refl [])
  low_accesses (suc v) = go (cases_Bool (is_open flags v)) (low_accesses v)
    where
      go : (is_open flags v ≡ true) ⊎ (is_open flags v ≡ false) → IsPermutation (numbers_where (λ i. of_low flags v (variable_at trace i)) (length trace)) (listed trace flags v)
          → IsPermutation (numbers_where (λ i. of_low flags (suc v) (variable_at trace i)) (length trace)) (listed trace flags (suc v))
      go (inl is) ih = subst (IsPermutation (numbers_where (λ i. of_low flags (suc v) (variable_at trace i)) (length trace))) (sym (listed_open v is))
          (IsPermutation-trans _ _ _
          (numbers_split (λ i. of_low flags v (variable_at trace i)) (accesses_at trace v) (λ i. of_low flags (suc v) (variable_at trace i)) (length trace) (λ i. split_at v i is))
          (IsPermutation-append_left (accesses_in trace v) (numbers_where (λ i. of_low flags v (variable_at trace i)) (length trace)) (listed trace flags v) ih))
      go (inr shut) ih = subst (IsPermutation (numbers_where (λ i. of_low flags (suc v) (variable_at trace i)) (length trace))) (sym (listed_shut v shut))
          (subst (λ (l : List ℕ). IsPermutation l (listed trace flags v))
          (sym (numbers_alike (λ i. of_low flags (suc v) (variable_at trace i)) (λ i. of_low flags v (variable_at trace i)) (length trace) (λ i lt. shut_at flags v (variable_at trace i) shut)))
          ih)

  pub listed_permuted : (variables : ℕ) → ((e x : ℕ) → variable_at trace e ≡ Some x → x < variables) → IsPermutation (numbers_where (accesses_open flags trace) (length trace)) (listed trace flags variables)
  listed_permuted variables within = subst (λ (l : List ℕ). IsPermutation l (listed trace flags variables))
      (sym (numbers_alike (accesses_open flags trace) (λ i. of_low flags variables (variable_at trace i)) (length trace) (λ i lt. all_low flags variables (variable_at trace i) (λ x is. within i x is))))
      (low_accesses variables)

-- ---- the kept list

-- each access of the list is one of an open variable
pub each_open : (trace : List Event) (flags : List Bool) (numbers : List ℕ) (accesses : Accesses) → AreAccesses trace flags numbers accesses → All (λ access. is_open flags access.variable ≡ true) accesses.list.items
each_open trace flags numbers accesses h k d lt =
    let list = accesses.list.items in
    let access : Access = get_or list k d in
    let there = map_contains (λ (a : Access). a.event) list access (Contains-get_or list k d lt) in
    let passes = ((numbers_listed (accesses_open flags trace) (length trace)).members access.event).0 (Contains-permutation _ _ access.event h.events there) in
    let own = open_variable trace flags access.event passes.1 in
    let same : Some access.variable ≡ Some own.0 = sym (h.each k d lt).variable ∙ own.1 in
    let is : access.variable ≡ own.0 = cc in
    ap (is_open flags) is ∙ own.2

-- its events are those by variable, in another order
pub list_permuted : (trace : List Event) (flags : List Bool) (numbers : List ℕ) (accesses : Accesses) (variables : ℕ) → AreAccesses trace flags numbers accesses → ((e x : ℕ) → variable_at trace e ≡ Some x → x < variables)
    → IsPermutation (map (λ access. access.event) accesses.list.items) (listed trace flags variables)
list_permuted trace flags numbers accesses variables h within = IsPermutation-trans _ _ _ h.events (listed_permuted trace flags variables within)
