-- Sums of races, one of each place and in the order of their races, are the places of the races.
use Rattle.std.proofs.Common.{◌≡◌, ◌≢◌, ℕ, ◌+◌, ◌&&◌, ◌⊎◌, Bool, true, false, cond, nat_eq, List, [], ◌∷◌, map, Some, inl, inr, refl, arith, ap, sym, subst, ◌∙◌, true≢false}
use Rattle.std.specs.Prelude.{AllPairs, Contains, filter, not}
use Rattle.std.proofs.lemmas.Bool.{cases_Bool}
use Rattle.std.proofs.lemmas.Bool.Decides.{eqb_tells}
use Rattle.std.proofs.lemmas.Grind.{common_steps}
use Rattle.std.proofs.lemmas.List.Kept.{AllPairs-filter}
use Rattle.std.proofs.lemmas.List.Sums.{sum_by-cons}
use Rattle.indexmap.specs.IndexMap.{insert_entry}
use Rattle.shb_lines.specs.declared.event.Pair.{Pair}
use Rattle.shb_lines.proofs.events.Increasing.{contains_cases, contains_head, contains_none, contains_tail, pairs_head, pairs_tail}
use Rattle.shb_format.specs.Keyed.{Key, Keyed, counted_of, same_key, with_keyed}
use Rattle.shb_format.specs.Places.{with_one_more}
use Rattle.shb_counts.specs.PlaceSums.{ArePlaces, at_place, keyed_by, summed}

abbrev entry : Key → Pair → ℕ → Keyed
entry key pair count = (key, record { pair = pair; count = count })

pub one_key : (x y : Key) → same_key x y ≡ true → x ≡ y
one_key x y is = grind (arith, common_steps, eqb_tells, true≢false, nat_eq)

same_number : (a : ℕ) → nat_eq a a ≡ true
same_number a = elim (eqb_tells a a) [ inl e ↦ e.0 | inr e ↦ absurd (e.1 refl) ]

pub same_self : (key : Key) → same_key key key ≡ true
same_self key = ap (λ (b : Bool). b && nat_eq key.1 key.1) (same_number key.0) ∙ same_number key.1

pub other_key : (x y : Key) → x ≢ y → same_key x y ≡ false
other_key x y ne = elim (cases_Bool (same_key x y)) [ inl t ↦ absurd (ne (one_key x y t)) | inr f ↦ f ]

-- what a filter keeps
module _ {T : Type 0} (f : T → Bool) where
  pub filter_keeps : (xs : List T) (x : T) → Contains xs x → f x ≡ true → Contains (filter f xs) x
  filter_keeps [] x c h = absurd (contains_none x c)
  filter_keeps (y ∷ ys) x c h = by (f y) refl (contains_cases y x ys c) (λ there. filter_keeps ys x there h)
    where
      by : (b : Bool) → f y ≡ b → (y ≡ x) ⊎ Contains ys x → (Contains ys x → Contains (filter f ys) x) → Contains (cond b (y ∷ filter f ys) (filter f ys)) x
      by true is (inl e) rest = subst (Contains (y ∷ filter f ys)) e (contains_head y (filter f ys))
      by true is (inr there) rest = contains_tail y x (filter f ys) (rest there)
      by false is (inl e) rest = absurd (true≢false (sym h ∙ (ap f (sym e) ∙ is)))
      by false is (inr there) rest = rest there

  pub filter_kept : (xs : List T) (x : T) → Contains (filter f xs) x → Contains xs x × (f x ≡ true)
  filter_kept [] x c = absurd (contains_none x c)
  filter_kept (y ∷ ys) x c = by (f y) refl c (filter_kept ys x)
    where
      by : (b : Bool) → f y ≡ b → Contains (cond b (y ∷ filter f ys) (filter f ys)) x → (Contains (filter f ys) x → Contains ys x × (f x ≡ true)) → Contains (y ∷ ys) x × (f x ≡ true)
      by true is there rest = elim (contains_cases y x (filter f ys) there) [
        | inl e ↦ (subst (Contains (y ∷ ys)) e (contains_head y ys), ap f (sym e) ∙ is)
        | inr later ↦ (let r = rest later in (contains_tail y x ys r.0, r.1))
      ]
      by false is there rest = let r = rest there in (contains_tail y x ys r.0, r.1)

-- the first place counts its pairs, and the others are the places of the pairs that don't have it
module _ (key : Pair → Key) where
  abbrev elsewhere : Key → Pair → Bool
  elsewhere k pair = not (same_key (key pair) k)

  head_counts : (e : Keyed) (before : List Keyed) (pairs : List Pair) → keyed_by key (e ∷ before) pairs ≡ entry e.0 e.1.pair (e.1.count + at_place key pairs e.0) ∷ keyed_by key before (filter (elsewhere e.0) pairs)
  head_counts e before [] =
      let same : e.1.count ≡ e.1.count + 0 = omega arith in
      ap (λ (n : ℕ). entry e.0 e.1.pair n ∷ before) same
  head_counts e before (p ∷ ps) =
      by (same_key (key p) e.0) (λ n. head_counts (entry e.0 e.1.pair n) before ps) (head_counts e (with_keyed before (key p) p) ps) (sum_by-cons (λ (q : Pair). cond (same_key (key q) e.0) 1 0) p ps)
    where
      by : (b : Bool) → ((n : ℕ) → keyed_by key (entry e.0 e.1.pair n ∷ before) ps ≡ entry e.0 e.1.pair (n + at_place key ps e.0) ∷ keyed_by key before (filter (elsewhere e.0) ps))
          → keyed_by key (e ∷ with_keyed before (key p) p) ps ≡ entry e.0 e.1.pair (e.1.count + at_place key ps e.0) ∷ keyed_by key (with_keyed before (key p) p) (filter (elsewhere e.0) ps)
          → at_place key (p ∷ ps) e.0 ≡ cond b 1 0 + at_place key ps e.0
          → keyed_by key (cond b ((e.0, with_one_more (cond b (Some e.1) (counted_of before (key p))) p) ∷ before) (e ∷ insert_entry same_key before (key p) (with_one_more (cond b (Some e.1) (counted_of before (key p))) p))) ps
          ≡ entry e.0 e.1.pair (e.1.count + at_place key (p ∷ ps) e.0) ∷ keyed_by key before (cond (not b) (p ∷ filter (elsewhere e.0) ps) (filter (elsewhere e.0) ps))
      by true own rest more =
          let count : e.1.count + 1 + at_place key ps e.0 ≡ e.1.count + at_place key (p ∷ ps) e.0 = omega (arith, more) in
          own (e.1.count + 1) ∙ ap (λ (n : ℕ). entry e.0 e.1.pair n ∷ keyed_by key before (filter (elsewhere e.0) ps)) count
      by false own rest more =
          let count : e.1.count + at_place key ps e.0 ≡ e.1.count + at_place key (p ∷ ps) e.0 = omega (arith, more) in
          rest ∙ ap (λ (n : ℕ). entry e.0 e.1.pair n ∷ keyed_by key (with_keyed before (key p) p) (filter (elsewhere e.0) ps)) count

-- nothing has the place of the first pair after it is taken out, and the others are as many as before
module _ (key : Pair → Key) (k : Key) where
  not_here : (pairs : List Pair) → at_place key (filter (elsewhere key k) pairs) k ≡ 0
  not_here [] = refl
  not_here (p ∷ ps) = by (same_key (key p) k) refl (not_here ps)
    where
      by : (b : Bool) → same_key (key p) k ≡ b → at_place key (filter (elsewhere key k) ps) k ≡ 0 → at_place key (cond (not b) (p ∷ filter (elsewhere key k) ps) (filter (elsewhere key k) ps)) k ≡ 0
      by true is rest = rest
      by false is rest =
          let more = sum_by-cons (λ (q : Pair). cond (same_key (key q) k) 1 0) p (filter (elsewhere key k) ps) in
          let none = ap (λ (b : Bool). cond {A = ℕ} b 1 0) is in
          omega (arith, more, none, rest)

  others_stay : (other : Key) → same_key k other ≡ false → (pairs : List Pair) → at_place key (filter (elsewhere key k) pairs) other ≡ at_place key pairs other
  others_stay other apart [] = refl
  others_stay other apart (p ∷ ps) = by (same_key (key p) k) refl (others_stay other apart ps) (sum_by-cons (λ (q : Pair). cond (same_key (key q) other) 1 0) p ps)
    where
      by : (b : Bool) → same_key (key p) k ≡ b → at_place key (filter (elsewhere key k) ps) other ≡ at_place key ps other → at_place key (p ∷ ps) other ≡ cond (same_key (key p) other) 1 0 + at_place key ps other
          → at_place key (cond (not b) (p ∷ filter (elsewhere key k) ps) (filter (elsewhere key k) ps)) other ≡ at_place key (p ∷ ps) other
      by true is rest sum =
          let none : cond {A = ℕ} (same_key (key p) other) 1 0 ≡ 0 = ap (λ (q : Key). cond {A = ℕ} (same_key q other) 1 0) (one_key (key p) k is) ∙ ap (λ (b : Bool). cond {A = ℕ} b 1 0) apart in
          omega (arith, rest, sum, none)
      by false is rest sum =
          let more = sum_by-cons (λ (q : Pair). cond (same_key (key q) other) 1 0) p (filter (elsewhere key k) ps) in
          omega (arith, rest, sum, more)

-- the sums as places
abbrev pub place_of_sum : (Pair → Key) → Pair × ℕ → Keyed
place_of_sum key sum = entry (key sum.0) sum.0 sum.1

module _ (key : Pair → Key) (Le Before : Pair → Pair → Type 0) where
  -- no pair of these stands before another and not before it
  abbrev pub IsStrict : List Pair → Type 0
  IsStrict pairs = (a b : Pair) → Contains pairs a → Contains pairs b → Before a b → Le b a → ⊥

  -- no sum but the first has its place
  rest_none : (s : Pair × ℕ) (ss : List (Pair × ℕ)) → ((t : Pair × ℕ) → Contains ss t → key s.0 ≢ key t.0) → summed key ss (key s.0) ≡ 0
  rest_none s [] apart = refl
  rest_none s (t ∷ ts) apart =
      let more = sum_by-cons (λ (u : Pair × ℕ). cond (same_key (key u.0) (key s.0)) u.1 0) t ts in
      let none = ap (λ (b : Bool). cond b t.1 0) (other_key (key t.0) (key s.0) (λ e. apart t (contains_head t ts) (sym e))) in
      let rest = rest_none s ts (λ u c. apart u (contains_tail t u ts c)) in
      omega (arith, more, none, rest)

  -- the first sum is that of the first pair
  head_is : (p : Pair) (ps : List Pair) (s : Pair × ℕ) (ss : List (Pair × ℕ)) → IsStrict (p ∷ ps) → ArePlaces key Le (p ∷ ps) (s ∷ ss) → AllPairs Before (p ∷ ps) → s.0 ≡ p
  head_is p ps s ss strict h rising =
      let there = h.are_sums.least p (contains_head p ps) in
      let first : there.0.0 ≡ p = elim (contains_cases p there.0.0 ps (h.are_sums.members there.0 there.1)) [
        | inl e ↦ sym e
        | inr later ↦ absurd (strict p there.0.0 (contains_head p ps) (contains_tail p there.0.0 ps later) (pairs_head Before p ps rising there.0.0 later) there.3)
      ] in
      elim (contains_cases s there.0 ss there.1) [
        | inl e ↦ ap (λ (t : Pair × ℕ). t.0) e ∙ first
        | inr behind ↦ elim (contains_cases p s.0 ps (h.are_sums.members s (contains_head s ss))) [
          | inl e ↦ sym e
          | inr later ↦ absurd (strict p s.0 (contains_head p ps) (contains_tail p s.0 ps later) (pairs_head Before p ps rising s.0 later) (subst (Le s.0) first (pairs_head (λ (a b : Pair × ℕ). Le a.0 b.0) s ss h.in_order there.0 behind)))
        ]
      ]

  -- the others are those of the pairs with other places
  rest_are : (p : Pair) (ps : List Pair) (s : Pair × ℕ) (ss : List (Pair × ℕ)) → s.0 ≡ p → ArePlaces key Le (p ∷ ps) (s ∷ ss) → ArePlaces key Le (filter (elsewhere key (key p)) ps) ss
  rest_are p ps s ss own h = record {
    are_sums = record { counts = counts; members = members; least = least };
    apart = pairs_tail (λ (a b : Pair × ℕ). key a.0 ≢ key b.0) s ss h.apart;
    in_order = pairs_tail (λ (a b : Pair × ℕ). Le a.0 b.0) s ss h.in_order;
  }
    where
      other : (t : Pair × ℕ) → Contains ss t → key p ≢ key t.0
      other t c e = pairs_head (λ (a b : Pair × ℕ). key a.0 ≢ key b.0) s ss h.apart t c (ap key own ∙ e)

      counts : (k : Key) → summed key ss k ≡ at_place key (filter (elsewhere key (key p)) ps) k
      counts k = elim (cases_Bool (same_key (key p) k)) [
        | inl t ↦ (
            let is : key p ≡ k = one_key (key p) k t in
            let none = rest_none s ss (λ u c e. other u c (ap key (sym own) ∙ e)) in
            ap (λ (q : Key). summed key ss q) (sym is ∙ ap key (sym own)) ∙ (none ∙ (sym (not_here key (key p) ps) ∙ ap (λ (q : Key). at_place key (filter (elsewhere key (key p)) ps) q) is)))
        | inr f ↦ (
            let sums = sum_by-cons (λ (u : Pair × ℕ). cond (same_key (key u.0) k) u.1 0) s ss in
            let races = sum_by-cons (λ (q : Pair). cond (same_key (key q) k) 1 0) p ps in
            let here : cond {A = ℕ} (same_key (key s.0) k) s.1 0 ≡ 0 = ap (λ (q : Pair). cond {A = ℕ} (same_key (key q) k) s.1 0) own ∙ ap (λ (b : Bool). cond {A = ℕ} b s.1 0) f in
            let there : cond {A = ℕ} (same_key (key p) k) 1 0 ≡ 0 = ap (λ (b : Bool). cond {A = ℕ} b 1 0) f in
            let count = h.are_sums.counts k in
            let stay = others_stay key (key p) k f ps in
            omega (arith, sums, races, here, there, count, stay))
      ]

      passes : (q : Pair) → key p ≢ key q → elsewhere key (key p) q ≡ true
      passes q ne = ap (λ (b : Bool). not b) (other_key (key q) (key p) (λ e. ne (sym e)))

      members : (t : Pair × ℕ) → Contains ss t → Contains (filter (elsewhere key (key p)) ps) t.0
      members t c = elim (contains_cases p t.0 ps (h.are_sums.members t (contains_tail s t ss c))) [
        | inl e ↦ absurd (other t c (ap key e))
        | inr there ↦ filter_keeps (elsewhere key (key p)) ps t.0 there (passes t.0 (other t c))
      ]

      least : (q : Pair) → Contains (filter (elsewhere key (key p)) ps) q → (t : Pair × ℕ) × Contains ss t × (key t.0 ≡ key q) × Le t.0 q
      least q c =
          let kept = filter_kept (elsewhere key (key p)) ps q c in
          let there = h.are_sums.least q (contains_tail p q ps kept.0) in
          elim (contains_cases s there.0 ss there.1) [
            | inr behind ↦ (there.0, behind, there.2, there.3)
            | inl e ↦ absurd (
                let same : key q ≡ key p = sym there.2 ∙ (ap (λ (t : Pair × ℕ). key t.0) (sym e) ∙ ap key own) in
                true≢false (sym kept.1 ∙ ap (λ (b : Bool). not b) (ap (λ (k : Key). same_key k (key p)) same ∙ same_self (key p))))
          ]

  -- they are the places of the pairs
  pub places_are : (sums : List (Pair × ℕ)) (pairs : List Pair) → IsStrict pairs → ArePlaces key Le pairs sums → AllPairs Before pairs → keyed_by key [] pairs ≡ map (place_of_sum key) sums
  places_are [] [] strict h rising = refl
  places_are [] (p ∷ ps) strict h rising = absurd (let there = h.are_sums.least p (contains_head p ps) in contains_none there.0 there.1)
  places_are (s ∷ ss) [] strict h rising = absurd (contains_none s.0 (h.are_sums.members s (contains_head s ss)))
  places_are (s ∷ ss) (p ∷ ps) strict h rising =
      let own = head_is p ps s ss strict h rising in
      let kept = filter_kept (elsewhere key (key p)) ps in
      let rest = places_are ss (filter (elsewhere key (key p)) ps) (λ a b ca cb. strict a b (contains_tail p a ps (kept a ca).0) (contains_tail p b ps (kept b cb).0)) (rest_are p ps s ss own h) (AllPairs-filter Before (elsewhere key (key p)) ps (pairs_tail Before p ps rising)) in
      let count : 1 + at_place key ps (key p) ≡ s.1 =
      (let sums = sum_by-cons (λ (u : Pair × ℕ). cond (same_key (key u.0) (key s.0)) u.1 0) s ss in
      let races = sum_by-cons (λ (q : Pair). cond (same_key (key q) (key s.0)) 1 0) p ps in
      let none = rest_none s ss (λ t c. pairs_head (λ (a b : Pair × ℕ). key a.0 ≢ key b.0) s ss h.apart t c) in
      let here : cond {A = ℕ} (same_key (key s.0) (key s.0)) s.1 0 ≡ s.1 = ap (λ (b : Bool). cond {A = ℕ} b s.1 0) (same_self (key s.0)) in
      let there : cond {A = ℕ} (same_key (key p) (key s.0)) 1 0 ≡ 1 = ap (λ (q : Pair). cond {A = ℕ} (same_key (key q) (key s.0)) 1 0) (sym own) ∙ ap (λ (b : Bool). cond {A = ℕ} b 1 0) (same_self (key s.0)) in
      let both = h.are_sums.counts (key s.0) in
      let alike : at_place key ps (key p) ≡ at_place key ps (key s.0) = ap (λ (q : Pair). at_place key ps (key q)) (sym own) in
      omega (arith, sums, races, none, here, there, both, alike)) in
      head_counts key (entry (key p) p 1) [] ps
      ∙ (ap (λ (l : List Keyed). entry (key p) p (1 + at_place key ps (key p)) ∷ l) rest
      ∙ (ap (λ (n : ℕ). entry (key p) p n ∷ map (place_of_sum key) ss) count
      ∙ ap (λ (q : Pair). entry (key q) q s.1 ∷ map (place_of_sum key) ss) (sym own)))
