-- Sums over two lists, one first or the other: the races of some accesses by the later one, or by the earlier one.
use Rattle.std.proofs.Common.{◌≡◌, ℕ, zero, ◌+◌, Bool, true, false, cond, List, [], ◌∷◌, inl, inr, length, map, refl, arith, ap, sym, subst, ◌∙◌}
use Rattle.std.specs.Prelude.{Contains, filter, flat_map}
use Rattle.std.specs.List.{sum_by}
use Rattle.std.proofs.lemmas.List.Sums.{sum_by-append, sum_by-cons}
use Rattle.shb_lines.proofs.events.Increasing.{contains_cases, contains_head, contains_none, contains_tail}
use Rattle.shb_stamps.proofs.FlatMaps.{flat_map_contains, flat_map_parts, map_contains, map_parts}
use Rattle.shb_format.specs.Keyed.{Key, same_key}
use Rattle.shb_counts.specs.PlaceSums.{AreSums, at_place}
use Rattle.shb_counts.proofs.PlacesOfSums.{filter_keeps, filter_kept}

pub sum_same : {X : Type 0} (v w : X → ℕ) (xs : List X) → ((x : X) → Contains xs x → v x ≡ w x) → sum_by v xs ≡ sum_by w xs
sum_same v w [] same = refl
sum_same v w (x ∷ xs) same =
    let first = sum_by-cons v x xs in
    let second = sum_by-cons w x xs in
    let here = same x (contains_head x xs) in
    let rest = sum_same v w xs (λ y c. same y (contains_tail x y xs c)) in
    omega (arith, first, second, here, rest)

pub sum_zero : {X : Type 0} (xs : List X) → sum_by (λ x. zero) xs ≡ 0
sum_zero [] = refl
sum_zero (x ∷ xs) = let more = sum_by-cons (λ y. zero) x xs in let rest = sum_zero xs in omega (arith, more, rest)

pub sum_both : {X : Type 0} (v w : X → ℕ) (xs : List X) → sum_by (λ x. v x + w x) xs ≡ sum_by v xs + sum_by w xs
sum_both v w [] = refl
sum_both v w (x ∷ xs) =
    let both = sum_by-cons (λ y. v y + w y) x xs in
    let first = sum_by-cons v x xs in
    let second = sum_by-cons w x xs in
    let rest = sum_both v w xs in
    omega (arith, both, first, second, rest)

-- first over one list, or first over the other
pub sum_swapped : {X Y : Type 0} (w : X → Y → ℕ) (xs : List X) (ys : List Y) → sum_by (λ x. sum_by (w x) ys) xs ≡ sum_by (λ y. sum_by (λ x. w x y) xs) ys
sum_swapped w [] ys = sym (sum_zero ys)
sum_swapped w (x ∷ xs) ys =
    let more = sum_by-cons (λ z. sum_by (w z) ys) x xs in
    let rest = sum_swapped w xs ys in
    let parts = sum_same (λ y. sum_by (λ z. w z y) (x ∷ xs)) (λ y. w x y + sum_by (λ z. w z y) xs) ys (λ y c. sum_by-cons (λ z. w z y) x xs) in
    let both = sum_both (w x) (λ y. sum_by (λ z. w z y) xs) ys in
    omega (arith, more, rest, parts, both)

pub sum_flat : {X A : Type 0} (v : A → ℕ) (f : X → List A) (xs : List X) → sum_by v (flat_map f xs) ≡ sum_by (λ x. sum_by v (f x)) xs
sum_flat v f [] = refl
sum_flat v f (x ∷ xs) =
    let parts = sum_by-append v (f x) (flat_map f xs) in
    let more = sum_by-cons (λ y. sum_by v (f y)) x xs in
    let rest = sum_flat v f xs in
    omega (arith, parts, more, rest)

pub sum_kept : {X A : Type 0} (v : A → ℕ) (g : X → A) (p : X → Bool) (xs : List X) → sum_by v (map g (filter p xs)) ≡ sum_by (λ x. cond (p x) (v (g x)) 0) xs
sum_kept v g p [] = refl
sum_kept v g p (x ∷ xs) = by (p x) (sum_kept v g p xs) (sum_by-cons (λ y. cond (p y) (v (g y)) 0) x xs)
  where
    by : (b : Bool) → sum_by v (map g (filter p xs)) ≡ sum_by (λ y. cond (p y) (v (g y)) 0) xs → sum_by (λ y. cond (p y) (v (g y)) 0) (x ∷ xs) ≡ cond b (v (g x)) 0 + sum_by (λ y. cond (p y) (v (g y)) 0) xs
        → sum_by v (map g (cond b (x ∷ filter p xs) (filter p xs))) ≡ sum_by (λ y. cond (p y) (v (g y)) 0) (x ∷ xs)
    by true rest more = let here = sum_by-cons v (g x) (map g (filter p xs)) in omega (arith, rest, more, here)
    by false rest more = omega (arith, rest, more)

-- the races of later ones with earlier ones: `covers` says which earlier ones race with a later one
module _ {T E J : Type 0} (key : T → Key) (Le : T → T → Type 0) (covers : E → J → Bool) (race : J → E → T) where
  abbrev pub by_later : List E → List J → List T
  by_later es js = flat_map (λ e. map (λ j. race j e) (filter (covers e) js)) es

  abbrev pub by_earlier : List E → List J → List T
  by_earlier es js = flat_map (λ j. map (race j) (filter (λ e. covers e j) es)) js

  pub same_many : (es : List E) (js : List J) (k : Key) → at_place key (by_later es js) k ≡ at_place key (by_earlier es js) k
  same_many es js k =
      let v = λ (r : T). cond {A = ℕ} (same_key (key r) k) 1 0 in
      sum_flat v (λ (e : E). map (λ (j : J). race j e) (filter (covers e) js)) es
      ∙ (sum_same (λ (e : E). sum_by v (map (λ (j : J). race j e) (filter (covers e) js))) (λ (e : E). sum_by (λ (j : J). cond (covers e j) (v (race j e)) 0) js) es (λ e c. sum_kept v (λ (j : J). race j e) (covers e) js)
      ∙ (sum_swapped (λ (e : E) (j : J). cond (covers e j) (v (race j e)) 0) es js
      ∙ (sym (sum_same (λ (j : J). sum_by v (map (race j) (filter (λ (e : E). covers e j) es))) (λ (j : J). sum_by (λ (e : E). cond (covers e j) (v (race j e)) 0) es) js (λ j c. sum_kept v (race j) (λ (e : E). covers e j) es))
      ∙ sym (sum_flat v (λ (j : J). map (race j) (filter (λ (e : E). covers e j) es)) js))))

  pub there : (es : List E) (js : List J) (r : T) → Contains (by_earlier es js) r → Contains (by_later es js) r
  there es js r c =
      let of_j = flat_map_parts (λ (j : J). map (race j) (filter (λ (e : E). covers e j) es)) js r c in
      let of_e = map_parts (race of_j.0) (filter (λ (e : E). covers e of_j.0) es) r of_j.2 in
      let kept = filter_kept (λ (e : E). covers e of_j.0) es of_e.0 of_e.1 in
      flat_map_contains (λ (e : E). map (λ (j : J). race j e) (filter (covers e) js)) es of_e.0 r kept.0
      (subst (Contains (map (λ (j : J). race j of_e.0) (filter (covers of_e.0) js))) of_e.2 (map_contains (λ (j : J). race j of_e.0) (filter (covers of_e.0) js) of_j.0 (filter_keeps (covers of_e.0) js of_j.0 of_j.1 kept.1)))

  pub back : (es : List E) (js : List J) (r : T) → Contains (by_later es js) r → Contains (by_earlier es js) r
  back es js r c =
      let of_e = flat_map_parts (λ (e : E). map (λ (j : J). race j e) (filter (covers e) js)) es r c in
      let of_j = map_parts (λ (j : J). race j of_e.0) (filter (covers of_e.0) js) r of_e.2 in
      let kept = filter_kept (covers of_e.0) js of_j.0 of_j.1 in
      flat_map_contains (λ (j : J). map (race j) (filter (λ (e : E). covers e j) es)) js of_j.0 r kept.0
      (subst (Contains (map (race of_j.0) (filter (λ (e : E). covers e of_j.0) es))) of_j.2 (map_contains (race of_j.0) (filter (λ (e : E). covers e of_j.0) es) of_e.0 (filter_keeps (λ (e : E). covers e of_j.0) es of_e.0 of_e.1 kept.1)))

-- races of one place: the first of them, and how many they are
pub one_place : {T : Type 0} (key : T → Key) (Le : T → T → Type 0) (races : List T) (first : T) → Contains races first → ((r : T) → Contains races r → (key r ≡ key first) × Le first r) → AreSums key Le races ((first, length races) ∷ [])
one_place {T} key Le races first there alike = record {
  counts = λ k. sym (all races k (λ r c. (alike r c).0));
  members = λ s c. elim (contains_cases (first, length races) s [] c) [
    | inl e ↦ subst (λ (t : T × ℕ). Contains races t.0) e there
    | inr none ↦ absurd (contains_none s none)
  ];
  least = λ r c. (let h = alike r c in ((first, length races), contains_head (first, length races) [], sym h.0, h.1));
}
  where
    all : (rs : List T) (k : Key) → ((r : T) → Contains rs r → key r ≡ key first) → at_place key rs k ≡ 0 + cond (same_key (key first) k) (length rs) 0
    all [] k same = by (same_key (key first) k)
      where
        by : (b : Bool) → 0 ≡ 0 + cond {A = ℕ} b 0 0
        by true = refl
        by false = refl
    all (r ∷ rs) k same =
        let more = sum_by-cons (λ (q : T). cond {A = ℕ} (same_key (key q) k) 1 0) r rs in
        let rest = all rs k (λ q c. same q (contains_tail r q rs c)) in
        let here = ap (λ (q : Key). cond {A = ℕ} (same_key q k) 1 0) (same r (contains_head r rs)) in
        by (same_key (key first) k) more rest here
      where
        by : (b : Bool) → at_place key (r ∷ rs) k ≡ cond (same_key (key r) k) 1 0 + at_place key rs k → at_place key rs k ≡ 0 + cond {A = ℕ} b (length rs) 0 → cond {A = ℕ} (same_key (key r) k) 1 0 ≡ cond {A = ℕ} b 1 0 → at_place key (r ∷ rs) k ≡ 0 + cond {A = ℕ} b (length (r ∷ rs)) 0
        by true more rest here = omega (arith, more, rest, here)
        by false more rest here = omega (arith, more, rest, here)
