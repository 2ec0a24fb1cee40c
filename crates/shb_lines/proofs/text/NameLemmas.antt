-- What an insertion does to the names.
use Rattle.std.proofs.lemmas.Grind.{common_steps}
use Rattle.std.proofs.Common.{◌≡◌, ◌+◌, ◌≤◌, ◌||◌, ℕ, Bool, true, false, cond, not, zero, suc, List, [], ◌∷◌, length, add-zero, Some, slice_get, refl, sym, ap, ◌∙◌, arith}
use mir.Val.{bool_byte}
use Rattle.std.specs.List.{list_any, position_or_len}
use Rattle.std.specs.Str.{bytes_eq}
use Rattle.std.proofs.lemmas.Slice.Eq.{bytes_eq-Decides}
use Rattle.std.proofs.Math.Numerals.{one-add}
use Rattle.shb_lines.specs.text.Numbering.{with_names}
use Rattle.shb_lines.specs.text.Text.{with_name}

-- names with the same bytes are one
bytes_eq-same : (xs ys : List ℕ) → bytes_eq xs ys ≡ true → xs ≡ ys
bytes_eq-same xs ys = (bytes_eq-Decides xs ys).0

-- a name's number is its index in the table
pub with_name-at : (names : List (List ℕ)) (name : List ℕ) → slice_get (with_name names name) (position_or_len (bytes_eq name) names) ≡ Some name
with_name-at [] name = refl
with_name-at (known ∷ names) name = by (bytes_eq name known) refl (with_name-at names name)
  where
    by : (b : Bool) → bytes_eq name known ≡ b → slice_get (with_name names name) (position_or_len (bytes_eq name) names) ≡ Some name
        → slice_get (cond b (known ∷ names) (known ∷ with_name names name)) (cond (not b) (1 + position_or_len (bytes_eq name) names) 0) ≡ Some name
    by true same rest = ap Some (sym (bytes_eq-same name known same))
    by false same rest = rw (one-add (position_or_len (bytes_eq name) names)) rest

-- a known name keeps its number when a name is put last
pub slice_get-with_name : (names : List (List ℕ)) (name known : List ℕ) (number : ℕ) → slice_get names number ≡ Some known → slice_get (with_name names name) number ≡ Some known
slice_get-with_name [] name known number h = cc
slice_get-with_name (first ∷ names) name known number h = by (bytes_eq name first) number h (slice_get-with_name names name known)
  where
    by : (b : Bool) (number : ℕ) → slice_get (first ∷ names) number ≡ Some known
        → ((k : ℕ) → slice_get names k ≡ Some known → slice_get (with_name names name) k ≡ Some known)
        → slice_get (cond b (first ∷ names) (first ∷ with_name names name)) number ≡ Some known
    by true number h rest = h
    by false zero h rest = h
    by false (suc k) h rest = rest k h

pub slice_get-with_names : (more names : List (List ℕ)) (known : List ℕ) (number : ℕ) → slice_get names number ≡ Some known → slice_get (with_names names more) number ≡ Some known
slice_get-with_names [] names known number h = h
slice_get-with_names (name ∷ more) names known number h = slice_get-with_names more (with_name names name) known number (slice_get-with_name names name known number h)

-- a table grows by a name that is new
pub length-with_name : (names : List (List ℕ)) (name : List ℕ) → length (with_name names name) ≡ length names + cond (list_any (bytes_eq name) names) 0 1
length-with_name [] name = refl
length-with_name (known ∷ names) name = by (bytes_eq name known) (length-with_name names name)
  where
    by : (b : Bool) → length (with_name names name) ≡ length names + cond (list_any (bytes_eq name) names) 0 1
        → length (cond b (known ∷ names) (known ∷ with_name names name)) ≡ length (known ∷ names) + cond (b || list_any (bytes_eq name) names) 0 1
    by true rest = omega arith
    by false rest = omega (arith, rest)

or_false : (x : Bool) → x ≡ (x || false)
or_false true = refl
or_false false = refl

any-with_name : (names : List (List ℕ)) (name other : List ℕ) → list_any (bytes_eq other) (with_name names name) ≡ (list_any (bytes_eq other) names || bytes_eq other name)
any-with_name [] name other = by (bytes_eq other name)
  where
    by : (b : Bool) → (b || false) ≡ (false || b)
    by true = refl
    by false = refl
any-with_name (known ∷ names) name other = by (bytes_eq name known) refl (bytes_eq other known) refl (any-with_name names name other)
  where
    by : (b : Bool) → bytes_eq name known ≡ b → (o : Bool) → bytes_eq other known ≡ o → list_any (bytes_eq other) (with_name names name) ≡ (list_any (bytes_eq other) names || bytes_eq other name)
        → list_any (bytes_eq other) (cond b (known ∷ names) (known ∷ with_name names name)) ≡ ((o || list_any (bytes_eq other) names) || bytes_eq other name)
    by true same true is rest = ap (λ (x : Bool). x || list_any (bytes_eq other) names) is
    by true same false is rest =
        ap (λ (x : Bool). x || list_any (bytes_eq other) names) is
        ∙ or_false (list_any (bytes_eq other) names)
        ∙ ap (λ (x : Bool). list_any (bytes_eq other) names || x) (sym (ap (bytes_eq other) (bytes_eq-same name known same) ∙ is))
    by false same true is rest = ap (λ (x : Bool). x || list_any (bytes_eq other) (with_name names name)) is
    by false same false is rest = ap (λ (x : Bool). x || list_any (bytes_eq other) (with_name names name)) is ∙ rest

-- a known name changes no table
pub known_stays : (names : List (List ℕ)) (name : List ℕ) (number : ℕ) → slice_get names number ≡ Some name → with_name names name ≡ names
known_stays [] name number h = absurd cc
known_stays (first ∷ names) name number h = by (bytes_eq name first) refl number h (known_stays names name)
  where
    by : (b : Bool) → bytes_eq name first ≡ b → (number : ℕ) → slice_get (first ∷ names) number ≡ Some name → ((k : ℕ) → slice_get names k ≡ Some name → with_name names name ≡ names)
        → cond b (first ∷ names) (first ∷ with_name names name) ≡ first ∷ names
    by true e number h rest = refl
    by false e zero h rest = absurd (let same : name ≡ first = cc in let passes = (bytes_eq-Decides name first).1 same in cc)
    by false e (suc number) h rest = ap (λ names. first ∷ names) (rest number h)

pub length-with_name_le : (names : List (List ℕ)) (name : List ℕ) → length (with_name names name) ≤ length names + 1
length-with_name_le names name = grind (arith, common_steps, length-with_name)

pub length-with_names_le : (more names : List (List ℕ)) → length (with_names names more) ≤ length names + length more
length-with_names_le [] names = omega arith
length-with_names_le (name ∷ more) names = omega (arith, length-with_names_le more (with_name names name), length-with_name_le names name)

-- the same, with what a count of new names says
pub new-one : (names : List (List ℕ)) (a : List ℕ) (own : ℕ) (new : Bool) → own ≡ bool_byte new → new ≡ not (list_any (bytes_eq a) names) → length (with_name names a) ≡ length names + own
new-one names a own new own_is new_is = grind (arith, common_steps, length-with_name, bool_byte, not)

pub new-two : (names : List (List ℕ)) (a b : List ℕ) (own other : ℕ) (new newer : Bool) → own ≡ bool_byte new → new ≡ not (list_any (bytes_eq a) names) → other ≡ bool_byte newer → newer ≡ not (list_any (bytes_eq b) names) → bytes_eq b a ≡ false
    → length (with_name (with_name names a) b) ≡ length names + (own + other)
new-two names a b own other new newer own_is new_is other_is newer_is differ = grind (arith, common_steps, new-one, not, or_false, any-with_name)

-- a name that was just put in is known
pub new-same : (names : List (List ℕ)) (a b : List ℕ) → bytes_eq b a ≡ true → length (with_name (with_name names a) b) ≡ length (with_name names a)
new-same names a b same = grind (arith, common_steps, length-with_name, any-with_name, add-zero)
