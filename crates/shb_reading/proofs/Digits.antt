-- Digits read one after another, and the number that stands at the front of a text.
use Rattle.std.specs.Borrow.{Bor}
use Rattle.std.proofs.Common.{rules, Option, None, Some, MatchOption, ◌≡◌, ℕ, zero, suc, ◌+◌, ◌-◌, ◌*◌, ◌<◌, ◌≤◌, ◌^◌, Bool, true, false, List, [], ◌∷◌, ◌++◌, length, get_or, take, refl, sym, ap, subst, ◌∙◌, arith}
use Rattle.shb_reading.proofs.Words.{IsLabelled, Stops, append_cancel_left, decimal, decimal-digits_value, decimal_digit, decimal_is_IsNumeral, digit_value, digits_value, digits_value_after, first_decimal, is_ascii_digit, list_all, list_all_at, take_more}
use Rattle.std.proofs.lemmas.Str.{digit_value_digit}
use Rattle.std.proofs.lemmas.Str.Parse.{IsDigitsTest, IsNumeralModel, digits_value-take-le, numerals_by_value}
use Rattle.shb_reading.proofs.Fronts.{decimal_digits, digit_range, same_front}

-- a digit more

value_after-append : (n : ℕ) (xs ys : List ℕ) → digits_value_after 10 n (xs ++ ys) ≡ digits_value_after 10 (digits_value_after 10 n xs) ys
value_after-append n [] ys = refl
value_after-append n (x ∷ xs) ys = value_after-append (n * 10 + digit_value x) xs ys

is_digit_at : (ds : List ℕ) (i : ℕ) → list_all is_ascii_digit ds ≡ true → i < length ds → is_ascii_digit (get_or ds i 0) ≡ true
is_digit_at ds i h within = by (is_ascii_digit (get_or ds i 0)) refl
  where
    by : (b : Bool) → is_ascii_digit (get_or ds i 0) ≡ b → is_ascii_digit (get_or ds i 0) ≡ true
    by true e = e
    by false e = let fails = list_all_at is_ascii_digit ds i 0 within e in absurd (cc)

pub digit_at : (ds : List ℕ) (i : ℕ) → list_all is_ascii_digit ds ≡ true → i < length ds → (48 ≤ get_or ds i 0) × (get_or ds i 0 ≤ 57)
digit_at ds i h within = digit_range (get_or ds i 0) (is_digit_at ds i h within)

pub value_more : (ds : List ℕ) (i : ℕ) → list_all is_ascii_digit ds ≡ true → i < length ds → digits_value 10 (take (i + 1) ds) ≡ digits_value 10 (take i ds) * 10 + (get_or ds i 0 - 48)
value_more ds i h within =
    let range = digit_at ds i h within in
    ap (digits_value 10) (take_more ds i 0 within) ∙ value_after-append 0 (take i ds) (get_or ds i 0 ∷ [])
    ∙ ap (λ d. digits_value 10 (take i ds) * 10 + d) (let is = digit_value_digit (get_or ds i 0) range in let d : digit_value (get_or ds i 0) ≡ get_or ds i 0 - 48 = omega arith in d)

pub value_front : (ds : List ℕ) (i value : ℕ) → list_all is_ascii_digit ds ≡ true → i < length ds → value ≡ digits_value 10 (take i ds) → value * 10 + (get_or ds i 0 - 48) ≤ digits_value 10 ds
value_front ds i value h within is = omega (arith, is, value_more ds i h within, digits_value-take-le 10 ds (i + 1) (omega arith))

-- the number at the front of a text

digits_test : IsDigitsTest (λ ds. list_all is_ascii_digit ds ≡ true)
digits_test = search rules

own : IsNumeralModel (λ ds. list_all is_ascii_digit ds ≡ true) (digits_value 10)
own = numerals_by_value (λ ds. list_all is_ascii_digit ds ≡ true) digits_test

-- digits without a leading zero
abbrev pub IsPlain : List ℕ → Type 0
IsPlain digits = (0 < length digits) × (get_or digits 0 0 ≡ 48 → length digits ≡ 1)

decimal_plain : (n : ℕ) → n < 2 ^ 64 → IsPlain (decimal n)
decimal_plain n small = ((decimal_is_IsNumeral n small).0.0, by n small)
  where
    by : (n : ℕ) → n < 2 ^ 64 → get_or (decimal n) 0 0 ≡ 48 → length (decimal n) ≡ 1
    by zero small h = ap (λ (l : List ℕ). length l) (decimal_digit 0 (omega arith))
    by (suc n) small h = absurd (omega (arith, h, first_decimal (suc n) (omega arith) small))

module _ (text digits after : List ℕ) (whole : text ≡ digits ++ after) (all : list_all is_ascii_digit digits ≡ true) (ends : Stops is_ascii_digit after) where
  front_is : (n : ℕ) (rest : List ℕ) → IsLabelled [] text n rest → (decimal n ≡ digits) × (rest ≡ after)
  front_is n rest h = same_front is_ascii_digit (decimal n) digits rest after (decimal_digits n) all h.ends ends (sym h.text_is ∙ whole)

  pub number_not_plain : (IsPlain digits → ⊥) → (n : ℕ) (rest : List ℕ) → n < 2 ^ 64 → IsLabelled [] text n rest → ⊥
  number_not_plain unlike n rest small h = unlike (subst IsPlain (front_is n rest h).0 (decimal_plain n small))

  pub number_too_large : 2 ^ 64 ≤ digits_value 10 digits → (n : ℕ) (rest : List ℕ) → n < 2 ^ 64 → IsLabelled [] text n rest → ⊥
  number_too_large large n rest small h = omega (arith, ap (digits_value 10) (front_is n rest h).0, (decimal_is_IsNumeral n small).1)

  pub number_is : (n : ℕ) → IsPlain digits → n < 2 ^ 64 → n ≡ digits_value 10 digits → IsLabelled [] text n after
  number_is n plain small is =
      let written = decimal-digits_value own digits all plain.0 plain.1 (omega (arith, is)) in record {
        text_is = whole ∙ sym (ap (λ d. d ++ after) (ap decimal is ∙ written));
        ends = ends;
      }

-- a label in front of it

pub labelled_is : (label text after : List ℕ) (n : ℕ) (rest : List ℕ) → text ≡ label ++ after → IsLabelled [] after n rest → IsLabelled label text n rest
labelled_is label text after n rest whole h = record { text_is = whole ∙ ap (λ b. label ++ b) h.text_is; ends = h.ends }

pub unlabelled : (label text after : List ℕ) → text ≡ label ++ after → ((n : ℕ) (rest : List ℕ) → n < 2 ^ 64 → IsLabelled [] after n rest → ⊥) → (n : ℕ) (rest : List ℕ) → n < 2 ^ 64 → IsLabelled label text n rest → ⊥
unlabelled label text after whole unlike n rest small h = unlike n rest small (record { text_is = append_cancel_left label after (decimal n ++ rest) (sym whole ∙ h.text_is); ends = h.ends })

pub labelled_by : (label text after : List ℕ) (found : Option (ℕ × Bor (List ℕ))) → text ≡ label ++ after
    → MatchOption found ((n : ℕ) (rest : List ℕ) → n < 2 ^ 64 → IsLabelled [] after n rest → ⊥) (λ r. (r.0 < 2 ^ 64) × IsLabelled [] after r.0 r.1.now)
    → MatchOption found ((n : ℕ) (rest : List ℕ) → n < 2 ^ 64 → IsLabelled label text n rest → ⊥) (λ r. (r.0 < 2 ^ 64) × IsLabelled label text r.0 r.1.now)
labelled_by label text after None whole h = unlabelled label text after whole h
labelled_by label text after (Some r) whole h = (h.0, labelled_is label text after r.0 r.1.now whole h.1)
