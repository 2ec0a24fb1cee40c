-- The front of a text, up to where a test ends, is determined; so are numbers and lines.
use Rattle.std.proofs.Common.{◌≡◌, ℕ, zero, suc, ◌/◌, ◌%◌, cond, ◌<◌, ◌≤◌, ◌^◌, ◌==◌, Bool, true, false, ◌&&◌, not, List, [], ◌∷◌, ◌++◌, refl, sym, subst, ◌∙◌, arith}
use Rattle.shb_reading.proofs.Words.{HasNoLineFeed, IsLabelled, Stops, append_cancel_left, decimal, decimal_injective, digit_glyph, digits_onto, is_ascii_digit, list_all, list_all-append, nat_tests}
use Rattle.std.specs.Fmt.{digits}

first_true : (a b : Bool) → (a && b) ≡ true → a ≡ true
first_true true b h = refl
first_true false b h = h

pub second_true : (a b : Bool) → (a && b) ≡ true → b ≡ true
second_true true b h = h
second_true false b h = absurd (cc)

pub both_true : (a b : Bool) → a ≡ true → b ≡ true → (a && b) ≡ true
both_true true b h g = g
both_true false b h g = h

-- a front whose bytes pass the test, before a rest that stops
pub same_front : (test : ℕ → Bool) (xs ys r s : List ℕ) → list_all test xs ≡ true → list_all test ys ≡ true → Stops test r → Stops test s → xs ++ r ≡ ys ++ s → (xs ≡ ys) × (r ≡ s)
same_front test [] [] r s p q h g e = (refl, e)
same_front test [] (y ∷ ys) [] s p q h g e = absurd (cc)
same_front test [] (y ∷ ys) (b ∷ r) s p q h g e =
    let same : b ≡ y = cc in
    let pass : test y ≡ true = first_true (test y) (list_all test ys) q in
    let fails : test y ≡ false = subst (λ c. test c ≡ false) same h in
    absurd (cc)
same_front test (x ∷ xs) [] r [] p q h g e = absurd (cc)
same_front test (x ∷ xs) [] r (b ∷ s) p q h g e =
    let same : b ≡ x = cc in
    let pass : test x ≡ true = first_true (test x) (list_all test xs) p in
    let fails : test x ≡ false = subst (λ c. test c ≡ false) same g in
    absurd (cc)
same_front test (x ∷ xs) (y ∷ ys) r s p q h g e =
    let heads : x ≡ y = cc in
    let tails : xs ++ r ≡ ys ++ s = cc in
    let rest = same_front test xs ys r s (second_true (test x) (list_all test xs) p) (second_true (test y) (list_all test ys) q) h g tails in
    let fronts : xs ≡ ys = rest.0 in
    (cc, rest.1)

pub list_all-weaker : (p q : ℕ → Bool) (xs : List ℕ) → ((x : ℕ) → p x ≡ true → q x ≡ true) → list_all p xs ≡ true → list_all q xs ≡ true
list_all-weaker p q [] weaker h = refl
list_all-weaker p q (x ∷ xs) weaker h = both_true (q x) (list_all q xs) (weaker x (first_true (p x) (list_all p xs) h)) (list_all-weaker p q xs weaker (second_true (p x) (list_all p xs) h))

pub digit_range : (c : ℕ) → is_ascii_digit c ≡ true → (48 ≤ c) × (c ≤ 57)
digit_range c h = (grind (arith, nat_tests), grind (arith, nat_tests))

no_feed : (c : ℕ) → is_ascii_digit c ≡ true → not (c == 10) ≡ true
no_feed c h = grind (arith, nat_tests)

glyph_digit : (d : ℕ) → d < 10 → is_ascii_digit (digit_glyph false d) ≡ true
glyph_digit d small = grind (arith, nat_tests)

either_pass : (b : Bool) (xs ys : List ℕ) → list_all is_ascii_digit xs ≡ true → list_all is_ascii_digit ys ≡ true → list_all is_ascii_digit (cond b xs ys) ≡ true
either_pass true xs ys p q = p
either_pass false xs ys p q = q

onto_digits : (k n : ℕ) (acc : List ℕ) → list_all is_ascii_digit acc ≡ true → list_all is_ascii_digit (digits_onto k 10 false n acc) ≡ true
onto_digits zero n acc h = h
onto_digits (suc k) n acc h =
    let more : list_all is_ascii_digit (digit_glyph false (n % 10) ∷ acc) ≡ true = both_true _ _ (glyph_digit (n % 10) (omega arith)) h in
    either_pass (n / 10 == 0) _ _ more (onto_digits k (n / 10) (digit_glyph false (n % 10) ∷ acc) more)

-- a number is written in digits
pub decimal_digits : (n : ℕ) → list_all is_ascii_digit (decimal n) ≡ true
unfolding digits
decimal_digits n = onto_digits 64 n [] refl

pub same_number : (m n : ℕ) (r s : List ℕ) → m < 2 ^ 64 → n < 2 ^ 64 → Stops is_ascii_digit r → Stops is_ascii_digit s → decimal m ++ r ≡ decimal n ++ s → (m ≡ n) × (r ≡ s)
same_number m n r s p q h g e =
    let same = same_front is_ascii_digit (decimal m) (decimal n) r s (decimal_digits m) (decimal_digits n) h g e in
    (decimal_injective m n p q same.0, same.1)

-- what stands at the front of a text as a label and a number
pub same_labelled : (label text : List ℕ) (m n : ℕ) (r s : List ℕ) → m < 2 ^ 64 → n < 2 ^ 64 → IsLabelled label text m r → IsLabelled label text n s → (m ≡ n) × (r ≡ s)
same_labelled label text m n r s p q h g = same_number m n r s p q h.ends g.ends (append_cancel_left label (decimal m ++ r) (decimal n ++ s) (sym h.text_is ∙ g.text_is))

-- a label and a number that are all of a text
pub same_ending : (label : List ℕ) (m n : ℕ) → m < 2 ^ 64 → n < 2 ^ 64 → label ++ decimal m ≡ label ++ decimal n → m ≡ n
same_ending label m n p q e = decimal_injective m n p q (append_cancel_left label (decimal m) (decimal n) e)

-- lines
pub same_line : (l k r s : List ℕ) → HasNoLineFeed l → HasNoLineFeed k → l ++ (10 ∷ r) ≡ k ++ (10 ∷ s) → (l ≡ k) × (r ≡ s)
same_line l k r s p q e =
    let same = same_front (λ b. not (b == 10)) l k (10 ∷ r) (10 ∷ s) p q refl refl e in
    let rests : (10 ∷ r) ≡ (10 ∷ s) = same.1 in
    (same.0, cc)

pub one_line-append : (xs ys : List ℕ) → HasNoLineFeed xs → HasNoLineFeed ys → HasNoLineFeed (xs ++ ys)
one_line-append xs ys p q = list_all-append (λ b. not (b == 10)) xs ys ∙ both_true _ _ p q

pub one_line-decimal : (n : ℕ) → HasNoLineFeed (decimal n)
one_line-decimal n = list_all-weaker is_ascii_digit (λ b. not (b == 10)) (decimal n) no_feed (decimal_digits n)
