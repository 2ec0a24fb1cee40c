-- The numbers of a schedule, read one after another.
use Rattle.std.proofs.Common.{◌≡◌, ◌≢◌, ℕ, zero, suc, ◌+◌, ◌==◌, Bool, true, false, MatchBool, length-append, ◌<◌, ◌^◌, List, [], ◌∷◌, ◌++◌, length, codes, map, take, refl, sym, ap, ◌∙◌, arith, append_assoc, append-nil, ◌≤◌}
use Rattle.shb_reading.proofs.Words.{AddsShown, AllByRecursion, IsLabelled, IsShown, Stops, append_cancel_left, decimal, is_ascii_digit, listed, nat_tests, numbers_line}
use Rattle.shb_reading.proofs.Peeling.{peel}

pub ends-listed : (ns : List ℕ) → Stops is_ascii_digit (listed ns)
ends-listed [] = tt
ends-listed (n ∷ ns) = refl

pub listed-append : (ns ms : List ℕ) → listed (ns ++ ms) ≡ listed ns ++ listed ms
listed-append [] ms = refl
listed-append (n ∷ ns) ms = ap (λ l. codes " " ++ (decimal n ++ l)) (listed-append ns ms) ∙ ap (λ l. codes " " ++ l) (sym (append_assoc (decimal n) (listed ns) (listed ms)))

shown-append : (ns ms : List ℕ) → AllByRecursion IsShown ns → AllByRecursion IsShown ms → AllByRecursion IsShown (ns ++ ms)
shown-append [] ms h g = g
shown-append (n ∷ ns) ms h g = (h.0, shown-append ns ms h.1 g)

take_none : {T : Type 0} (kept : ℕ → T) (n : ℕ) → take n (map kept []) ≡ []
take_none kept zero = refl
take_none kept (suc n) = refl

-- a number has a byte at least
listed_long : (ns : List ℕ) → length ns ≤ length (listed ns)
listed_long [] = omega arith
listed_long (n ∷ ns) = omega (arith, listed_long ns, length-append (decimal n) (listed ns))

-- so many numbers were read so far of a text, before a rest
pub record HasListed {T : Type 0} (kept : ℕ → T) (most : ℕ) (text : List ℕ) (old new : List T) (rest : List ℕ) (count : ℕ) : Type 0 where
  pub ns : List ℕ
  pub added : AddsShown kept most old new ns
  pub counted : length ns ≡ count
  pub text_is : text ≡ listed ns ++ rest
  pub back : (all : List ℕ) → AllByRecursion IsShown all → text ≡ listed all → (more : List ℕ) × AllByRecursion IsShown more × (rest ≡ listed more) × (length all ≡ length ns + length more)

-- each number that was read has a byte of the text
pub listed_within : {T : Type 0} (kept : ℕ → T) (most : ℕ) (text : List ℕ) (old new : List T) (rest : List ℕ) (count : ℕ) → HasListed kept most text old new rest count → count + length rest ≤ length text
listed_within kept most text old new rest count h = omega (arith, h.counted, listed_long h.ns, ap (λ (l : List ℕ). length l) h.text_is, length-append (listed h.ns) rest)

-- what stands after the first of some numbers
after_first : (rest : List ℕ) (n : ℕ) (after more : List ℕ) → IsShown n → IsLabelled (codes " ") rest n after → AllByRecursion IsShown more → rest ≡ listed more
    → (others : List ℕ) × AllByRecursion IsShown others × (after ≡ listed others) × (length more ≡ suc (length others))
after_first rest n after [] small h all e = let lengths : length (codes " " ++ (decimal n ++ after)) ≡ 0 = ap (λ (l : List ℕ). length l) (sym h.text_is ∙ e) in absurd (omega arith)
after_first rest n after (m ∷ ms) small h all e = (ms, all.1, sym (peel (codes " ") rest n m after (listed ms) small all.0 h (ends-listed ms) e).1, refl)

-- where a text with bytes left is some numbers, a number is next
pub first_listed : {T : Type 0} (kept : ℕ → T) (most : ℕ) (text : List ℕ) (old new : List T) (rest : List ℕ) (count : ℕ) → HasListed kept most text old new rest count → 0 < length rest → ((n : ℕ) (after : List ℕ) → n < 2 ^ 64 → IsLabelled (codes " ") rest n after → ⊥) → (all : List ℕ) → AllByRecursion IsShown all → text ≢ listed all
first_listed kept most text old new rest count h some lacks all shown e = let more = h.back all shown e in by more.0 more.1 more.2
  where
    by : (more : List ℕ) → AllByRecursion IsShown more → rest ≡ listed more → ⊥
    by [] g is = omega (arith, ap (λ (l : List ℕ). length l) is)
    by (m ∷ ms) g is = lacks m (listed ms) g.0 (record { text_is = is; ends = ends-listed ms })

pub one_more_listed : {T : Type 0} (kept : ℕ → T) (most : ℕ) (text : List ℕ) (old new : List T) (rest : List ℕ) (count n : ℕ) (after : List ℕ) (new_items : List T) → HasListed kept most text old new rest count → IsShown n
    → IsLabelled (codes " ") rest n after → ((items : List T) (ns : List ℕ) → length ns ≡ count → new ≡ items ++ take most (map kept ns) → new_items ≡ items ++ take most (map kept (ns ++ n ∷ []))) → HasListed kept most text old new_items after (count + 1)
one_more_listed kept most text old new rest count n after new_items h small labelled adds = record {
  ns = h.ns ++ n ∷ [];
  added = record { grown = adds old h.ns h.counted h.added.grown; shown = shown-append h.ns (n ∷ []) h.added.shown (small, tt) };
  counted = omega (arith, length-append h.ns (n ∷ []), h.counted);
  text_is = h.text_is ∙ ap (λ r. listed h.ns ++ r) (labelled.text_is ∙ ap (λ d. codes " " ++ (d ++ after)) (sym (append-nil (decimal n))))
      ∙ sym (append_assoc (listed h.ns) (listed (n ∷ [])) after) ∙ ap (λ l. l ++ after) (sym (listed-append h.ns (n ∷ [])));
  back = λ all shown e.
      let before = h.back all shown e in
      let others = after_first rest n after before.0 small labelled before.1 before.2 in
      (others.0, others.1, others.2, omega (arith, length-append h.ns (n ∷ []), before.3, others.3));
}

pub listed_same : (ns ms : List ℕ) → AllByRecursion IsShown ns → AllByRecursion IsShown ms → listed ns ≡ listed ms → ns ≡ ms
listed_same [] [] h g e = refl
listed_same [] (m ∷ ms) h g e = absurd (cc)
listed_same (n ∷ ns) [] h g e = absurd (cc)
listed_same (n ∷ ns) (m ∷ ms) h g e =
    let same = peel (codes " ") (listed (n ∷ ns)) n m (listed ns) (listed ms) h.0 g.0 (record { text_is = refl; ends = ends-listed ns }) (ends-listed ms) e in
    let heads : m ≡ n = same.0 in
    let tails : ns ≡ ms = listed_same ns ms h.1 g.1 (sym same.1) in
    cc

-- the parts of a schedule's line

module _ (line : List ℕ) (count : ℕ) (after : List ℕ) (small : IsShown count) (labelled : IsLabelled (codes "schedule ") line count after) where
  count_is : (ns : List ℕ) → IsShown (length ns) → line ≡ numbers_line ns → (length ns ≡ count) × (codes ":" ++ listed ns ≡ after)
  count_is ns few e = peel (codes "schedule ") line count (length ns) after (codes ":" ++ listed ns) small few labelled refl e

  pub no_colon : ((rest : List ℕ) → after ≢ codes ":" ++ rest) → (ns : List ℕ) → AllByRecursion IsShown ns → IsShown (length ns) → line ≢ numbers_line ns
  no_colon lacks ns shown few e = lacks (listed ns) (sym (count_is ns few e).1)

  module _ (text : List ℕ) (colon : after ≡ codes ":" ++ text) where
    text_is : (ns : List ℕ) → IsShown (length ns) → line ≡ numbers_line ns → text ≡ listed ns
    text_is ns few e = append_cancel_left (codes ":") text (listed ns) (sym colon ∙ sym (count_is ns few e).1)

    pub no_numbers : ((ns : List ℕ) → AllByRecursion IsShown ns → text ≢ listed ns) → (ns : List ℕ) → AllByRecursion IsShown ns → IsShown (length ns) → line ≢ numbers_line ns
    no_numbers lacks ns shown few e = lacks ns shown (text_is ns few e)

    counts_agree : (n : ℕ) → (n == count) ≡ true → n ≡ count
    counts_agree n t = grind (arith, nat_tests)

    counts_differ : (n : ℕ) → (n == count) ≡ false → n ≡ count → ⊥
    counts_differ n f e = grind (arith, nat_tests)

    schedule_if : {T : Type 0} (kept : ℕ → T) (most : ℕ) (old new : List T) (m : ℕ) → (good : Bool) → (m == count) ≡ good → (ns : List ℕ) × AddsShown kept most old new ns × (text ≡ listed ns) × (length ns ≡ m)
        → MatchBool good ((ns : List ℕ) × AddsShown kept most old new ns × IsShown (length ns) × (line ≡ numbers_line ns)) ((ns : List ℕ) → AllByRecursion IsShown ns → IsShown (length ns) → line ≢ numbers_line ns)
    schedule_if kept most old new m true is found =
        let ns = found.0 in
        let counted : m ≡ count = counts_agree m is in
        let count_ns : count ≡ length ns = omega (arith, counted, found.3) in
        (ns, found.1, omega (arith, count_ns), labelled.text_is ∙ ap (λ b. codes "schedule " ++ (decimal count ++ b)) (colon ∙ ap (λ t. codes ":" ++ t) found.2) ∙ ap (λ n. codes "schedule " ++ (decimal n ++ (codes ":" ++ listed ns))) count_ns)
    schedule_if kept most old new m false is found = λ ns shown few e.
        let same : found.0 ≡ ns = listed_same found.0 ns found.1.shown shown (sym found.2 ∙ text_is ns few e) in
        counts_differ m is (omega (arith, found.3, ap (λ (l : List ℕ). length l) same, (count_is ns few e).0))

    pub schedule_by : {T : Type 0} (kept : ℕ → T) (most : ℕ) (old new : List T) (m : ℕ) → (ns : List ℕ) × AddsShown kept most old new ns × (text ≡ listed ns) × (length ns ≡ m)
        → MatchBool (m == count) ((ns : List ℕ) × AddsShown kept most old new ns × IsShown (length ns) × (line ≡ numbers_line ns)) ((ns : List ℕ) → AllByRecursion IsShown ns → IsShown (length ns) → line ≢ numbers_line ns)
    schedule_by kept most old new m found = schedule_if kept most old new m (m == count) refl found
