-- Where the lines of a text begin, and what the next one is.
use Rattle.std.proofs.Common.{◌≡◌, ◌⊎◌, inl, inr, ◌+◌, ◌-◌, ◌==◌, ◌<◌, ◌≤◌, ℕ, zero, suc, List, [], ◌∷◌, ◌++◌, length, take, drop, slice_index_or, sum_by, refl, sym, ap, subst, ◌∙◌, arith, add-one, length-take, length-drop}
use Rattle.std.specs.List.{after_first, before_first, position_or_len}
use Rattle.std.proofs.lemmas.List.{drop-drop, take_all}
use Rattle.std.proofs.lemmas.Bool.{cases_lt}
use Rattle.std.proofs.lemmas.List.Sums.{fails_before_first, sum_by-append}
use Rattle.std.proofs.lemmas.List.Splits.{slice_split_first, slice_split_none}
use Rattle.shb_lines.specs.text.Text.{lines_of}
use Rattle.shb_lines.specs.text.Stored.{part}

-- a list from an index on tells the element there
pub record IsNext (lines : List (List ℕ)) (i : ℕ) (line : List ℕ) (rest : List (List ℕ)) : Type 0 where
  pub within : i < length lines
  pub at : slice_index_or lines i [] ≡ line
  pub with_it : take (i + 1) lines ≡ take i lines ++ line ∷ []
  pub rest_is : drop (i + 1) lines ≡ rest

pub next_of-drop : (lines : List (List ℕ)) (i : ℕ) (line : List ℕ) (rest : List (List ℕ)) → drop i lines ≡ line ∷ rest → IsNext lines i line rest
next_of-drop [] zero line rest e = absurd cc
next_of-drop [] (suc i) line rest e = absurd cc
next_of-drop (l ∷ lines) zero line rest e =
    let l_is : l ≡ line = cc in
    record { within = omega arith; at = l_is; with_it = ap (λ x. x ∷ []) l_is; rest_is = cc }
next_of-drop (l ∷ lines) (suc i) line rest e =
    let h = next_of-drop lines i line rest e in
    record {
      within = omega (arith, h.within);
      at = h.at;
      with_it = ap (λ n. take n (l ∷ lines)) (add-one (suc i)) ∙ ap (λ ls. l ∷ ls) (ap (λ n. take n lines) (sym (add-one i)) ∙ h.with_it);
      rest_is = ap (λ n. drop n (l ∷ lines)) (add-one (suc i)) ∙ ap (λ n. drop n lines) (sym (add-one i)) ∙ h.rest_is;
    }

-- the lines from an offset of the text on, or none after its end
abbrev pub StartsAt : List ℕ → ℕ → List (List ℕ) → Type 0
StartsAt text start lines = ((start ≤ length text) × (lines ≡ lines_of (drop start text))) ⊎ ((start ≡ length text + 1) × (lines ≡ []))

-- line i begins at an offset
pub record IsStart (text : List ℕ) (i start : ℕ) : Type 0 where
  pub offset : start ≡ sum_by (λ line. length line + 1) (take i (lines_of text))
  pub rest : StartsAt text start (drop i (lines_of text))

-- the line that begins at an offset, and those after it
first_line : (text : List ℕ) (start end : ℕ) → start ≤ length text → end ≤ length text → end ≡ start + position_or_len (λ b. b == 10) (drop start text)
    → (rest : List (List ℕ)) × (lines_of (drop start text) ≡ part text start end ∷ rest) × StartsAt text (end + 1) rest × (length (part text start end) ≡ end - start)
first_line text start end within end_within end_is = elim (cases_lt (position_or_len (λ b. b == 10) tail) (length tail)) [ inl lt ↦ by (inl lt) | inr ge ↦ by (inr (omega (arith, ge, length-drop start text))) ]
  where
    tail : List ℕ
    tail = drop start text

    by : (position_or_len (λ b. b == 10) tail < length tail) ⊎ (position_or_len (λ b. b == 10) tail ≡ length tail)
        → (rest : List (List ℕ)) × (lines_of tail ≡ part text start end ∷ rest) × StartsAt text (end + 1) rest × (length (part text start end) ≡ end - start)
    by (inl before) =
        let len : end - start ≡ position_or_len (λ b. b == 10) tail = omega arith in
        let after : after_first (λ b. b == 10) tail ≡ drop (end + 1) text = drop-drop _ start text ∙ ap (λ n. drop n text) (omega arith) in (
          lines_of (drop (end + 1) text),
          slice_split_first (λ b. b == 10) tail 0 before ∙ ap (λ rest. before_first (λ b. b == 10) tail ∷ lines_of rest) after ∙ ap (λ n. take n tail ∷ lines_of (drop (end + 1) text)) (sym len),
          inl (omega (arith, length-drop start text), refl),
          omega (arith, length-take (end - start) tail),
        )
    by (inr none) =
        let len : end - start ≡ length tail = omega arith in (
          [],
          slice_split_none (λ b. b == 10) tail (λ k d l. fails_before_first (λ b. b == 10) tail k d (omega arith)) ∙ ap (λ l. l ∷ []) (sym (ap (λ n. take n tail) len ∙ take_all (length tail) tail (omega arith))),
          inr (omega (arith, length-drop start text), refl),
          omega (arith, length-take (end - start) tail),
        )

pub start_next : (text : List ℕ) (i start end : ℕ) → IsStart text i start → start ≤ length text → end ≤ length text → end ≡ start + position_or_len (λ b. b == 10) (drop start text)
    → IsNext (lines_of text) i (part text start end) (drop (i + 1) (lines_of text)) × IsStart text (i + 1) (end + 1) × (length (part text start end) ≡ end - start)
start_next text i start end h within end_within end_is = elim h.rest [
  | inr past ↦ absurd (let at_end = past.0 in omega arith)
  | inl here ↦
      let first = first_line text start end within end_within end_is in
      let next = next_of-drop (lines_of text) i (part text start end) first.0 (here.1 ∙ first.1) in (
        record { within = next.within; at = next.at; with_it = next.with_it; rest_is = refl },
        record {
          offset = omega (arith, h.offset, first.3, ap (sum_by (λ (line : List ℕ). length line + 1)) next.with_it, sum_by-append (λ (line : List ℕ). length line + 1) (take i (lines_of text)) (part text start end ∷ []));
          rest = subst (StartsAt text (end + 1)) (sym next.rest_is) first.2;
        },
        first.3,
      )
]
