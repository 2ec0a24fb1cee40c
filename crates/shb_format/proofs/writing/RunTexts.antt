-- The numbers of consecutive events.
use Rattle.shb_format.proofs.Words.{HasNumbers, Run, common_steps, event_number, event_numbers, first_numbers, flat_map-append, get_or_push, get_or_read, length_push, positions_in, range_with_len, run_positions, slice_range}
use Rattle.std.proofs.Common.{◌≡◌, ℕ, ◌+◌, ◌-◌, ◌<◌, ◌≤◌, List, [], ◌∷◌, ◌++◌, length, get_or, take, drop, refl, sym, ap, ◌∙◌, arith, append_assoc, append-nil, length-append, take-append-drop}
use Rattle.std.proofs.lemmas.Bool.{cases_lt}
use Rattle.std.proofs.Math.ListN.{get_or-append}
use Rattle.std.proofs.Math.Seq.{drop-append_seam, take-append_seam}
use Rattle.shb_positions.proofs.RunLemmas.{range_split}
use Rattle.shb_format.proofs.writing.HeldLemmas.{texts-next}

numbers_split : (a m n b k : ℕ) → a + m ≡ b → m + n ≡ k → event_numbers (range_with_len a k) ≡ event_numbers (range_with_len a m) ++ event_numbers (range_with_len b n)
numbers_split a m n b k from more = ap event_numbers (range_split a m n b k from more) ∙ flat_map-append event_number (range_with_len a m) (range_with_len b n)

-- the number of one event more
pub numbers-next : (a k j : ℕ) → a + k ≡ j → event_numbers (range_with_len a k) ++ event_number j ≡ event_numbers (range_with_len a (k + 1))
numbers-next a k j from =
    ap (λ l. event_numbers (range_with_len a k) ++ l) (sym (append-nil (event_number j))) ∙ sym (numbers_split a k 1 j (k + 1) from refl)

-- the numbers of the first events, of the next one, and of those after it
pub numbers-split : (a k j n : ℕ) → a + k ≡ j → k < n → event_numbers (range_with_len a k) ++ (event_number j ++ event_numbers (range_with_len (j + 1) (n - (k + 1)))) ≡ event_numbers (range_with_len a n)
numbers-split a k j n from within =
    sym (append_assoc (event_numbers (range_with_len a k)) (event_number j) (event_numbers (range_with_len (j + 1) (n - (k + 1)))))
    ∙ ap (λ l. l ++ event_numbers (range_with_len (j + 1) (n - (k + 1)))) (numbers-next a k j from)
    ∙ sym (numbers_split a (k + 1) (n - (k + 1)) (j + 1) n (omega (arith, from)) (omega (arith, within)))

-- the numbers of the first runs, of the next one, and of those after it
module _ (runs : List Run) (k : ℕ) (d : Run) (within : k < length runs) where
  pub runs-next : event_numbers (positions_in (take k runs)) ++ event_numbers (run_positions (get_or runs k d)) ≡ event_numbers (positions_in (take (k + 1) runs))
  runs-next = sym (flat_map-append event_number (positions_in (take k runs)) (run_positions (get_or runs k d))) ∙ ap event_numbers (texts-next run_positions runs k d within)

  pub runs-split : event_numbers (positions_in (take k runs)) ++ (event_numbers (run_positions (get_or runs k d)) ++ event_numbers (positions_in (drop (k + 1) runs))) ≡ event_numbers (positions_in runs)
  runs-split =
      sym (append_assoc (event_numbers (positions_in (take k runs))) (event_numbers (run_positions (get_or runs k d))) (event_numbers (positions_in (drop (k + 1) runs))))
      ∙ ap (λ l. l ++ event_numbers (positions_in (drop (k + 1) runs))) runs-next
      ∙ sym (flat_map-append event_number (positions_in (take (k + 1) runs)) (positions_in (drop (k + 1) runs)))
      ∙ ap event_numbers (sym (flat_map-append run_positions (take (k + 1) runs) (drop (k + 1) runs)) ∙ ap positions_in (take-append-drop (k + 1) runs))

-- the text of one number more
pub numbers-more : (count : ℕ) (text starts : List ℕ) → HasNumbers count text starts → HasNumbers (count + 1) (text ++ event_number count) (starts ++ length (text ++ event_number count) ∷ [])
numbers-more count text starts has = grind (arith, common_steps, length_push, cases_lt, numbers-next, get_or-append, get_or_push)

middle : (xs ys zs : List ℕ) (from to : ℕ) → from ≡ length xs → to ≡ length xs + length ys → slice_range (xs ++ (ys ++ zs)) from to ≡ ys
middle xs ys zs from to begins ends = grind (arith, common_steps, drop-append_seam, take-append_seam)

-- where the numbers of a run stand in the text
module _ (count : ℕ) (text starts : List ℕ) (first len from to : ℕ) (has : HasNumbers count text starts) (within : first + len ≤ count) (is_from : from ≡ get_or starts first from) (is_to : to ≡ get_or starts (first + len) to) where
  whole : text ≡ first_numbers first ++ (event_numbers (range_with_len first len) ++ event_numbers (range_with_len (first + len) (count - (first + len))))
  whole =
      has.text_is ∙ numbers_split 0 first (count - first) first count (omega arith) (omega (arith, within))
      ∙ ap (λ l. first_numbers first ++ l) (numbers_split first len (count - (first + len)) (first + len) (count - first) refl (omega (arith, within)))

  begins : from ≡ length (first_numbers first)
  begins = get_or_read starts first from (omega (arith, within, has.as_many)) is_from 0 ∙ has.each first (omega (arith, within))

  ends : to ≡ length (first_numbers first) + length (event_numbers (range_with_len first len))
  ends =
      get_or_read starts (first + len) to (omega (arith, within, has.as_many)) is_to 0 ∙ has.each (first + len) within
      ∙ ap length (numbers_split 0 first len first (first + len) (omega arith) refl) ∙ length-append (first_numbers first) (event_numbers (range_with_len first len))

  pub numbers-part : slice_range text from to ≡ event_numbers (range_with_len first len)
  numbers-part =
      ap (λ l. slice_range l from to) whole
      ∙ middle (first_numbers first) (event_numbers (range_with_len first len)) (event_numbers (range_with_len (first + len) (count - (first + len)))) from to begins ends

  pub part-rises : from ≤ to
  part-rises = omega (arith, begins, ends)

  pub part-within : to ≤ length text
  part-within =
      omega (
        arith,
        ends,
        ap length whole,
        length-append (first_numbers first) (event_numbers (range_with_len first len) ++ event_numbers (range_with_len (first + len) (count - (first + len)))),
        length-append (event_numbers (range_with_len first len)) (event_numbers (range_with_len (first + len) (count - (first + len)))),
      )

-- the text and the starts with one number more
pub numbers-pushed : (count place : ℕ) (text starts new_text new_starts : List ℕ) → HasNumbers count text starts → new_text ≡ text ++ event_number count → new_starts ≡ starts ++ place ∷ [] → place ≡ length new_text → HasNumbers (count + 1) new_text new_starts
numbers-pushed count place text starts new_text new_starts has more pushed there = grind (arith, common_steps, numbers-more)
