-- Runs that grow by one position.
use Rattle.std.proofs.lemmas.Grind.{common_steps}
use Rattle.std.proofs.Common.{◌≡◌, ◌≢◌, ℕ, zero, suc, ◌+◌, ◌<◌, List, [], ◌∷◌, ◌++◌, length, sym, ap, ◌∙◌, arith, append_assoc, append-nil, get_or, set, All, ◌^◌, take, drop}
use Rattle.std.specs.List.{range_with_len}
use Rattle.std.proofs.lemmas.List.Elements.{All-cons, All-nil}
use Rattle.std.proofs.Math.Seq.{take-length}
use Rattle.std.proofs.lemmas.List.{take-append-le}
use Rattle.std.proofs.lemmas.List.FromFn.{length-range_with_len}
use Rattle.shb_positions.specs.declared.positions.Run.{Run}
use Rattle.shb_positions.specs.Runs.{AreApart, EndsInRange, LeavesGap, positions_in, run_positions}

last : (a n j : ℕ) → a + n ≡ j → range_with_len a (suc n) ≡ range_with_len a n ++ j ∷ []
last a zero j e = let same : a ≡ j = omega arith in ap (λ k. k ∷ []) same
last a (suc n) j e = ap (λ l. a ∷ l) (last (a + 1) n j (omega arith))

-- one number more
pub range_more : (a n m j : ℕ) → a + n ≡ j → m ≡ n + 1 → range_with_len a m ≡ range_with_len a n ++ j ∷ []
range_more a n m j e more = let on : m ≡ suc n = omega arith in ap (range_with_len a) on ∙ last a n j e

-- the numbers up to an index, and those from there on
pub range_split : (a m n b k : ℕ) → a + m ≡ b → m + n ≡ k → range_with_len a k ≡ range_with_len a m ++ range_with_len b n
range_split a zero n b k e more = let on : n ≡ k = omega arith in let from : a ≡ b = omega arith in cc
range_split a (suc m) n b zero e more = absurd (omega arith)
range_split a (suc m) n b (suc k) e more = ap (λ l. a ∷ l) (range_split (a + 1) m n b k (omega arith) (omega arith))

-- the last run grows by the position that follows on it
pub longer_last : (runs : List Run) (n position : ℕ) (old new : Run) → length runs ≡ n + 1 → old ≡ get_or runs n old → old.first + old.len ≡ position → new.first ≡ old.first → new.len ≡ old.len + 1
    → positions_in (set runs n new) ≡ positions_in runs ++ position ∷ []
longer_last [] n position old new long is follows from more = absurd (omega (arith, long))
longer_last (run ∷ []) zero position old new long is follows from more =
    append-nil (run_positions new)
    ∙ ap (λ first. range_with_len first new.len) from
    ∙ range_more old.first old.len new.len position follows more
    ∙ ap (λ (r : Run). run_positions r ++ position ∷ []) is
    ∙ ap (λ l. l ++ position ∷ []) (sym (append-nil (run_positions run)))
longer_last (run ∷ []) (suc n) position old new long is follows from more = absurd (omega (arith, long))
longer_last (run ∷ next ∷ runs) zero position old new long is follows from more = absurd (omega (arith, long))
longer_last (run ∷ next ∷ runs) (suc n) position old new long is follows from more =
    ap (λ l. run_positions run ++ l) (longer_last (next ∷ runs) n position old new (omega (arith, long)) is follows from more)
    ∙ sym (append_assoc (run_positions run) (positions_in (next ∷ runs)) (position ∷ []))

-- one run from the first position on
pub one_run : (count n : ℕ) (runs : List Run) → runs ≡ record { first = 0; len = count } ∷ [] → n ≡ count → count < 2 ^ 32 → (n ≡ length (positions_in runs)) × All EndsInRange runs × AreApart runs
one_run count n runs is same small = grind (arith, common_steps, length-range_with_len, append-nil, All, All-cons, All-nil)

-- the last run grows: where runs begin is as before
pub longer_apart : (runs : List Run) (n : ℕ) (old new : Run) → length runs ≡ n + 1 → old ≡ get_or runs n old → new.first ≡ old.first → AreApart runs → AreApart (set runs n new)
longer_apart [] n old new long is from apart = absurd (omega (arith, long))
longer_apart (run ∷ []) zero old new long is from apart = tt
longer_apart (run ∷ []) (suc n) old new long is from apart = absurd (omega (arith, long))
longer_apart (run ∷ next ∷ runs) zero old new long is from apart = absurd (omega (arith, long))
longer_apart (run ∷ next ∷ []) (suc zero) old new long is from apart = (λ ends. apart.0 (ends ∙ from ∙ ap (λ (r : Run). r.first) is), tt)
longer_apart (run ∷ next ∷ []) (suc (suc n)) old new long is from apart = absurd (omega (arith, long))
longer_apart (run ∷ next ∷ more ∷ runs) (suc zero) old new long is from apart = absurd (omega (arith, long))
longer_apart (run ∷ next ∷ more ∷ runs) (suc (suc n)) old new long is from apart = (apart.0, longer_apart (next ∷ more ∷ runs) (suc n) old new (omega (arith, long)) is from apart.1)

-- a run more, after a gap
pub more_apart : (runs : List Run) (new : Run) → AreApart runs → LeavesGap runs new.first → AreApart (runs ++ new ∷ [])
more_apart [] new apart gap = tt
more_apart (run ∷ []) new apart gap = (gap, tt)
more_apart (run ∷ next ∷ runs) new apart gap = (apart.0, more_apart (next ∷ runs) new apart.1 gap)

-- the gap after the last run
pub last_leaves_gap : (runs : List Run) (n position : ℕ) (last : Run) → length runs ≡ n + 1 → last ≡ get_or runs n last → last.first + last.len ≢ position → LeavesGap runs position
last_leaves_gap [] n position last long is gap = tt
last_leaves_gap (run ∷ []) zero position last long is gap = λ ends. gap (ap (λ (r : Run). r.first + r.len) is ∙ ends)
last_leaves_gap (run ∷ []) (suc n) position last long is gap = absurd (omega (arith, long))
last_leaves_gap (run ∷ next ∷ runs) zero position last long is gap = absurd (omega (arith, long))
last_leaves_gap (run ∷ next ∷ runs) (suc n) position last long is gap = last_leaves_gap (next ∷ runs) n position last (omega (arith, long)) is gap

-- runs that were lent and came back as they were
pub all_kept : (runs back : List Run) (n : ℕ) → back ≡ runs → n ≡ length runs → take n (back ++ drop (length back) runs) ≡ runs
all_kept runs back n same long = rw (same, long) (take-append-le (length runs) runs (drop (length runs) runs) (omega arith) ∙ take-length runs)
