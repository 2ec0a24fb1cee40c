-- The lines of the events of a text rise, and the events of the first lines are the first events.
use Rattle.std.proofs.lemmas.Grind.{common_steps}
use Rattle.std.proofs.Common.{◌≡◌, ◌+◌, ◌<◌, ◌≤◌, ℕ, zero, suc, List, [], ◌∷◌, ◌++◌, length, take, drop, Option, Some, None, slice_get, refl, sym, ap, ◌∙◌, arith, add-zero}
use Rattle.std.specs.List.{cons_option, enumerate_from, filter_map}
use Rattle.std.specs.Str.Lines.{strip_carriage_return}
use Rattle.std.proofs.lemmas.List.{take-append-drop}
use Rattle.std.proofs.lemmas.List.Elements.{filter_map-append}
use Rattle.shb_lines.specs.text.Grammar.{Meaning}
use Rattle.shb_lines.specs.text.Meaning.{meaning}
use Rattle.shb_lines.specs.text.Text.{LocatedEvent, event_on, located, trace_of}

enumerate_from-append : {X : Type 0} (n : ℕ) (xs ys : List X) → enumerate_from n (xs ++ ys) ≡ enumerate_from n xs ++ enumerate_from (n + length xs) ys
enumerate_from-append n [] ys = ap (λ k. enumerate_from k ys) (sym (add-zero n))
enumerate_from-append n (x ∷ xs) ys = ap (λ rest. (n, x) ∷ rest) (enumerate_from-append (n + 1) xs ys ∙ ap (λ k. enumerate_from (n + 1) xs ++ enumerate_from k ys) (omega arith))

-- the events of some lines, of which the first has this number
abbrev pub located_from : ℕ → List (List ℕ) → List LocatedEvent
located_from n lines = filter_map event_on (enumerate_from n lines)

located_from-append : (n : ℕ) (xs ys : List (List ℕ)) → located_from n (xs ++ ys) ≡ located_from n xs ++ located_from (n + length xs) ys
located_from-append n xs ys = ap (filter_map event_on) (enumerate_from-append n xs ys) ∙ filter_map-append event_on (enumerate_from n xs) (enumerate_from (n + length xs) ys)

pub trace_of-split : (n : ℕ) (lines : List (List ℕ)) → trace_of lines ≡ trace_of (take n lines) ++ located_from (1 + length (take n lines)) (drop n lines)
trace_of-split n lines = ap trace_of (sym (take-append-drop n lines)) ∙ located_from-append 1 (take n lines) (drop n lines)

line_of_event : (n : ℕ) (text : List ℕ) (m : Meaning) (x : LocatedEvent) → located n text m ≡ Some x → x.line ≡ n
line_of_event n text m x h = grind (arith, common_steps)

-- the line of an event is one of these
pub line_bounds : (n : ℕ) (lines : List (List ℕ)) (k : ℕ) (x : LocatedEvent) → slice_get (located_from n lines) k ≡ Some x → (n ≤ x.line) × (x.line < n + length lines)
line_bounds n [] k x at = absurd cc
line_bounds n (l ∷ lines) k x at = go (event_on (n, l)) refl k at (line_bounds (n + 1) lines)
  where
    go : (o : Option LocatedEvent) → event_on (n, l) ≡ o → (k : ℕ) → slice_get (cons_option o (located_from (n + 1) lines)) k ≡ Some x
        → ((j : ℕ) (y : LocatedEvent) → slice_get (located_from (n + 1) lines) j ≡ Some y → (n + 1 ≤ y.line) × (y.line < n + 1 + length lines))
        → (n ≤ x.line) × (x.line < n + length (l ∷ lines))
    go None is k at rest = let h = rest k x at in (omega (arith, h.0), omega (arith, h.1))
    go (Some y) is zero at rest =
        let same : y ≡ x = cc in
        let here : x.line ≡ n = line_of_event n (strip_carriage_return l) (meaning (strip_carriage_return l)) x (is ∙ ap (λ z. Some z) same) in
        (omega (arith, here), omega (arith, here))
    go (Some y) is (suc k) at rest = let h = rest k x at in (omega (arith, h.0), omega (arith, h.1))

-- a later event is on a later line
pub lines_rise : (n : ℕ) (lines : List (List ℕ)) (j k : ℕ) (x y : LocatedEvent) → slice_get (located_from n lines) j ≡ Some x → slice_get (located_from n lines) k ≡ Some y → j < k → x.line < y.line
lines_rise n [] j k x y at_j at_k lt = absurd cc
lines_rise n (l ∷ lines) j k x y at_j at_k lt = go (event_on (n, l)) refl j k at_j at_k lt (lines_rise (n + 1) lines)
  where
    go : (o : Option LocatedEvent) → event_on (n, l) ≡ o → (j k : ℕ) → slice_get (cons_option o (located_from (n + 1) lines)) j ≡ Some x → slice_get (cons_option o (located_from (n + 1) lines)) k ≡ Some y → j < k
        → ((j k : ℕ) (x y : LocatedEvent) → slice_get (located_from (n + 1) lines) j ≡ Some x → slice_get (located_from (n + 1) lines) k ≡ Some y → j < k → x.line < y.line)
        → x.line < y.line
    go None is j k at_j at_k lt rest = rest j k x y at_j at_k lt
    go (Some z) is j zero at_j at_k lt rest = absurd (omega arith)
    go (Some z) is zero (suc k) at_j at_k lt rest =
        let same : z ≡ x = cc in
        let here : x.line ≡ n = line_of_event n (strip_carriage_return l) (meaning (strip_carriage_return l)) x (is ∙ ap (λ w. Some w) same) in
        let later = line_bounds (n + 1) lines k y at_k in
        omega (arith, here, later.0)
    go (Some z) is (suc j) (suc k) at_j at_k lt rest = rest j k x y at_j at_k (omega arith)
