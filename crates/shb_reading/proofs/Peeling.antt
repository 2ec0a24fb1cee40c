-- A line that is read from its front, one label and number after another.
use Rattle.std.proofs.Common.{◌≡◌, ◌≢◌, ℕ, ◌<◌, ◌==◌, Bool, true, false, List, [], ◌∷◌, ◌++◌, length, codes, refl, sym, ap, ◌∙◌, arith, append-nil, Option, None, Some, MatchOption}
use Rattle.shb_reading.proofs.Words.{AreShown, Counts, IsLabelled, IsShown, Stops, counts_line, decimal, is_ascii_digit, nat_tests, place_line, race_numbers_line}
use Rattle.shb_reading.proofs.Fronts.{same_labelled}

-- what stands after a number that was read
pub peel : (label text : List ℕ) (n m : ℕ) (rest tail : List ℕ) → IsShown n → IsShown m → IsLabelled label text n rest → Stops is_ascii_digit tail → text ≡ label ++ (decimal m ++ tail) → (m ≡ n) × (tail ≡ rest)
peel label text n m rest tail p q h ends e = same_labelled label text m n tail rest q p (record { text_is = e; ends = ends }) h

pub peel_last : (label text : List ℕ) (n m : ℕ) (rest : List ℕ) → IsShown n → IsShown m → IsLabelled label text n rest → text ≡ label ++ decimal m → (m ≡ n) × ([] ≡ rest)
peel_last label text n m rest p q h e = peel label text n m rest [] p q h tt (e ∙ ap (λ d. label ++ d) (sym (append-nil (decimal m))))

pub last_is : (label text : List ℕ) (n : ℕ) (rest : List ℕ) → IsLabelled label text n rest → length rest ≡ 0 → text ≡ label ++ decimal n
last_is label text n [] h empty = h.text_is ∙ ap (λ d. label ++ d) (append-nil (decimal n))
last_is label text n (b ∷ rest) h empty = absurd (omega arith)

-- the same, of the parts of lines

pub counts_threads : (line : List ℕ) (events : ℕ) (rest : List ℕ) (counts : Counts) → IsShown events → IsLabelled (codes "events ") line events rest → AreShown counts → line ≡ counts_line counts
    → rest ≡ codes " threads " ++ (decimal counts.threads ++ (codes " locks " ++ (decimal counts.locks ++ (codes " variables " ++ decimal counts.variables))))
counts_threads line events rest counts p h shown e = sym (peel (codes "events ") line events counts.events rest _ p shown.events h refl e).1

pub counts_locks : (line : List ℕ) (threads : ℕ) (rest : List ℕ) (counts : Counts) → IsShown threads → IsLabelled (codes " threads ") line threads rest → AreShown counts
    → line ≡ codes " threads " ++ (decimal counts.threads ++ (codes " locks " ++ (decimal counts.locks ++ (codes " variables " ++ decimal counts.variables))))
    → rest ≡ codes " locks " ++ (decimal counts.locks ++ (codes " variables " ++ decimal counts.variables))
counts_locks line threads rest counts p h shown e = sym (peel (codes " threads ") line threads counts.threads rest _ p shown.threads h refl e).1

pub counts_variables : (line : List ℕ) (locks : ℕ) (rest : List ℕ) (counts : Counts) → IsShown locks → IsLabelled (codes " locks ") line locks rest → AreShown counts
    → line ≡ codes " locks " ++ (decimal counts.locks ++ (codes " variables " ++ decimal counts.variables)) → rest ≡ codes " variables " ++ decimal counts.variables
counts_variables line locks rest counts p h shown e = sym (peel (codes " locks ") line locks counts.locks rest _ p shown.locks h refl e).1

-- a number known beforehand
pub after_known : (label text : List ℕ) (n : ℕ) (rest tail : List ℕ) → IsShown n → IsLabelled label text n rest → Stops is_ascii_digit tail → text ≡ label ++ (decimal n ++ tail) → rest ≡ tail
after_known label text n rest tail p h ends e = sym (peel label text n n rest tail p p h ends e).1

pub place_by : (line : List ℕ) (number : ℕ) (rest : List ℕ) (found : Option ℕ) → IsShown number → IsLabelled (codes "place ") line number rest
    → MatchOption found ((n : ℕ) → IsShown n → rest ≢ codes ": " ++ decimal n) (λ n. IsShown n × (rest ≡ codes ": " ++ decimal n))
    → MatchOption found ((n : ℕ) → IsShown n → line ≢ place_line number n) (λ n. IsShown n × (line ≡ place_line number n))
place_by line number rest None p h f = λ n q e. f n q (after_known (codes "place ") line number rest (codes ": " ++ decimal n) p h refl e)
place_by line number rest (Some n) p h f = (f.0, h.text_is ∙ ap (λ r. codes "place " ++ (decimal number ++ r)) f.1)

pub race_first : (line : List ℕ) (number : ℕ) (rest : List ℕ) (i j : ℕ) → IsShown number → IsLabelled (codes "race ") line number rest → line ≡ race_numbers_line number i j
    → rest ≡ codes ": " ++ (decimal i ++ (codes " " ++ decimal j))
race_first line number rest i j p h e = after_known (codes "race ") line number rest _ p h refl e

pub is_none : (n : ℕ) (b : Bool) → b ≡ (n == 0) → b ≡ true → n ≡ 0
is_none n b e t = grind (arith, nat_tests)

pub is_some : (n : ℕ) (b : Bool) → b ≡ (n == 0) → b ≡ false → 0 < n
is_some n b e f = grind (arith, nat_tests)
