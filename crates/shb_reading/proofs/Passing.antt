-- The first bad line stays the same after a line that was taken.
use Rattle.std.proofs.Common.{◌≡◌, ◌+◌, ℕ, List, ◌∷◌, ◌++◌, sym, subst}
use Rattle.shb_reading.proofs.Words.{Form, HasForm, IsBadAt, IsBadFrom, Lacks, Passes, Position, TakesLine, bytes_from}
use Rattle.shb_reading.proofs.LineEnds.{takes_by}
use Rattle.shb_reading.proofs.Machine.{bad_later_form, bad_here}

-- a line that was taken, and what it adds to the forms that are expected
pub passes_by : (form : Form) (added forms : List Form) (text : List ℕ) (old new : Position) (line : List ℕ) → TakesLine text old new line → HasForm form line added → Passes text old new (form ∷ forms) (added ++ forms)
passes_by form added forms text old new line taken has n b =
    bad_later_form form forms old.lines (bytes_from text old) line added (bytes_from text new) n (takes_by form (bytes_from text old) line (bytes_from text new) added taken.begins has)
    (subst (λ k. IsBadFrom (added ++ forms) k (bytes_from text new) n) taken.counted b)

-- a line that is missing or bad
pub bad_at : (form : Form) (forms : List Form) (text : List ℕ) (old new : Position) → (new ≡ old) → Lacks form (bytes_from text old) → IsBadAt text old (form ∷ forms) (new.lines + 1)
bad_at form forms text old new same lacks = subst (λ (p : Position). IsBadAt text old (form ∷ forms) (p.lines + 1)) (sym same) (bad_here form forms old.lines (bytes_from text old) lacks)
