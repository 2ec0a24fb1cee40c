-- A line that is taken is the next one of the text.
use Rattle.std.proofs.Common.{◌≡◌, ◌+◌, ◌==◌, ◌<◌, ◌≤◌, ℕ, List, [], ◌∷◌, ◌++◌, length, take, drop, Option, arith, length-take}
use Rattle.std.specs.List.{position_or_len}
use Rattle.shb_lines.specs.declared.fault.Fault.{Fault}
use Rattle.shb_lines.specs.declared.limits.Limits.{Limits}
use Rattle.shb_lines.specs.text.Faults.{HasFault, HasLineFault, number_of}
use Rattle.shb_lines.specs.text.Numbers.{events_of}
use Rattle.shb_lines.specs.text.Stored.{part}
use Rattle.shb_lines.specs.text.Text.{lines_of}
use Rattle.shb_lines.proofs.text.FirstFault.{lowest_at}
use Rattle.shb_lines.proofs.text.Scanning.{IsStart, start_next}
use Rattle.shb_lines.specs.Lowest.{IsLowest}

-- line i stands from start to end, and the next one begins after it
pub record IsTaken (limits : Limits) (text : List ℕ) (i start end : ℕ) : Type 0 where
  pub order : start ≤ end
  pub within : i < length (lines_of text)
  pub number : i + 1 ≡ 1 + length (take i (lines_of text))
  pub with_it : take (i + 1) (lines_of text) ≡ take i (lines_of text) ++ part text start end ∷ []
  pub next : IsStart text (i + 1) (end + 1)
  pub lowest : (found : Option Fault) → IsLowest number_of (HasLineFault limits ((limits.text ≤ end) × (limits.text < length text)) (events_of (take i (lines_of text))) (part text start end)) found → IsLowest number_of (HasFault limits text i) found

pub taken : (limits : Limits) (text : List ℕ) (i start end : ℕ) → IsStart text i start → start ≤ length text → end ≤ length text → end ≡ start + position_or_len (λ b. b == 10) (drop start text)
    → (limits.text < length text → start ≤ limits.text) → IsTaken limits text i start end
taken limits text i start end begins within end_within end_is inside =
    let next = start_next text i start end begins within end_within end_is in
    let order : start ≤ end = omega arith in
    record {
      order = order;
      within = next.0.within;
      number = omega (arith, length-take i (lines_of text), next.0.within);
      with_it = next.0.with_it;
      next = next.1;
      lowest = λ found. lowest_at limits text i start end _ found begins next.0 order next.2 inside;
    }
