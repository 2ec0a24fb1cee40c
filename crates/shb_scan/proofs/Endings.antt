-- What the reading of a source answers, by its last step.
use Rattle.std.proofs.Common.{◌≡◌, ◌-◌, ◌^◌, ◌<◌, ℕ, Bool, true, false, List, [], ◌++◌, Option, Result, Ok, Err, sym, subst, arith}
use Rattle.std.specs.Result.{IsErrAnd}
use Rattle.shb_scan.proofs.Words.{CountsFailure, FoundScan, HasEnded, HasReadScan, HasScanned, IsFoundIn, IsStepped, Moves, Scan, ScanError}
use Rattle.shb_io.specs.declared.no_memory.NoMemory.{NoMemory}
use Rattle.shb_lines.proofs.text.LinesRead.{moves_more, moves_none}
use Rattle.shb_scan.specs.declared.errors.ScanError.TheVariants as errors
use Rattle.shb_scan.specs.Errors.{source_failed}

-- a source that gave some bytes, whose lines were taken and whose events were noted
abbrev pub Passed : Option (List ℕ) → Option (List ℕ) → ℕ → ℕ → Scan → Type 0
Passed l0 l1 g0 g1 scan = (read : List ℕ) × (lines : List (List ℕ)) × Moves l0 l1 g0 g1 read × HasScanned read lines l1 scan

-- what a step answers, whatever was read before it
abbrev pub Steps : Option (List ℕ) → Option (List ℕ) → ℕ → ℕ → Scan → Scan → Result Bool ScanError → Type 0
Steps l1 l2 g1 g2 scan new answer = (read : List ℕ) (lines : List (List ℕ)) → HasScanned read lines l1 scan → (more : List ℕ) × Moves l1 l2 g1 g2 more × IsStepped (read ++ more) l2 scan.reader.numbering.events new answer

pub passed_none : (left : Option (List ℕ)) (g : ℕ) (scan : Scan) → HasScanned [] [] left scan → Passed left left g g scan
passed_none left g scan h = ([], [], moves_none left g, h)

module _ (l0 l1 l2 : Option (List ℕ)) (g0 g1 g2 : ℕ) (scan new : Scan) (passed : Passed l0 l1 g0 g1 scan) where
  -- all that was read after the step
  after : (answer : Result Bool ScanError) → Steps l1 l2 g1 g2 scan new answer → (read : List ℕ) × Moves l0 l2 g0 g2 read × IsStepped read l2 scan.reader.numbering.events new answer
  after answer step =
      let next = step passed.0 passed.1 passed.3 in
      (passed.0 ++ next.0, moves_more l0 l1 l2 g0 g1 g2 passed.0 next.0 passed.2 next.1, next.2)

  pub passed_more : (is : Bool) → is ≡ true → Steps l1 l2 g1 g2 scan new (Ok is) → Passed l0 l2 g0 g2 new
  passed_more is going step =
      let next = after (Ok is) step in
      let stepped = subst (λ (b : Bool). IsStepped next.0 l2 scan.reader.numbering.events new (Ok b)) going next.2 in
      (next.0, stepped.0, next.1, stepped.1)

  pub smaller : (is : Bool) → is ≡ true → Steps l1 l2 g1 g2 scan new (Ok is) → 2 ^ 32 - new.reader.numbering.events < 2 ^ 32 - scan.reader.numbering.events
  smaller is going step =
      let next = after (Ok is) step in
      let stepped = subst (λ (b : Bool). IsStepped next.0 l2 scan.reader.numbering.events new (Ok b)) going next.2 in
      omega (arith, stepped.2, stepped.1.within.few)

  pub ended_found : (f0 f1 f2 : ℕ) (is : Bool) (found : FoundScan) → is ≡ false → Steps l1 l2 g1 g2 scan new (Ok is) → f1 ≡ f0 → f2 ≡ f1 → ((text : List ℕ) (left : Option (List ℕ)) → HasEnded text left new → IsFoundIn text found)
      → HasReadScan l0 l2 g0 g2 f0 f2 (Ok found)
  ended_found f0 f1 f2 is found none step same_before same into =
      let next = after (Ok is) step in
      let ended = subst (λ (b : Bool). IsStepped next.0 l2 scan.reader.numbering.events new (Ok b)) none next.2 in
      record {
        found = record { text = next.0; moves = next.1; ended = ended.ended; holds = into next.0 l2 ended };
        refused = tt;
        many = tt;
        read = tt;
        moved = (next.0, next.1);
        counted = omega (arith, same_before, same);
      }

  pub ended_refused : (f0 f1 f2 : ℕ) (is : Bool) (refused : NoMemory) (answer : Result FoundScan ScanError) → IsErrAnd answer (λ e. e ≡ errors.Memory refused) → Steps l1 l2 g1 g2 scan new (Ok is) → f1 ≡ f0 → f2 ≡ f1 → HasReadScan l0 l2 g0 g2 f0 f2 answer
  ended_refused f0 f1 f2 is refused (Ok found) none step same_before same = absurd none
  ended_refused f0 f1 f2 is refused (Err error) answer_is step same_before same =
      let next = after (Ok is) step in
      subst (λ (e : ScanError). HasReadScan l0 l2 g0 g2 f0 f2 (Err e)) (sym answer_is) (record { found = tt; refused = tt; many = tt; read = tt; moved = (next.0, next.1); counted = omega (arith, same_before, same) })

  pub ended_error : (f0 f1 f2 : ℕ) (error : ScanError) (answer : Result FoundScan ScanError) → IsErrAnd answer (λ e. e ≡ error) → Steps l1 l2 g1 g2 scan new (Err error) → f1 ≡ f0 → CountsFailure {T = Bool} {E = ScanError} source_failed f1 f2 (Err error) → HasReadScan l0 l2 g0 g2 f0 f2 answer
  ended_error f0 f1 f2 error (Ok found) none step same counted = absurd none
  ended_error f0 f1 f2 error (Err answer) answer_is step same counted =
      let next = after (Err error) step in
      subst (λ (e : ScanError). HasReadScan l0 l2 g0 g2 f0 f2 (Err e)) (sym answer_is) (by error next.0 next.1 next.2 (subst (λ (f : ℕ). CountsFailure {T = Bool} {E = ScanError} source_failed f f2 (Err error)) same counted))
    where
      by : (error : ScanError) (read : List ℕ) → Moves l0 l2 g0 g2 read → IsStepped read l2 scan.reader.numbering.events new (Err error) → CountsFailure {T = Bool} {E = ScanError} source_failed f0 f2 (Err error) → HasReadScan l0 l2 g0 g2 f0 f2 (Err error)
      by (errors.Trace line fault) read moves holds counted = record { found = tt; refused = record { read = read; moves = moves; holds = holds }; many = tt; read = tt; moved = (read, moves); counted = counted }
      by errors.TooManyLines read moves holds counted = record { found = tt; refused = tt; many = record { read = read; moves = moves; holds = holds }; read = tt; moved = (read, moves); counted = counted }
      by errors.Source read moves holds counted = record { found = tt; refused = tt; many = tt; read = tt; moved = (read, moves); counted = counted }
      by errors.Sink read moves holds counted = absurd holds
      by (errors.Memory refused) read moves holds counted = record { found = tt; refused = tt; many = tt; read = tt; moved = (read, moves); counted = counted }
