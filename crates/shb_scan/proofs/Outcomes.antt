-- From what the parts of a scan answer to its outcome, exit by exit.
use Rattle.std.proofs.Common.{◌≡◌, ◌+◌, ℕ, Bool, List, [], ◌++◌, map, None, Some, Option, Result, Ok, Err, IfSome, IsErrAnd, refl, sym, ap, subst, ◌∙◌, append-nil}
use Rattle.shb_scan.proofs.Words.{Appends, Appends-nil, AppendsPrefix, Fault, FoundScan, HasNoFault, HasReadScan, HasScan, IsFirstFault, IsFoundIn, IsScan, IsScanOutcome, ScanError, ends_of, listing_bytes, scan_limits}
use Rattle.shb_scan.specs.declared.errors.ScanError.TheVariants.{Trace, TooManyLines, Source, Sink, Memory}
use Rattle.shb_scan.specs.Outcomes.{ReadsAll}
use Rattle.shb_scan.proofs.RaceBlocks.{reported}

-- a source that tells its bytes and was read to its end gave all of them
told : (l0 l1 : Option (List ℕ)) (g0 g1 : ℕ) (P : List ℕ → Type 0) → ReadsAll l0 l1 g0 g1 P → IfSome l0 P
told None l1 g0 g1 P h = tt
told (Some x) None g0 g1 P h = absurd h.moves.taken
told (Some x) (Some y) g0 g1 P h = subst P (sym (h.moves.taken ∙ ap (λ r. h.text ++ r) h.ended ∙ append-nil h.text)) h.holds

-- where a text has a fault the sink is as it was: it has none, or the sink is as it was anyway
none_found : (l0 : Option (List ℕ)) (Q : Type 0) → IfSome l0 (λ text. HasNoFault (scan_limits text) text) → IfSome l0 (λ text. (line : ℕ) (fault : Fault) → IsFirstFault (scan_limits text) text line fault → Q)
none_found None Q h = tt
none_found (Some text) Q none = λ line fault first. absurd (none first.before fault first.within first.lowest.0)

anyway : (l0 : Option (List ℕ)) (Q : Type 0) → Q → IfSome l0 (λ text. (line : ℕ) (fault : Fault) → IsFirstFault (scan_limits text) text line fault → Q)
anyway None Q q = tt
anyway (Some text) Q q = λ line fault first. q

module _ {A B : Type 0} (remaining : A → Option (List ℕ)) (given failed_reads : A → ℕ) (source left : A) (taken : B → Option (List ℕ)) (failed_writes : B → ℕ) (sink : B) where
  abbrev Reads : Result FoundScan ScanError → Type 0
  Reads answer = HasReadScan (remaining source) (remaining left) (given source) (given left) (failed_reads source) (failed_reads left) answer

  abbrev Outcome : Bool → (T : Type 0) → B → Result T ScanError → Type 0
  Outcome by_variable T written answer = IsScanOutcome remaining given failed_reads source left taken failed_writes sink written by_variable answer

  -- nothing was found, so nothing was written
  pub of_error : (by_variable : Bool) (T : Type 0) (error : ScanError) (answer : Result T ScanError) → IsErrAnd answer (λ e. e ≡ error) → Reads (Err error) → Outcome by_variable T sink answer
  of_error by_variable T error (Ok x) is read = absurd is
  of_error by_variable T error (Err e) is read = subst (λ (e : ScanError). Outcome by_variable T sink (Err e)) (sym is) (by error read)
    where
      by : (error : ScanError) → Reads (Err error) → Outcome by_variable T sink (Err error)
      by (Trace line fault) read = record {
        read = tt;
        refused = read.refused;
        many = tt;
        unwritten = refl;
        silent = anyway (remaining source) (sink ≡ sink) refl;
        cut = tt;
        grown = ([], Appends-nil (taken sink));
        lost = read.moved;
        source_counted = read.counted;
        sink_counted = refl;
      }
      by TooManyLines read = record {
        read = tt;
        refused = tt;
        many = read.many;
        unwritten = refl;
        silent = anyway (remaining source) (sink ≡ sink) refl;
        cut = tt;
        grown = ([], Appends-nil (taken sink));
        lost = read.moved;
        source_counted = read.counted;
        sink_counted = refl;
      }
      by Source read = record {
        read = tt;
        refused = tt;
        many = tt;
        unwritten = refl;
        silent = anyway (remaining source) (sink ≡ sink) refl;
        cut = tt;
        grown = ([], Appends-nil (taken sink));
        lost = read.moved;
        source_counted = read.counted;
        sink_counted = refl;
      }
      by Sink read = absurd read.read
      by (Memory refused) read = record {
        read = tt;
        refused = tt;
        many = tt;
        unwritten = refl;
        silent = anyway (remaining source) (sink ≡ sink) refl;
        cut = tt;
        grown = ([], Appends-nil (taken sink));
        lost = read.moved;
        source_counted = read.counted;
        sink_counted = refl;
      }

  module _ (by_variable : Bool) (found : FoundScan) (form : found.by_variable ≡ by_variable) (read : Reads (Ok found)) (written : B) where
    abbrev races : List (ℕ × ℕ)
    races = map ends_of found.races.items

    -- the scan of the text that was read, by what was written of it
    scanned : (P : List ℕ → Type 0) → ((text : List ℕ) (h : IsFoundIn text found) → P (listing_bytes h.trace races)) → ReadsAll (remaining source) (remaining left) (given source) (given left) (λ text. HasScan found.by_variable text P)
    scanned P holds =
        let all = read.found in
        let h = all.holds in
        record {
          text = all.text;
          moves = all.moves;
          ended = all.ended;
          holds = record { faultless = h.faultless; trace = h.trace; trace_is = h.trace_is; disciplined = h.disciplined; bytes = listing_bytes h.trace races; scan = reported (IsScan found.by_variable) h.trace races h.nearest; holds = holds all.text h };
        }

    faultless : IfSome (remaining source) (λ text. HasNoFault (scan_limits text) text)
    faultless = told (remaining source) (remaining left) (given source) (given left) (λ text. HasNoFault (scan_limits text) text)
        (let all = read.found in record { text = all.text; moves = all.moves; ended = all.ended; holds = all.holds.faultless })

    -- all of the scan was written
    pub of_scan : (T : Type 0) (x : T) → ((text : List ℕ) (h : IsFoundIn text found) → Appends (taken sink) (taken written) (listing_bytes h.trace races)) → failed_writes written ≡ failed_writes sink
        → Outcome by_variable T written (Ok x)
    of_scan T x appended no_failure = subst (λ b. Outcome b T written (Ok x)) form (record {
      read = scanned (Appends (taken sink) (taken written)) appended;
      refused = tt;
      many = tt;
      unwritten = tt;
      silent = none_found (remaining source) (written ≡ sink) faultless;
      cut = tt;
      grown = (listing_bytes read.found.holds.trace races, appended read.found.text read.found.holds);
      lost = read.moved;
      source_counted = read.counted;
      sink_counted = no_failure;
    })

    -- the sink failed
    pub of_failed_sink : (T : Type 0) → ((text : List ℕ) (h : IsFoundIn text found) → AppendsPrefix (taken sink) (taken written) (listing_bytes h.trace races)) → failed_writes written ≡ failed_writes sink + 1
        → Outcome by_variable T written (Err Sink)
    of_failed_sink T cut failure =
        let part = cut read.found.text read.found.holds in
        subst (λ b. Outcome b T written (Err Sink)) form (record {
          read = tt;
          refused = tt;
          many = tt;
          unwritten = tt;
          silent = none_found (remaining source) (written ≡ sink) faultless;
          cut = scanned (AppendsPrefix (taken sink) (taken written)) cut;
          grown = (_, part.2);
          lost = read.moved;
          source_counted = read.counted;
          sink_counted = failure;
        })
