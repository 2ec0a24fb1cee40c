-- From what the parts of a run answer to its outcome, exit by exit.
use Rattle.std.proofs.Common.{◌≡◌, ◌⊎◌, ◌+◌, ◌≤◌, ℕ, inl, Bool, List, Option, Result, Ok, Err, IsErrAnd, refl, sym, subst}
use Rattle.shb_io.specs.declared.no_memory.NoMemory.{NoMemory}
use Rattle.shb_run.proofs.Words.{AreShown, Choice, CutsBlocksOn, CutsReportOn, Event, Grows-same, IsAccepted, IsDisciplined, IsFirstFault, IsOutcome, IsReadingOf, IsRefusalOf, IsShown, LineFault, ListedBy, ReportsTrace, Summary, TraceData, counts_of, most_read, none_found, of_any_fault, standard_limits}
use Rattle.shb_lines.specs.text.Taking.{ReadsText, TakesAtMost}
use Rattle.shb_lines.proofs.text.TakingLemmas.{reads_left, reads_then, reads_told}
use Rattle.shb_check.specs.declared.errors.RunError.{RunError}
use Rattle.shb_check.specs.declared.errors.RunError.TheVariants.{Trace, Source, Sink, Memory}
use Rattle.shb_run.proofs.Endings.{grown_of_refused, has_trace, or_then, reported_of}

module _ {A B : Type 0} (choice : Choice) (ws : Bool) (remaining : A → Option (List ℕ)) (given failed_reads : A → ℕ) (source left : A) (taken : B → Option (List ℕ)) (failed_writes : B → ℕ) (sink : B)
    (lost : TakesAtMost most_read (remaining source) (remaining left)) (gave : given left ≤ given source + most_read) where
  module _ (read : TraceData) (stop : Option LineFault)
      (known : ReadsText most_read (remaining source) (remaining left) (given source) (given left) (λ text. IsReadingOf standard_limits text read stop))
      (no_failure : failed_reads left ≡ failed_reads source) where
    -- the trace was refused, or there was no memory to judge it
    pub of_refused : (error : RunError) (r : Result Summary RunError) → IsErrAnd r (λ e. e ≡ error) → IsRefusalOf read stop error
        → IsOutcome choice ws remaining given failed_reads source left taken failed_writes sink sink r
    of_refused error (Ok x) is refusal = absurd is
    of_refused error (Err e) is refusal =
        subst (λ (e : RunError). IsOutcome choice ws remaining given failed_reads source left taken failed_writes sink sink (Err e)) (sym is) (by error refusal)
      where
        by : (error : RunError) → IsRefusalOf read stop error → IsOutcome choice ws remaining given failed_reads source left taken failed_writes sink sink (Err error)
        by (Trace line fault) refusal = record {
          read = tt;
          refused = reads_then most_read (remaining source) (remaining left) _ _ (λ text. IsReadingOf standard_limits text read stop) (λ text. IsFirstFault standard_limits text line fault) known refusal;
          unwritten = refl;
          silent = of_any_fault (remaining source) (sink ≡ sink) refl;
          cut = tt;
          memory = tt;
          grown = Grows-same (taken sink);
          lost = lost;
          gave = gave;
          judged = reads_left most_read (remaining source) (remaining left) _ _ _ known;
          source_counted = no_failure;
          sink_counted = refl;
        }
        by Source refusal = absurd refusal
        by Sink refusal = absurd refusal
        by (Memory _) refusal = record {
          read = tt;
          refused = tt;
          unwritten = tt;
          silent = of_any_fault (remaining source) (sink ≡ sink) refl;
          cut = tt;
          memory = inl refl;
          grown = Grows-same (taken sink);
          lost = lost;
          gave = gave;
          judged = tt;
          source_counted = no_failure;
          sink_counted = refl;
        }

    module _ (trace : TraceData) (accepted : IsAccepted read stop trace) (written : B) where
      -- the report was written
      pub of_report : (events : List Event) (summary : Summary) → IsDisciplined events → events ≡ trace.events → ReportsTrace (ListedBy choice) ws trace summary (taken sink) (taken written) → AreShown (counts_of trace) × IsShown summary.races
          → failed_writes written ≡ failed_writes sink
          → IsOutcome choice ws remaining given failed_reads source left taken failed_writes sink written (Ok summary)
      of_report events summary disciplined same report fits no_failed_write = record {
        read = reads_then most_read (remaining source) (remaining left) _ _ _ _ known
            (λ text. reported_of choice ws text read stop events trace summary (taken sink) (taken written) disciplined same accepted report fits);
        refused = tt;
        unwritten = tt;
        silent = none_found read stop trace (remaining source) (written ≡ sink) accepted (reads_told most_read (remaining source) (remaining left) _ _ _ known);
        cut = tt;
        memory = tt;
        grown = (_, report.written);
        lost = lost;
        gave = gave;
        judged = reads_left most_read (remaining source) (remaining left) _ _ _ known;
        source_counted = no_failure;
        sink_counted = no_failed_write;
      }

      -- the sink failed
      pub of_failed_sink : CutsReportOn (ListedBy choice) ws trace (taken sink) (taken written) → failed_writes written ≡ failed_writes sink + 1
          → IsOutcome choice ws remaining given failed_reads source left taken failed_writes sink written (Err Sink)
      of_failed_sink cut failed_write = record {
        read = tt;
        refused = tt;
        unwritten = tt;
        silent = none_found read stop trace (remaining source) (written ≡ sink) accepted (reads_told most_read (remaining source) (remaining left) _ _ _ known);
        cut = reads_then most_read (remaining source) (remaining left) _ _ _ _ known (λ text. has_trace text read stop trace _ accepted cut);
        memory = tt;
        grown = (_, cut.written);
        lost = lost;
        gave = gave;
        judged = reads_left most_read (remaining source) (remaining left) _ _ _ known;
        source_counted = no_failure;
        sink_counted = failed_write;
      }

      -- memory was refused after the trace was judged
      pub of_no_memory : (why : NoMemory) → (written ≡ sink) ⊎ CutsBlocksOn (ListedBy choice) ws trace (taken sink) (taken written) → failed_writes written ≡ failed_writes sink
          → IsOutcome choice ws remaining given failed_reads source left taken failed_writes sink written (Err (Memory why))
      of_no_memory why refused no_failed_write = record {
        read = tt;
        refused = tt;
        unwritten = tt;
        silent = none_found read stop trace (remaining source) (written ≡ sink) accepted (reads_told most_read (remaining source) (remaining left) _ _ _ known);
        cut = tt;
        memory = or_then refused (λ cut. reads_then most_read (remaining source) (remaining left) _ _ _ _ known (λ text. has_trace text read stop trace _ accepted cut));
        grown = grown_of_refused taken (ListedBy choice) ws trace sink written refused;
        lost = lost;
        gave = gave;
        judged = tt;
        source_counted = no_failure;
        sink_counted = no_failed_write;
      }
