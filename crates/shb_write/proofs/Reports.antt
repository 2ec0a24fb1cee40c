-- A report from its parts.
use Rattle.std.proofs.Common.{◌≡◌, inl, inr, ℕ, ◌+◌, Bool, List, ◌++◌, length, map, take, Option, Result, Ok, Err, IsErrAnd, refl, sym, ap, subst, ◌∙◌, arith, length-append}
use Rattle.shb_write.proofs.Words.{Appends, Appends-trans, AppendsFront, AppendsPrefix, AppendsPrefix-after, CountsFailure, CutsBlocksOn, CutsReportOn, HasReported, IsReportOn, NoMemory, PlaceCount, These, TraceData, WriteError, WritesReport, blocks_of, counts_in, counts_of, front_bytes, head_bytes, pair_of, places_of_pairs, section_bytes, tail_bytes, take-append-add, write_failed}
use Rattle.shb_write.specs.declared.errors.WriteError.TheVariants.{Sink, Memory}
use Rattle.shb_write.proofs.Blocks.{are_blocks, front_lacks}

-- the head and the places
pub front_is : (trace : TraceData) (races : List (ℕ × ℕ)) (count : ℕ) (places : List PlaceCount) → count ≡ length races → places ≡ counts_in (places_of_pairs trace (map pair_of races))
    → head_bytes (counts_of trace) count ++ section_bytes trace places ≡ front_bytes trace races
front_is trace races count places counted are =
    ap (λ n. head_bytes (counts_of trace) n ++ section_bytes trace places) counted
    ∙ ap (λ p. head_bytes (counts_of trace) (length races) ++ section_bytes trace p) are

module _ (ws : Bool) (trace : TraceData) (races : List (ℕ × ℕ)) where
  abbrev report : IsReportOn (These races) ws trace (front_bytes trace races ++ (blocks_of ws trace races ++ tail_bytes))
  report = record { races = races; blocks = blocks_of ws trace races; races_are = refl; blocks_are = are_blocks ws trace races; bytes_are = refl }

  pub report_written : (old new : Option (List ℕ)) → Appends old new (front_bytes trace races ++ (blocks_of ws trace races ++ tail_bytes)) → WritesReport (These races) ws trace old new
  report_written old new written = record { bytes = front_bytes trace races ++ (blocks_of ws trace races ++ tail_bytes); report = report; written = written }

  pub report_cut : (old new : Option (List ℕ)) → AppendsPrefix old new (front_bytes trace races ++ (blocks_of ws trace races ++ tail_bytes)) → CutsReportOn (These races) ws trace old new
  report_cut old new front = record { bytes = front_bytes trace races ++ (blocks_of ws trace races ++ tail_bytes); report = report; count = front.0; some_missing = front.1; written = front.2 }

  -- the lines before the blocks were written, and the front of what comes after
  blocks_cut : (old now new : Option (List ℕ)) → Appends old now (front_bytes trace races) → AppendsPrefix now new (blocks_of ws trace races ++ tail_bytes) → CutsBlocksOn (These races) ws trace old new
  blocks_cut old now new before front =
      let lines = front_bytes trace races in
      let left = blocks_of ws trace races ++ tail_bytes in
      record {
        cut = record {
          bytes = lines ++ left;
          report = report;
          count = length lines + front.0;
          some_missing = omega (arith, length-append lines left, front.1);
          written = subst (Appends old new) (sym (take-append-add lines left front.0)) (Appends-trans old now new lines (take front.0 left) before front.2);
        };
        front = omega arith;
      }

  module _ {K T : Type 0} (taken : K → Option (List ℕ)) (failures : K → ℕ) (old new : K) where
    -- the whole report was written
    pub reported : (x : T) → Appends (taken old) (taken new) (front_bytes trace races ++ (blocks_of ws trace races ++ tail_bytes)) → failures new ≡ failures old → HasReported (These races) ws trace taken failures old new (Ok x)
    reported x written counted = record { report = report_written _ _ written; cut = tt; memory = tt; counted = counted }

    -- the sink failed
    pub report_failed : (r : Result T WriteError) → IsErrAnd r (λ e. e ≡ Sink) → AppendsPrefix (taken old) (taken new) (front_bytes trace races ++ (blocks_of ws trace races ++ tail_bytes)) → failures new ≡ failures old + 1
        → HasReported (These races) ws trace taken failures old new r
    report_failed (Ok x) is front counted = absurd is
    report_failed (Err e) is front counted = subst (λ (e : WriteError). HasReported {T = T} (These races) ws trace taken failures old new (Err e)) (sym is)
        (record { report = tt; cut = report_cut _ _ front; memory = tt; counted = counted })

    -- the blocks were not all written, for this error
    pub report_stopped : (r : Result T WriteError) (error : WriteError) (now : Option (List ℕ)) → IsErrAnd r (λ e. e ≡ error) → Appends (taken old) now (front_bytes trace races) → AppendsFront now (taken new) (blocks_of ws trace races)
        → CountsFailure {T = T} write_failed (failures old) (failures new) (Err error) → HasReported (These races) ws trace taken failures old new r
    report_stopped (Ok x) error now is before front counted = absurd is
    report_stopped (Err e) error now is before front counted = subst (λ (e : WriteError). HasReported {T = T} (These races) ws trace taken failures old new (Err e)) (sym is) (by error counted)
      where
        less : AppendsPrefix now (taken new) (blocks_of ws trace races ++ tail_bytes)
        less = front_lacks now (taken new) (blocks_of ws trace races) tail_bytes (omega arith) front

        by : (error : WriteError) → CountsFailure {T = T} write_failed (failures old) (failures new) (Err error) → HasReported {T = T} (These races) ws trace taken failures old new (Err error)
        by Sink counted = record { report = tt; cut = report_cut _ _ (AppendsPrefix-after _ _ _ _ _ before less); memory = tt; counted = counted }
        by (Memory refused) counted = record { report = tt; cut = tt; memory = inr (blocks_cut _ _ _ before less); counted = counted }
