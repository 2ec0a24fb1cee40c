-- The texts that came are the blocks of the races, or the front of them.
use Rattle.std.proofs.Common.{rules, ◌≡◌, ◌+◌, ◌∙◌, ◌++◌, ◌∷◌, All, List, [], ap, arith, map, subst, sym}
use Rattle.shb_write.proofs.Words.{Appends, AppendsFront, HasText, Piece, WriteError, alone, length-map, pair_in, piece_text, text_of, write_failed}
use Rattle.std.specs.Prelude.{if◌then◌else◌, slice_index_or}
use Rattle.shb_write.proofs.Blocks.{left_after, whole_front}
use Rattle.shb_write.proofs.Scheduling.{values_next}
use Rattle.shb_write.proofs.TextLemmas.{all_came, some_came}
use Rattle.shb_write.proofs.list.list_kept.Goals as goal

pub new-job-requires : goal.new-job-requires
new-job-requires g c =
    let trace = c.args.writer.now.trace.now in
    let may = c.requires.1 in
    subst (λ (ps : List Piece). All (λ (piece : Piece). HasText trace piece.before (map pair_in piece.races.now)) ps) (sym c.as_slice.ensures.value)
    (c.in_ok-pieces.ensures.pieces trace (record { room = may.room; in_range = may.in_range }))

pub returns-in-Ok : goal.returns-in-Ok
returns-in-Ok g c =
    let start = c.args.writer.now in
    let races = c.args.races.now in
    let made = c.new-job.ensures ∙ ap (map (piece_text start.trace.now)) c.as_slice.ensures.value in
    let ended = c.in-Ok.ensures.ended in
    let same = ended.2.same_sink in
    record {
      same_sink = search rules;
      same_trace = search rules;
      as_many = omega (arith, length-map (map pair_in races) alone, length-map races pair_in);
      appended = left_after (λ s. Appends (g.K.Sink.taken start.sink.now) (g.K.Sink.taken s) (text_of start.trace.now start.written (map pair_in races))) _ c.stream.new.taker.sink.now
          (all_came start.trace.now start.written races c.in_ok-pieces.pieces.items c.new-job.result ended.0 _ _ made (c.in_ok-pieces.ensures.texts start.trace.now) ended.1 ended.2.appended) (search rules);
      counted = left_after (λ s. g.K.Sink.failure_count s ≡ g.K.Sink.failure_count start.sink.now) _ c.stream.new.taker.sink.now ended.2.counted (search rules);
    }

pub returns-in-Err-Taker : goal.returns-in-Err-Taker
returns-in-Err-Taker g c =
    let start = c.args.writer.now in
    let races = c.args.races.now in
    let made = c.new-job.ensures ∙ ap (map (piece_text start.trace.now)) c.as_slice.ensures.value in
    let ended = rw c.in-Err-Taker.field-0-is at c.in-Err-Taker.ensures.ended in
    let same = ended.2.4.same_sink in
    let failures = g.K.Sink.failure_count start.sink.now in
    record {
      same_sink = search rules;
      front = left_after (λ s. AppendsFront (g.K.Sink.taken start.sink.now) (g.K.Sink.taken s) (text_of start.trace.now start.written (map pair_in races))) _ c.stream.new.taker.sink.now
          (some_came start.trace.now start.written races c.in_ok-pieces.pieces.items c.new-job.result (ended.2.0 ++ ended.2.1 ∷ []) _ _ made (c.in_ok-pieces.ensures.texts start.trace.now) (ended.0 + 1) (omega (arith, ended.1))
          (values_next _ (λ i. slice_index_or c.new-job.result i []) ended.0 ended.2.0 ended.2.1 ended.2.2 ended.2.3) ended.2.4.front) (search rules);
      counted = left_after (λ s. g.K.Sink.failure_count s ≡ (if write_failed c.in-Err-Taker.error then failures + 1 else failures)) _ c.stream.new.taker.sink.now
          (ended.2.4.counted ∙ ap (λ (e : WriteError). if write_failed e then failures + 1 else failures) (sym ended.2.4.named)) (search rules);
    }

pub returns : goal.returns
returns g c =
    let start = c.args.writer.now in
    let races = c.args.races.now in
    let made = c.new-job.ensures ∙ ap (map (piece_text start.trace.now)) c.as_slice.ensures.value in
    let ended = rw c.in-Err-Memory.field-0-is at c.in-Err-Memory.ensures.ended in
    let same = ended.2.2.same_sink in
    record {
      same_sink = search rules;
      front = left_after (λ s. AppendsFront (g.K.Sink.taken start.sink.now) (g.K.Sink.taken s) (text_of start.trace.now start.written (map pair_in races))) _ c.stream.new.taker.sink.now
          (some_came start.trace.now start.written races c.in_ok-pieces.pieces.items c.new-job.result ended.2.0 _ _ made (c.in_ok-pieces.ensures.texts start.trace.now) ended.0 ended.1 ended.2.1 (whole_front _ _ _ ended.2.2.appended)) (search rules);
      counted = left_after (λ s. g.K.Sink.failure_count s ≡ g.K.Sink.failure_count start.sink.now) _ c.stream.new.taker.sink.now ended.2.2.counted (search rules);
    }
