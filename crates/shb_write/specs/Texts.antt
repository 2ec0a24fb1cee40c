-- The blocks of races as texts that workers make, and what is left of them in a sink.
use Rattle.std.specs.Prelude.{◌≡◌, ℕ, ◌+◌, ◌^◌, ◌<◌, List, All, Option, length, map}
use Rattle.std.specs.Io.KnownBytes.{Appends}
use Rattle.shb_lines.specs.text.TraceData.{TraceData}
use Rattle.shb_format.specs.Report.{blocks_from}
use Rattle.shb_lists.specs.Listed.{pair_in}
use Rattle.shb_write.specs.Blocks.{alone}
use Rattle.shb_write.specs.Listed.{IsRaceOf}
use Rattle.shb_write.specs.Written.{AppendsFront}
use Rattle.shb_write.specs.declared.errors.WriteError.{WriteError}
use Rattle.shb_write.specs.declared.errors.WriteError.TheVariants.{Sink as SinkFailed}
use Rattle.shb_write.specs.declared.pieces.Piece.{Piece}
use Rattle.shb_write.specs.declared.text_writer.TextWriter.{TextWriter}

-- a text in memory: its bytes, and how many writes failed
pub record TextState : Type 0 where
  pub bytes : List ℕ
  pub failures : ℕ

-- the blocks of some races, of which so many others come before
abbrev pub text_of : TraceData → ℕ → List (ℕ × ℕ) → List ℕ
text_of trace before races = blocks_from trace (before + 1) (map alone races)

-- the blocks of a piece
abbrev pub piece_text : TraceData → Piece → List ℕ
piece_text trace piece = text_of trace piece.before (map pair_in piece.races.now)

-- these races can be numbered, and are of the trace
pub record HasText (trace : TraceData) (before : ℕ) (races : List (ℕ × ℕ)) : Type 0 where
  pub room : length races + before < 2 ^ 64
  pub in_range : All (IsRaceOf trace) races

module _ {K : Type 0} (taken : K → Option (List ℕ)) (failures : K → ℕ) where
  -- these bytes were written, and nothing else changed
  pub record HasAppended (start : TextWriter K) (bytes : List ℕ) (end : TextWriter K) : Type 0 where
    pub same_sink : end.sink.ghost_name ≡ start.sink.ghost_name
    pub appended : Appends (taken start.sink.now) (taken end.sink.now) bytes
    pub counted : failures end.sink.now ≡ failures start.sink.now

  -- the sink failed: the front of these bytes was written
  pub record HasCut (start : TextWriter K) (bytes : List ℕ) (error : WriteError) (end : TextWriter K) : Type 0 where
    pub same_sink : end.sink.ghost_name ≡ start.sink.ghost_name
    pub front : AppendsFront (taken start.sink.now) (taken end.sink.now) bytes
    pub counted : failures end.sink.now ≡ failures start.sink.now + 1
    pub named : error ≡ SinkFailed
