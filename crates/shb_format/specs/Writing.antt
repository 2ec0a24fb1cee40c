-- The texts that a writer puts one after another, and the report that its bytes are the text of.
use Rattle.std.specs.Prelude.{◌≡◌, ℕ, ◌+◌, ◌≤◌, List, [], ◌∷◌, ◌++◌, length, map, flat_map, codes, decimal, slice_index_or, Option, Some, unwrap_or, Result, MatchResult}
use Rattle.std.specs.List.{AllByRecursion, range_with_len}
use Rattle.shb_io.specs.Devices.{AppendsPrefix, HoldsBack}
use Rattle.shb_lines.specs.text.Text.{IsLineText}
use Rattle.shb_lines.specs.text.TraceData.{TraceData}
use Rattle.shb_format.specs.Places.{counts_in, places_of_pairs, shown_places}
use Rattle.shb_format.specs.Report.{ShownRace, counts_of, line_of_event, pair_of}
use Rattle.shb_format.specs.Value.{AreShown, Block, ReportValue, lines_text, place_lines}

-- Of what was held back and bs, all is sent or held back still where the call succeeded. Where it failed, only the first bytes were sent.
abbrev pub Puts : {T E : Type 0} → Option (List ℕ) → Option (List ℕ) → Result T E → List ℕ → List ℕ → List ℕ → Type 0
Puts old new r held held_now bs = MatchResult r (λ _. HoldsBack old new held_now (held ++ bs)) (λ _. AppendsPrefix old new (held ++ bs))

-- a label, a text and a line feed
abbrev pub labelled_line : List ℕ → List ℕ → List ℕ
labelled_line label text = label ++ (text ++ codes "\n")

-- the lines of the place of this number, of its count and its two locations
abbrev pub place_text : ℕ → ℕ → List ℕ → List ℕ → List ℕ
place_text number count first second = lines_text (place_lines number (record { count = count; first = first; second = second } ∷ []))

-- the lines of the two events
abbrev pub event_lines : TraceData → ℕ × ℕ → List ℕ
event_lines trace pair = labelled_line (codes "first ") (line_of_event trace pair.0) ++ labelled_line (codes "second ") (line_of_event trace pair.1)

-- how many events a schedule has
abbrev pub schedule_start : ℕ → List ℕ
schedule_start count = codes "schedule " ++ (decimal count ++ codes ":")

-- a space and the number of an event, which is counted from 1
abbrev pub event_number : ℕ → List ℕ
event_number event = codes " " ++ decimal (event + 1)

abbrev pub event_numbers : List ℕ → List ℕ
event_numbers events = flat_map event_number events

-- the numbers of the first so many events
abbrev pub first_numbers : ℕ → List ℕ
first_numbers count = event_numbers (range_with_len 0 count)

-- the text is that of the numbers, and each one starts where the text of those before it ends
pub record HasNumbers (count : ℕ) (text starts : List ℕ) : Type 0 where
  pub text_is : text ≡ first_numbers count
  pub as_many : length starts ≡ count + 1
  pub each : (k : ℕ) → k ≤ count → slice_index_or starts k 0 ≡ length (first_numbers k)

-- what the grammar of reports asks of a trace: its numbers can be shown, and each event has a line, of few bytes and no line feed
pub record IsShowable (trace : TraceData) : Type 0 where
  pub counts : AreShown (counts_of trace)
  pub a_line_each : length trace.lines ≡ length trace.events
  pub line_texts : AllByRecursion IsLineText trace.lines

-- the block of a race that is shown: its events count from 1, and their lines are those of the text
abbrev pub block_of : TraceData → ShownRace → Block
block_of trace race = record {
  first = race.pair.0 + 1;
  second = race.pair.1 + 1;
  first_line = line_of_event trace race.pair.0;
  second_line = line_of_event trace race.pair.1;
  schedule = map (λ event. event + 1) (unwrap_or race.schedule []);
}

-- what the text of a report on these races says, in version 2, with their places
abbrev pub written_report : TraceData → List ShownRace → ReportValue
written_report trace shown = record {
  counts = counts_of trace;
  places = Some (shown_places trace (counts_in (places_of_pairs trace (map pair_of (map (λ race. race.pair) shown)))));
  blocks = map (block_of trace) shown;
}
