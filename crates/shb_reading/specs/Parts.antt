-- Where the parts of a report stand in its text, and the report that they are.
use Rattle.std.specs.Prelude.{◌≡◌, ℕ, ◌+◌, ◌*◌, ◌≤◌, Bool, List, [], ◌∷◌, ◌++◌, length, map, take, drop, Option, None, Some, IfSome, if◌then◌else◌}
use Rattle.std.specs.List.{AllByRecursion}
use Rattle.shb_lines.specs.text.Limits.{most_bytes}
use Rattle.shb_reading.specs.declared.listed.BlockLines.{BlockLines}
use Rattle.shb_reading.specs.declared.listed.Listed.{Listed}
use Rattle.shb_reading.specs.declared.parts.Span.{Span}
use Rattle.shb_reading.specs.declared.parts.Parts.{Parts}
use Rattle.shb_reading.specs.declared.entries.Head.{Head}
use Rattle.shb_reading.specs.declared.parts.RaceEntry.{RaceEntry}
use Rattle.shb_reading.specs.declared.parts.PlaceEntry.{PlaceEntry}
use Rattle.shb_reading.specs.declared.position.Position.{Position}
use Rattle.shb_reading.specs.Lines.{bytes_from}
use Rattle.shb_format.specs.Value.{AreShown, ArePlaces, Block, Place, IsBlock, IsPlace, IsReportValue, IsShown, ReportValue, block_lines, counts_line, lines_text, place_lines, places_section, races_line, report_lines, report_text, version_line}

abbrev pub bytes_at : List ℕ → Span → List ℕ
bytes_at text span = take span.len (drop span.start text)

abbrev pub IsSpanIn : List ℕ → Span → Type 0
IsSpanIn text span = span.start + span.len ≤ length text

abbrev pub place_in_text : List ℕ → PlaceEntry → Place
place_in_text text entry = record { count = entry.count; first = bytes_at text entry.first; second = bytes_at text entry.second }

-- the block of these lines, with this schedule
abbrev pub block_with : BlockLines → List ℕ → Block
block_with lines schedule = record {
  first = lines.first;
  second = lines.second;
  first_line = lines.first_line.now;
  second_line = lines.second_line.now;
  schedule = schedule;
}

-- the block of a race that is listed
abbrev pub block_in : Listed → Block
block_in listed = block_with listed.lines listed.schedule.now

-- the block of an entry, with this schedule
abbrev pub block_from : List ℕ → RaceEntry → List ℕ → Block
block_from text entry schedule = record {
  first = entry.first;
  second = entry.second;
  first_line = bytes_at text entry.first_line;
  second_line = bytes_at text entry.second_line;
  schedule = schedule;
}

-- the part of a list that belongs to the entry
abbrev pub part_of : {T : Type 0} → List T → RaceEntry → List T
part_of numbers entry = take entry.schedule_len (drop entry.schedule_start numbers)

abbrev pub block_at : List ℕ → List ℕ → RaceEntry → Block
block_at text numbers entry = block_from text entry (part_of numbers entry)

pub record IsPlaceIn (text : List ℕ) (entry : PlaceEntry) : Type 0 where
  pub first : IsSpanIn text entry.first
  pub second : IsSpanIn text entry.second

pub record IsRaceIn {T : Type 0} (text : List ℕ) (numbers : List T) (entry : RaceEntry) : Type 0 where
  pub first : IsSpanIn text entry.first_line
  pub second : IsSpanIn text entry.second_line
  pub schedule : entry.schedule_start + entry.schedule_len ≤ length numbers

-- a block was read: its lines stand between the positions, what is kept of its first numbers, at most so many, was added, and this entry says where it stands
pub record ReadsBlock {T : Type 0} (kept : ℕ → T) (most : ℕ) (text : List ℕ) (old new : Position) (number : ℕ) (old_numbers new_numbers : List T) (entry : RaceEntry) : Type 0 where
  pub block : Block
  pub in_grammar : IsBlock block
  pub bytes : bytes_from text old ≡ lines_text (block_lines number (block ∷ [])) ++ bytes_from text new
  pub numbers : new_numbers ≡ old_numbers ++ take most (map kept block.schedule)
  pub entry_in : IsRaceIn text new_numbers entry
  pub entry_is : block_from text entry block.schedule ≡ block
  pub part_is : part_of new_numbers entry ≡ take most (map kept block.schedule)
  pub lines : new.lines ≡ old.lines + 4

-- a place was read
pub record ReadsPlace (text : List ℕ) (old new : Position) (number : ℕ) (entry : PlaceEntry) : Type 0 where
  pub in_grammar : IsPlace (place_in_text text entry)
  pub bytes : bytes_from text old ≡ lines_text (place_lines number (place_in_text text entry ∷ [])) ++ bytes_from text new
  pub entry_in : IsPlaceIn text entry
  pub lines : new.lines ≡ old.lines + 3

abbrev pub blocks_at : List ℕ → List ℕ → List RaceEntry → List Block
blocks_at text numbers entries = map (block_at text numbers) entries

abbrev pub places_at : List ℕ → List PlaceEntry → List Place
places_at text entries = map (place_in_text text) entries

-- these blocks stand between the positions, so many, of which the first has number 1
pub record TakesBlocks (text : List ℕ) (old new : Position) (count : ℕ) (blocks : List Block) : Type 0 where
  pub count_is : length blocks ≡ count
  pub in_grammar : AllByRecursion IsBlock blocks
  pub bytes : bytes_from text old ≡ lines_text (block_lines 1 blocks) ++ bytes_from text new
  pub lines : new.lines ≡ old.lines + 4 * count

-- so many blocks were read, of which the first has number 1, and these entries say where they stand
pub record ReadsBlocks (text : List ℕ) (old new : Position) (count : ℕ) (numbers : List ℕ) (entries : List RaceEntry) : Type 0 where
  pub taken : TakesBlocks text old new count (blocks_at text numbers entries)
  pub entries_in : AllByRecursion (IsRaceIn text numbers) entries

-- so many places were read
pub record ReadsPlaces (text : List ℕ) (old new : Position) (count : ℕ) (entries : List PlaceEntry) : Type 0 where
  pub count_is : length entries ≡ count
  pub in_grammar : AllByRecursion IsPlace (places_at text entries)
  pub bytes : bytes_from text old ≡ lines_text (place_lines 1 (places_at text entries)) ++ bytes_from text new
  pub entries_in : AllByRecursion (IsPlaceIn text) entries
  pub lines : new.lines ≡ old.lines + 3 * count

-- of a list of which this holds the first elements are kept, at most so many
pub record KeepsFirst {T : Type 0} (most : ℕ) (Holds : List T → Type 0) (kept : List T) : Type 0 where
  pub all : List T
  pub holds : Holds all
  pub kept_is : kept ≡ take most all

-- the parts of a whole report
abbrev pub section_at : List ℕ → Bool → List PlaceEntry → Option (List Place)
section_at text with_places entries = if with_places then Some (places_at text entries) else None

abbrev pub report_at : List ℕ → Parts → ReportValue
report_at text parts = record {
  counts = parts.counts;
  places = section_at text parts.with_places parts.places.items;
  blocks = blocks_at text parts.numbers.items parts.races.items;
}

-- the parts lie in the text
pub record ArePartsIn (text : List ℕ) (parts : Parts) : Type 0 where
  pub short : length text ≤ most_bytes
  pub places : AllByRecursion (IsPlaceIn text) parts.places.items
  pub races : AllByRecursion (IsRaceIn text parts.numbers.items) parts.races.items

-- the text is that of a report, which has so many lines
pub record IsTextOf (text : List ℕ) (report : ReportValue) (lines : ℕ) : Type 0 where
  pub in_grammar : IsReportValue report
  pub text_is : text ≡ report_text report
  pub lines_are : lines ≡ length (report_lines report)

-- the text is that of the report that its parts are
pub record IsScanned (text : List ℕ) (parts : Parts) (lines : ℕ) : Type 0 where
  pub parts_in : ArePartsIn text parts
  pub whole : IsTextOf text (report_at text parts) lines

-- the first three lines were read
pub record ReadsHead (text : List ℕ) (old new : Position) (head : Head) : Type 0 where
  pub counts : AreShown head.counts
  pub races : IsShown head.races
  pub bytes : bytes_from text old ≡ lines_text (version_line head.with_places ∷ (counts_line head.counts ∷ (races_line head.races ∷ []))) ++ bytes_from text new
  pub lines : new.lines ≡ old.lines + 3

-- the places were read, if there are any
pub record ReadsSection (text : List ℕ) (old new : Position) (with_places : Bool) (entries : List PlaceEntry) : Type 0 where
  pub in_grammar : IfSome (section_at text with_places entries) ArePlaces
  pub few : IsShown (length entries)
  pub bytes : bytes_from text old ≡ lines_text (places_section (section_at text with_places entries)) ++ bytes_from text new
  pub entries_in : AllByRecursion (IsPlaceIn text) entries
  pub lines : new.lines ≡ old.lines + length (places_section (section_at text with_places entries))
