-- What a report says, and the text that says it, in version 1 (without places) and version 2 (with them).
use Rattle.std.specs.Prelude.{◌≡◌, ℕ, ◌+◌, ◌<◌, ◌≤◌, ◌^◌, ◌==◌, not, Bool, true, List, [], ◌∷◌, ◌++◌, length, codes, decimal, Option, None, Some, IfSome, if◌then◌else◌}
use Rattle.std.specs.List.{AllByRecursion, list_all}
use Rattle.std.specs.Option.{is_some}
use Rattle.shb_format.specs.declared.counts.Counts.{Counts}

-- the block of a race: the numbers of its two events, their lines, and the numbers of its schedule, all as they are written
pub record Block : Type 0 where
  pub first : ℕ
  pub second : ℕ
  pub first_line : List ℕ
  pub second_line : List ℕ
  pub schedule : List ℕ

-- a place: how many races it has, and the two locations
pub record Place : Type 0 where
  pub count : ℕ
  pub first : List ℕ
  pub second : List ℕ

-- a report: the counts of its trace, its places (none in version 1), and the blocks of its races
pub record ReportValue : Type 0 where
  pub counts : Counts
  pub places : Option (List Place)
  pub blocks : List Block

-- the lines, without their line feeds; the first one, of reports that have places and of those that have none
abbrev pub version_line : Bool → List ℕ
version_line with_places = if with_places then codes "shb-report 2" else codes "shb-report 1"

abbrev pub counts_line : Counts → List ℕ
counts_line counts =
    codes "events " ++ (decimal counts.events
    ++ (codes " threads " ++ (decimal counts.threads
    ++ (codes " locks " ++ (decimal counts.locks
    ++ (codes " variables " ++ decimal counts.variables))))))

abbrev pub races_line : ℕ → List ℕ
races_line count = codes "races " ++ decimal count

abbrev pub places_line : ℕ → List ℕ
places_line count = codes "places " ++ decimal count

abbrev pub place_line : ℕ → ℕ → List ℕ
place_line number count = codes "place " ++ (decimal number ++ (codes ": " ++ decimal count))

abbrev pub race_numbers_line : ℕ → ℕ → ℕ → List ℕ
race_numbers_line number first second = codes "race " ++ (decimal number ++ (codes ": " ++ (decimal first ++ (codes " " ++ decimal second))))

-- each number after a space
abbrev pub listed : List ℕ → List ℕ
listed [] = []
listed (n ∷ ns) = codes " " ++ (decimal n ++ listed ns)

abbrev pub numbers_line : List ℕ → List ℕ
numbers_line ns = codes "schedule " ++ (decimal (length ns) ++ (codes ":" ++ listed ns))

-- the lines of some places, and of some blocks, of which the first has this number
abbrev pub place_lines : ℕ → List Place → List (List ℕ)
place_lines number [] = []
place_lines number (place ∷ places) =
    place_line number place.count ∷ ((codes "at " ++ place.first) ∷ ((codes "and " ++ place.second) ∷ place_lines (number + 1) places))

abbrev pub block_lines : ℕ → List Block → List (List ℕ)
block_lines number [] = []
block_lines number (block ∷ blocks) =
    race_numbers_line number block.first block.second
    ∷ ((codes "first " ++ block.first_line) ∷ ((codes "second " ++ block.second_line) ∷ (numbers_line block.schedule ∷ block_lines (number + 1) blocks)))

abbrev pub places_section : Option (List Place) → List (List ℕ)
places_section None = []
places_section (Some places) = places_line (length places) ∷ place_lines 1 places

abbrev pub report_lines : ReportValue → List (List ℕ)
report_lines report =
    version_line (is_some report.places) ∷ (counts_line report.counts ∷ (races_line (length report.blocks)
    ∷ (places_section report.places ++ (block_lines 1 report.blocks ++ codes "end" ∷ []))))

-- lines, each with its line feed
abbrev pub lines_text : List (List ℕ) → List ℕ
lines_text [] = []
lines_text (line ∷ lines) = line ++ (10 ∷ lines_text lines)

abbrev pub report_text : ReportValue → List ℕ
report_text report = lines_text (report_lines report)

-- numbers that a report can show have 64 bits
abbrev pub IsShown : ℕ → Type 0
IsShown n = n < 2 ^ 64

abbrev pub HasNoLineFeed : List ℕ → Type 0
HasNoLineFeed bytes = list_all (λ b. not (b == 10)) bytes ≡ true

-- what may stand after a label: at least so many bytes, at most 4,096, none a line feed
pub record IsRest (least : ℕ) (bytes : List ℕ) : Type 0 where
  pub enough : least ≤ length bytes
  pub most : length bytes ≤ 4096
  pub one_line : HasNoLineFeed bytes

pub record AreShown (counts : Counts) : Type 0 where
  pub events : IsShown counts.events
  pub threads : IsShown counts.threads
  pub locks : IsShown counts.locks
  pub variables : IsShown counts.variables

pub record IsBlock (block : Block) : Type 0 where
  pub first : IsShown block.first
  pub second : IsShown block.second
  pub first_line : IsRest 1 block.first_line
  pub second_line : IsRest 1 block.second_line
  pub numbers : AllByRecursion IsShown block.schedule
  pub few : IsShown (length block.schedule)

pub record IsPlace (place : Place) : Type 0 where
  pub count : IsShown place.count
  pub first : IsRest 0 place.first
  pub second : IsRest 0 place.second

pub record ArePlaces (places : List Place) : Type 0 where
  pub each : AllByRecursion IsPlace places
  pub few : IsShown (length places)

-- a report in the grammar
pub record IsReportValue (report : ReportValue) : Type 0 where
  pub counts : AreShown report.counts
  pub places : IfSome report.places ArePlaces
  pub blocks : AllByRecursion IsBlock report.blocks
  pub few : IsShown (length report.blocks)
