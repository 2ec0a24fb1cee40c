-- The forms of the lines of a report, one after another: what the reader still expects.
use Rattle.std.specs.Prelude.{◌≡◌, ℕ, zero, suc, ◌+◌, Bool, List, [], ◌∷◌, ◌++◌, length, codes, if◌then◌else◌}
use Rattle.std.specs.List.{AllByRecursion}
use Rattle.shb_format.specs.declared.counts.Counts.{Counts}
use Rattle.shb_format.specs.Value.{AreShown, HasNoLineFeed, IsRest, IsShown, counts_line, numbers_line, place_line, places_line, race_numbers_line, races_line, version_line}

-- the labels before bytes that are taken as they stand
pub data Label : Type 0 where
  First : Label
  Second : Label
  At : Label
  And : Label

abbrev pub label_bytes : Label → List ℕ
label_bytes First = codes "first "
label_bytes Second = codes "second "
label_bytes At = codes "at "
label_bytes And = codes "and "

-- how many bytes stand after a label at least
abbrev pub least_after : Label → ℕ
least_after At = 0
least_after And = 0
least_after _ = 1

-- the form of a line
pub data Form : Type 0 where
  Version : Form
  CountsForm : Form
  Races : Bool → Form
  Places : Form
  PlaceForm : ℕ → Form
  Race : ℕ → Form
  Named : Label → Form
  Schedule : Form
  End : Form

-- the forms of so many places, and of so many blocks, of which the first has this number
abbrev pub place_forms : ℕ → ℕ → List Form
place_forms number zero = []
place_forms number (suc count) = PlaceForm number ∷ (Named At ∷ (Named And ∷ place_forms (number + 1) count))

abbrev pub block_forms : ℕ → ℕ → List Form
block_forms number zero = []
block_forms number (suc count) = Race number ∷ (Named First ∷ (Named Second ∷ (Schedule ∷ block_forms (number + 1) count)))

-- what stands between the races' count and the blocks, of reports that have places and of those that have none
abbrev pub places_form : Bool → List Form
places_form with_places = if with_places then Places ∷ [] else []

-- the line has the form, and these forms are then expected before those that were expected after it
abbrev pub HasForm : Form → List ℕ → List Form → Type 0
HasForm Version line added = (with_places : Bool) × (line ≡ version_line with_places) × (added ≡ CountsForm ∷ (Races with_places ∷ []))
HasForm CountsForm line added = (counts : Counts) × AreShown counts × (line ≡ counts_line counts) × (added ≡ [])
HasForm (Races with_places) line added = (n : ℕ) × IsShown n × (line ≡ races_line n) × (added ≡ places_form with_places ++ block_forms 1 n)
HasForm Places line added = (n : ℕ) × IsShown n × (line ≡ places_line n) × (added ≡ place_forms 1 n)
HasForm (PlaceForm number) line added = (n : ℕ) × IsShown n × (line ≡ place_line number n) × (added ≡ [])
HasForm (Race number) line added = (i : ℕ) × (j : ℕ) × IsShown i × IsShown j × (line ≡ race_numbers_line number i j) × (added ≡ [])
HasForm (Named label) line added = (bytes : List ℕ) × IsRest (least_after label) bytes × (line ≡ label_bytes label ++ bytes) × (added ≡ [])
HasForm Schedule line added = (ns : List ℕ) × AllByRecursion IsShown ns × IsShown (length ns) × (line ≡ numbers_line ns) × (added ≡ [])
HasForm End line added = (line ≡ codes "end") × (added ≡ [])

-- the bytes begin with a line of the form
pub record TakesForm (form : Form) (bytes line : List ℕ) (added : List Form) (rest : List ℕ) : Type 0 where
  pub one_line : HasNoLineFeed line
  pub has_form : HasForm form line added
  pub bytes_are : bytes ≡ line ++ (10 ∷ rest)

-- the bytes begin with n lines of the forms, after which these forms are expected and these bytes left
abbrev pub Takes : List Form → List ℕ → ℕ → List Form → List ℕ → Type 0
Takes forms bytes zero left rest = (forms ≡ left) × (bytes ≡ rest)
Takes [] bytes (suc n) left rest = ⊥
Takes (form ∷ forms) bytes (suc n) left rest =
    (line : List ℕ) × (added : List Form) × (more : List ℕ) × TakesForm form bytes line added more × Takes (added ++ forms) more n left rest

-- after `before` lines, where these forms are expected, n is the number of the first line that is bad
pub record IsBadFrom (forms : List Form) (before : ℕ) (bytes : List ℕ) (n : ℕ) : Type 0 where
  pub good : ℕ
  pub number : n ≡ before + suc good
  pub left : List Form
  pub rest : List ℕ
  pub takes : Takes forms bytes good left rest
  pub bad : (left : List Form) (rest : List ℕ) → Takes forms bytes (suc good) left rest → ⊥
  pub unfinished : (k : ℕ) → Takes forms bytes k [] [] → ⊥
