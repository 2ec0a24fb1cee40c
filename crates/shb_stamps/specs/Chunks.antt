-- Rows in one memory, which share chunks of 64 entries.
use Rattle.std.specs.Prelude.{◌≡◌, ℕ, ◌+◌, ◌-◌, ◌*◌, ◌<◌, ◌≤◌, ◌++◌, ◌^◌, List, [], drop, length, map, min, slice_index_or, take}
use Rattle.std.specs.List.{flat_map}
use Rattle.shb_stamps.specs.declared.row_list.Span.{Span}

-- the entries of a row: those of the chunks with these numbers, and the rest
abbrev pub row_by : List (List ℕ) → List ℕ → List ℕ → List ℕ
row_by chunks numbers rest = flat_map (λ n. slice_index_or chunks n []) numbers ++ rest

-- each chunk has 64 entries
abbrev pub AreChunks : List (List ℕ) → Type 0
AreChunks chunks = (n : ℕ) → n < length chunks → length (slice_index_or chunks n []) ≡ 64

-- numbers of chunks
abbrev pub AreNumbers : List (List ℕ) → List ℕ → Type 0
AreNumbers chunks numbers = (k : ℕ) → k < length numbers → slice_index_or numbers k 0 < length chunks

-- a row may begin with the chunks of these numbers
pub record IsRow (chunks : List (List ℕ)) (numbers : List ℕ) : Type 0 where
  pub chunks_are : AreChunks chunks
  pub numbers_are : AreNumbers chunks numbers
  pub few : length numbers < 2 ^ 32

-- the numbers of a row's chunks
abbrev pub numbers_in : List ℕ → Span → List ℕ
numbers_in cells span = take span.chunks (drop span.start cells)

-- the entries of a row
abbrev pub row_in : List (List ℕ) → List ℕ → Span → List ℕ
row_in chunks cells span = row_by chunks (numbers_in cells span) (take (span.whole + span.rest) (drop (span.start + span.chunks) cells))

-- all rows, in order
abbrev pub rows_in : List (List ℕ) → List ℕ → List Span → List (List ℕ)
rows_in chunks cells spans = map (row_in chunks cells) spans

-- rows, and how many bytes they take
pub record Rows : Type 0 where
  pub list : List (List ℕ)
  pub size : ℕ

-- all rows, with 40 bytes each, 4 for each cell and 256 for each chunk
abbrev pub stored : List (List ℕ) → List ℕ → List Span → Rows
stored chunks cells spans = record {
  list = rows_in chunks cells spans;
  size = min (40 * length spans + 4 * length cells + 256 * length chunks) (2 ^ 64 - 1);
}

-- the cells of a row are among these, and name chunks; it is whole, or it has chunks
pub record IsInside (chunks : List (List ℕ)) (cells : List ℕ) (span : Span) : Type 0 where
  pub within : span.start + span.chunks + (span.whole + span.rest) ≤ length cells
  pub numbers_are : AreNumbers chunks (numbers_in cells span)
  pub few : span.chunks < 2 ^ 32
  pub whole : span.chunks ≡ 0 → span.rest ≡ 0
  pub chunked : 0 < span.chunks → span.whole ≡ 0

abbrev pub no_span : Span
no_span = record { first = 0; start = 0; whole = 0; chunks = 0; rest = 0 }

-- so are those of each row
abbrev pub AreInside : List (List ℕ) → List ℕ → List Span → Type 0
AreInside chunks cells spans = (k : ℕ) → IsInside chunks cells (slice_index_or spans k no_span)

-- the cells of a row come before those of another one, and its chunks are among the first ones of that
pub record EndsBefore (cells : List ℕ) (span next : Span) : Type 0 where
  pub cells_end : span.start + span.chunks + (span.whole + span.rest) ≤ next.start
  pub chunks_end : (k : ℕ) → k < length (numbers_in cells span) → slice_index_or (numbers_in cells span) k 0 < next.first

-- each row comes before the later ones
abbrev pub AreRising : List ℕ → List Span → Type 0
AreRising cells spans = (k j : ℕ) → k < j → j < length spans → EndsBefore cells (slice_index_or spans k no_span) (slice_index_or spans j no_span)

-- a list, and more after it
pub record IsLonger {A : Type 0} (old new : List A) : Type 0 where
  pub more : List A
  pub is : new ≡ old ++ more
