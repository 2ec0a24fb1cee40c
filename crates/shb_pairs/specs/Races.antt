-- The accesses of open variables, the pieces that they are cut into, and the races of a piece: those whose later access is among its accesses.
use Rattle.std.specs.Prelude.{◌≡◌, ℕ, zero, suc, ◌+◌, ◌-◌, ◌*◌, ◌<◌, ◌↔◌, min, List, [], ◌∷◌, ◌++◌, AllPairs, Contains, map, flat_map, length, slice_index_or, slice_range, Bool, true, Some, cond}
use Rattle.std.specs.Int.{div_ceil}
use Rattle.shb_lines.specs.declared.event.Event.{Event}
use Rattle.shb_lines.specs.events.Race.{Race, variable_at}
use Rattle.shb_stamps.specs.Open.{OpenTrace, is_open}
use Rattle.shb_pairs.specs.declared.accesses.Piece.{Piece}
use Rattle.shb_stamps.specs.Accesses.{PairBefore, accesses_at, accesses_in, races_with, variables_before, variables_in}
use Rattle.std.specs.Global.{Vec}
use Rattle.shb_lines.specs.events.Reach.{numbers_where}

-- each access of an open variable is an event that an order can be asked about
abbrev pub AsksOpen : (ℕ → Bool) → List Bool → List Event → Type 0
AsksOpen asks flags trace = (e x : ℕ) → variable_at trace e ≡ Some x → is_open flags x ≡ true → asks e ≡ true

-- the accesses of x that are listed: all of an open variable, and else none
abbrev pub listed_accesses : OpenTrace → ℕ → List ℕ
listed_accesses a x = cond (is_open a.flags x) (accesses_in a.trace x) []

-- there is a list for each variable accessed before position n, of its accesses before n
pub record HasAccesses (trace : List Event) (n : ℕ) (lists : List (Vec ℕ)) : Type 0 where
  pub as_many : length lists ≡ variables_before trace n
  pub each : (x : ℕ) (d : Vec ℕ) → x < length lists → (slice_index_or lists x d).items ≡ numbers_where (accesses_at trace x) n

-- how many accesses a piece has at most
abbrev pub piece_length : ℕ
piece_length = 64

-- piece number k of the accesses of x, of which there are n: 64 of them, or all that are left
abbrev pub numbered_piece : ℕ → ℕ → ℕ → Piece
numbered_piece x n k = record { variable = x; from = piece_length * k; to = piece_length * k + min (n - piece_length * k) piece_length }

-- the first k pieces
unfoldable pub first_pieces : ℕ → ℕ → ℕ → List Piece
first_pieces x n zero = []
first_pieces x n (suc k) = first_pieces x n k ++ numbered_piece x n k ∷ []

-- all pieces of the open variables with numbers below x
unfoldable pub pieces_below : OpenTrace → ℕ → List Piece
pieces_below a zero = []
pieces_below a (suc x) = pieces_below a x ++ first_pieces x (length (listed_accesses a x)) (div_ceil (length (listed_accesses a x)) piece_length)

-- all pieces of all open variables
abbrev pub pieces_in : OpenTrace → List Piece
pieces_in a = pieces_below a (variables_in a.trace)

-- the races whose later access is among those of the piece, by the later access, then by the earlier
unfoldable pub races_of : List Event → Piece → List (ℕ × ℕ)
races_of trace p = flat_map (races_with trace) (slice_range (accesses_in trace p.variable) p.from p.to)

-- piece k
abbrev pub piece_at : List Piece → ℕ → Piece
piece_at pieces k = slice_index_or pieces k (record { variable = 0; from = 0; to = 0 })

-- the races of piece k
unfoldable pub races_at : OpenTrace → ℕ → List (ℕ × ℕ)
races_at a k = races_of a.trace (piece_at (pieces_in a) k)

-- all races whose later access is among those of the piece, each once, by the later access, then by the earlier
pub record AreRacesOfPiece (a : OpenTrace) (p : Piece) (races : List (ℕ × ℕ)) : Type 0 where
  pub all : (i j : ℕ) → Contains races (i, j) ↔ (Race a.trace i j × Contains (slice_range (listed_accesses a p.variable) p.from p.to) j)
  pub in_order : AllPairs PairBefore races

-- lists one after the other
abbrev pub joined : {X : Type 0} → List (List X) → List X
joined lists = flat_map (λ list. list) lists
