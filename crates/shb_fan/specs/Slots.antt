-- The rule of the ring's table, and what each step tells. The word of piece k is 4k while its slot is empty, 4k+1 once it is claimed, 4k+2 once its value is placed, 4k+3 once it is lifted, and 4(k+64) once it is freed.
use Rattle.std.specs.Prelude.{◌≡◌, ◌≢◌, ℕ, ◌+◌, ◌-◌, ◌*◌, ◌/◌, ◌%◌, ◌<◌, Bool, List, [], ◌∷◌, ◌++◌, length, slice_index, Option, Some, slice_get, eqb, leb}
use mathlib.Core.Option.{some}
use mathlib.Core.Option as maybe
use lib.ListN.{get_elem?}
use Rattle.atomic_table.specs.Table.{State, Me, Step, rest}
use Rattle.shb_fan.specs.declared.ring_table.SeatView.{SeatView}
use Rattle.shb_fan.specs.Numbers.{weight, times, total}

-- what a step tells, of a table whose slots have an `Option T`
abbrev pub Told : Type 0 → Type 0 → Type 1
Told T M = Step (Option T) → Me (Option T) (SeatView M) → ℕ → Me (Option T) (SeatView M) → Type 0

-- of a slot's word and a piece of that slot
abbrev pub is_claimed : ℕ → ℕ → Bool
is_claimed word k = eqb word (4 * k + 1)

abbrev pub is_placed : ℕ → ℕ → Bool
is_placed word k = leb (4 * k + 2) word

abbrev pub is_lifting : ℕ → ℕ → Bool
is_lifting word k = eqb word (4 * k + 3)

abbrev pub is_lifted : ℕ → ℕ → Bool
is_lifted word k = leb (4 * k + 3) word

module _ {M : Type 0} where
  abbrev pub seat_view : ℕ → List M → List ℕ → List ℕ → List ℕ → List ℕ → SeatView M
  seat_view parts wanted claimed placed lifting lifted = record { parts = parts; wanted = wanted; claimed = claimed; placed = placed; lifting = lifting; lifted = lifted }

  -- a piece stands once in the lists of all seats together where its slot's word is so, else nowhere
  abbrev pub Counts : (SeatView M → List ℕ) → (ℕ → ℕ → Bool) → List ℕ → List (SeatView M) → Type 0
  Counts f is words views = (k : ℕ) → total (λ v. times k (f v)) views ≡ weight (is (slice_index words (k % 64)) k)

  -- with no part it has placed and lifted nothing
  abbrev pub HasNothing : SeatView M → Type 0
  HasNothing v = v.parts ≡ 0 → (v.placed ≡ []) × (v.lifted ≡ [])

  module _ {T : Type 0} (meaning : T → M) where
    -- the slot i, of which an empty one and a placed value are at home
    pub record SlotKept (wanted : List M) (homes : List (maybe.Option (Option T))) (i word : ℕ) : Type 0 where
      pub here : (word / 4) % 64 ≡ i
      pub empty : word % 4 ≡ 0 → (x : Option T) × (get_elem? homes i ≡ some (some x))
      pub full : word % 4 ≡ 2 → (x : T) × (get_elem? homes i ≡ some (some (Some x))) × (slice_get wanted (word / 4) ≡ Some (meaning x))

    -- what holds between any two steps
    pub record KeepsSlots (wanted : List M) (s : State (Option T) (SeatView M)) : Type 0 where
      pub wide : length s.words ≡ 64
      pub deep : length s.homes ≡ 64
      pub slots : (i : ℕ) → i < 64 → SlotKept wanted s.homes i (slice_index s.words i)
      pub parts : total (λ v. v.parts) s.views ≡ 65
      pub claims : Counts (λ v. v.claimed) is_claimed s.words s.views
      pub each_placed : Counts (λ v. v.placed) is_placed s.words s.views
      pub lifts : Counts (λ v. v.lifting) is_lifting s.words s.views
      pub each_lifted : Counts (λ v. v.lifted) is_lifted s.words s.views
      pub nothing : (id : ℕ) (v : SeatView M) → get_elem? s.views id ≡ some v → HasNothing v
      pub same : (id : ℕ) (v : SeatView M) → get_elem? s.views id ≡ some v → 0 < v.parts → v.wanted ≡ wanted

  abbrev pub left_over : SeatView M → SeatView M
  left_over v = record v { parts = v.parts - 1 }

  abbrev pub one_part : SeatView M → SeatView M
  one_part v = seat_view 1 v.wanted [] [] [] []

  abbrev pub joined : SeatView M → SeatView M → SeatView M
  joined v w = seat_view (v.parts + w.parts) v.wanted (v.claimed ++ w.claimed) (v.placed ++ w.placed) (v.lifting ++ w.lifting) (v.lifted ++ w.lifted)

  abbrev pub spent_seat_view : SeatView M
  spent_seat_view = seat_view 0 [] [] [] [] []

  module _ {T : Type 0} where
    -- where the word was found as the caller said, the piece and its slot are the seat's; else nothing changes
    abbrev pub claimed : Told T M
    claimed st m r m' = (r ≡ st.first → (x : Option T) × (m' ≡ (record m.0 { claimed = st.first / 4 ∷ [] }, (st.word, x) ∷ m.1))) × (r ≢ st.first → m' ≡ m)

    abbrev pub placed : Told T M
    placed st m r m' = m' ≡ (record m.0 { claimed = []; placed = m.0.placed ++ m.0.claimed }, rest m.1)

    -- where the word was found as the caller said, the piece is new to the seat, and its slot, with the piece's value, is the seat's; else nothing changes
    abbrev pub raised : (T → M) → Told T M
    raised meaning st m r m' =
        (r ≡ st.first → (x : T) × (m' ≡ (record m.0 { lifting = st.first / 4 ∷ []; lifted = m.0.lifted ++ st.first / 4 ∷ [] }, (st.word, Some x) ∷ m.1)) × (slice_get m.0.wanted (st.first / 4) ≡ Some (meaning x)) × (times (st.first / 4) m.0.lifted ≡ 0))
        × (r ≢ st.first → m' ≡ m)

    abbrev pub freed : Told T M
    freed st m r m' = m' ≡ (record m.0 { lifting = [] }, rest m.1)
