-- The seats of a ring, as it opens and as it ends.
use Rattle.std.proofs.Common.{◌≡◌, ℕ, ◌+◌, ◌-◌, ◌^◌, ◌≤◌, List, [], ◌∷◌, ◌++◌, length, length-append, All, Option, Some, sym, ap, ◌∙◌, subst, arith}
use Rattle.std.proofs.lemmas.List.Elements.{All-push, All-pop, All-same}
use Rattle.atomic_table.specs.Table.{Me}
use Rattle.atomic_table.specs.Seated.{TableId}
use Rattle.atomic_table.specs.declared.shared.Seat as table_seat
use Rattle.shb_fan.specs.declared.ring_table.SeatView.{SeatView}
use Rattle.shb_fan.specs.declared.shares.Seat.{Seat}
use Rattle.shb_fan.specs.Slots.{seat_view, left_over, one_part}
use Rattle.shb_fan.specs.declared.shares.Ring.{Ring}
use Rattle.shb_fan.specs.Seated.{Sits, IsSeatOf, claimed_of, placed_of, lifted_of}
use Rattle.shb_fan.specs.Values.{values_of}

abbrev TableSeat : Type 0 → Type 0 → Type 0
TableSeat T M = table_seat.Seat (Option T) (SeatView M)

abbrev Seated : Type 0 → Type 0 → Type 0
Seated T M = Me (Option T) (SeatView M)

module _ {T M : Type 0} where
  abbrev IsFresh : TableId → List M → Seat T M → Type 0
  IsFresh table wanted seat = Sits table wanted seat × (claimed_of seat ≡ []) × (placed_of seat ≡ []) × (lifted_of seat ≡ [])

  pub sits_fresh : (table : TableId) (wanted : List M) (place : TableSeat T M) → place.table_id ≡ table → place.me ≡ (seat_view 1 wanted [] [] [] [], []) → IsFresh table wanted (record { place = place })
  sits_fresh table wanted place at is = let nothing : place.me.0.claimed ≡ [] = ap (λ (m : Seated T M). m.0.claimed) is in (
    record {
      same_table = at;
      same_values = ap (λ (m : Seated T M). m.0.wanted) is;
      one = ap (λ (m : Seated T M). m.0.parts) is;
      lifts_none = ap (λ (m : Seated T M). m.0.lifting) is;
      free = λ _. ap (λ (m : Seated T M). m.1) is;
      holding = λ k e. let l = ap length (sym nothing ∙ e) in absurd (omega arith);
    },
    nothing,
    ap (λ (m : Seated T M). m.0.placed) is,
    ap (λ (m : Seated T M). m.0.lifted) is,
  )

  pub one_seat_more : (table : TableId) (wanted : List M) (seats longer : List (Seat T M)) (place : TableSeat T M) → longer ≡ seats ++ record { place = place } ∷ []
      → All (IsFresh table wanted) seats → place.table_id ≡ table → place.me ≡ (seat_view 1 wanted [] [] [] [], []) → All (IsFresh table wanted) longer
  one_seat_more table wanted seats longer place is all at fresh =
      let seat : Seat T M = record { place = place } in All-same (IsFresh table wanted) longer (seats ++ seat ∷ []) is (All-push (IsFresh table wanted) seats seat all (sits_fresh table wanted place at fresh))

  pub one_longer : (seats longer : List (Seat T M)) (seat : Seat T M) (n : ℕ) → longer ≡ seats ++ seat ∷ [] → length seats + 1 ≡ n → length longer ≡ n
  one_longer seats longer seat n is was = let l = ap length is ∙ length-append seats (seat ∷ []) in omega arith

  pub cut_again : (me next : Seated T M) (wanted : List M) (a b : ℕ) → a - 1 ≡ b → me ≡ (seat_view a wanted [] [] [] [], []) → next ≡ (left_over me.0, me.1) → next ≡ (seat_view b wanted [] [] [] [], [])
  cut_again me next wanted a b down was is = is ∙ (ap (λ (m : Seated T M). (left_over m.0, m.1)) was ∙ ap (λ (n : ℕ). (seat_view n wanted [] [] [] [], [])) down)

  pub cut_off : (me new : Seated T M) (wanted : List M) (a : ℕ) → me ≡ (seat_view a wanted [] [] [] [], []) → new ≡ (one_part me.0, []) → new ≡ (seat_view 1 wanted [] [] [] [], [])
  cut_off me new wanted a was is = is ∙ ap (λ (m : Seated T M). (one_part m.0, [])) was

  pub last_left : (me : Seated T M) (wanted : List M) (a b : ℕ) → a ≡ b → me ≡ (seat_view a wanted [] [] [] [], []) → me ≡ (seat_view b wanted [] [] [] [], [])
  last_left me wanted a b same is = is ∙ ap (λ (n : ℕ). (seat_view n wanted [] [] [] [], [])) same

module _ {T M J : Type 0} (value : J → ℕ → M) (count : J → ℕ) where
  -- all seats of a table are new ones of the ring whose key is the job
  pub new_seats : (table : TableId) (key job : J) (seats : List (Seat T M)) → key ≡ job → count job ≤ 2 ^ 60 → All (IsFresh table (values_of (value job) (count job))) seats
      → All (λ s. ((count key ≤ 2 ^ 60) × Sits table (values_of (value key) (count key)) s) × (claimed_of s ≡ []) × (placed_of s ≡ []) × (lifted_of s ≡ [])) seats
  new_seats table key job seats is few all = subst (λ (j : J). All (λ s. ((count j ≤ 2 ^ 60) × Sits table (values_of (value j) (count j)) s) × (claimed_of s ≡ []) × (placed_of s ≡ []) × (lifted_of s ≡ [])) seats) (sym is)
      (λ k d inside. let s = all k d inside in ((few, s.0), s.1, s.2, s.3))

  pub seats_back : (ring : Ring T M J) (seats rest : List (Seat T M)) (seat : Seat T M) → seats ≡ rest ++ seat ∷ [] → All (λ s. IsSeatOf value count ring s × (claimed_of s ≡ [])) seats
      → All (λ s. IsSeatOf value count ring s × (claimed_of s ≡ [])) rest × (IsSeatOf value count ring seat × (claimed_of seat ≡ []))
  seats_back ring seats rest seat cut all = All-pop (λ (s : Seat T M). IsSeatOf value count ring s × (claimed_of s ≡ [])) seats rest (Some seat) cut all
