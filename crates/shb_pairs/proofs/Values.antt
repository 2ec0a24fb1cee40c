-- The value of a piece is its own races.
use Rattle.std.proofs.Common.{◌≡◌, ℕ, ◌+◌, ◌-◌, ◌<◌, ◌≤◌, List, length, get_or, drop, arith, subst, ap, sym, ◌∙◌}
use Rattle.std.specs.Prelude.{Contains, AllPairs, flat_map, slice_range}
use Rattle.shb_pairs.proofs.Words.{AreRacesOfPiece, Event, OpenTrace, Piece, Race, accesses_at, accesses_in, get_or-drop, get_or-take, length-drop, length-take-le, listed_accesses, numbers_listed, piece_at, piece_rises, pieces_in, race_contained, race_parts, races_with}
use Rattle.std.proofs.lemmas.List.Kept.{AllPairs-from_increasing}
use Rattle.shb_pairs.specs.Races.{races_at, races_of}
use Rattle.shb_stamps.proofs.FlatMaps.{flat_map_contains, flat_map_parts}
use Rattle.shb_pairs.proofs.PieceRaces.{IsPieceOf, piece_within, listed_open}

part_length : (xs : List ℕ) (from to : ℕ) → from ≤ to → to ≤ length xs → length (slice_range xs from to) ≡ to - from
part_length xs from to le within = let rest = length-drop from xs in length-take-le (to - from) (drop from xs) (omega (arith, rest))

part_item : (xs : List ℕ) (from to k d : ℕ) → k < to - from → get_or (slice_range xs from to) k d ≡ get_or xs (from + k) d
part_item xs from to k d lt = get_or-take (to - from) (drop from xs) k d lt ∙ get_or-drop from xs k d

-- a part of a rising list rises
part_rises : (xs : List ℕ) (from to : ℕ) → from ≤ to → to ≤ length xs → AllPairs (λ (a b : ℕ). a < b) xs → AllPairs (λ (a b : ℕ). a < b) (slice_range xs from to)
part_rises xs from to le within rising = λ a b d before inside.
    let size = part_length xs from to le within in
    let first = part_item xs from to a d (omega (arith, size)) in
    let second = part_item xs from to b d (omega (arith, size)) in
    let rise = rising (from + a) (from + b) d (omega arith) (omega (arith, size)) in
    omega (arith, first, second, rise)

piece_members : (trace : List Event) (ks : List ℕ) (p : ℕ × ℕ) → Contains (flat_map (races_with trace) ks) p → Race trace p.0 p.1 × Contains ks p.1
piece_members trace ks p c =
    let there = flat_map_parts (races_with trace) ks p c in
    let parts = race_parts trace there.0 p there.2 in
    (parts.race, subst (λ (j : ℕ). Contains ks j) (sym parts.later) there.1)

races_of_value : (a : OpenTrace) (p : Piece) → IsPieceOf a.trace a.flags p → AreRacesOfPiece a p (races_of a.trace p)
unfolding races_of
races_of_value a p run = record {
  all = λ i j. (
    (λ c. let h = piece_members a.trace _ (i, j) c in (h.0, subst (λ (ks : List ℕ). Contains ks j) (sym same) h.1)),
    (λ h. flat_map_contains (races_with a.trace) _ j (i, j) (subst (λ (ks : List ℕ). Contains ks j) same h.1) (race_contained a.trace i j h.0)),
  );
  in_order = piece_rises a.trace _ (part_rises (accesses_in a.trace p.variable) p.from p.to run.forward run.within (AllPairs-from_increasing _ (numbers_listed (accesses_at a.trace p.variable) (length a.trace)).rising));
}
  where
    same : slice_range (listed_accesses a p.variable) p.from p.to ≡ slice_range (accesses_in a.trace p.variable) p.from p.to
    same = ap (λ (ks : List ℕ). slice_range ks p.from p.to) (listed_open a p.variable run.listed)

pub value_of_piece : (a : OpenTrace) (k : ℕ) → k < length (pieces_in a) → AreRacesOfPiece a (piece_at (pieces_in a) k) (races_at a k)
unfolding races_at
value_of_piece a k lt = races_of_value a (piece_at (pieces_in a) k) (piece_within a k _ lt)
