-- What is counted of parts of a list, one after the other.
use Rattle.std.proofs.Common.{◌≡◌, ℕ, zero, suc, ◌+◌, ◌-◌, ◌*◌, ◌<◌, ◌≤◌, Bool, true, List, [], ◌∷◌, ◌++◌, length, map, take, drop, get_or, refl, arith, ap, sym, subst, ◌∙◌, append-nil}
use Rattle.std.specs.Prelude.{All, AllPairs, flat_map, slice_range}
use Rattle.std.proofs.lemmas.List.{get_or-drop, get_or-map, get_or-take, length-drop, length-map, length-take, map-append, take_all, take_more}
use Rattle.std.proofs.lemmas.List.Concat.{flat_map-append}
use Rattle.std.proofs.lemmas.List.Elements.{All-append, All-drop, All-take}
use Rattle.shb_lines.specs.declared.event.Event.{Event}
use Rattle.shb_lines.specs.declared.event.Pair.{Pair}
use Rattle.shb_stamps.specs.Accesses.{races_with}
use Rattle.shb_stamps.specs.Listed.{ListedTrace, is_listed}
use Rattle.shb_stamps.specs.Open.{is_open}
use Rattle.shb_fan.specs.Values.{values_of}
use Rattle.shb_counts.specs.Accesses.{IsAccess, StandsBefore}
use Rattle.shb_counts.specs.Numbered.{key_in}
use Rattle.shb_counts.specs.Pieces.{CountWork, IsPieceOf, PieceCount, piece_of}
use Rattle.shb_counts.specs.PlaceSums.{AreSums}
use Rattle.shb_counts.specs.Runs.{AreCountable}
use Rattle.shb_counts.specs.Sums.{IsCounted, IsNotAfter, IsPlaceSum, pairs_of, pairs_with, sum_of}
use Rattle.shb_counts.specs.declared.accesses.Access.{Access}
use Rattle.shb_counts.specs.declared.accesses.Accesses.{Accesses}
use Rattle.shb_counts.specs.declared.runs.Counted.{Counted}
use Rattle.shb_counts.specs.declared.sums.PlaceSum.{PlaceSum}
use Rattle.shb_counts.proofs.SliceLemmas.{piece, pieces_all}
use Rattle.shb_counts.proofs.SumLemmas.{sums_append}

pub counted_more : (trace : List Event) (numbers : List ℕ) (list rest : List Access) (before more after : Counted) → after.races.items ≡ before.races.items ++ more.races.items → after.sums.items ≡ before.sums.items ++ more.sums.items
    → IsCounted trace numbers list before → IsCounted trace numbers rest more → IsCounted trace numbers (list ++ rest) after
counted_more trace numbers list rest before more after races sums first second = record {
  races = races ∙ (ap (λ (l : List ℕ). l ++ more.races.items) first.races ∙ (ap (λ (l : List ℕ). map (λ (access : Access). length (races_with trace access.event)) list ++ l) second.races ∙ sym (map-append (λ (access : Access). length (races_with trace access.event)) list rest)));
  sums = record {
    each = subst (All (IsPlaceSum trace numbers)) (sym sums) (All-append (IsPlaceSum trace numbers) before.sums.items more.sums.items first.sums.each second.sums.each);
    are_sums = subst (λ (l : List PlaceSum). AreSums (key_in numbers) (IsNotAfter trace) (pairs_of trace (list ++ rest)) (map sum_of l)) (sym sums)
        (subst (AreSums (key_in numbers) (IsNotAfter trace) (pairs_of trace (list ++ rest))) (sym (map-append sum_of before.sums.items more.sums.items))
        (subst (λ (pairs : List Pair). AreSums (key_in numbers) (IsNotAfter trace) pairs (map sum_of before.sums.items ++ map sum_of more.sums.items)) (sym (flat_map-append (λ (access : Access). pairs_with trace access.event) list rest))
        (sums_append (key_in numbers) (IsNotAfter trace) (pairs_of trace list) (pairs_of trace rest) (map sum_of before.sums.items) (map sum_of more.sums.items) first.sums.are_sums second.sums.are_sums)));
  };
}

-- one piece more
pub piece_more : (trace : List Event) (numbers : List ℕ) (list : List Access) (piece : PieceCount) (counted : Counted) → IsPieceOf trace numbers piece → IsCounted piece.trace piece.numbers piece.list counted → IsCounted trace numbers piece.list counted
piece_more trace numbers list piece counted own h = subst (λ (t : List Event). IsCounted t numbers piece.list counted) own.same_trace (subst (λ (ns : List ℕ). IsCounted piece.trace ns piece.list counted) own.same_numbers h)

-- neighbours of a list stand in its order
pub pairs_within : {X : Type 0} (R : X → X → Type 0) (xs : List X) (from to : ℕ) → AllPairs R xs → AllPairs R (slice_range xs from to)
pairs_within {X} R xs from to h i j d low within =
    let long = length-take (to - from) (drop from xs) in
    let left = length-drop from xs in
    let at : (k : ℕ) → k < to - from → get_or (slice_range xs from to) k d ≡ get_or xs (from + k) d = λ k lt. get_or-take (to - from) (drop from xs) k d lt ∙ get_or-drop from xs k d in
    subst (λ (x : X). R x (get_or (slice_range xs from to) j d)) (sym (at i (omega (arith, long, low, within))))
    (subst (R (get_or xs (from + i) d)) (sym (at j (omega (arith, long, within)))) (h (from + i) (from + j) d (omega (arith, low)) (omega (arith, long, left, within))))

-- and so they may be counted
pub piece_countable : (ordered : ListedTrace) (flags : List Bool) (numbers : List ℕ) (accesses : Accesses) (list : List Access) (from to : ℕ) → AreCountable ordered flags numbers accesses list → AreCountable ordered flags numbers accesses (slice_range list from to)
piece_countable ordered flags numbers accesses list from to h = record {
  kept = h.kept;
  each = All-take (IsAccess ordered.trace numbers) (to - from) (drop from list) (All-drop (IsAccess ordered.trace numbers) from list h.each);
  are_open = All-take (λ (access : Access). is_open flags access.variable ≡ true) (to - from) (drop from list) (All-drop (λ (access : Access). is_open flags access.variable ≡ true) from list h.are_open);
  asked = All-take (λ (access : Access). is_listed ordered.events access.event ≡ true) (to - from) (drop from list) (All-drop (λ (access : Access). is_listed ordered.events access.event ≡ true) from list h.asked);
  in_order = pairs_within StandsBefore list from to h.in_order;
}

-- ---- the values of all pieces

abbrev meaning : PieceCount → List Event × List ℕ × List Access
meaning piece = (piece.trace, piece.numbers, piece.list)

module _ (work : CountWork) where
  abbrev value : ℕ → List Event × List ℕ × List Access
  value k = (work.trace, work.numbers, piece_of work k)

  values_trace : (n : ℕ) → All (λ (v : List Event × List ℕ × List Access). (v.0 ≡ work.trace) × (v.1 ≡ work.numbers)) (values_of value n)
  values_trace zero = λ k d lt. absurd (omega (arith, lt))
  values_trace (suc n) = All-append (λ (v : List Event × List ℕ × List Access). (v.0 ≡ work.trace) × (v.1 ≡ work.numbers)) (values_of value n) (value n ∷ []) (values_trace n) (λ k d lt. one k d lt)
    where
      one : (k : ℕ) (d : List Event × List ℕ × List Access) → k < length (value n ∷ []) → ((get_or (value n ∷ []) k d).0 ≡ work.trace) × ((get_or (value n ∷ []) k d).1 ≡ work.numbers)
      one zero d lt = (refl, refl)
      one (suc k) d lt = absurd (omega (arith, lt))

  values_list : (n : ℕ) → flat_map (λ (v : List Event × List ℕ × List Access). v.2) (values_of value n) ≡ flat_map (λ (l : List Access). l) (values_of (piece_of work) n)
  values_list zero = refl
  values_list (suc n) =
      flat_map-append (λ (v : List Event × List ℕ × List Access). v.2) (values_of value n) (value n ∷ [])
      ∙ (ap (λ (l : List Access). l ++ flat_map (λ (v : List Event × List ℕ × List Access). v.2) (value n ∷ [])) (values_list n)
      ∙ sym (flat_map-append (λ (l : List Access). l) (values_of (piece_of work) n) (piece_of work n ∷ [])))

  list_back : (pieces : List PieceCount) → flat_map (λ (p : PieceCount). p.list) pieces ≡ flat_map (λ (v : List Event × List ℕ × List Access). v.2) (map meaning pieces)
  list_back [] = refl
  list_back (p ∷ pieces) = ap (λ (l : List Access). p.list ++ l) (list_back pieces)

  pub pieces_list : (pieces : List PieceCount) (n : ℕ) → length work.list ≤ work.size * n → map meaning pieces ≡ values_of value n → flat_map (λ (p : PieceCount). p.list) pieces ≡ work.list
  pieces_list pieces n enough are = list_back pieces ∙ (ap (flat_map (λ (v : List Event × List ℕ × List Access). v.2)) are ∙ (values_list n ∙ pieces_all work.size work.list n enough))

  pub pieces_are : (pieces : List PieceCount) (n : ℕ) → map meaning pieces ≡ values_of value n → All (IsPieceOf work.trace work.numbers) pieces
  pieces_are pieces n are k d lt =
      let size = length-map pieces meaning in
      let own = subst (All (λ (v : List Event × List ℕ × List Access). (v.0 ≡ work.trace) × (v.1 ≡ work.numbers))) (sym are) (values_trace n) k (meaning d) (omega (arith, size, lt)) in
      let is : get_or (map meaning pieces) k (meaning d) ≡ meaning (get_or pieces k d) = get_or-map meaning pieces k d (meaning d) lt in
      let both = subst (λ (v : List Event × List ℕ × List Access). (v.0 ≡ work.trace) × (v.1 ≡ work.numbers)) is own in
      record { same_trace = both.0; same_numbers = both.1 }

-- so what is counted of them is counted of the list
pub all_counted : (work : CountWork) (pieces : List PieceCount) (trace : List Event) (numbers : List ℕ) (list : List Access) (counted : Counted) → work.trace ≡ trace → work.numbers ≡ numbers → work.list ≡ list → length list ≤ work.size * work.pieces
    → map meaning pieces ≡ values_of (value work) work.pieces → IsCounted work.trace work.numbers (flat_map (λ (p : PieceCount). p.list) pieces) counted → IsCounted trace numbers list counted
all_counted work pieces trace numbers list counted of_trace of_numbers of_list enough are own =
    let long = ap length of_list in
    subst (λ (t : List Event). IsCounted t numbers list counted) of_trace
    (subst (λ (ns : List ℕ). IsCounted work.trace ns list counted) of_numbers
    (subst (λ (l : List Access). IsCounted work.trace work.numbers l counted) (pieces_list work pieces work.pieces (omega (arith, enough, long)) are ∙ of_list) own))

pub next_piece : (trace : List Event) (numbers : List ℕ) (pieces : List PieceCount) (k : ℕ) (piece : PieceCount) → piece ≡ get_or pieces k piece → k < length pieces → All (IsPieceOf trace numbers) pieces → (counted new : Counted) → IsCounted piece.trace piece.numbers piece.list counted
    → (old : Counted) → ((list rest : List Access) → IsCounted trace numbers list old → IsCounted trace numbers rest counted → IsCounted trace numbers (list ++ rest) new) → IsCounted trace numbers (flat_map (λ (p : PieceCount). p.list) (take k pieces)) old
    → IsCounted trace numbers (flat_map (λ (p : PieceCount). p.list) (take (k + 1) pieces)) new
next_piece trace numbers pieces k piece is within own counted new here old more before =
    let this = subst (IsPieceOf trace numbers) (sym is) (own k piece within) in
    let next : flat_map (λ (p : PieceCount). p.list) (take (k + 1) pieces) ≡ flat_map (λ (p : PieceCount). p.list) (take k pieces) ++ piece.list =
    ap (flat_map (λ (p : PieceCount). p.list)) (take_more pieces k piece within ∙ ap (λ (q : PieceCount). take k pieces ++ q ∷ []) (sym is))
    ∙ (flat_map-append (λ (p : PieceCount). p.list) (take k pieces) (piece ∷ []) ∙ ap (λ (l : List Access). flat_map (λ (p : PieceCount). p.list) (take k pieces) ++ l) (append-nil piece.list)) in
    subst (λ (l : List Access). IsCounted trace numbers l new) (sym next) (more (flat_map (λ (p : PieceCount). p.list) (take k pieces)) piece.list before (piece_more trace numbers piece.list piece counted this here))

-- after the last one
pub all_pieces : (trace : List Event) (numbers : List ℕ) (pieces : List PieceCount) (k : ℕ) (counted : Counted) → length pieces ≤ k → IsCounted trace numbers (flat_map (λ (p : PieceCount). p.list) (take k pieces)) counted → IsCounted trace numbers (flat_map (λ (p : PieceCount). p.list) pieces) counted
all_pieces trace numbers pieces k counted all h = subst (λ (ps : List PieceCount). IsCounted trace numbers (flat_map (λ (p : PieceCount). p.list) ps) counted) (take_all k pieces all) h
