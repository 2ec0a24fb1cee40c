-- The texts of pieces, one after the other.
use Rattle.std.proofs.Common.{◌≡◌, ◌+◌, ◌-◌, ◌<◌, ◌≤◌, ℕ, zero, suc, All, List, [], ◌∷◌, ◌++◌, Global, Vec, Option, ap, append-nil, arith, drop, length, map, refl, subst, sym, take, ◌∙◌}
use Rattle.std.specs.Prelude.{flat_map, slice_index_or, slice_range}
use Rattle.shb_write.proofs.Words.{All-drop, All-take, Appends, AppendsFront, AppendsPrefix, HasText, IsRaceOf, ListedRace, Piece, TraceData, alone, blocks_from, drop-map, flat_map-append, length-drop, length-map, length-take-le, map-append, pair_in, piece_text, take-add, take-append-drop, take-map, take_all, text_of, values_of}
use Rattle.shb_write.proofs.PieceLemmas.{flat_joined, values_taken}
use Rattle.shb_write.proofs.Blocks.{blocks-append, front_after, front_more, front_of}

-- the text of some races and of those after them
pub text-append : (trace : TraceData) (before after : ℕ) (xs ys : List (ℕ × ℕ)) → after ≡ length xs + before → text_of trace before (xs ++ ys) ≡ text_of trace before xs ++ text_of trace after ys
text-append trace before after xs ys is =
    ap (λ l. blocks_from trace (before + 1) l) (map-append alone xs ys)
    ∙ blocks-append trace (before + 1) (after + 1) (map alone xs) (map alone ys) (omega (arith, is, length-map xs alone))

-- one piece more is cut
pub text_more : (trace : TraceData) (before : ℕ) (pieces new : List Piece) (piece : Piece) (races : List ListedRace) (start end : ℕ) → start < end → end ≤ length races
    → flat_map (piece_text trace) pieces ≡ text_of trace before (map pair_in (take start races)) → piece.races.now ≡ slice_range races start end → piece.before ≡ start + before → new ≡ pieces ++ piece ∷ []
    → flat_map (piece_text trace) new ≡ text_of trace before (map pair_in (take end races))
text_more trace before pieces new piece races start end lt within front is number more =
    let e : start + (end - start) ≡ end = omega (arith, lt) in
    let long = length-map (take start races) pair_in ∙ length-take-le start races (omega (arith, lt, within)) in
    ap (flat_map (piece_text trace)) more
    ∙ (flat_map-append (piece_text trace) pieces (piece ∷ [])
    ∙ (ap (λ l. flat_map (piece_text trace) pieces ++ l) (append-nil (piece_text trace piece) ∙ ap (λ l. text_of trace piece.before (map pair_in l)) is)
    ∙ (ap (λ l. l ++ text_of trace piece.before (map pair_in (slice_range races start end))) front
    ∙ (sym (text-append trace before piece.before (map pair_in (take start races)) (map pair_in (slice_range races start end)) (omega (arith, number, long)))
    ∙ (ap (text_of trace before) (sym (map-append pair_in (take start races) (slice_range races start end)))
    ∙ ap (λ l. text_of trace before (map pair_in l)) (sym (take-add start (end - start) races) ∙ ap (λ (n : ℕ). take n races) e))))))

-- a piece has a text where all races have
pub piece_has_text : (trace : TraceData) (before : ℕ) (piece : Piece) (races : List ListedRace) (start end : ℕ) → start < end → end ≤ length races → HasText trace before (map pair_in races) → piece.races.now ≡ slice_range races start end
    → piece.before ≡ start + before → HasText trace piece.before (map pair_in piece.races.now)
piece_has_text trace before piece races start end lt within has is number = record {
  room =
      let long = length-map piece.races.now pair_in ∙ ap length is ∙ length-take-le (end - start) (drop start races) (let rest = length-drop start races in omega (arith, lt, within, rest)) in
      omega (arith, has.room, long, number, length-map races pair_in, lt, within);
  in_range =
      let same : map pair_in piece.races.now ≡ take (end - start) (drop start (map pair_in races)) =
      ap (map pair_in) is ∙ sym (take-map pair_in (end - start) (drop start races)) ∙ ap (take (end - start)) (sym (drop-map pair_in start races)) in
      subst (All (IsRaceOf trace)) (sym same) (All-take (IsRaceOf trace) (end - start) (drop start (map pair_in races)) (All-drop (IsRaceOf trace) start (map pair_in races) has.in_range));
}

abbrev joined : List (List ℕ) → List ℕ
joined texts = flat_map (λ (l : List ℕ). l) texts

module _ (trace : TraceData) (before : ℕ) (races : List ListedRace) (pieces : List Piece) (texts : List (List ℕ)) (given : List (Vec ℕ Global)) (old new : Option (List ℕ)) (made : texts ≡ map (piece_text trace) pieces)
    (are : flat_map (piece_text trace) pieces ≡ text_of trace before (map pair_in races)) where
  -- the texts that came are the first ones
  came : (k : ℕ) → k ≤ length texts → map (λ (text : Vec ℕ Global). text.items) given ≡ values_of (λ i. slice_index_or texts i []) k → flat_map (λ (text : Vec ℕ Global). text.items) given ≡ joined (take k texts)
  came k le first = sym (flat_joined (λ (text : Vec ℕ Global). text.items) given) ∙ ap joined (first ∙ values_taken texts k le)

  whole : joined texts ≡ text_of trace before (map pair_in races)
  whole = ap joined made ∙ flat_joined (piece_text trace) pieces ∙ are

  -- all of them are the blocks of the races
  pub all_came : map (λ (text : Vec ℕ Global). text.items) given ≡ values_of (λ i. slice_index_or texts i []) (length texts) → Appends old new (flat_map (λ (text : Vec ℕ Global). text.items) given)
      → Appends old new (text_of trace before (map pair_in races))
  all_came first has = subst (Appends old new) (came (length texts) (omega arith) first ∙ ap joined (take_all (length texts) texts (omega arith)) ∙ whole) has

  -- the first of them are the front of the blocks
  pub some_came : (k : ℕ) → k ≤ length texts → map (λ (text : Vec ℕ Global). text.items) given ≡ values_of (λ i. slice_index_or texts i []) k → AppendsFront old new (flat_map (λ (text : Vec ℕ Global). text.items) given)
      → AppendsFront old new (text_of trace before (map pair_in races))
  some_came k le first front =
      subst (AppendsFront old new) (sym (flat_map-append (λ (l : List ℕ). l) (take k texts) (drop k texts)) ∙ ap joined (take-append-drop k texts) ∙ whole)
      (front_more old new (joined (take k texts)) (joined (drop k texts)) (subst (AppendsFront old new) (came k le first) front))

-- the texts so far, and then the front of one more
pub text_cut : (a b c : Option (List ℕ)) (given : List (Vec ℕ Global)) (text : Vec ℕ Global) → Appends a b (flat_map (λ (t : Vec ℕ Global). t.items) given) → AppendsPrefix b c text.items
    → AppendsFront a c (flat_map (λ (t : Vec ℕ Global). t.items) (given ++ text ∷ []))
text_cut a b c given text before cut =
    subst (AppendsFront a c) (ap (λ l. flat_map (λ (t : Vec ℕ Global). t.items) given ++ l) (sym (append-nil text.items)) ∙ sym (flat_map-append (λ (t : Vec ℕ Global). t.items) given (text ∷ [])))
    (front_after a b c (flat_map (λ (t : Vec ℕ Global). t.items) given) text.items before (front_of b c text.items cut))
