-- One block more was judged.
use Rattle.std.proofs.Common.{◌≡◌, ℕ, zero, suc, ◌+◌, List, [], ◌∷◌, ◌++◌, length, take, Option, None, Some, false, true, refl, sym, ap, subst, ◌∙◌, arith}
use Rattle.std.specs.Prelude.{All, slice_get}
use Rattle.shb_judging.proofs.Words.{AllByRecursion, AreFound, AreJudged, Block, IsFirstBadBlock, IsGoodBlock, IsLowestFault, IsPairOf, JudgedBlocks, Pair, RaceFault, TraceData, length-map, pair_in, slice_get_within, take-append-le, take_all}
use Rattle.std.specs.Option.{is_some}

-- a list of one element more
at_front : {A : Type 0} (xs ys : List A) (k : ℕ) (x : A) → slice_get xs k ≡ Some x → slice_get (xs ++ ys) k ≡ Some x
at_front [] ys k x at = absurd (let f : ⊥ = cc in f)
at_front (y ∷ xs) ys zero x at = at
at_front (y ∷ xs) ys (suc k) x at = at_front xs ys k x at

at_end : {A : Type 0} (xs : List A) (x : A) → slice_get (xs ++ x ∷ []) (length xs) ≡ Some x
at_end [] x = refl
at_end (y ∷ xs) x = at_end xs x

pub none_bad : {A : Type 0} (o : Option A) → is_some o ≡ false → o ≡ None
none_bad None is = refl
none_bad (Some x) is = absurd (let f : ⊥ = cc in f)

module _ (trace : TraceData) (blocks : List Block) (block : Block) where
  -- the first bad block stays the first
  still_first : (race : ℕ) (why : RaceFault) → IsFirstBadBlock trace blocks race why → IsFirstBadBlock trace (blocks ++ block ∷ []) race why
  still_first race why h =
      let within = slice_get_within blocks h.before h.block h.there in record {
        before = h.before;
        race_is = h.race_is;
        good = subst (AllByRecursion (IsGoodBlock trace)) (sym (take-append-le h.before blocks (block ∷ []) (omega (arith, within)))) h.good;
        block = h.block;
        there = at_front blocks (block ∷ []) h.before h.block h.there;
        fault = h.fault;
      }

  still_found : (pairs : List Pair) (bad : Option RaceFault) → is_some bad ≡ true → AreFound trace blocks pairs bad → AreFound trace (blocks ++ block ∷ []) pairs bad
  still_found pairs None is h = absurd (let f : ⊥ = cc in f)
  still_found pairs (Some why) is h = still_first (length pairs + 1) why h

  pub bad_before : (judged : JudgedBlocks) → is_some judged.bad ≡ true → AreJudged trace blocks judged → AreJudged trace (blocks ++ block ∷ []) judged
  bad_before judged is h = record { pairs_in = h.pairs_in; found = still_found judged.pairs.items judged.bad is h.found }

  -- the first bad block
  pub first_bad : (old new : JudgedBlocks) (why : RaceFault) → old.bad ≡ None → new.pairs.items ≡ old.pairs.items → new.bad ≡ Some why → IsLowestFault trace block why
      → AreJudged trace blocks old → AreJudged trace (blocks ++ block ∷ []) new
  first_bad old new why none same is fault h =
      let found : AreFound trace blocks old.pairs.items None = subst (AreFound trace blocks old.pairs.items) none h.found in
      let as_many : length old.pairs.items ≡ length blocks = ap (λ (l : List Pair). length l) found.1 ∙ length-map blocks pair_in in
      let front : take (length blocks) (blocks ++ block ∷ []) ≡ blocks = take-append-le (length blocks) blocks (block ∷ []) (omega arith) ∙ take_all (length blocks) blocks (omega arith) in
      let first : IsFirstBadBlock trace (blocks ++ block ∷ []) (length new.pairs.items + 1) why = record {
        before = length blocks;
        race_is = omega (arith, as_many, ap (λ (l : List Pair). length l) same);
        good = subst (AllByRecursion (IsGoodBlock trace)) (sym front) found.0;
        block = block;
        there = at_end blocks block;
        fault = fault;
      } in record {
        pairs_in = subst (All (IsPairOf trace)) (sym same) h.pairs_in;
        found = subst (AreFound trace (blocks ++ block ∷ []) new.pairs.items) (sym is) first;
      }
