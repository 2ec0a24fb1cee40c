-- The blocks of a list of races, written part by part.
use Rattle.std.proofs.Common.{◌≡◌, ◌∙◌, ℕ, Global, List, [], ◌++◌, None, Option, Some, Result, IsErrAnd, Vec, ap, map, refl, subst, sym}
use Rattle.shb_write.proofs.Words.{BlockWriter, Event, HasGiven, HasListed, HasStopped, HasWritten, IsNext, ListedRace, MayList, NoMemory, ShownRace, WriteError, given_front, pair_in}
use Rattle.shb_lists.specs.declared.list.Rest.{Rest}
use Rattle.shb_write.specs.declared.errors.WriteError.TheVariants as errors
use Rattle.shb_write.proofs.Listing.{next_may, next_stopped, next_written, then_refused}

-- after a part these are given
pub when_next : (trace : List Event) (races given : List (ℕ × ℕ)) (rest : Rest) (part : Option (Vec ListedRace Global)) (v : Vec ListedRace Global) → part ≡ Some v → (seen : List ListedRace) → seen ≡ v.items → IsNext trace races given rest part
    → HasGiven trace races (given ++ map pair_in seen) rest
when_next trace races given rest None v is seen same next = absurd (let bad : ⊥ = cc in bad)
when_next trace races given rest (Some w) v is seen same next =
    let e : w ≡ v = cc in
    subst (λ (l : List ListedRace). HasGiven trace races (given ++ map pair_in l) rest) (ap (λ (u : Vec ListedRace Global). u.items) e ∙ sym same) next

module _ {K : Type 0} (taken : K → Option (List ℕ)) (failures : K → ℕ) (shown : ℕ × ℕ → ShownRace) (trace : List Event) (start : BlockWriter K) (whole : Rest) where
  -- of the races of a list those that were given are written
  pub record IsListing (rest : Rest) (now : BlockWriter K) : Type 0 where
    pub races : List (ℕ × ℕ)
    pub given : List (ℕ × ℕ)
    pub of_list : HasGiven trace races [] whole
    pub may : MayList failures trace start races
    pub are_given : HasGiven trace races given rest
    pub written : HasWritten taken failures start (map shown given) now

  -- the blocks of all races of the list were written or, on an error, the front of them
  abbrev pub EndsListing : {T : Type 0} → Result T WriteError → BlockWriter K → Type 0
  EndsListing r end = (races : List (ℕ × ℕ)) × HasGiven trace races [] whole × HasListed shown taken failures start races r end

  module _ (rest : Rest) (now : BlockWriter K) (is : IsListing rest now) where
    pub parts_refused : {T : Type 0} (r : Result T WriteError) (refused : NoMemory) → IsErrAnd r (λ e. e ≡ errors.Memory refused) → EndsListing r now
    parts_refused r refused failed =
        let front = given_front trace is.races is.given rest is.are_given in
        (is.races, is.of_list, then_refused taken failures shown start now is.given is.written r refused front.0 is.races front.1 failed)

    -- a part more
    module _ (more : List (ℕ × ℕ)) (after : Rest) (given : HasGiven trace is.races (is.given ++ more) after) where
      front : (tail : List (ℕ × ℕ)) × (is.races ≡ (is.given ++ more) ++ tail)
      front = given_front trace is.races (is.given ++ more) after given

      pub part_may : MayList failures trace now more
      part_may = next_may taken failures shown start now is.given is.written trace more front.0 is.races front.1 is.may

      pub part_written : (end : BlockWriter K) → HasWritten taken failures now (map shown more) end → IsListing after end
      part_written end written = record {
        races = is.races;
        given = is.given ++ more;
        of_list = is.of_list;
        may = is.may;
        are_given = given;
        written = next_written taken failures shown start now is.given is.written end more (is.given ++ more) refl written;
      }

      pub part_stopped : {T : Type 0} (r : Result T WriteError) (error : WriteError) (end : BlockWriter K) → IsErrAnd r (λ e. e ≡ error) → HasStopped taken failures now (map shown more) error end → EndsListing r end
      part_stopped r error end failed stopped = (is.races, is.of_list, next_stopped taken failures shown start now is.given is.written r error end more front.0 is.races front.1 failed stopped)

    -- none is left
    pub parts_done : (after : Rest) (part : Option (Vec ListedRace Global)) → IsNext trace is.races is.given after part → ((v : Vec ListedRace Global) → part ≡ Some v → ⊥) → (races : List (ℕ × ℕ)) × HasGiven trace races [] whole × HasWritten taken failures start (map shown races) now
    parts_done after None next none = (is.races, is.of_list, subst (λ (l : List (ℕ × ℕ)). HasWritten taken failures start (map shown l) now) next is.written)
    parts_done after (Some v) next none = absurd (none v refl)
