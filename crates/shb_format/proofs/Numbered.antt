-- Locations and their numbers.
use Rattle.shb_format.proofs.Words.{IsDistinct, TextKey, bytes_eq, common_steps, get_or_from_slice_get, insert_key, list_any, map-append, slice_get_within}
use Rattle.std.proofs.Common.{◌≡◌, ◌||◌, ◌++◌, ℕ, Bool, true, false, cond, List, [], ◌∷◌, Some, map, slice_get, refl, ap, arith}
use Rattle.std.specs.Cmp.Lexicographic.{nat_list_eq_equiv}
use Rattle.std.proofs.lemmas.Map.Keys.{IsDistinct-push}
use Rattle.std.proofs.lemmas.Map.Views.{list_any-from_Contains}

-- the texts of the locations in a table, by number
abbrev pub locations_in : List TextKey → List (List ℕ)
locations_in known = map (λ location. location.bytes.now) known

abbrev pub same_location : TextKey → TextKey → Bool
same_location x y = bytes_eq x.bytes.now y.bytes.now

any_location : (known : List TextKey) (l : TextKey) → list_any (same_location l) known ≡ list_any (bytes_eq l.bytes.now) (locations_in known)
any_location [] l = refl
any_location (k ∷ known) l = ap (λ (b : Bool). same_location l k || b) (any_location known l)

-- a location is put into a table as its text is put among the texts
pub inserted : (known : List TextKey) (l : TextKey) → locations_in (insert_key same_location known l) ≡ insert_key bytes_eq (locations_in known) l.bytes.now
inserted known l = grind (arith, common_steps, any_location, map-append)

-- different texts stay different
pub still_different : (texts : List (List ℕ)) (text : List ℕ) → IsDistinct bytes_eq texts → IsDistinct bytes_eq (insert_key bytes_eq texts text)
still_different texts text differ = by (list_any (bytes_eq text) texts) refl
  where
    by : (b : Bool) → list_any (bytes_eq text) texts ≡ b → IsDistinct bytes_eq (cond b texts (texts ++ text ∷ []))
    by true is = differ
    by false is = IsDistinct-push nat_list_eq_equiv texts text differ is

-- a location that has a number isn't put
pub known_stay : (texts : List (List ℕ)) (text : List ℕ) (number : ℕ) → slice_get texts number ≡ Some text → insert_key bytes_eq texts text ≡ texts
known_stay texts text number at =
    ap (λ (b : Bool). cond b texts (texts ++ text ∷ []))
    (list_any-from_Contains nat_list_eq_equiv text texts (number, slice_get_within texts number text at, get_or_from_slice_get texts number text text at))
