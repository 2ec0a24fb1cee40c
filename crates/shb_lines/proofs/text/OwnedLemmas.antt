-- What a look-up by hashes says of the names.
use Rattle.std.proofs.Common.{◌≡◌, ◌||◌, ◌++◌, ◌∷◌, [], ℕ, Bool, List, Option, None, Some, IfNone, IfSome, true, false, cond, is_some, not, length, nat_eq, slice_get, refl, sym, ap, subst, ◌∙◌, true≢false, arith, length-append}
use Rattle.std.specs.Cmp.{unsigned_Decides}
use Rattle.std.specs.List.{list_any}
use Rattle.std.specs.Str.{bytes_eq}
use Rattle.std.proofs.Math.Seq.{get_or-append_seam}
use Rattle.std.proofs.lemmas.List.Folds.{list_any-append, list_any_at}
use Rattle.std.proofs.lemmas.Option.{get_or_from_slice_get, slice_get-get_or, slice_get_within}
use Rattle.std.proofs.lemmas.Slice.Eq.{bytes_eq-Decides}
use Rattle.indexmap.specs.IndexSet.{insert_key}
use Rattle.shb_lines.specs.declared.hashing.HashKeys.{HashKeys}
use Rattle.shb_lines.specs.text.Hashing.{AreHashed, hash_in}
use Rattle.shb_lines.specs.text.Text.{with_name}

-- a name that is new is put last
pub with_name-new : (names : List (List ℕ)) (name : List ℕ) → list_any (bytes_eq name) names ≡ false → with_name names name ≡ names ++ name ∷ []
with_name-new [] name new = refl
with_name-new (first ∷ names) name new = by (bytes_eq name first) (with_name-new names name) new
  where
    by : (b : Bool) → (list_any (bytes_eq name) names ≡ false → with_name names name ≡ names ++ name ∷ []) → (b || list_any (bytes_eq name) names) ≡ false → cond b (first ∷ names) (first ∷ with_name names name) ≡ first ∷ (names ++ name ∷ [])
    by true rest new = absurd (true≢false new)
    by false rest new = ap (λ names. first ∷ names) (rest new)

-- and has the number after the others
pub name_last : (names : List (List ℕ)) (name : List ℕ) → slice_get (names ++ name ∷ []) (length names) ≡ Some name
name_last names name = slice_get-get_or (names ++ name ∷ []) (length names) [] (omega (arith, length-append names (name ∷ []))) ∙ ap (λ n. Some n) (get_or-append_seam names name [] [])

module _ (keys : HashKeys) (hashes : List ℕ) (names : List (List ℕ)) (name : List ℕ) (all : AreHashed keys hashes names) where
  -- after an insertion the hashes are those of the names with this one more
  pub hashed_more : (more : List ℕ) → more ≡ insert_key nat_eq hashes (hash_in keys name) → AreHashed keys more (names ++ name ∷ [])
  hashed_more more is other among =
      subst (λ known. list_any (nat_eq (hash_in keys other)) known ≡ true) (sym is)
      (by (list_any (nat_eq (hash_in keys name)) hashes) refl (list_any (bytes_eq other) names) (all other) (bytes_eq other name) (λ same. (bytes_eq-Decides other name).0 same) (sym (list_any-append (bytes_eq other) names (name ∷ [])) ∙ among))
    where
      by : (known : Bool) → list_any (nat_eq (hash_in keys name)) hashes ≡ known → (earlier : Bool) → (earlier ≡ true → list_any (nat_eq (hash_in keys other)) hashes ≡ true)
          → (same : Bool) → (same ≡ true → other ≡ name) → (earlier || (same || false)) ≡ true → list_any (nat_eq (hash_in keys other)) (cond known hashes (hashes ++ hash_in keys name ∷ [])) ≡ true
      by true known true before same equal h = before refl
      by true known false before true equal h = ap (λ n. list_any (nat_eq (hash_in keys n)) hashes) (equal refl) ∙ known
      by false known true before same equal h = list_any-append (nat_eq (hash_in keys other)) hashes _ ∙ ap (λ b. b || (nat_eq (hash_in keys other) (hash_in keys name) || false)) (before refl)
      by false known false before true equal h =
          list_any_at (nat_eq (hash_in keys other)) (hashes ++ hash_in keys name ∷ []) (length hashes) 0 (omega (arith, length-append hashes (hash_in keys name ∷ [])))
          ((unsigned_Decides _ _).1 (ap (hash_in keys) (equal refl) ∙ sym (get_or-append_seam hashes (hash_in keys name) [] 0)))
      by _ known false before false equal h = absurd (true≢false (sym h))

  -- a name whose hash is new is new
  pub new_hash : (hash : ℕ) → hash ≡ hash_in keys name → true ≡ not (list_any (nat_eq hash) hashes) → list_any (bytes_eq name) names ≡ false
  new_hash hash is new = by (list_any (bytes_eq name) names) refl
    where
      by : (b : Bool) → list_any (bytes_eq name) names ≡ b → list_any (bytes_eq name) names ≡ false
      by true among = absurd (true≢false (new ∙ ap not (subst (λ h. list_any (nat_eq h) hashes ≡ true) (sym is) (all name among))))
      by false among = among

-- what is found says whether the name is among the names
pub found_any : (names : List (List ℕ)) (name : List ℕ) (found : Option ℕ) → IfSome found (λ number. slice_get names number ≡ Some name) → IfNone found (list_any (bytes_eq name) names ≡ false) → is_some found ≡ list_any (bytes_eq name) names
found_any names name (Some number) some lacks =
    sym (list_any_at (bytes_eq name) names number name (slice_get_within names number name some) (ap (bytes_eq name) (get_or_from_slice_get names number name name some) ∙ (bytes_eq-Decides name name).1 refl))
found_any names name None some lacks = sym lacks
