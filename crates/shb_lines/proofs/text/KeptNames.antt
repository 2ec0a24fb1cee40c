-- What one name more does to names in one memory.
use Rattle.std.proofs.Common.{◌≡◌, ◌+◌, ◌-◌, ◌≤◌, ◌<◌, ℕ, List, [], ◌∷◌, ◌++◌, length, take, drop, zero, suc, get_or, Some, slice_get, refl, sym, ap, subst, ◌∙◌, arith, append_assoc, length-append, length-drop}
use Rattle.std.proofs.Math.Seq.{drop-append_seam}
use Rattle.std.proofs.lemmas.List.{drop-append-le, take-append-le, take_all}
use Rattle.shb_lines.specs.text.Stored.{AreEnds, names_between, part}

ends_within : (len start : ℕ) (ends : List ℕ) → AreEnds len start ends → start ≤ len
ends_within len start [] h = omega (arith, h)
ends_within len start (end ∷ ends) h = omega (arith, h.0, ends_within len end ends h.1)

pub ends_more : (len more start : ℕ) (ends : List ℕ) → AreEnds len start ends → AreEnds (len + more) start (ends ++ (len + more) ∷ [])
ends_more len more start [] h = (omega (arith, h), refl)
ends_more len more start (end ∷ ends) h = (h.0, ends_more len more end ends h.1)

-- a part that ends within the bytes is that of more bytes
part_more : (bytes more : List ℕ) (start end : ℕ) → start ≤ end → end ≤ length bytes → part (bytes ++ more) start end ≡ part bytes start end
part_more bytes more start end order within =
    ap (take (end - start)) (drop-append-le start bytes more (omega arith)) ∙ take-append-le (end - start) (drop start bytes) more (omega (arith, length-drop start bytes))

pub names_more : (bytes more : List ℕ) (start : ℕ) (ends : List ℕ) → AreEnds (length bytes) start ends → names_between (bytes ++ more) start (ends ++ (length bytes + length more) ∷ []) ≡ names_between bytes start ends ++ more ∷ []
names_more bytes more start [] h =
    let n : ℕ = length bytes + length more in
    ap (λ name. name ∷ []) (ap (λ from. take (n - from) (drop from (bytes ++ more))) h ∙ ap (take (n - length bytes)) (drop-append_seam bytes more) ∙ take_all (n - length bytes) more (omega arith))
names_more bytes more start (end ∷ ends) h = λ i. part_more bytes more start end h.0 (ends_within (length bytes) end ends h.1) i ∷ names_more bytes more end ends h.1 i

pub length-names_between : (bytes : List ℕ) (start : ℕ) (ends : List ℕ) → length (names_between bytes start ends) ≡ length ends
length-names_between bytes start [] = refl
length-names_between bytes start (end ∷ ends) = ap (λ n. suc n) (length-names_between bytes end ends)

-- the name of number k begins where the one before it ends
pub name_between : (bytes : List ℕ) (start : ℕ) (ends : List ℕ) (k d : ℕ) → k < length ends → slice_get (names_between bytes start ends) k ≡ Some (part bytes (get_or (start ∷ ends) k 0) (get_or ends k d))
name_between bytes start [] k d below = absurd (omega arith)
name_between bytes start (end ∷ ends) zero d below = refl
name_between bytes start (end ∷ ends) (suc k) d below = name_between bytes end ends k d (omega arith)

pub ends_order : (len start : ℕ) (ends : List ℕ) (k d : ℕ) → AreEnds len start ends → k < length ends → (get_or (start ∷ ends) k 0 ≤ get_or ends k d) × (get_or ends k d ≤ len)
ends_order len start [] k d h below = absurd (omega arith)
ends_order len start (end ∷ ends) zero d h below = (h.0, ends_within len end ends h.1)
ends_order len start (end ∷ ends) (suc k) d h below = ends_order len end ends k d h.1 (omega arith)

-- one name more, as its bytes and its end are put last
pub appended_names : (bytes ends new_bytes new_ends name : List ℕ) → AreEnds (length bytes) 0 ends → new_bytes ≡ bytes ++ name → new_ends ≡ ends ++ length new_bytes ∷ []
    → names_between new_bytes 0 new_ends ≡ names_between bytes 0 ends ++ name ∷ []
appended_names bytes ends new_bytes new_ends name h longer more =
    let lengths : length new_bytes ≡ length bytes + length name = ap length longer ∙ length-append bytes name in
    let ends_are : new_ends ≡ ends ++ (length bytes + length name) ∷ [] = more ∙ ap (λ n. ends ++ n ∷ []) lengths in
    ap (λ b. names_between b 0 new_ends) longer ∙ ap (λ es. names_between (bytes ++ name) 0 es) ends_are ∙ names_more bytes name 0 ends h

pub appended_ends : (bytes ends new_bytes new_ends name : List ℕ) → AreEnds (length bytes) 0 ends → new_bytes ≡ bytes ++ name → new_ends ≡ ends ++ length new_bytes ∷ [] → AreEnds (length new_bytes) 0 new_ends
appended_ends bytes ends new_bytes new_ends name h longer more =
    let lengths : length new_bytes ≡ length bytes + length name = ap length longer ∙ length-append bytes name in
    let ends_are : new_ends ≡ ends ++ (length bytes + length name) ∷ [] = more ∙ ap (λ n. ends ++ n ∷ []) lengths in
    subst (λ n. AreEnds n 0 new_ends) (sym lengths) (subst (AreEnds (length bytes + length name) 0) (sym ends_are) (ends_more (length bytes) (length name) 0 ends h))
