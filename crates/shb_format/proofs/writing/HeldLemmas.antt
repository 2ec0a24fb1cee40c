-- Text put after what is held back, one piece after another.
use Rattle.std.proofs.Common.{◌≡◌, ◌+◌, ◌<◌, List, [], ◌∷◌, ◌++◌, ℕ, length, get_or, take, drop, Option, Result, Ok, Err, flat_map, IsErrAnd, OnOk, OnErr, sym, ap, ◌∙◌, subst, append_assoc, append-nil, take-append-drop}
use Rattle.shb_format.proofs.Words.{Appends-trans, AppendsPrefix, AppendsPrefix-after, AppendsPrefix-front, HoldsBack, HoldsBack-push, HoldsBack-trans, Puts, flat_map-append, take_more}
use Rattle.std.specs.Io.KnownBytes.{Appends}

-- xs, and then ys
pub HoldsBack-then : (a b c : Option (List ℕ)) (held mid now xs ys : List ℕ) → HoldsBack a b mid (held ++ xs) → HoldsBack b c now (mid ++ ys) → HoldsBack a c now (held ++ (xs ++ ys))
HoldsBack-then a b c held mid now xs ys p q =
    subst (HoldsBack a c now) (append_assoc held xs ys) (HoldsBack-trans a b c (mid ++ ys) now ((held ++ xs) ++ ys) (HoldsBack-push a b mid (held ++ xs) ys p) q)

-- the first bytes of what is held back and xs, where ys were still to come
pub PutsPrefix-front : (a b : Option (List ℕ)) (held xs ys : List ℕ) → AppendsPrefix a b (held ++ xs) → AppendsPrefix a b (held ++ (xs ++ ys))
PutsPrefix-front a b held xs ys p = subst (AppendsPrefix a b) (append_assoc held xs ys) (AppendsPrefix-front a b (held ++ xs) ys p)

-- xs, and then the first bytes of what is held back and ys
pub PutsPrefix-after : (a b c : Option (List ℕ)) (held mid xs ys : List ℕ) → HoldsBack a b mid (held ++ xs) → AppendsPrefix b c (mid ++ ys) → AppendsPrefix a c (held ++ (xs ++ ys))
PutsPrefix-after a b c held mid xs ys p q =
    let pushed = HoldsBack-push a b mid (held ++ xs) ys p in
    let after = AppendsPrefix-after a b c pushed.sent (mid ++ ys) pushed.appended q in
    subst (AppendsPrefix a c) (append_assoc held xs ys) (subst (AppendsPrefix a c) pushed.joined after)

-- xs, and then ys or the first bytes of what is held back and ys
pub Puts-then : {T E : Type 0} (r : Result T E) (a b c : Option (List ℕ)) (held mid now xs ys : List ℕ) → HoldsBack a b mid (held ++ xs) → Puts b c r mid now ys → Puts a c r held now (xs ++ ys)
Puts-then (Ok _) a b c held mid now xs ys p q = HoldsBack-then a b c held mid now xs ys p q
Puts-then (Err _) a b c held mid now xs ys p q = PutsPrefix-after a b c held mid xs ys p q

-- the same text in another form
pub Puts-as : {T E : Type 0} (r : Result T E) (a b : Option (List ℕ)) (held now xs ys : List ℕ) → xs ≡ ys → Puts a b r held now xs → Puts a b r held now ys
Puts-as r a b held now xs ys same p = subst (Puts a b r held now) same p

-- at the exit of a `?`
pub Puts-err : {T E : Type 0} (Q : E → Type 0) (r : Result T E) (a b : Option (List ℕ)) (held now xs : List ℕ) → IsErrAnd r Q → AppendsPrefix a b (held ++ xs) → Puts a b r held now xs
Puts-err Q (Ok _) a b held now xs is p = absurd is
Puts-err Q (Err _) a b held now xs is p = p

-- what is held back is sent, and then bs or the first bytes of bs
pub Puts-sent : {T E : Type 0} (r : Result T E) (a b c : Option (List ℕ)) (held now bs : List ℕ) → Appends a b held → OnOk r (Appends b c bs) → OnErr r (AppendsPrefix b c bs) → now ≡ [] → Puts a c r held now bs
Puts-sent (Ok _) a b c held now bs p ok err none = record { sent = held ++ bs; appended = Appends-trans a b c held bs p ok; joined = ap (λ l. (held ++ bs) ++ l) none ∙ append-nil (held ++ bs) }
Puts-sent (Err _) a b c held now bs p ok err none = AppendsPrefix-after a b c held bs p err

-- a text that is pushed after what is held back
pub pushed_first : (a b : Option (List ℕ)) (held mid now xs : List ℕ) → HoldsBack a b mid held → now ≡ mid ++ xs → HoldsBack a b now (held ++ xs)
pushed_first a b held mid now xs back grown = subst (λ l. HoldsBack a b l (held ++ xs)) (sym grown) (HoldsBack-push a b mid held xs back)

-- one more after it
pub pushed_next : (a b : Option (List ℕ)) (held mid now xs ys : List ℕ) → HoldsBack a b mid (held ++ xs) → now ≡ mid ++ ys → HoldsBack a b now (held ++ (xs ++ ys))
pushed_next a b held mid now xs ys back grown = subst (HoldsBack a b now) (append_assoc held xs ys) (pushed_first a b (held ++ xs) mid now ys back grown)

-- texts of the members of a list, one after another
module _ {X : Type 0} (f : X → List ℕ) (xs : List X) (k : ℕ) (d : X) (within : k < length xs) where
  -- the text of one member more
  pub texts-next : flat_map f (take k xs) ++ f (get_or xs k d) ≡ flat_map f (take (k + 1) xs)
  texts-next =
      ap (λ l. flat_map f (take k xs) ++ l) (sym (append-nil (f (get_or xs k d)))) ∙ sym (flat_map-append f (take k xs) (get_or xs k d ∷ [])) ∙ ap (flat_map f) (sym (take_more xs k d within))

  -- the texts of the first members, of the next one, and of those after it
  pub texts-split : flat_map f (take k xs) ++ (f (get_or xs k d) ++ flat_map f (drop (k + 1) xs)) ≡ flat_map f xs
  texts-split =
      sym (append_assoc (flat_map f (take k xs)) (f (get_or xs k d)) (flat_map f (drop (k + 1) xs)))
      ∙ ap (λ l. l ++ flat_map f (drop (k + 1) xs)) texts-next
      ∙ sym (flat_map-append f (take (k + 1) xs) (drop (k + 1) xs))
      ∙ ap (flat_map f) (take-append-drop (k + 1) xs)

-- three texts, of which the second failed
pub Puts-second_failed : {T E : Type 0} (Q : E → Type 0) (r : Result T E) (a b c : Option (List ℕ)) (held mid now xs ys zs : List ℕ) → IsErrAnd r Q
    → HoldsBack a b mid (held ++ xs) → AppendsPrefix b c (mid ++ ys) → Puts a c r held now (xs ++ (ys ++ zs))
Puts-second_failed Q r a b c held mid now xs ys zs is p q =
    Puts-err Q r a c held now (xs ++ (ys ++ zs)) is (PutsPrefix-after a b c held mid xs (ys ++ zs) p (PutsPrefix-front b c mid ys zs q))

-- three texts, one after another
pub Puts-three : {T E : Type 0} (r : Result T E) (a b c d : Option (List ℕ)) (held one two now xs ys zs : List ℕ)
    → HoldsBack a b one (held ++ xs) → HoldsBack b c two (one ++ ys) → Puts c d r two now zs → Puts a d r held now (xs ++ (ys ++ zs))
Puts-three r a b c d held one two now xs ys zs p q s = Puts-then r a b d held one now xs (ys ++ zs) p (Puts-then r b c d one two now ys zs q s)
