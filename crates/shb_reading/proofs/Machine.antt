-- The forms determine what a text's lines are, and so which line is the first bad one.
use Rattle.std.proofs.Common.{◌≡◌, Bool, true, false, ℕ, zero, suc, ◌+◌, ◌<◌, List, [], ◌∷◌, ◌++◌, length, codes, get_or, refl, sym, ap, subst, ◌∙◌, arith}
use Rattle.shb_reading.proofs.Words.{CountsForm, End, Form, HasForm, IsBadFrom, Named, PlaceForm, Places, Race, Races, Schedule, Takes, TakesForm, Version, block_forms, place_forms, places_form, version_line}
use Rattle.shb_reading.proofs.Fronts.{same_line, same_ending}

pub versions_differ : codes "shb-report 1" ≡ codes "shb-report 2" → ⊥
versions_differ e = let digits : ◌≡◌ {A = ℕ} 49 50 = ap (λ (l : List ℕ). get_or l 11 0) e in omega arith

same_version : (p q : Bool) → version_line p ≡ version_line q → p ≡ q
same_version true true e = refl
same_version true false e = absurd (versions_differ (sym e))
same_version false true e = absurd (versions_differ e)
same_version false false e = refl

-- a line has a form in one way
pub same_added : (form : Form) (line : List ℕ) (a b : List Form) → HasForm form line a → HasForm form line b → a ≡ b
same_added Version line a b h g = h.2 ∙ ap (λ p. CountsForm ∷ (Races p ∷ [])) (same_version h.0 g.0 (sym h.1 ∙ g.1)) ∙ sym g.2
same_added CountsForm line a b h g = h.3 ∙ sym g.3
same_added (Races p) line a b h g = h.3 ∙ ap (λ n. places_form p ++ block_forms 1 n) (same_ending (codes "races ") h.0 g.0 h.1 g.1 (sym h.2 ∙ g.2)) ∙ sym g.3
same_added Places line a b h g = h.3 ∙ ap (place_forms 1) (same_ending (codes "places ") h.0 g.0 h.1 g.1 (sym h.2 ∙ g.2)) ∙ sym g.3
same_added (PlaceForm number) line a b h g = h.3 ∙ sym g.3
same_added (Race number) line a b h g = h.5 ∙ sym g.5
same_added (Named label) line a b h g = h.3 ∙ sym g.3
same_added Schedule line a b h g = h.4 ∙ sym g.4
same_added End line a b h g = h.1 ∙ sym g.1

-- a text begins with a line of a form in one way
pub same_taken : (form : Form) (bytes l k : List ℕ) (a b : List Form) (r s : List ℕ) → TakesForm form bytes l a r → TakesForm form bytes k b s → (a ≡ b) × (r ≡ s)
same_taken form bytes l k a b r s h g =
    let same = same_line l k r s h.one_line g.one_line (sym h.bytes_are ∙ g.bytes_are) in
    (same_added form l a b h.has_form (subst (λ x. HasForm form x b) (sym same.0) g.has_form), same.1)

-- what is taken after a line that was taken
pub after : (form : Form) (forms : List Form) (bytes line : List ℕ) (added : List Form) (more : List ℕ) (n : ℕ) (left : List Form) (rest : List ℕ) → TakesForm form bytes line added more
    → Takes (form ∷ forms) bytes (suc n) left rest → Takes (added ++ forms) more n left rest
after form forms bytes line added more n left rest h g =
    let same = same_taken form bytes line g.0 added g.1 more g.2 h g.3 in
    subst (λ a. Takes (a ++ forms) more n left rest) (sym same.0) (subst (λ m. Takes (g.1 ++ forms) m n left rest) (sym same.1) g.4)

-- a line that was taken, before the line that is bad
pub bad_later_form : (form : Form) (forms : List Form) (before : ℕ) (bytes line : List ℕ) (added : List Form) (more : List ℕ) (n : ℕ) → TakesForm form bytes line added more
    → IsBadFrom (added ++ forms) (before + 1) more n → IsBadFrom (form ∷ forms) before bytes n
bad_later_form form forms before bytes line added more n h b = record {
  good = suc b.good;
  number = omega (arith, b.number);
  left = b.left;
  rest = b.rest;
  takes = (line, added, more, h, b.takes);
  bad = λ left rest t. b.bad left rest (after form forms bytes line added more (suc b.good) left rest h t);
  unfinished = unfinished;
}
  where
    unfinished : (k : ℕ) → Takes (form ∷ forms) bytes k [] [] → ⊥
    unfinished zero t = let e : (form ∷ forms) ≡ [] = t.0 in cc
    unfinished (suc k) t = b.unfinished k (after form forms bytes line added more k [] [] h t)

-- no line of the form stands next
pub bad_here : (form : Form) (forms : List Form) (before : ℕ) (bytes : List ℕ) → ((line : List ℕ) (added : List Form) (rest : List ℕ) → TakesForm form bytes line added rest → ⊥)
    → IsBadFrom (form ∷ forms) before bytes (before + 1)
bad_here form forms before bytes none_is = record {
  good = 0;
  number = omega arith;
  left = form ∷ forms;
  rest = bytes;
  takes = (refl, refl);
  bad = λ left rest t. none_is t.0 t.1 t.2 t.3;
  unfinished = unfinished;
}
  where
    unfinished : (k : ℕ) → Takes (form ∷ forms) bytes k [] [] → ⊥
    unfinished zero t = let e : (form ∷ forms) ≡ [] = t.0 in cc
    unfinished (suc k) t = none_is t.0 t.1 t.2 t.3

-- bytes stand after the last line
pub bad_after : (before : ℕ) (bytes : List ℕ) → 0 < length bytes → IsBadFrom [] before bytes (before + 1)
bad_after before bytes some = record {
  good = 0;
  number = omega arith;
  left = [];
  rest = bytes;
  takes = (refl, refl);
  bad = λ left rest t. t;
  unfinished = unfinished;
}
  where
    unfinished : (k : ℕ) → Takes [] bytes k [] [] → ⊥
    unfinished zero t = let e : bytes ≡ [] = t.1 in omega (arith, ap length e)
    unfinished (suc k) t = t
