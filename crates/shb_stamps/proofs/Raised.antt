-- A clock that is raised to another.
use Rattle.std.proofs.Common.{◌≡◌, ℕ, zero, suc, ◌+◌, ◌<◌, ◌≤◌, inl, inr, List, [], ◌∷◌, ◌++◌, length, get_or, take, arith, refl, sym, subst, ◌∙◌, ap, get_or-set_same, get_or-set_other, ◌-◌, ◌*◌, drop, length-set, length-take}
use Rattle.std.specs.Prelude.{max, replicate}
use Rattle.shb_stamps.proofs.Words.{cases_eq, cases_lt, get_or_past, set, take_all}
use Rattle.shb_stamps.proofs.Fronts.{zero_entry}
use Rattle.shb_stamps.proofs.RowLemmas.{piece_entry}

pub zeros_after : (row : List ℕ) (n t : ℕ) → ◌≡◌ {A = ℕ} (get_or (row ++ replicate n 0) t 0) (get_or row t 0)
zeros_after [] n t = zero_entry n t
zeros_after (x ∷ row) n zero = refl
zeros_after (x ∷ row) n (suc t) = zeros_after row n t

-- a clock of which t entries are raised to those of a piece
pub record IsRaised (old piece now : List ℕ) (t : ℕ) : Type 0 where
  pub long : length now ≡ length old
  pub done : (k : ℕ) → k < t → get_or now k 0 ≡ max (get_or old k 0) (get_or piece k 0)
  pub rest : (k : ℕ) → t ≤ k → get_or now k 0 ≡ get_or old k 0

-- one more
pub raised_more : (old piece now after : List ℕ) (t x : ℕ) → IsRaised old piece now t → t < length old → x ≡ max (get_or now t 0) (get_or piece t 0) → after ≡ set now t x → IsRaised old piece after (t + 1)
raised_more old piece now after t x raised low x_is after_is = record {
  long = ap length after_is ∙ (length-set now t x ∙ raised.long);
  done = done;
  rest = λ k le. entry k ∙ (get_or-set_other now t k x 0 (λ same. omega (arith, le, same)) ∙ raised.rest k (omega (arith, le)));
}
  where
    entry : (k : ℕ) → ◌≡◌ {A = ℕ} (get_or after k 0) (get_or (set now t x) k 0)
    entry k = ap (λ (xs : List ℕ). get_or xs k 0) after_is

    done : (k : ℕ) → k < t + 1 → get_or after k 0 ≡ max (get_or old k 0) (get_or piece k 0)
    done k lt = elim (cases_eq k t) [
      | inl same ↦ (let at = get_or-set_same now t x 0 (let long = raised.long in omega (arith, low, long)) in let own = raised.rest t (omega arith) in let e = entry t in
          subst (λ (m : ℕ). get_or after m 0 ≡ max (get_or old m 0) (get_or piece m 0)) (sym same) (omega (arith, at, own, e, x_is)))
      | inr ne ↦ entry k ∙ (get_or-set_other now t k x 0 ne ∙ raised.done k (omega (arith, lt, ne)))
    ]

-- all of the piece's
pub raised_whole : (old piece now : List ℕ) (t : ℕ) → length piece ≤ t → IsRaised old piece now t → (k : ℕ) → get_or now k 0 ≡ max (get_or old k 0) (get_or piece k 0)
raised_whole old piece now t most raised k = elim (cases_lt k t) [
  | inl low ↦ raised.done k low
  | inr ge ↦ (let own = raised.rest k ge in let none = get_or_past piece k 0 (omega (arith, most, ge)) in omega (arith, own, none))
]

-- a clock whose entries below n are raised to those of a row
pub record IsRaisedTo (old row now : List ℕ) (n : ℕ) : Type 0 where
  pub long : length now ≡ length old
  pub done : (t : ℕ) → t < n → get_or now t 0 ≡ max (get_or old t 0) (get_or row t 0)
  pub rest : (t : ℕ) → n ≤ t → get_or now t 0 ≡ get_or old t 0

pub raised_start : (old row : List ℕ) → IsRaisedTo old row old 0
raised_start old row = record {
  long = refl;
  done = λ t lt. absurd (omega (arith, lt));
  rest = λ t le. refl;
}

-- a piece more
pub raised_piece : (old row now after piece : List ℕ) (k start : ℕ) → IsRaisedTo old row now (64 * k) → start ≡ k * 64 → piece ≡ take 64 (drop (64 * k) row) → length after ≡ length now
    → ((t : ℕ) → t < start → get_or after t 0 ≡ get_or now t 0) → ((t : ℕ) → get_or after (start + t) 0 ≡ max (get_or now (start + t) 0) (get_or piece t 0)) → IsRaisedTo old row after (64 * (k + 1))
raised_piece old row now after piece k start raised start_is piece_is long before above = record {
  long = long ∙ raised.long;
  done = done;
  rest = rest;
}
  where
    -- the entry behind the start by j
    entry : (t : ℕ) → 64 * k ≤ t → get_or after t 0 ≡ max (get_or now t 0) (get_or piece (t - 64 * k) 0)
    entry t le = subst (λ (m : ℕ). get_or after m 0 ≡ max (get_or now m 0) (get_or piece (t - 64 * k) 0)) (omega (arith, le, start_is)) (above (t - 64 * k))

    done : (t : ℕ) → t < 64 * (k + 1) → get_or after t 0 ≡ max (get_or old t 0) (get_or row t 0)
    done t lt = elim (cases_lt t (64 * k)) [
      | inl low ↦ before t (omega (arith, low, start_is)) ∙ raised.done t low
      | inr ge ↦ (let at = entry t ge in let own = raised.rest t ge in
          let same = ap (λ (xs : List ℕ). get_or xs (t - 64 * k) 0) piece_is ∙ piece_entry row k (t - 64 * k) (omega (arith, lt, ge)) in
          let where_it_is : 64 * k + (t - 64 * k) ≡ t = omega (arith, ge) in
          let here = ap (λ (m : ℕ). get_or row m 0) where_it_is in
          omega (arith, at, own, same, here))
    ]

    rest : (t : ℕ) → 64 * (k + 1) ≤ t → get_or after t 0 ≡ get_or old t 0
    rest t le = (let at = entry t (omega (arith, le)) in let own = raised.rest t (omega (arith, le)) in
        let short = ap length piece_is ∙ length-take 64 (drop (64 * k) row) in
        let none = get_or_past piece (t - 64 * k) 0 (omega (arith, le, short)) in
        omega (arith, at, own, none))

-- all pieces
pub raised_all : (old row now : List ℕ) (k n : ℕ) → IsRaisedTo old row now (64 * k) → n ≤ k → length row < 64 * n → (t : ℕ) → get_or now t 0 ≡ max (get_or old t 0) (get_or row t 0)
raised_all old row now k n raised most long t = elim (cases_lt t (64 * k)) [
  | inl low ↦ raised.done t low
  | inr ge ↦ (let own = raised.rest t ge in let none = get_or_past row t 0 (omega (arith, most, ge, long)) in omega (arith, own, none))
]

-- zeros behind a clock change no entry
pub resized : (old new : List ℕ) (size n : ℕ) → length old ≤ size → new ≡ take size old ++ replicate n 0 → (t : ℕ) → get_or new t 0 ≡ get_or old t 0
resized old new size n wide is t = ap (λ (xs : List ℕ). get_or xs t 0) (is ∙ ap (λ (xs : List ℕ). xs ++ replicate n 0) (take_all size old wide)) ∙ zeros_after old n t
