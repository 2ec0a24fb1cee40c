-- Each step of a seat keeps the rule of the ring's table.
use Rattle.std.proofs.Common.{◌≡◌, ◌≢◌, ℕ, ◌+◌, ◌-◌, ◌*◌, ◌/◌, ◌%◌, ◌<◌, ◌≤◌, Bool, eqb, List, [], ◌∷◌, ◌++◌, length, get_or, set, sym, refl, ap, ◌∙◌, subst, ⊎_elim, arith, replicate, Some, None, slice_get, length-set, get_or-set_same, get_or-set_other}
use Rattle.std.proofs.lemmas.List.{length-map, length-replicate}
use Rattle.std.proofs.lemmas.Grind.{get_or-set_at}
use Rattle.std.specs.Prelude.{Option}
use mathlib.Core.Logic.{dite}
use mathlib.Core.Option.{none, some, some-ne-none}
use mathlib.Core.Option as maybe
use native.Mathlib.Decide.{ℕ_discrete, dec_lt}
use prog.Atomic.{either}
use lib.ListN.{get_elem?}
use Rattle.atomic_table.specs.Table.{State, Me, Act, step, keeps, takes, gives, stepped, carried_after, Valid, Allows, Splits, Joins, Final, Seen, opening}
use Rattle.atomic_table.proofs.Lists.{at_set, at_snoc, some_there, set_here, set_else, exchanged}
use Rattle.shb_fan.specs.declared.ring_table.SeatView.{SeatView}
use Rattle.shb_fan.specs.Numbers.{weight, times, total}
use Rattle.shb_fan.specs.Slots.{is_claimed, is_placed, is_lifting, is_lifted, seat_view, Counts, HasNothing, SlotKept, KeepsSlots, left_over, one_part, joined, spent_seat_view, claimed, placed, raised, freed}
use Rattle.shb_fan.proofs.Counts.{weight-most, total-set, total-snoc, total-at, total-whole, times-append, times-snoc}
use Rattle.shb_fan.proofs.Words.{equal_one, unequal_none, equal_from, reached_one, unreached_none, claim_apart, lift_apart, lifted_apart, placed_apart}

times_one : (k : ℕ) → times k (k ∷ []) ≡ 1
times_one k = let e = equal_one k k refl in omega arith

times_other : (x k : ℕ) → x ≢ k → times x (k ∷ []) ≡ 0
times_other x k ne = let e = unequal_none x k ne in omega arith

module _ {M : Type 0} where
  -- a step on the word of piece k
  recount : (f : SeatView M → List ℕ) (is : ℕ → ℕ → Bool) (words : List ℕ) (views : List (SeatView M)) (id : ℕ) (v w : SeatView M) (k new : ℕ) → get_elem? views id ≡ some v → length words ≡ 64
      → Counts f is words views
      → times k (f w) + weight (is (get_or words (k % 64) 0) k) ≡ times k (f v) + weight (is new k)
      → ((x : ℕ) → x ≢ k → times x (f w) ≡ times x (f v))
      → ((x : ℕ) → x ≢ k → x % 64 ≡ k % 64 → weight (is new x) ≡ weight (is (get_or words (k % 64) 0) x))
      → Counts f is (set words (k % 64) new) (set views id w)
  recount f is words views id v w k new at wide counts here others apart x =
      let c = counts x in let s = total-set (λ u. times x (f u)) views id v w at in dite (ℕ_discrete x k)
      (λ e. subst (λ (y : ℕ). total (λ u. times y (f u)) (set views id w) ≡ weight (is (get_or (set words (k % 64) new) (y % 64) 0) y)) (sym e)
      (let c = counts k in let s = total-set (λ u. times k (f u)) views id v w at in
      let now : weight (is (get_or (set words (k % 64) new) (k % 64) 0) k) ≡ weight (is new k) = ap (λ (n : ℕ). weight (is n k)) (get_or-set_same words (k % 64) new 0 (omega arith)) in omega arith))
      (λ ne. let o = others x ne in dite (ℕ_discrete (x % 64) (k % 64))
      (λ same.
      let now : weight (is (get_or (set words (k % 64) new) (x % 64) 0) x) ≡ weight (is new x) = ap (λ (n : ℕ). weight (is n x)) (get_or-set_at words (k % 64) (x % 64) new 0 same (omega arith)) in
      let was : weight (is (get_or words (x % 64) 0) x) ≡ weight (is (get_or words (k % 64) 0) x) = ap (λ (i : ℕ). weight (is (get_or words i 0) x)) same in
      let a = apart x ne same in omega arith)
      (λ off. let now : weight (is (get_or (set words (k % 64) new) (x % 64) 0) x) ≡ weight (is (get_or words (x % 64) 0) x) = ap (λ (n : ℕ). weight (is n x)) (get_or-set_other words (k % 64) (x % 64) new 0 off) in omega arith))

  module _ {T : Type 0} (meaning : T → M) (wanted : List M) where
    abbrev Homes : Type 0
    Homes = List (maybe.Option (Option T))

    abbrev Fits : Homes → ℕ → ℕ → Type 0
    Fits = SlotKept meaning wanted

    -- a step on the word i and its slot
    reslot : (words : List ℕ) (homes homes' : Homes) (i new : ℕ) → i < 64 → length words ≡ 64 → ((j : ℕ) → j < 64 → Fits homes j (get_or words j 0)) → ((j : ℕ) → j ≢ i → get_elem? homes' j ≡ get_elem? homes j) → Fits homes' i new
        → (j : ℕ) → j < 64 → Fits homes' j (get_or (set words i new) j 0)
    reslot words homes homes' i new inside wide all others mine j within = dite (ℕ_discrete j i)
        (λ e. subst (λ (y : ℕ). Fits homes' y (get_or (set words i new) y 0)) (sym e) (subst (Fits homes' i) (sym (get_or-set_same words i new 0 (omega arith))) mine))
        (λ ne. let was = all j within in subst (Fits homes' j) (sym (get_or-set_other words i j new 0 ne)) (record {
          here = was.here;
          empty = λ z. let e = was.empty z in (e.0, others j ne ∙ e.1);
          full = λ z. let e = was.full z in (e.0, others j ne ∙ e.1, e.2);
        }))

    abbrev St : Type 0
    St = State (Option T) (SeatView M)

    abbrev Seated : Type 0
    Seated = Me (Option T) (SeatView M)

    module _ (s : St) (r : KeepsSlots meaning wanted s) (id : ℕ) (v : SeatView M) (at : get_elem? s.views id ≡ some v) (k : ℕ) where
      abbrev found : ℕ
      found = get_or s.words (k % 64) 0

      -- the seat's view changes by a step on the word of piece k and its slot
      moved : (new : ℕ) (w : SeatView M) (homes' : Homes) → length homes' ≡ 64 → ((j : ℕ) → j ≢ k % 64 → get_elem? homes' j ≡ get_elem? s.homes j) → Fits homes' (k % 64) new → w.parts ≡ v.parts → w.wanted ≡ v.wanted → HasNothing w
          → Counts (λ (u : SeatView M). u.claimed) is_claimed (set s.words (k % 64) new) (set s.views id w) → Counts (λ (u : SeatView M). u.placed) is_placed (set s.words (k % 64) new) (set s.views id w) → Counts (λ (u : SeatView M). u.lifting) is_lifting (set s.words (k % 64) new) (set s.views id w) → Counts (λ (u : SeatView M). u.lifted) is_lifted (set s.words (k % 64) new) (set s.views id w)
          → KeepsSlots meaning wanted (record { words = set s.words (k % 64) new; homes = homes'; views = set s.views id w })
      moved new w homes' deep others mine parts values empty claims places_ lifts lifted = record {
        wide = length-set s.words (k % 64) new ∙ r.wide;
        deep = deep;
        slots = reslot s.words s.homes homes' (k % 64) new (omega arith) r.wide r.slots others mine;
        parts = (let t = total-set (λ (u : SeatView M). u.parts) s.views id v w at in let p = r.parts in omega arith);
        claims = claims;
        each_placed = places_;
        lifts = lifts;
        each_lifted = lifted;
        nothing = λ i u e. ⊎_elim
            (λ (t : (i ≡ id) × (w ≡ u)). subst HasNothing t.1 empty)
            (λ (t : (i ≢ id) × (get_elem? s.views i ≡ some u)). r.nothing i u t.1)
            (at_set s.views id i w u e);
        same = λ i u e some_part. ⊎_elim
            (λ (t : (i ≡ id) × (w ≡ u)). let one : u.parts ≡ w.parts = ap (λ (b : SeatView M). b.parts) (sym t.1) in ap (λ (b : SeatView M). b.wanted) (sym t.1) ∙ (values ∙ r.same id v at (omega arith)))
            (λ (t : (i ≢ id) × (get_elem? s.views i ≡ some u)). r.same i u t.1 some_part)
            (at_set s.views id i w u e);
      }

      -- nothing changes
      stays : KeepsSlots meaning wanted (record { words = set s.words (k % 64) found; homes = s.homes; views = set s.views id v })
      stays = let w = r.wide in moved found v s.homes r.deep (λ j ne. refl) (r.slots (k % 64) (omega arith)) refl refl (r.nothing id v at)
          (recount (λ (u : SeatView M). u.claimed) is_claimed s.words s.views id v v k found at r.wide r.claims refl (λ x ne. refl) (λ x ne e. refl))
          (recount (λ (u : SeatView M). u.placed) is_placed s.words s.views id v v k found at r.wide r.each_placed refl (λ x ne. refl) (λ x ne e. refl))
          (recount (λ (u : SeatView M). u.lifting) is_lifting s.words s.views id v v k found at r.wide r.lifts refl (λ x ne. refl) (λ x ne e. refl))
          (recount (λ (u : SeatView M). u.lifted) is_lifted s.words s.views id v v k found at r.wide r.each_lifted refl (λ x ne. refl) (λ x ne e. refl))

      -- a list changes by the piece k alone, as its word does
      abbrev Changes : (SeatView M → List ℕ) → (ℕ → ℕ → Bool) → ℕ → SeatView M → Type 0
      Changes f is new w = (times k (f w) + weight (is found k) ≡ times k (f v) + weight (is new k)) × ((x : ℕ) → x ≢ k → times x (f w) ≡ times x (f v))

      -- the same, where each list changes by the piece k alone, as that word does
      recounted : (new : ℕ) (w : SeatView M) (homes' : Homes) → length homes' ≡ 64 → ((j : ℕ) → j ≢ k % 64 → get_elem? homes' j ≡ get_elem? s.homes j) → Fits homes' (k % 64) new → w.parts ≡ v.parts → w.wanted ≡ v.wanted → HasNothing w
          → found / 4 ≡ k → (new % 4 ≢ 0 → new / 4 ≡ k) → 4 * k ≤ new → new ≤ 4 * k + 256
          → Changes (λ (u : SeatView M). u.claimed) is_claimed new w → Changes (λ (u : SeatView M). u.placed) is_placed new w → Changes (λ (u : SeatView M). u.lifting) is_lifting new w → Changes (λ (u : SeatView M). u.lifted) is_lifted new w
          → KeepsSlots meaning wanted (record { words = set s.words (k % 64) new; homes = homes'; views = set s.views id w })
      recounted new w homes' deep others mine parts values empty was is low high claims places_ lifts lifted = moved new w homes' deep others mine parts values empty
          (recount (λ (u : SeatView M). u.claimed) is_claimed s.words s.views id v w k new at r.wide r.claims claims.0 claims.1 (λ x ne same. claim_apart x k found new ne was is))
          (recount (λ (u : SeatView M). u.placed) is_placed s.words s.views id v w k new at r.wide r.each_placed places_.0 places_.1 (λ x ne same. placed_apart x k found new ne same (omega arith) (omega arith) low high))
          (recount (λ (u : SeatView M). u.lifting) is_lifting s.words s.views id v w k new at r.wide r.lifts lifts.0 lifts.1 (λ x ne same. lift_apart x k found new ne was is))
          (recount (λ (u : SeatView M). u.lifted) is_lifted s.words s.views id v w k new at r.wide r.each_lifted lifted.0 lifted.1 (λ x ne same. lifted_apart x k found new ne same (omega arith) (omega arith) low high))

      others_set : (h : maybe.Option (Option T)) (j : ℕ) → j ≢ k % 64 → get_elem? (set s.homes (k % 64) h) j ≡ get_elem? s.homes j
      others_set h j ne = set_else s.homes (k % 64) j h ne

      gets_claimed : found ≡ 4 * k → v.claimed ≡ [] → KeepsSlots meaning wanted (record { words = set s.words (k % 64) (4 * k + 1); homes = set s.homes (k % 64) none; views = set s.views id (record v { claimed = k ∷ [] }) })
      gets_claimed is free = let none_here : times k v.claimed ≡ 0 = ap (times k) free in let one = times_one k in
          recounted (4 * k + 1) (record v { claimed = k ∷ [] }) (set s.homes (k % 64) none) (length-set s.homes (k % 64) none ∙ r.deep) (others_set none)
          (record { here = ap (λ (n : ℕ). n % 64) (let q : (4 * k + 1) / 4 ≡ k = omega arith in q); empty = λ z. absurd (omega arith); full = λ z. absurd (omega arith) }) refl refl (r.nothing id v at)
          (omega arith) (λ _. omega arith) (omega arith) (omega arith)
          ((let a = unequal_none found (4 * k + 1) (omega arith) in let b = equal_one (4 * k + 1) (4 * k + 1) refl in omega arith), λ x ne. let t = times_other x k ne in let e : times x v.claimed ≡ 0 = ap (times x) free in omega arith)
          ((let a = unreached_none (4 * k + 2) found (omega arith) in let b = unreached_none (4 * k + 2) (4 * k + 1) (omega arith) in omega arith), λ x ne. refl)
          ((let a = unequal_none found (4 * k + 3) (omega arith) in let b = unequal_none (4 * k + 1) (4 * k + 3) (omega arith) in omega arith), λ x ne. refl)
          ((let a = unreached_none (4 * k + 3) found (omega arith) in let b = unreached_none (4 * k + 3) (4 * k + 1) (omega arith) in omega arith), λ x ne. refl)

      -- a seat that has claimed k finds its word so
      finds_claimed : v.claimed ≡ k ∷ [] → found ≡ 4 * k + 1
      finds_claimed mine = let here : times k v.claimed ≡ 1 = ap (times k) mine ∙ times_one k in let c = r.claims k in let least = total-at (λ u. times k u.claimed) s.views id v at in
          equal_from found (4 * k + 1) (omega arith)

      gets_placed : 0 < v.parts → v.claimed ≡ k ∷ [] → (x : T) → slice_get wanted k ≡ Some (meaning x)
          → KeepsSlots meaning wanted (record { words = set s.words (k % 64) (4 * k + 2); homes = set s.homes (k % 64) (some (Some x)); views = set s.views id (record v { claimed = []; placed = v.placed ++ v.claimed }) })
      gets_placed some_part mine x right = let is : found ≡ 4 * k + 1 = finds_claimed mine in let piece : (4 * k + 2) / 4 ≡ k = omega arith in let d = r.deep in
          recounted (4 * k + 2) (record v { claimed = []; placed = v.placed ++ v.claimed }) (set s.homes (k % 64) (some (Some x))) (length-set s.homes (k % 64) (some (Some x)) ∙ r.deep) (others_set (some (Some x)))
          (record {
            here = ap (λ (n : ℕ). n % 64) piece;
            empty = λ z. absurd (omega arith);
            full = λ z. (x, set_here s.homes (k % 64) (some (Some x)) (omega arith), ap (λ (n : ℕ). slice_get wanted n) piece ∙ right);
          }) refl refl (λ e. absurd (omega (arith, e, some_part)))
          (omega arith) (λ _. omega arith) (omega arith) (omega arith)
          ((let here : times k v.claimed ≡ 1 = ap (times k) mine ∙ times_one k in let a = equal_one found (4 * k + 1) is in let b = unequal_none (4 * k + 2) (4 * k + 1) (omega arith) in omega arith), λ x ne. let t : times x v.claimed ≡ 0 = ap (times x) mine ∙ times_other x k ne in omega arith)
          ((let more = times-append k v.placed v.claimed in let one : times k v.claimed ≡ 1 = ap (times k) mine ∙ times_one k in let a = unreached_none (4 * k + 2) found (omega arith) in let b = reached_one (4 * k + 2) (4 * k + 2) (omega arith) in omega arith), λ x ne. let more = times-append x v.placed v.claimed in let t : times x v.claimed ≡ 0 = ap (times x) mine ∙ times_other x k ne in omega arith)
          ((let a = unequal_none found (4 * k + 3) (omega arith) in let b = unequal_none (4 * k + 2) (4 * k + 3) (omega arith) in omega arith), λ x ne. refl)
          ((let a = unreached_none (4 * k + 3) found (omega arith) in let b = unreached_none (4 * k + 3) (4 * k + 2) (omega arith) in omega arith), λ x ne. refl)

      gets_raised : 0 < v.parts → found ≡ 4 * k + 2 → v.lifting ≡ [] → KeepsSlots meaning wanted (record { words = set s.words (k % 64) (4 * k + 3); homes = set s.homes (k % 64) none; views = set s.views id (record v { lifting = k ∷ []; lifted = v.lifted ++ k ∷ [] }) })
      gets_raised some_part is free = let none_here : times k v.lifting ≡ 0 = ap (times k) free in let one = times_one k in
          recounted (4 * k + 3) (record v { lifting = k ∷ []; lifted = v.lifted ++ k ∷ [] }) (set s.homes (k % 64) none) (length-set s.homes (k % 64) none ∙ r.deep) (others_set none)
          (record { here = ap (λ (n : ℕ). n % 64) (let q : (4 * k + 3) / 4 ≡ k = omega arith in q); empty = λ z. absurd (omega arith); full = λ z. absurd (omega arith) }) refl refl (λ e. absurd (omega (arith, e, some_part)))
          (omega arith) (λ _. omega arith) (omega arith) (omega arith)
          ((let a = unequal_none found (4 * k + 1) (omega arith) in let b = unequal_none (4 * k + 3) (4 * k + 1) (omega arith) in omega arith), λ x ne. refl)
          ((let a = reached_one (4 * k + 2) found (omega arith) in let b = reached_one (4 * k + 2) (4 * k + 3) (omega arith) in omega arith), λ x ne. refl)
          ((let a = unequal_none found (4 * k + 3) (omega arith) in let b = equal_one (4 * k + 3) (4 * k + 3) refl in omega arith), λ x ne. let t = times_other x k ne in let e : times x v.lifting ≡ 0 = ap (times x) free in omega arith)
          ((let more = times-snoc k v.lifted k in let e = equal_one k k refl in let a = unreached_none (4 * k + 3) found (omega arith) in let b = reached_one (4 * k + 3) (4 * k + 3) (omega arith) in omega arith), λ x ne. let more = times-snoc x v.lifted k in let e = unequal_none x k ne in omega arith)

      -- a piece whose word isn't that of a lifted one is in no seat's list
      not_lifted : found ≡ 4 * k + 2 → times k v.lifted ≡ 0
      not_lifted is = let c = r.each_lifted k in let least = total-at (λ u. times k u.lifted) s.views id v at in let a = unreached_none (4 * k + 3) found (omega arith) in omega arith

      finds_raised : v.lifting ≡ k ∷ [] → found ≡ 4 * k + 3
      finds_raised mine = let here : times k v.lifting ≡ 1 = ap (times k) mine ∙ times_one k in let c = r.lifts k in let least = total-at (λ u. times k u.lifting) s.views id v at in
          equal_from found (4 * k + 3) (omega arith)

      gets_freed : v.lifting ≡ k ∷ [] → (x : Option T) → KeepsSlots meaning wanted (record { words = set s.words (k % 64) (4 * (k + 64)); homes = set s.homes (k % 64) (some x); views = set s.views id (record v { lifting = [] }) })
      gets_freed mine x = let is : found ≡ 4 * k + 3 = finds_raised mine in let piece : 4 * (k + 64) / 4 ≡ k + 64 = omega arith in let d = r.deep in
          recounted (4 * (k + 64)) (record v { lifting = [] }) (set s.homes (k % 64) (some x)) (length-set s.homes (k % 64) (some x) ∙ r.deep) (others_set (some x))
          (record {
            here = ap (λ (n : ℕ). n % 64) piece ∙ (let turn : (k + 64) % 64 ≡ k % 64 = omega arith in turn);
            empty = λ z. (x, set_here s.homes (k % 64) (some x) (omega arith));
            full = λ z. absurd (omega arith);
          }) refl refl (r.nothing id v at)
          (omega arith) (λ h. absurd (h (omega arith))) (omega arith) (omega arith)
          ((let a = unequal_none found (4 * k + 1) (omega arith) in let b = unequal_none (4 * (k + 64)) (4 * k + 1) (omega arith) in omega arith), λ x ne. refl)
          ((let a = reached_one (4 * k + 2) found (omega arith) in let b = reached_one (4 * k + 2) (4 * (k + 64)) (omega arith) in omega arith), λ x ne. refl)
          ((let here : times k v.lifting ≡ 1 = ap (times k) mine ∙ times_one k in let a = equal_one found (4 * k + 3) is in let b = unequal_none (4 * (k + 64)) (4 * k + 3) (omega arith) in omega arith), λ x ne. let t : times x v.lifting ≡ 0 = ap (times x) mine ∙ times_other x k ne in omega arith)
          ((let a = reached_one (4 * k + 3) found (omega arith) in let b = reached_one (4 * k + 3) (4 * (k + 64)) (omega arith) in omega arith), λ x ne. refl)

    abbrev Holds : St → Type 0
    Holds = KeepsSlots meaning wanted

    -- what `Allows` asks for at the state s, where the word i becomes n
    abbrev Stepped : St → ℕ → ℕ → ℕ → Seated → (Seated → Type 0) → Type 0
    Stepped s i n id me then = (w : SeatView M) × (a : Act (Option T)) × Valid s.homes me.1 a × Holds (stepped s i n id me.1 w a) × then (w, carried_after me.1 a)

    pub claims : (slots id : ℕ) (me : Seated) (k : ℕ) → me.0.claimed ≡ [] → Allows Holds slots id me (k % 64) (λ n. either (eqb n (4 * k)) (4 * k + 1) n) (claimed (step slots (k % 64) (4 * k) (4 * k + 1) none) me)
    claims slots id me k free s r _ at _ = let n = get_or s.words (k % 64) 0 in let piece : k ≡ 4 * k / 4 = omega arith in
        exchanged n (4 * k) (4 * k + 1) (λ (m : ℕ). Stepped s (k % 64) m id me (claimed (step slots (k % 64) (4 * k) (4 * k + 1) none) me n))
        (λ is. let home = (r.slots (k % 64) (omega arith)).empty (omega arith) in (
          record me.0 { claimed = k ∷ [] },
          takes (k % 64) home.0,
          home.1,
          gets_claimed s r id me.0 at k is free,
          ((λ _. (home.0, λ i. (record me.0 { claimed = piece i ∷ [] }, (k % 64, home.0) ∷ me.1))), λ ne. absurd (ne is)),
        ))
        (λ ne. (me.0, keeps, tt, stays s r id me.0 at k, ((λ is. absurd (ne is)), λ _. refl)))

    pub places : (slots id : ℕ) (me : Seated) (k : ℕ) (x : T) (others : List (ℕ × Option T)) → 0 < me.0.parts → me.0.claimed ≡ k ∷ [] → me.1 ≡ (k % 64, Some x) ∷ others → slice_get wanted k ≡ Some (meaning x)
        → Allows Holds slots id me (k % 64) (λ _. 4 * k + 2) (λ _. placed (step slots (k % 64) (4 * k + 2) 0 none) me (4 * k + 2))
    places slots id me k x others some_part mine carried right s r _ at _ = (
      record me.0 { claimed = []; placed = me.0.placed ++ me.0.claimed },
      gives,
      tt,
      subst (λ (c : List (ℕ × Option T)). Holds (stepped s (k % 64) (4 * k + 2) id c (record me.0 { claimed = []; placed = me.0.placed ++ me.0.claimed }) gives)) (sym carried) (gets_placed s r id me.0 at k some_part mine x right),
      refl,
    )

    pub raises : (slots id : ℕ) (me : Seated) (k : ℕ) → 0 < me.0.parts → me.0.lifting ≡ [] → Allows Holds slots id me (k % 64) (λ n. either (eqb n (4 * k + 2)) (4 * k + 2 + 1) n) (raised meaning (step slots (k % 64) (4 * k + 2) (4 * k + 2 + 1) none) me)
    raises slots id me k some_part free s r _ at _ = let n = get_or s.words (k % 64) 0 in let piece : k ≡ (4 * k + 2) / 4 = omega arith in
        exchanged n (4 * k + 2) (4 * k + 2 + 1) (λ (m : ℕ). Stepped s (k % 64) m id me (raised meaning (step slots (k % 64) (4 * k + 2) (4 * k + 2 + 1) none) me n))
        (λ is. let home = (r.slots (k % 64) (omega arith)).full (omega arith) in let here : n / 4 ≡ (4 * k + 2) / 4 = ap (λ (m : ℕ). m / 4) is in (
          record me.0 { lifting = k ∷ []; lifted = me.0.lifted ++ k ∷ [] },
          takes (k % 64) (Some home.0),
          home.1,
          subst (λ (m : ℕ). Holds (stepped s (k % 64) m id me.1 (record me.0 { lifting = k ∷ []; lifted = me.0.lifted ++ k ∷ [] }) (takes (k % 64) (Some home.0)))) (let up : 4 * k + 3 ≡ 4 * k + 2 + 1 = omega arith in up) (gets_raised s r id me.0 at k some_part is free),
          (
            (λ _. (
              home.0,
              (λ i. (record me.0 { lifting = piece i ∷ []; lifted = me.0.lifted ++ piece i ∷ [] }, (k % 64, Some home.0) ∷ me.1)),
              ap (λ (l : List M). slice_get l ((4 * k + 2) / 4)) (r.same id me.0 at some_part) ∙ (ap (λ (m : ℕ). slice_get wanted m) (sym here) ∙ home.2),
              ap (λ (m : ℕ). times m me.0.lifted) (sym piece) ∙ not_lifted s r id me.0 at k is,
            )),
            λ ne. absurd (ne is),
          ),
        ))
        (λ ne. (me.0, keeps, tt, stays s r id me.0 at k, ((λ is. absurd (ne is)), λ _. refl)))

    pub frees : (slots id : ℕ) (me : Seated) (k : ℕ) (x : Option T) (others : List (ℕ × Option T)) → me.0.lifting ≡ k ∷ [] → me.1 ≡ (k % 64, x) ∷ others
        → Allows Holds slots id me (k % 64) (λ _. 4 * (k + 64)) (λ _. freed (step slots (k % 64) (4 * (k + 64)) 0 none) me (4 * (k + 64)))
    frees slots id me k x others mine carried s r _ at _ = (
      record me.0 { lifting = [] },
      gives,
      tt,
      subst (λ (c : List (ℕ × Option T)). Holds (stepped s (k % 64) (4 * (k + 64)) id c (record me.0 { lifting = [] }) gives)) (sym carried) (gets_freed s r id me.0 at k mine x),
      refl,
    )

    pub cuts : (id : ℕ) (v : SeatView M) → 1 < v.parts → Splits Holds id v (left_over v) (one_part v)
    cuts id v more s r at = let w : SeatView M = left_over v in let u : SeatView M = one_part v in let cut = set s.views id w in
        let both : (f : SeatView M → ℕ) → total f (cut ++ u ∷ []) + f v ≡ total f s.views + (f w + f u) =
        (λ f. let a = total-set f s.views id v w at in let b = total-snoc f cut u in omega arith) in record {
          wide = r.wide;
          deep = r.deep;
          slots = r.slots;
          parts = (let b = both (λ (u : SeatView M). u.parts) in let p = r.parts in omega arith);
          claims = λ k. let b = both (λ x. times k x.claimed) in let c = r.claims k in omega arith;
          each_placed = λ k. let b = both (λ x. times k x.placed) in let c = r.each_placed k in omega arith;
          lifts = λ k. let b = both (λ x. times k x.lifting) in let c = r.lifts k in omega arith;
          each_lifted = λ k. let b = both (λ x. times k x.lifted) in let c = r.each_lifted k in omega arith;
          nothing = λ i x e. ⊎_elim
              (λ (t : get_elem? cut i ≡ some x). ⊎_elim
              (λ (h : (i ≡ id) × (w ≡ x)). subst HasNothing h.1 (λ none_left. absurd (let p : v.parts - 1 ≡ 0 = none_left in omega (arith, p, more))))
              (λ (h : (i ≢ id) × (get_elem? s.views i ≡ some x)). r.nothing i x h.1)
              (at_set s.views id i w x t))
              (λ (t : u ≡ x). subst HasNothing t (λ none_left. (refl, refl)))
              (at_snoc cut u x i e);
          same = λ i x e some_part. ⊎_elim
              (λ (t : get_elem? cut i ≡ some x). ⊎_elim
              (λ (h : (i ≡ id) × (w ≡ x)). ap (λ (b : SeatView M). b.wanted) (sym h.1) ∙ r.same id v at (omega arith))
              (λ (h : (i ≢ id) × (get_elem? s.views i ≡ some x)). r.same i x h.1 some_part)
              (at_set s.views id i w x t))
              (λ (t : u ≡ x). ap (λ (b : SeatView M). b.wanted) (sym t) ∙ r.same id v at (omega arith))
              (at_snoc cut u x i e);
        }

    pub merges : (id : ℕ) (v : SeatView M) (other : ℕ) (w : SeatView M) → 0 < v.parts → Joins Holds id v other w (joined v w) spent_seat_view
    merges id v other w some_part s r at apart there = let u : SeatView M = joined v w in let made = set s.views id u in
        let both : (f : SeatView M → ℕ) → total f (set made other spent_seat_view) + (f v + f w) ≡ total f s.views + (f u + f spent_seat_view) =
        (λ f. let a = total-set f s.views id v u at in let b = total-set f made other w spent_seat_view there in omega arith) in record {
          wide = r.wide;
          deep = r.deep;
          slots = r.slots;
          parts = (let b = both (λ (u : SeatView M). u.parts) in let p = r.parts in omega arith);
          claims = λ k. let b = both (λ x. times k x.claimed) in let t = times-append k v.claimed w.claimed in let c = r.claims k in omega arith;
          each_placed = λ k. let b = both (λ x. times k x.placed) in let t = times-append k v.placed w.placed in let c = r.each_placed k in omega arith;
          lifts = λ k. let b = both (λ x. times k x.lifting) in let t = times-append k v.lifting w.lifting in let c = r.lifts k in omega arith;
          each_lifted = λ k. let b = both (λ x. times k x.lifted) in let t = times-append k v.lifted w.lifted in let c = r.each_lifted k in omega arith;
          nothing = λ i x e. ⊎_elim
              (λ (t : (i ≡ other) × (spent_seat_view ≡ x)). subst HasNothing t.1 (λ _. (refl, refl)))
              (λ (t : (i ≢ other) × (get_elem? made i ≡ some x)). ⊎_elim
              (λ (h : (i ≡ id) × (u ≡ x)). subst HasNothing h.1 (λ none_left. absurd (let p : v.parts + w.parts ≡ 0 = none_left in omega (arith, p, some_part))))
              (λ (h : (i ≢ id) × (get_elem? s.views i ≡ some x)). r.nothing i x h.1)
              (at_set s.views id i u x t.1))
              (at_set made other i spent_seat_view x e);
          same = λ i x e some_of. ⊎_elim
              (λ (t : (i ≡ other) × (spent_seat_view ≡ x)). let none_of : x.parts ≡ 0 = ap (λ (b : SeatView M). b.parts) (sym t.1) in absurd (omega arith))
              (λ (t : (i ≢ other) × (get_elem? made i ≡ some x)). ⊎_elim
              (λ (h : (i ≡ id) × (u ≡ x)). ap (λ (b : SeatView M). b.wanted) (sym h.1) ∙ r.same id v at some_part)
              (λ (h : (i ≢ id) × (get_elem? s.views i ≡ some x)). r.same i x h.1 some_of)
              (at_set s.views id i u x t.1))
              (at_set made other i spent_seat_view x e);
        }

    -- the table as it opens
    pub opens : (words : List ℕ) → length words ≡ 64 → ((i : ℕ) → i < 64 → get_or words i 0 ≡ 4 * i) → Holds (opening words (replicate 64 None) (seat_view 65 wanted [] [] [] []))
    opens words wide begins = let empty : List (Option T) = replicate 64 None in record {
      wide = wide;
      deep = length-map empty some ∙ length-replicate {A = Option T} 64 None;
      slots = λ i inside. let b = begins i inside in record {
        here = (let q = begins i inside in omega arith);
        empty = λ _. some_there empty i (let l : length empty ≡ 64 = length-replicate {A = Option T} 64 None in omega arith);
        full = λ z. absurd (omega arith);
      };
      parts = omega arith;
      claims = λ k. let b = begins (k % 64) (omega arith) in let z = unequal_none (get_or words (k % 64) 0) (4 * k + 1) (omega arith) in omega arith;
      each_placed = λ k. let b = begins (k % 64) (omega arith) in let z = unreached_none (4 * k + 2) (get_or words (k % 64) 0) (omega arith) in omega arith;
      lifts = λ k. let b = begins (k % 64) (omega arith) in let z = unequal_none (get_or words (k % 64) 0) (4 * k + 3) (omega arith) in omega arith;
      each_lifted = λ k. let b = begins (k % 64) (omega arith) in let z = unreached_none (4 * k + 3) (get_or words (k % 64) 0) (omega arith) in omega arith;
      nothing = λ i v e. ⊎_elim (λ (t : get_elem? [] i ≡ some v). absurd (some-ne-none v (sym t))) (λ (t : seat_view 65 wanted [] [] [] [] ≡ v). subst HasNothing t (λ _. (refl, refl))) (at_snoc [] (seat_view 65 wanted [] [] [] []) v i e);
      same = λ i v e some_part. ⊎_elim (λ (t : get_elem? [] i ≡ some v). absurd (some-ne-none v (sym t))) (λ (t : seat_view 65 wanted [] [] [] [] ≡ v). ap (λ (b : SeatView M). b.wanted) (sym t)) (at_snoc [] (seat_view 65 wanted [] [] [] []) v i e);
    }

    -- of a seat that stands for all, once the table has come to its end
    module _ (id : ℕ) (v : SeatView M) (ws : List ℕ) (xs : List (Option T)) (f : Final (Seen Holds id v) ws xs) (whole : v.parts ≡ 65) where
      abbrev last : ℕ → ℕ
      last k = get_or f.0.words (k % 64) 0

      all_of : (g : SeatView M → ℕ) → ((u : SeatView M) → (u.placed ≡ []) × (u.lifted ≡ []) → g u ≡ 0) → total g f.0.views ≡ g v
      all_of g none_of = let s = f.0 in let kept = f.1.0 in
          total-whole (λ (u : SeatView M). u.parts) g s.views id v f.1.1 (kept.parts ∙ sym whole) (λ i w e empty. none_of w (kept.nothing i w e empty))

      placed_is : (k : ℕ) → times k v.placed ≡ weight (is_placed (last k) k)
      placed_is k = sym (all_of (λ u. times k u.placed) (λ u empty. ap (times k) empty.0)) ∙ f.1.0.each_placed k

      lifted_is : (k : ℕ) → times k v.lifted ≡ weight (is_lifted (last k) k)
      lifted_is k = sym (all_of (λ u. times k u.lifted) (λ u empty. ap (times k) empty.1)) ∙ f.1.0.each_lifted k

      -- no piece was placed twice
      pub placed_once : (k : ℕ) → times k v.placed ≤ 1
      placed_once k = let is = placed_is k in let most = weight-most (is_placed (last k) k) in omega (arith, is, most)

      -- what was lifted was placed
      pub lifted_placed : (k : ℕ) → times k v.lifted ≤ times k v.placed
      lifted_placed k = let a = placed_is k in let b = lifted_is k in dite (dec_lt (last k) (4 * k + 3))
          (λ l. let z = unreached_none (4 * k + 3) (last k) l in omega (arith, a, b, z))
          (λ l. let y = reached_one (4 * k + 2) (last k) (omega (arith, l)) in let most = weight-most (is_lifted (last k) k) in omega (arith, a, b, y, most))

      -- the piece 64 before one that was placed was lifted
      pub placed_after : (k : ℕ) → times (k + 64) v.placed ≤ times k v.lifted
      placed_after k =
          let turn : (k + 64) % 64 ≡ k % 64 = omega arith in
          let same : last (k + 64) ≡ last k = ap (λ (i : ℕ). get_or f.0.words i 0) turn in
          let a = placed_is (k + 64) ∙ ap (λ (n : ℕ). weight (is_placed n (k + 64))) same in let b = lifted_is k in dite (dec_lt (last k) (4 * (k + 64) + 2))
          (λ l. let z = unreached_none (4 * (k + 64) + 2) (last k) l in omega (arith, a, z))
          (λ l. let y = reached_one (4 * k + 3) (last k) (omega (arith, l)) in let most = weight-most (is_placed (last k) (k + 64)) in omega (arith, a, b, y, most))

      -- no piece was lifted twice
      pub lifted_once : (k : ℕ) → times k v.lifted ≤ 1
      lifted_once k = let is = lifted_is k in let most = weight-most (is_lifted (last k) k) in omega (arith, is, most)
