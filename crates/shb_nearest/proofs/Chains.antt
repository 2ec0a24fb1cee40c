-- The accesses of each variable in the log.
use Rattle.std.proofs.Common.{◌≡◌, ◌≢◌, ◌⊎◌, ℕ, ◌+◌, ◌<◌, ◌≤◌, inl, inr, List, [], ◌∷◌, ◌++◌, Some, length, arith, sym, ap, subst, ◌∙◌}
use Rattle.shb_nearest.proofs.Words.{Accesses, All-contains, AreAccesses, AreLate, AreWaiting, Contains-append_left, Contains-append_right, Entry, Event, Grouped, Groups, HasPut, HasWritten, IsChain, IsEntryAt, IsInstead, IsInsteadOne, IsLate, IsLateIn, IsVariable, Late, Spot, StayWaiting, Variable, Waiting, access_in, append-nil, append_assoc, cases_lt, contains_cases, contains_head, contains_none, contains_tail, get_or, length-append, reverse-append, reverse-reverse, slice_get-get_or, slice_get_within, variable_at}
use Rattle.std.specs.Prelude.{Contains, reverse, slice_get}
use Rattle.shb_nearest.proofs.LateLemmas.{late_push, late_without}
use Rattle.shb_nearest.proofs.Members.{get_before, middle}
use Rattle.shb_nearest.proofs.RivalLemmas.{variable_is}

-- one entry is at a place
pub entry_one : (entries : List Entry) (place : ℕ) (a b : Entry) → IsEntryAt entries place a → IsEntryAt entries place b → a ≡ b
entry_one entries place a b one other =
    let p = one.place_is in
    let q = other.place_is in
    let same : one.index ≡ other.index = omega (arith, p, q) in
    let s : Some a ≡ Some b = sym one.there ∙ (ap (slice_get entries) same ∙ other.there) in cc

member_reverse : (late : List Late) (a : Late) → Contains late a → Contains (reverse late) a
member_reverse [] a there = absurd (contains_none a there)
member_reverse (b ∷ late) a there = subst (λ (l : List Late). Contains l a) (sym (reverse-append (b ∷ []) late)) (elim (contains_cases b a late there) [
  | inl same ↦ Contains-append_right (reverse late) (b ∷ []) a (subst (λ (c : Late). Contains (b ∷ []) c) same (contains_head b []))
  | inr more ↦ Contains-append_left (reverse late) (b ∷ []) a (member_reverse late a more)
])

module _ (old new : List Entry) where
  -- entries at other places stay, and the chain has none there
  pub chain_avoids : (place : ℕ) → ((other : ℕ) (e : Entry) → other ≢ place → IsEntryAt old other e → IsEntryAt new other e) → (from : ℕ) (late : List Late)
      → ((at : ℕ) (e : Entry) → Contains late e.late → at ≤ from → IsEntryAt old at e → at ≢ place) → IsChain old from late → IsChain new from late
  chain_avoids place stay from [] other chain = chain
  chain_avoids place stay from (a ∷ late) other chain =
      let before = chain.0 in
      let lower = chain.2 in (
        before,
        stay from (record { late = a; before = before }) (other from (record { late = a; before = before }) (contains_head a late) (omega arith) chain.1) chain.1,
        lower,
        chain_avoids place stay before late (λ at e there low here. other at e (contains_tail a e.late late there) (omega (arith, low, lower)) here) chain.3,
      )

  -- entries stay
  pub chain_stays : ((other : ℕ) (e : Entry) → IsEntryAt old other e → IsEntryAt new other e) → (from : ℕ) (late : List Late) → IsChain old from late → IsChain new from late
  chain_stays stay from [] chain = chain
  chain_stays stay from (a ∷ late) chain = (chain.0, stay from (record { late = a; before = chain.0 }) chain.1, chain.2, chain_stays stay chain.0 late chain.3)

  -- an entry was written above
  pub chain_below : (place : ℕ) (e : Entry) → HasWritten old new place e → (from : ℕ) (late : List Late) → from < place → IsChain old from late → IsChain new from late
  chain_below place e written from late low chain = chain_avoids place written.others from late (λ at d there le here same. omega (arith, le, low, same)) chain

-- an entry more
pub put_behind : (old : List Entry) (newest : ℕ) (a : Late) (place : ℕ) → place ≡ length old + 1 → HasPut old (old ++ (record { late = a; before = newest }) ∷ []) newest a place
put_behind old newest a place place_is = record { longer = longer; stay = stay }
  where
    e : Entry
    e = record { late = a; before = newest }

    more : (other : ℕ) (d : Entry) → IsEntryAt old other d → IsEntryAt (old ++ e ∷ []) other d
    more other d is = record { index = is.index; place_is = is.place_is; there = get_before old (e ∷ []) is.index d is.there }

    stay : (other : ℕ) (late : List Late) → IsChain old other late → IsChain (old ++ e ∷ []) other late
    stay = chain_stays old (old ++ e ∷ []) more

    low : (late : List Late) → IsChain old newest late → newest < place
    low [] chain = omega (arith, chain, place_is)
    low (b ∷ late) chain = let is = chain.1.place_is in let within = slice_get_within old chain.1.index (record { late = b; before = chain.0 }) chain.1.there in omega (arith, is, within, place_is)

    longer : (late : List Late) → IsChain old newest late → IsChain (old ++ e ∷ []) place (a ∷ late)
    longer late chain = (newest, record { index = length old; place_is = place_is; there = middle old e [] }, low late chain, stay newest late chain)

module _ (trace : List Event) (spots : List Spot) (x : ℕ) where
  -- an access more
  pub late_newer : (n m : ℕ) (late : List Late) (a : Late) → a.event ≡ n → IsLate trace spots x a → AreLate trace spots x n m (reverse late) → AreLate trace spots x (n + 1) m (reverse (a ∷ late))
  late_newer n m late a at_n own are = subst (λ (l : List Late). AreLate trace spots x (n + 1) m l) (sym (reverse-append (a ∷ []) late)) (late_push trace spots x n m (reverse late) a at_n own are)

  -- without one instead of which a later one is enough
  pub late_again : (n m : ℕ) (newer : List Late) (a : Late) (older : List Late) → IsInsteadOne newer a → AreLate trace spots x n m (reverse (newer ++ a ∷ older)) → AreLate trace spots x n m (reverse (newer ++ older))
  late_again n m newer a older instead are = subst (λ (l : List Late). AreLate trace spots x n m l) (sym (reverse-append newer older))
      (late_without trace spots x n m (reverse older) (reverse newer) a instead.0 (subst (λ (l : List Late). AreLate trace spots x n m l) turned are) (member_reverse newer instead.0 instead.1) instead.2)
    where
      turned : reverse (newer ++ a ∷ older) ≡ reverse older ++ a ∷ reverse newer
      turned = reverse-append newer (a ∷ older) ∙ (ap (λ (l : List Late). l ++ reverse newer) (reverse-append (a ∷ []) older) ∙ append_assoc (reverse older) (a ∷ []) (reverse newer))

  -- one that waits is an access of the variable
  pub newest_waits : (n : ℕ) (entries : List Entry) (place : ℕ) (late : List Late) (last : Entry) → IsEntryAt entries place last → IsChain entries place late → AreLate trace spots x n 0 (reverse late) → IsLate trace spots x last.late
  newest_waits n entries place [] last is chain are = absurd (let at = is.place_is in omega (arith, at, chain))
  newest_waits n entries place (g ∷ late) last is chain are = subst (λ (e : Entry). IsLate trace spots x e.late) (entry_one entries place (record { late = g; before = chain.0 }) last chain.1 is)
      (All-contains (IsLateIn trace spots x 0 n) (reverse (g ∷ late)) g are.each (member_reverse (g ∷ late) g (contains_head g late))).own

  -- other variables have no entry at the place of one of this variable
  pub stay_written : (old new : List Entry) (place : ℕ) (gone e : Entry) → IsEntryAt old place gone → IsLate trace spots x gone.late → HasWritten old new place e → StayWaiting trace spots x old new
  stay_written old new place gone e is own written y n from other w = record {
    late = w.late;
    chain = chain_avoids old new place written.others from w.late (λ at d there le here same. (
        let one = entry_one old place d gone (subst (λ (p : ℕ). IsEntryAt old p d) same here) is in
        let of_y = variable_is trace spots y (access_in d.late) (in_chain y n old from w d.late there).own in
        let of_x = subst (λ (l : Late). variable_at trace l.event ≡ Some x) (ap (λ (b : Entry). b.late) (sym one)) (variable_is trace spots x (access_in gone.late) own.own) in
        other (let s : Some y ≡ Some x = sym of_y ∙ of_x in cc))) w.chain;
    are = w.are;
  }
    where
      in_chain : (y n : ℕ) (entries : List Entry) (place : ℕ) (w : AreWaiting trace spots y n entries place) (a : Late) → Contains w.late a → IsLate trace spots y a
      in_chain y n entries place w a there = (All-contains (IsLateIn trace spots y 0 n) (reverse w.late) a w.are.each (member_reverse w.late a there)).own

  -- the newest access was replaced
  pub newest_replaced : (n : ℕ) (old new : List Entry) (place : ℕ) (a : Late) (last : Entry) → a.event ≡ n → IsLate trace spots x a → IsEntryAt old place last → IsInstead a last.late
      → HasWritten old new place (record { late = a; before = last.before }) → (late : List Late) → IsChain old place late → AreLate trace spots x n 0 (reverse late) → AreWaiting trace spots x (n + 1) new place
  newest_replaced n old new place a last at_n own is instead written [] chain are = absurd (let at = is.place_is in omega (arith, at, chain))
  newest_replaced n old new place a last at_n own is instead written (g ∷ late) chain are =
      let one = entry_one old place last (record { late = g; before = chain.0 }) is chain.1 in
      record {
        late = a ∷ late;
        chain = (
          chain.0,
          subst (λ (e : Entry). IsEntryAt new place (record { late = a; before = e.before })) one (written.there last is),
          chain.2,
          chain_below old new place (record { late = a; before = last.before }) written chain.0 late chain.2 chain.3,
        );
        are = late_again (n + 1) 0 (a ∷ []) g late (a, contains_head a [], subst (λ (e : Entry). IsInstead a e.late) one instead)
            (late_newer n 0 (g ∷ late) a at_n own are);
      }

  -- the one before the newest was replaced
  pub second_replaced : (n : ℕ) (old mid new : List Entry) (place : ℕ) (a : Late) (last second : Entry) → a.event ≡ n → IsLate trace spots x a → IsEntryAt old place last → IsEntryAt old last.before second → IsInstead a second.late
      → HasWritten old mid last.before (record { late = last.late; before = second.before }) → HasWritten mid new place (record { late = a; before = last.before })
      → (late : List Late) → IsChain old place late → AreLate trace spots x n 0 (reverse late) → AreWaiting trace spots x (n + 1) new place
  second_replaced n old mid new place a last second at_n own is before instead first then [] chain are = absurd (let at = is.place_is in omega (arith, at, chain))
  second_replaced n old mid new place a last second at_n own is before instead first then (g ∷ []) chain are = absurd (
      let one = ap (λ (e : Entry). e.before) (entry_one old place last (record { late = g; before = chain.0 }) is chain.1) in
      let at = before.place_is in let none = chain.3 in omega (arith, one, at, none))
  second_replaced n old mid new place a last second at_n own is before instead first then (g ∷ h ∷ late) chain are =
      let one = entry_one old place last (record { late = g; before = chain.0 }) is chain.1 in
      let to = ap (λ (e : Entry). e.before) one in
      let rest = chain.3 in
      let two = entry_one old chain.0 second (record { late = h; before = rest.0 }) (subst (λ (p : ℕ). IsEntryAt old p second) to before) rest.1 in
      let lower = chain.2 in
      let lowest = rest.2 in
      let moved : IsEntryAt mid chain.0 (record { late = g; before = rest.0 }) = subst (λ (p : ℕ). IsEntryAt mid p (record { late = g; before = rest.0 })) to
      (subst (λ (e : Entry). IsEntryAt mid last.before (record { late = e.late; before = rest.0 })) one (subst (λ (e : Entry). IsEntryAt mid last.before (record { late = last.late; before = e.before })) two (first.there second before))) in
      let still : IsEntryAt mid place last = first.others place last (λ same. omega (arith, same, to, lower)) is in
      record {
        late = a ∷ g ∷ late;
        chain = (
          chain.0,
          subst (λ (p : ℕ). IsEntryAt new place (record { late = a; before = p })) to (then.there last still),
          lower,
          (
            rest.0,
            then.others chain.0 (record { late = g; before = rest.0 }) (λ same. omega (arith, same, lower)) moved,
            lowest,
            chain_below mid new place (record { late = a; before = last.before }) then rest.0 late (omega (arith, lower, lowest))
                (chain_below old mid last.before (record { late = last.late; before = second.before }) first rest.0 late (omega (arith, lowest, to)) rest.3),
          ),
        );
        are = late_again (n + 1) 0 (a ∷ g ∷ []) h late (a, contains_head a (g ∷ []), subst (λ (e : Entry). IsInstead a e.late) two instead)
            (late_newer n 0 (g ∷ h ∷ late) a at_n own are);
      }

  -- other variables, where the one before the newest was replaced
  pub stay_second : (n : ℕ) (old mid new : List Entry) (place : ℕ) (a : Late) (last second : Entry) → IsEntryAt old place last → IsEntryAt old last.before second
      → HasWritten old mid last.before (record { late = last.late; before = second.before }) → HasWritten mid new place (record { late = a; before = last.before })
      → (late : List Late) → IsChain old place late → AreLate trace spots x n 0 (reverse late) → StayWaiting trace spots x old new
  stay_second n old mid new place a last second is before first then [] chain are = absurd (let at = is.place_is in omega (arith, at, chain))
  stay_second n old mid new place a last second is before first then (g ∷ late) chain are =
      let one = entry_one old place last (record { late = g; before = chain.0 }) is chain.1 in
      let to = ap (λ (e : Entry). e.before) one in
      let lower = chain.2 in
      let still : IsEntryAt mid place last = first.others place last (λ same. omega (arith, same, to, lower)) is in
      let own = newest_waits n old place (g ∷ late) last is chain are in
      let of_second = older_waits n old place (g ∷ late) last second is before chain are in
      λ y k from other w. stay_written mid new place last (record { late = a; before = last.before }) still own then y k from other
      (stay_written old mid last.before second (record { late = last.late; before = second.before }) before of_second first y k from other w)
    where
      older_waits : (n : ℕ) (entries : List Entry) (place : ℕ) (late : List Late) (last second : Entry) → IsEntryAt entries place last → IsEntryAt entries last.before second → IsChain entries place late → AreLate trace spots x n 0 (reverse late) → IsLate trace spots x second.late
      older_waits n entries place [] last second is before chain are = absurd (let at = is.place_is in omega (arith, at, chain))
      older_waits n entries place (g ∷ []) last second is before chain are = absurd (
          let one = ap (λ (e : Entry). e.before) (entry_one entries place last (record { late = g; before = chain.0 }) is chain.1) in
          let at = before.place_is in let none = chain.3 in omega (arith, one, at, none))
      older_waits n entries place (g ∷ h ∷ late) last second is before chain are =
          let to = ap (λ (e : Entry). e.before) (entry_one entries place last (record { late = g; before = chain.0 }) is chain.1) in
          let two = entry_one entries chain.0 (record { late = h; before = chain.3.0 }) second chain.3.1 (subst (λ (p : ℕ). IsEntryAt entries p second) to before) in
          subst (λ (e : Entry). IsLate trace spots x e.late) two
          (All-contains (IsLateIn trace spots x 0 n) (reverse (g ∷ h ∷ late)) h are.each (member_reverse (g ∷ h ∷ late) h (contains_tail g h (h ∷ late) (contains_head h late)))).own

  -- some were gathered, and the others are those from a place back
  pub record AreGathered (n : ℕ) (entries : List Entry) (place : ℕ) (kept : List Late) : Type 0 where
    pub rest : List Late
    pub chain : IsChain entries place rest
    pub are : AreLate trace spots x n 0 (reverse (kept ++ rest))

  pub gathered_more : (n : ℕ) (entries : List Entry) (place to : ℕ) (kept new : List Late) (e : Entry) → IsEntryAt entries place e → (e.before < place → to ≡ e.before)
      → (new ≡ kept ++ e.late ∷ []) ⊎ ((new ≡ kept) × IsInsteadOne kept e.late) → AreGathered n entries place kept → AreGathered n entries to new
  gathered_more n entries place to kept new e is next came h = go h.rest h.chain h.are
    where
      go : (rest : List Late) → IsChain entries place rest → AreLate trace spots x n 0 (reverse (kept ++ rest)) → AreGathered n entries to new
      go [] chain are = absurd (let at = is.place_is in omega (arith, at, chain))
      go (a ∷ rest) chain are =
          let one = entry_one entries place e (record { late = a; before = chain.0 }) is chain.1 in
          let back : e.before ≡ chain.0 = ap (λ (d : Entry). d.before) one in
          let late : e.late ≡ a = ap (λ (d : Entry). d.late) one in
          let lower = chain.2 in
          record {
            rest = rest;
            chain = subst (λ (p : ℕ). IsChain entries p rest) (sym (next (omega (arith, back, lower)) ∙ back)) chain.3;
            are = elim came [
              | inl more ↦ subst (λ (l : List Late). AreLate trace spots x n 0 (reverse l)) (sym (ap (λ (l : List Late). l ++ rest) (more ∙ ap (λ (b : Late). kept ++ b ∷ []) late) ∙ append_assoc kept (a ∷ []) rest)) are
              | inr again ↦ subst (λ (l : List Late). AreLate trace spots x n 0 (reverse (l ++ rest))) (sym again.0) (late_again n 0 kept a rest (subst (λ (b : Late). IsInsteadOne kept b) late again.1) are)
            ];
          }

  pub gathered_all : (n : ℕ) (entries : List Entry) (place : ℕ) (kept : List Late) → ((e : Entry) → IsEntryAt entries place e → ⊥) → AreGathered n entries place kept → AreLate trace spots x n 0 (reverse kept)
  gathered_all n entries place kept none h = go h.rest h.chain h.are
    where
      go : (rest : List Late) → IsChain entries place rest → AreLate trace spots x n 0 (reverse (kept ++ rest)) → AreLate trace spots x n 0 (reverse kept)
      go [] chain are = subst (λ (l : List Late). AreLate trace spots x n 0 (reverse l)) (append-nil kept) are
      go (a ∷ rest) chain are = absurd (none (record { late = a; before = chain.0 }) chain.1)

-- the accesses of variables are in the new log
abbrev pub AreMoved : List Event → List Spot → ℕ → List Entry → List Groups → List Variable → Type 0
AreMoved trace spots n entries groups moved = (x : ℕ) (variable : Variable) → slice_get moved x ≡ Some variable → IsVariable trace spots x n entries groups variable

module _ (trace : List Event) (spots : List Spot) (n : ℕ) (groups : List Groups) where
  pub accesses_stay : (x : ℕ) (old new : List Entry) → ((place : ℕ) (late : List Late) → IsChain old place late → IsChain new place late) → (accesses : Accesses) → AreAccesses trace spots x n old groups accesses → AreAccesses trace spots x n new groups accesses
  accesses_stay x old new stay (Waiting place) w = record { late = w.late; chain = stay place w.late w.chain; are = w.are }
  accesses_stay x old new stay (Grouped at) have = have

  -- one variable more
  pub one_moved : (old new : List Entry) (moved : List Variable) (variable : Variable) → IsVariable trace spots (length moved) n new groups variable
      → ((place : ℕ) (late : List Late) → IsChain old place late → IsChain new place late) → AreMoved trace spots n old groups moved → AreMoved trace spots n new groups (moved ++ variable ∷ [])
  one_moved old new moved variable own stay are x v at = elim (cases_lt x (length moved)) [
    | inl low ↦ (
        let before = slice_get-get_or moved x v low in
        let same : get_or moved x v ≡ v = (let s : Some (get_or moved x v) ≡ Some v = sym (get_before moved (variable ∷ []) x (get_or moved x v) before) ∙ at in cc) in
        let was = are x v (before ∙ ap (λ (d : Variable). Some d) same) in
        record { accesses = accesses_stay x old new stay v.accesses was.accesses; run = was.run; screened = was.screened })
    | inr high ↦ (
        let low = slice_get_within (moved ++ variable ∷ []) x v at in
        let long = length-append moved (variable ∷ []) in
        let last : length moved ≡ x = omega (arith, high, low, long) in
        let same : variable ≡ v = (let s : Some variable ≡ Some v = sym (middle moved variable []) ∙ (ap (slice_get (moved ++ variable ∷ [])) last ∙ at) in cc) in
        subst (λ (k : ℕ). IsVariable trace spots k n new groups v) last (subst (λ (d : Variable). IsVariable trace spots (length moved) n new groups d) same own))
  ]

  -- a variable that has groups
  pub grouped_own : (x : ℕ) (old new : List Entry) (variable : Variable) (at : ℕ) → variable.accesses ≡ Grouped at → IsVariable trace spots x n old groups variable → IsVariable trace spots x n new groups variable
  grouped_own x old new variable at is was = record {
    accesses = subst (λ (a : Accesses). AreAccesses trace spots x n new groups a) (sym is) (subst (λ (a : Accesses). AreAccesses trace spots x n old groups a) is was.accesses);
    run = was.run;
    screened = was.screened;
  }

  -- one whose accesses wait
  pub waiting_own : (x : ℕ) (old new : List Entry) (variable : Variable) (newest place : ℕ) (late : List Late) → variable.accesses ≡ Waiting newest → (AreWaiting trace spots x n old newest → AreLate trace spots x n 0 late) → IsChain new place (reverse late)
      → IsVariable trace spots x n old groups variable → IsVariable trace spots x n new groups (record { accesses = Waiting place; run = variable.run; latest = variable.latest })
  waiting_own x old new variable newest place late is gathered chain was = record {
    accesses = record { late = reverse late; chain = chain; are = subst (λ (l : List Late). AreLate trace spots x n 0 l) (sym (reverse-reverse late)) (gathered (subst (λ (a : Accesses). AreAccesses trace spots x n old groups a) is was.accesses)) };
    run = was.run;
    screened = was.screened;
  }
