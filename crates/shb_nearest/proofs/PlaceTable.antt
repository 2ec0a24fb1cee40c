-- The table of places, with the races of an access more.
use Rattle.std.proofs.Common.{◌≡◌, ℕ, ◌<◌, ◌≤◌, ◌⊎◌, inl, inr, Bool, true, false, cond, ◌&&◌, List, [], ◌∷◌, ◌++◌, None, Option, Some, arith, refl, sym, ap, subst, ◌∙◌, append_assoc, append-nil}
use Rattle.std.specs.Prelude.{Contains, nat_eq, nat_lt}
use Rattle.shb_nearest.proofs.Words.{Contains-append_left, Contains-push, Contains-push_cases, Decides-and, Decides-eqb, FoundAccess, FoundRace, Place, PlaceEntry, cases_Bool, contains_none, eq-eqb, eqb-true, is_nearer, ltb-false, ltb-true, offered, offered_all, place_of, race_at, race_with, same_place, variable_part}
use Rattle.indexmap.specs.IndexMap.{insert_entry}

abbrev pub place_with : ℕ → ℕ → ℕ → Place
place_with first second variable = record { first = first; second = second; variable = variable }

-- equal places are the same
pub one_place : (x y : Place) → same_place x y ≡ true → x ≡ y
one_place x y is = let h = (Decides-and _ _ (Decides-eqb x.first y.first) (Decides-and _ _ (Decides-eqb x.second y.second) (Decides-eqb x.variable y.variable))).0 is in λ i. place_with (h.0 i) (h.1.0 i) (h.1.1 i)

pub place_same : (x y : Place) → x ≡ y → same_place x y ≡ true
place_same x y is = (Decides-and _ _ (Decides-eqb x.first y.first) (Decides-and _ _ (Decides-eqb x.second y.second) (Decides-eqb x.variable y.variable))).1 (ap (λ (p : Place). p.first) is, (ap (λ (p : Place). p.second) is, ap (λ (p : Place). p.variable) is))

place_other : (x y : Place) → (x ≡ y → ⊥) → same_place x y ≡ false
place_other x y ne = elim (cases_Bool (same_place x y)) [ inl is ↦ absurd (ne (one_place x y is)) | inr is ↦ is ]

places_cases : (x y : Place) → (x ≡ y) ⊎ (x ≡ y → ⊥)
places_cases x y = elim (cases_Bool (same_place x y)) [ inl is ↦ inl (one_place x y is) | inr is ↦ inr (λ same. let t = place_same x y same in (let f : ⊥ = cc in f)) ]

-- what is known of each place after a race is put at one
module _ (place : Place) (race : FoundRace) where
  pub put_at : (entries : List PlaceEntry) (q : Place) → race_at (insert_entry same_place entries place race) q ≡ cond (same_place q place) (Some race) (race_at entries q)
  put_at [] q = refl
  put_at (e ∷ entries) q = by (same_place place e.0) refl (put_at entries q)
    where
      twice : (b : Bool) (o : Option FoundRace) → cond b (Some race) o ≡ cond b (Some race) (cond b (Some e.1) o)
      twice true o = refl
      twice false o = refl

      apart : (b : Bool) → same_place q e.0 ≡ b → same_place place e.0 ≡ false → (rest : Option FoundRace) → rest ≡ cond (same_place q place) (Some race) (race_at entries q) → cond b (Some e.1) rest ≡ cond (same_place q place) (Some race) (cond b (Some e.1) (race_at entries q))
      apart true is other rest ih = sym (ap (λ (b : Bool). cond b (Some race) (Some e.1)) (place_other q place (λ same. let t = place_same place e.0 (sym same ∙ one_place q e.0 is) in (let f : ⊥ = cc in f))))
      apart false is other rest ih = ih

      by : (b : Bool) → same_place place e.0 ≡ b → race_at (insert_entry same_place entries place race) q ≡ cond (same_place q place) (Some race) (race_at entries q)
          → race_at (cond b ((e.0, race) ∷ entries) (e ∷ insert_entry same_place entries place race)) q ≡ cond (same_place q place) (Some race) (cond (same_place q e.0) (Some e.1) (race_at entries q))
      by true is ih = subst (λ (p : Place). cond (same_place q p) (Some race) (race_at entries q) ≡ cond (same_place q place) (Some race) (cond (same_place q p) (Some e.1) (race_at entries q))) (one_place place e.0 is) (twice (same_place q place) (race_at entries q))
      by false is ih = apart (same_place q e.0) refl is (race_at (insert_entry same_place entries place race) q) ih

  pub put_here : (entries : List PlaceEntry) (q : Place) → q ≡ place → race_at (insert_entry same_place entries place race) q ≡ Some race
  put_here entries q same = put_at entries q ∙ ap (λ (b : Bool). cond b (Some race) (race_at entries q)) (place_same q place same)

  pub put_there : (entries : List PlaceEntry) (q : Place) → (q ≡ place → ⊥) → race_at (insert_entry same_place entries place race) q ≡ race_at entries q
  put_there entries q ne = put_at entries q ∙ ap (λ (b : Bool). cond b (Some race) (race_at entries q)) (place_other q place ne)

-- a race that came to its place with the access: the place wasn't known, and of those that were offered for it its earlier access is the greatest
pub record IsCome (by_variable : Bool) (old : List PlaceEntry) (x : ℕ) (second : FoundAccess) (done : List FoundAccess) (place : Place) (race : FoundRace) : Type 0 where
  pub first : FoundAccess
  pub among : Contains done first
  pub race_is : race ≡ race_with x second first
  pub place_is : place ≡ place_of by_variable (race_with x second first)
  pub unknown : race_at old place ≡ None
  pub greatest : (a : FoundAccess) → Contains done a → a.spot.location ≡ first.spot.location → a.event ≤ first.event

-- what was known stays, what came is so, and each place that was offered is known
pub record AreOffered (by_variable : Bool) (old : List PlaceEntry) (x : ℕ) (second : FoundAccess) (done : List FoundAccess) (new : List PlaceEntry) : Type 0 where
  pub stay : (place : Place) (race : FoundRace) → race_at old place ≡ Some race → race_at new place ≡ Some race
  pub from : (place : Place) (race : FoundRace) → race_at new place ≡ Some race → (race_at old place ≡ Some race) ⊎ IsCome by_variable old x second done place race
  pub known : (a : FoundAccess) → Contains done a → (race : FoundRace) × (race_at new (place_of by_variable (race_with x second a)) ≡ Some race)

none_or_some : (o : Option FoundRace) → (o ≡ None) ⊎ ((r : FoundRace) × (o ≡ Some r))
none_or_some None = inl refl
none_or_some (Some r) = inr (r, refl)

some_same : (a b : FoundRace) → Some a ≡ Some b → a ≡ b
some_same a b is = let e : a ≡ b = cc in e

some_none : (o : Option FoundRace) (r : FoundRace) → o ≡ Some r → o ≡ None → ⊥
some_none o r is none = let f : ⊥ = cc in f

module _ (by_variable : Bool) (old : List PlaceEntry) (x : ℕ) (second : FoundAccess) (earlier : (place : Place) (race : FoundRace) → race_at old place ≡ Some race → race.second.event < second.event) where
  start : AreOffered by_variable old x second [] old
  start = record {
    stay = λ p r at. at;
    from = λ p r at. inl at;
    known = λ a there. absurd (contains_none a there);
  }

  module _ (done : List FoundAccess) (entries : List PlaceEntry) (are : AreOffered by_variable old x second done entries) (a : FoundAccess) where
    abbrev own : FoundRace
    own = race_with x second a

    abbrev place_with_first : FoundAccess → Place
    place_with_first b = place_of by_variable (race_with x second b)

    abbrev here : Place
    here = place_of by_variable (race_with x second a)

    locations_same : (b : FoundAccess) → (b.spot.location ≡ a.spot.location) → place_with_first b ≡ here
    locations_same b at = λ i. place_with (at i) second.spot.location (variable_part by_variable x)

    -- one that came before, where the access is not at its location, or not greater
    extended : (p : Place) (r : FoundRace) (come : IsCome by_variable old x second done p r) → (a.spot.location ≡ come.first.spot.location → a.event ≤ come.first.event) → IsCome by_variable old x second (done ++ a ∷ []) p r
    extended p r come less = record {
      first = come.first;
      among = Contains-append_left done (a ∷ []) come.first come.among;
      race_is = come.race_is;
      place_is = come.place_is;
      unknown = come.unknown;
      greatest = λ b there at. elim (Contains-push_cases done a b there) [
        | inl was ↦ come.greatest b was at
        | inr same ↦ (let e = ap (λ (c : FoundAccess). c.event) same in let le = less (ap (λ (c : FoundAccess). c.spot.location) same ∙ at) in omega (arith, e, le))
      ];
    }

    come_here : (p : Place) (r : FoundRace) (come : IsCome by_variable old x second done p r) → a.spot.location ≡ come.first.spot.location → p ≡ here
    come_here p r come at = come.place_is ∙ (λ i. place_with (sym at i) second.spot.location (variable_part by_variable x))

    -- the race comes to its place, which isn't known, or by one that came before with a lesser earlier access
    put_own : (race_at old here ≡ None) → ((b : FoundAccess) → Contains done b → b.spot.location ≡ a.spot.location → b.event ≤ a.event) → AreOffered by_variable old x second (done ++ a ∷ []) (insert_entry same_place entries here own)
    put_own unknown greatest = record {
      stay = λ p r at. elim (places_cases p here) [
        | inl same ↦ absurd (some_none (race_at old here) r (subst (λ (q : Place). race_at old q ≡ Some r) same at) unknown)
        | inr ne ↦ put_there here own entries p ne ∙ are.stay p r at
      ];
      from = λ p r at. elim (places_cases p here) [
        | inl same ↦ inr (record {
          first = a;
          among = Contains-push done a;
          race_is = some_same r own (sym at ∙ put_here here own entries p same);
          place_is = same;
          unknown = subst (λ (q : Place). race_at old q ≡ None) (sym same) unknown;
          greatest = λ b there at_b. elim (Contains-push_cases done a b there) [
            | inl was ↦ greatest b was at_b
            | inr is ↦ (let e = ap (λ (c : FoundAccess). c.event) is in omega (arith, e))
          ];
        })
        | inr ne ↦ elim (are.from p r (sym (put_there here own entries p ne) ∙ at)) [
          | inl in_old ↦ inl in_old
          | inr come ↦ inr (extended p r come (λ at_a. absurd (ne (come_here p r come at_a))))
        ]
      ];
      known = λ b there. elim (places_cases (place_with_first b) here) [
        | inl same ↦ (own, put_here here own entries (place_with_first b) same)
        | inr ne ↦ elim (Contains-push_cases done a b there) [
          | inl was ↦ (let k = are.known b was in (k.0, put_there here own entries (place_with_first b) ne ∙ k.1))
          | inr is ↦ absurd (ne (locations_same b (sym (ap (λ (c : FoundAccess). c.spot.location) is))))
        ]
      ];
    }

    -- the place isn't known
    put_new : race_at entries here ≡ None → AreOffered by_variable old x second (done ++ a ∷ []) (insert_entry same_place entries here own)
    put_new none = put_own (elim (none_or_some (race_at old here)) [ inl is ↦ is | inr some ↦ absurd (some_none (race_at entries here) some.0 (are.stay here some.0 some.1) none) ])
        (λ b was at. absurd (let k = are.known b was in some_none (race_at entries here) k.0 (subst (λ (q : Place). race_at entries q ≡ Some k.0) (locations_same b at) k.1) none))

    module _ (known : FoundRace) (at_here : race_at entries here ≡ Some known) where
      come_then : (r : FoundRace) → race_at old here ≡ Some r → r.second.event < second.event → known.second.event < second.event
      come_then r at lt = subst (λ (k : FoundRace). k.second.event < second.event) (some_same r known (sym (are.stay here r at) ∙ at_here)) lt

      -- known by a race that came before with a lesser earlier access
      put_greater : known.second.event ≡ second.event → known.first.event < a.event → AreOffered by_variable old x second (done ++ a ∷ []) (insert_entry same_place entries here own)
      put_greater same less = put_own
          (elim (none_or_some (race_at old here)) [ inl is ↦ is | inr some ↦ absurd (let lt = come_then some.0 some.1 (earlier here some.0 some.1) in omega (arith, lt, same)) ])
          (λ b was at. elim (are.from here known at_here) [
            | inl in_old ↦ absurd (let lt = earlier here known in_old in omega (arith, lt, same))
            | inr come ↦ (
                let le = come.greatest b was (at ∙ ap (λ (q : Place). q.first) come.place_is) in
                let e = ap (λ (r : FoundRace). r.first.event) come.race_is in
                omega (arith, le, e, less))
          ])

      -- known by a race that is as near
      kept_there : ((known.second.event ≡ second.event) → a.event ≤ known.first.event) → AreOffered by_variable old x second (done ++ a ∷ []) entries
      kept_there near = record {
        stay = are.stay;
        from = λ p r at. elim (are.from p r at) [
          | inl in_old ↦ inl in_old
          | inr come ↦ inr (extended p r come (λ at_a.
              let is = some_same r known (sym (subst (λ (q : Place). race_at entries q ≡ Some r) (come_here p r come at_a) at) ∙ at_here) in
              let le = near (ap (λ (k : FoundRace). k.second.event) (sym is ∙ come.race_is)) in
              let e = ap (λ (k : FoundRace). k.first.event) (sym is ∙ come.race_is) in
              omega (arith, le, e)))
        ];
        known = λ b there. elim (Contains-push_cases done a b there) [
          | inl was ↦ are.known b was
          | inr is ↦ (known, subst (λ (q : Place). race_at entries q ≡ Some known) (sym (locations_same b (sym (ap (λ (c : FoundAccess). c.spot.location) is)))) at_here)
        ];
      }

    more : AreOffered by_variable old x second (done ++ a ∷ []) (offered by_variable entries own)
    more = go (race_at entries here) refl
      where
        by : (known : FoundRace) → race_at entries here ≡ Some known → (b c : Bool) → nat_eq known.second.event second.event ≡ b → nat_lt known.first.event a.event ≡ c → AreOffered by_variable old x second (done ++ a ∷ []) (cond (b && c) (insert_entry same_place entries here own) entries)
        by known at true true same less = put_greater known at (eqb-true known.second.event second.event same) (ltb-true known.first.event a.event less)
        by known at true false same not_less = kept_there known at (λ is. ltb-false known.first.event a.event not_less)
        by known at false c other h = kept_there known at (λ is. absurd (let t = eq-eqb known.second.event second.event is in (let f : ⊥ = cc in f)))

        go : (o : Option FoundRace) → race_at entries here ≡ o → AreOffered by_variable old x second (done ++ a ∷ []) (cond (is_nearer o own) (insert_entry same_place entries here own) entries)
        go None none = put_new none
        go (Some known) at = by known at (nat_eq known.second.event second.event) (nat_lt known.first.event a.event) refl refl

  all_more : (rivals done : List FoundAccess) (entries : List PlaceEntry) → AreOffered by_variable old x second done entries → AreOffered by_variable old x second (done ++ rivals) (offered_all by_variable x second entries rivals)
  all_more [] done entries are = subst (λ (l : List FoundAccess). AreOffered by_variable old x second l entries) (sym (append-nil done)) are
  all_more (a ∷ rivals) done entries are = subst (λ (l : List FoundAccess). AreOffered by_variable old x second l (offered_all by_variable x second (offered by_variable entries (race_with x second a)) rivals)) (append_assoc done (a ∷ []) rivals) (all_more rivals (done ++ a ∷ []) (offered by_variable entries (race_with x second a)) (more done entries are a))

  -- all rivals were offered
  pub offered_are : (rivals : List FoundAccess) → AreOffered by_variable old x second rivals (offered_all by_variable x second old rivals)
  offered_are rivals = all_more rivals [] old start
