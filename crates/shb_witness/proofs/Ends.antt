-- The events of pairs.
use Rattle.std.proofs.Common.{◌≡◌, ℕ, suc, ◌+◌, ◌<◌, ◌↔◌, arith, inl, inr, List, [], ◌∷◌, ◌++◌, length, get_or, take, ap, sym, subst, ◌∙◌}
use Rattle.std.specs.Prelude.{All, Contains}
use Rattle.shb_witness.proofs.Words.{All-contains, AreRaces, AsksEach, Contains-append_cases, Contains-append_left, Contains-append_right, Contains-get_or, Event, Pair, Race, append_assoc, contains_cases, contains_head, contains_none, contains_tail, ends_of, flat_map_more, take_more}
use Rattle.shb_stamps.specs.Listed.{is_listed}
use Rattle.shb_stamps.proofs.ListedLemmas.{contains_listed}
use Rattle.shb_witness.proofs.Printed.{race_ends}

-- the two events of one pair
abbrev pub two : Pair → List ℕ
two p = p.first ∷ p.second ∷ []

-- the events of one pair more
pub ends_more : (pairs : List Pair) (k : ℕ) (d : Pair) (before one both : List ℕ) → k < length pairs → before ≡ ends_of (take k pairs) → one ≡ before ++ (get_or pairs k d).first ∷ [] → both ≡ one ++ (get_or pairs k d).second ∷ [] → both ≡ ends_of (take (k + 1) pairs)
ends_more pairs k d before one both lt has first second =
    let pair : Pair = get_or pairs k d in
    second
    ∙ ap (λ (xs : List ℕ). xs ++ pair.second ∷ []) first
    ∙ append_assoc before (pair.first ∷ []) (pair.second ∷ [])
    ∙ ap (λ (xs : List ℕ). xs ++ two pair) has
    ∙ flat_map_more two [] (take k pairs) pair
    ∙ ap ends_of (sym (take_more pairs k d lt))

-- both events of a pair of the list are among them
pub both_ends : (pairs : List Pair) (p : Pair) → Contains pairs p → Contains (ends_of pairs) p.first × Contains (ends_of pairs) p.second
both_ends [] p h = absurd (contains_none p h)
both_ends (q ∷ pairs) p h = elim (contains_cases q p pairs h) [
  | inl is ↦ subst (λ (r : Pair). Contains (ends_of (q ∷ pairs)) r.first × Contains (ends_of (q ∷ pairs)) r.second) is (
    Contains-append_left (two q) (ends_of pairs) q.first (contains_head q.first (q.second ∷ [])),
    Contains-append_left (two q) (ends_of pairs) q.second (contains_tail q.first q.second (q.second ∷ []) (contains_head q.second [])),
  )
  | inr there ↦ (let rest = both_ends pairs p there in (
    Contains-append_right (two q) (ends_of pairs) p.first rest.0,
    Contains-append_right (two q) (ends_of pairs) p.second rest.1,
  ))
]

-- an order that is asked about these events can be asked about each of the pairs
pub asks_ends : (events : List ℕ) (pairs : List Pair) → ((e : ℕ) → Contains (ends_of pairs) e → Contains events e) → AsksEach (is_listed events) pairs
asks_ends events pairs among k d lt =
    let both = both_ends pairs (get_or pairs k d) (Contains-get_or pairs k d lt) in (
      contains_listed events _ (among _ both.0),
      contains_listed events _ (among _ both.1),
    )

-- the events of races are events of the trace
pub ends_within : (trace : List Event) (pairs : List Pair) → AreRaces trace pairs → (e : ℕ) → Contains (ends_of pairs) e → e < length trace
ends_within trace [] races e h = absurd (contains_none e h)
ends_within trace (q ∷ pairs) races e h =
    let ends = race_ends trace q.first q.second (All-contains (λ (p : Pair). Race trace p.first p.second) (q ∷ pairs) q races (contains_head q pairs)) in
    elim (Contains-append_cases (two q) (ends_of pairs) e h) [
      | inl own ↦ elim (contains_cases q.first e (q.second ∷ []) own) [
        | inl is ↦ subst (λ (m : ℕ). m < length trace) is ends.0
        | inr rest ↦ elim (contains_cases q.second e [] rest) [
          | inl is ↦ subst (λ (m : ℕ). m < length trace) is ends.1
          | inr nothing ↦ absurd (contains_none e nothing)
        ]
      ]
      | inr there ↦ ends_within trace pairs (λ k d lt. races (suc k) d (omega arith)) e there
    ]

-- so an order may be made at them
pub ends_all : (trace : List Event) (pairs : List Pair) (events : List ℕ) → AreRaces trace pairs → events ≡ ends_of pairs → All (λ e. e < length trace) events
ends_all trace pairs events races is k d lt = ends_within trace pairs races (get_or events k d) (subst (λ (xs : List ℕ). Contains xs (get_or events k d)) is (Contains-get_or events k d lt))

-- what is among the events that were given is among those of the pairs
pub same_ends : (pairs : List Pair) (given events : List ℕ) (e : ℕ) → given ≡ ends_of pairs → Contains events e ↔ Contains given e → Contains events e ↔ Contains (ends_of pairs) e
same_ends pairs given events e is same = subst (λ (xs : List ℕ). Contains events e ↔ Contains xs e) is same
