-- Accesses that come to the rivals.
use Rattle.std.proofs.Common.{◌≡◌, ℕ, suc, ◌+◌, ◌<◌, ◌≤◌, ◌⊎◌, inl, inr, List, [], ◌∷◌, ◌++◌, Some, map, take, arith, get_or, refl, sym, ap, subst, ◌∙◌, get_or-set_same, get_or-set_other}
use Rattle.std.specs.Prelude.{Contains, slice_get}
use Rattle.shb_nearest.proofs.Words.{Contains-append_cases, Contains-append_left, Contains-append_right, Contains-push_cases, FoundAccess, Groups, HasAdded, IsCovered, IsSettled, KeptAccess, cases_eq, contains_head, contains_none, get_or_from_slice_get, length-set, map-append, set, slice_get_within, take-suc}
use Rattle.shb_nearest.proofs.Members.{member_at, member_set, stays_or_is}

module _ (groups : Groups) (second : ℕ) where
  pub added_none : (xs : List FoundAccess) → HasAdded groups second xs xs []
  added_none xs = record { stay = λ a h. h; from = λ a there. inl there; covers = λ a there. absurd (contains_none a there) }

  -- some, and then one more
  added_more : (old mid new done : List FoundAccess) (a : FoundAccess) → HasAdded groups second old mid done → HasAdded groups second mid new (a ∷ []) → HasAdded groups second old new (done ++ a ∷ [])
  added_more old mid new done a first then = record {
    stay = λ b h. then.stay b (first.stay b h);
    from = λ b there. elim (then.from b there) [
      | inl before ↦ elim (first.from b before) [
        | inl was ↦ inl was
        | inr one ↦ inr (Contains-append_left done (a ∷ []) b one)
      ]
      | inr one ↦ inr (Contains-append_right done (a ∷ []) b one)
    ];
    covers = λ b there. elim (Contains-append_cases done (a ∷ []) b there) [
      | inl one ↦ elim (first.covers b one) [ inl covered ↦ inl (then.stay b covered) | inr settled ↦ inr settled ]
      | inr one ↦ then.covers b one
    ];
  }

  -- the kept accesses before n, and then the one at n
  pub added_kept : (old mid new : List FoundAccess) (f : KeptAccess → FoundAccess) (kept : List KeptAccess) (n : ℕ) (item : KeptAccess) → slice_get kept n ≡ Some item → HasAdded groups second old mid (map f (take n kept)) → HasAdded groups second mid new (f item ∷ []) → HasAdded groups second old new (map f (take (n + 1) kept))
  added_kept old mid new f kept n item at first then = subst (HasAdded groups second old new) (sym more) (added_more old mid new (map f (take n kept)) (f item) first then)
    where
      longer : take (n + 1) kept ≡ take n kept ++ item ∷ []
      longer = (let e : n + 1 ≡ suc n = omega arith in ap (λ (m : ℕ). take m kept) e) ∙ (take-suc kept n item (slice_get_within kept n item at) ∙ ap (λ (b : KeptAccess). take n kept ++ b ∷ []) (get_or_from_slice_get kept n item item at))

      more : map f (take (n + 1) kept) ≡ map f (take n kept) ++ f item ∷ []
      more = ap (map f) longer ∙ map-append f (take n kept) (item ∷ [])

  pub added_settled : (old : List FoundAccess) (a : FoundAccess) → IsSettled groups a.spot.location second → HasAdded groups second old old (a ∷ [])
  added_settled old a settled = record {
    stay = λ b h. h;
    from = λ b there. inl there;
    covers = λ b there. inr (elim (Contains-push_cases [] a b there) [ inl none ↦ absurd (contains_none b none) | inr same ↦ subst (λ (c : FoundAccess). IsSettled groups c.spot.location second) same settled ]);
  }

module _ (groups : Groups) (second : ℕ) (xs : List FoundAccess) (a : FoundAccess) where
  only : (b : FoundAccess) → Contains (a ∷ []) b → a ≡ b
  only b there = elim (Contains-push_cases [] a b there) [ inl none ↦ absurd (contains_none b none) | inr same ↦ same ]

  covered_by : (ys : List FoundAccess) → Contains ys a → (b : FoundAccess) → Contains (a ∷ []) b → IsCovered ys b
  covered_by ys there b one = subst (λ (c : FoundAccess). IsCovered ys c) (only b one) (record { rival = a; there = there; location_is = refl; not_before = omega arith })

  pub added_push : (new : List FoundAccess) → new ≡ xs ++ a ∷ [] → HasAdded groups second xs new (a ∷ [])
  added_push new is = record {
    stay = λ b h. record { rival = h.rival; there = subst (λ (l : List FoundAccess). Contains l h.rival) (sym is) (Contains-append_left xs (a ∷ []) h.rival h.there); location_is = h.location_is; not_before = h.not_before };
    from = λ b there. Contains-append_cases xs (a ∷ []) b (subst (λ (l : List FoundAccess). Contains l b) is there);
    covers = λ b one. inl (covered_by new (subst (λ (l : List FoundAccess). Contains l a) (sym is) (Contains-append_right xs (a ∷ []) a (contains_head a []))) b one);
  }

  module _ (i : ℕ) (known : FoundAccess) (at : slice_get xs i ≡ Some known) (same : known.spot.location ≡ a.spot.location) where
    pub added_known : a.event ≤ known.event → HasAdded groups second xs xs (a ∷ [])
    added_known le = record {
      stay = λ b h. h;
      from = λ b there. inl there;
      covers = λ b one. inl (subst (λ (c : FoundAccess). IsCovered xs c) (only b one) (record { rival = known; there = member_at xs i known at; location_is = same; not_before = le }));
    }

    pub added_set : known.event < a.event → HasAdded groups second xs (set xs i a) (a ∷ [])
    added_set lt = record { stay = stay; from = from; covers = λ b one. inl (covered_by (set xs i a) here b one) }
      where
        here : Contains (set xs i a) a
        here = member_set xs i a (slice_get_within xs i known at)

        stay : (b : FoundAccess) → IsCovered xs b → IsCovered (set xs i a) b
        stay b h = elim (stays_or_is xs i known a at h.rival h.there) [
          | inl is ↦ (
              let low = h.not_before in
              let event = ap (λ (c : FoundAccess). c.event) is in
              record { rival = a; there = here; location_is = sym same ∙ (ap (λ (c : FoundAccess). c.spot.location) (sym is) ∙ h.location_is); not_before = omega (arith, low, event, lt) })
          | inr stays ↦ record { rival = h.rival; there = stays; location_is = h.location_is; not_before = h.not_before }
        ]

        from : (b : FoundAccess) → Contains (set xs i a) b → Contains xs b ⊎ Contains (a ∷ []) b
        from b there = elim (cases_eq there.0 i) [
          | inl is ↦ inr (subst (λ (c : FoundAccess). Contains (a ∷ []) c) (sym (get_or-set_same xs i a b (slice_get_within xs i known at)) ∙ (ap (λ (m : ℕ). get_or (set xs i a) m b) (sym is) ∙ there.2)) (contains_head a []))
          | inr other ↦ inl (there.0, (let long = length-set xs i a in let low = there.1 in omega (arith, low, long)), sym (get_or-set_other xs i there.0 a b other) ∙ there.2)
        ]
