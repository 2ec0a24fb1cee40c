-- The sites of a variable, an access more.
use Rattle.std.proofs.Common.{◌≡◌, ℕ, suc, ◌+◌, ◌^◌, ◌<◌, ◌≤◌, ◌⊎◌, inl, inr, Bool, true, false, not, ◌&&◌, ◌||◌, List, [], ◌∷◌, ◌++◌, None, Some, length, take, get_or, arith, refl, sym, ap, subst, ◌∙◌, get_or-set_same, get_or-set_other}
use Rattle.std.specs.Prelude.{Box, Contains, slice_get, slice_index_or}
use Rattle.std.specs.FinSet as fin
use Rattle.shb_nearest.proofs.Words.{AreAllNoted, AreFew, AreNoted, ArePaired, Contains-push_cases, Global, Group, Groups, HasGroupAt, HasKept, HasNoted, HasSets, HasSetsOf, HasSite, HaveAllSites, HaveSites, IsAfter, IsDone, IsIn, IsKnown, IsNoted, IsPair, IsSettled, IsSite, KeptAccess, Late, Numbers, Place, PlaceEntry, Site, Sites, cases_eq, cases_lt, contains_none, eq-eqb, eqb-true, get_or_default, get_or_from_slice_get, length-set, length_push, nat_cmp, nat_cmp_total, of_group, of_kind, place_at, set, set_cases, slice_get_within, take-suc, unsigned_tied}
use Rattle.shb_nearest.proofs.Members.{at_other, at_set, get_before, longer_cases, middle, one_at}

-- an access came to a site again
module _ (all : List Site) (number event location newest : ℕ) (site : Site) (there : slice_get all number ≡ Some site) (is : IsSite all location number) (own : site.newest ≤ newest) (later : event ≤ newest) where
  abbrev renewed : Site
  renewed = record { location = site.location; newest = newest; again = true; paired = site.paired }

  within : number < length all
  within = slice_get_within all number site there

  pub came_again : HasSite all (set all number renewed) location event number
  came_again = record {
    longer = (let long = length-set all number renewed in omega (arith, long));
    stay = λ k s at. elim (cases_eq k number) [
      | inl same ↦ (
          let e : s ≡ site = one_at all number s site (subst (λ (m : ℕ). slice_get all m ≡ Some s) same at) there in
          let n = ap (λ (t : Site). t.newest) e in
          (renewed, subst (λ (m : ℕ). slice_get (set all number renewed) m ≡ Some renewed) (sym same) (at_set all number renewed within), ap (λ (t : Site). t.location) (sym e), omega (arith, n, own)))
      | inr other ↦ (s, at_other all number k renewed s other at, refl, omega arith)
    ];
    from = λ k t at. elim (set_cases all number k renewed t within at) [
      | inl same ↦ inl (site, subst (λ (m : ℕ). slice_get all m ≡ Some site) (sym same.0) there, ap (λ (s : Site). s.location) same.1, ap (λ (s : Site). s.paired) same.1)
      | inr other ↦ inl (t, other.1, refl, refl)
    ];
    there = λ few. (renewed, at_set all number renewed within, ap (λ (s : Site). s.location) (one_at all number site is.site there is.there) ∙ is.location_is, later);
  }

-- a site came
pub came_new : (all new : List Site) (number location event : ℕ) (site : Site) → new ≡ all ++ site ∷ [] → (length new < 2 ^ 32 → number ≡ length all) → site.location ≡ location → site.newest ≡ event → site.paired ≡ fin.empty → HasSite all new location event number
came_new all new number location event site more at_last at newest none = record {
  longer = (let long = length_push all site in let e = ap (λ (l : List Site). length l) more in omega (arith, long, e));
  stay = λ k s there. (s, subst (λ (l : List Site). slice_get l k ≡ Some s) (sym more) (get_before all (site ∷ []) k s there), refl, omega arith);
  from = λ k t there. elim (longer_cases all site k t (subst (λ (l : List Site). slice_get l k ≡ Some t) more there)) [
    | inl was ↦ inl (t, was, refl, refl)
    | inr same ↦ inr (ap (λ (s : Site). s.paired) (sym same.1) ∙ none)
  ];
  there = λ few. (site, subst (λ (l : List Site). slice_get l number ≡ Some site) (sym more) (subst (λ (m : ℕ). slice_get (all ++ site ∷ []) m ≡ Some site) (sym (at_last few)) (middle all site [])), at, omega (arith, newest));
}

-- what is paired stays so
pub paired_site : (by_variable : Bool) (x : ℕ) (entries : List PlaceEntry) (old new : List Site) (location event number : ℕ) → HasSite old new location event number → ArePaired by_variable x entries old → ArePaired by_variable x entries new
paired_site by_variable x entries old new location event number has are k t at m among = elim (has.from k t at) [
  | inl was ↦ (
      let before = are k was.0 was.1 m (subst (λ (s : Numbers). fin.contains s m ≡ true) was.3 among) in
      let now = has.stay m before.0 before.1 in
      (now.0, now.1, subst (λ (l : ℕ). IsKnown entries (place_at by_variable x l t.location)) (sym now.2) (subst (λ (l : ℕ). IsKnown entries (place_at by_variable x before.0.location l)) (sym was.2) before.2)))
  | inr none ↦ absurd (
      let f : true ≡ false = sym among ∙ (ap (λ (s : Numbers). fin.contains s m) none ∙ fin.contains-empty nat_cmp m) in
      let n : ⊥ = cc in n)
]

in_other : (s t : Numbers) (k : ℕ) → fin.contains (fin.difference s t) k ≡ false → fin.contains s k ≡ true → fin.contains t k ≡ true
in_other s t k none is = by (fin.contains t k) refl
  where
    by : (b : Bool) → fin.contains t k ≡ b → fin.contains t k ≡ true
    by true among = among
    by false none_there = absurd (
        let f : false ≡ true = sym none ∙ (fin.contains-difference nat_cmp_total s t k ∙ (λ i. is i && not (none_there i))) in
        let n : ⊥ = cc in n)

-- the site of a number has no access from an event on
abbrev pub IsOld : List Site → ℕ → ℕ → Type 0
IsOld all k since = (site : Site) × (slice_get all k ≡ Some site) × (site.newest < since)

-- a site of a set is paired, or old
abbrev pub IsPairedOrOld : List Site → Numbers → Numbers → ℕ → ℕ → Type 0
IsPairedOrOld all numbers paired since k = fin.contains numbers k ≡ true → (fin.contains paired k ≡ true) ⊎ IsOld all k since

-- a number more
pub old_more : (all : List Site) (numbers paired : Numbers) (since from number : ℕ) → IsOld all number since → ((k : ℕ) → from ≤ k → k < number → fin.contains (fin.difference numbers paired) k ≡ false)
    → ((k : ℕ) → k < from → IsPairedOrOld all numbers paired since k) → (k : ℕ) → k < number + 1 → IsPairedOrOld all numbers paired since k
old_more all numbers paired since from number old none before k lt there = elim (cases_lt k from) [
  | inl low ↦ before k low there
  | inr high ↦ elim (cases_eq k number) [
    | inl same ↦ inr (subst (λ (m : ℕ). IsOld all m since) (sym same) old)
    | inr other ↦ inl (in_other numbers paired k (none k high (omega (arith, lt, other))) there)
  ]
]

-- all numbers
pub all_done : (all : List Site) (numbers : Numbers) (second since from at : ℕ) (own : Site) → slice_get all at ≡ Some own → own.location ≡ second → length all < 2 ^ 32
    → ((k : ℕ) → from ≤ k → k < 4294967295 → fin.contains (fin.difference numbers own.paired) k ≡ false) → ((k : ℕ) → k < from → IsPairedOrOld all numbers own.paired since k) → IsDone all numbers second since
all_done all numbers second since from at own there is few none before = record { few = few; pairs = pairs }
  where
    at_number : (k : ℕ) → k < 4294967295 → IsPairedOrOld all numbers own.paired since k
    at_number k lt among = elim (cases_lt k from) [
      | inl low ↦ before k low among
      | inr high ↦ inl (in_other numbers own.paired k (none k high lt) among)
    ]

    pairs : (first event : ℕ) → IsIn all numbers first event → since ≤ event → IsPair all first second
    pairs first event found later =
        let lt = slice_get_within all found.number found.site found.there in
        elim (at_number found.number (omega (arith, lt, few)) found.among) [
          | inl paired ↦ record { later = at; site = own; there = there; location_is = is; earlier = found.number; earlier_is = record { site = found.site; there = found.there; location_is = found.location_is }; paired = paired }
          | inr old ↦ absurd (
              let same = ap (λ (s : Site). s.newest) (one_at all found.number found.site old.0 found.there old.1) in
              let before = old.2 in
              let newest = found.not_before in
              omega (arith, same, before, newest, later))
        ]

-- a set with a number more
has_own : (s : Numbers) (k : ℕ) → fin.contains (fin.insert s k) k ≡ true
has_own s k = fin.contains-insert nat_cmp_total s k k ∙ ap (λ (b : Bool). b || fin.contains s k) (unsigned_tied k k ∙ eq-eqb k k refl)

or_true : (a b : Bool) → b ≡ true → (a || b) ≡ true
or_true true b is = refl
or_true false b is = is

has_more : (s : Numbers) (k n : ℕ) → fin.contains s n ≡ true → fin.contains (fin.insert s k) n ≡ true
has_more s k n there = fin.contains-insert nat_cmp_total s k n ∙ or_true _ _ there

from_or : (a b : Bool) → (a || b) ≡ true → (a ≡ true) ⊎ (b ≡ true)
from_or true b is = inl refl
from_or false b is = inr is

has_from : (s : Numbers) (k n : ℕ) → fin.contains (fin.insert s k) n ≡ true → (n ≡ k) ⊎ (fin.contains s n ≡ true)
has_from s k n there = elim (from_or _ _ (sym (fin.contains-insert nat_cmp_total s k n) ∙ there)) [
  | inl own ↦ inl (eqb-true n k (sym (unsigned_tied n k) ∙ own))
  | inr was ↦ inr was
]

-- each number of a set is in another
abbrev IsWithin : Numbers → Numbers → Type 0
IsWithin s t = (k : ℕ) → fin.contains s k ≡ true → fin.contains t k ≡ true

within_same : (s t : Numbers) → t ≡ s → IsWithin s t
within_same s t is k there = ap (λ (n : Numbers). fin.contains n k) is ∙ there

within_more : (s t : Numbers) (number : ℕ) → t ≡ fin.insert s number → IsWithin s t
within_more s t number is k there = ap (λ (n : Numbers). fin.contains n k) is ∙ has_more s number k there

-- each site stays at its location, and its newest access isn't before that it had
abbrev SitesStay : List Site → List Site → Type 0
SitesStay old new = (k : ℕ) (site : Site) → slice_get old k ≡ Some site → (later : Site) × (slice_get new k ≡ Some later) × (later.location ≡ site.location) × (site.newest ≤ later.newest)

in_after : (old new : List Site) (numbers more : Numbers) (l e : ℕ) → SitesStay old new → IsWithin numbers more → IsIn old numbers l e → IsIn new more l e
in_after old new numbers more l e stay within is =
    let now = stay is.number is.site is.there in
    let before = is.not_before in
    let after = now.3 in
    record { number = is.number; site = now.0; there = now.1; location_is = now.2 ∙ is.location_is; not_before = omega (arith, before, after); among = within is.number is.among }

stays_after : (old new : Sites) → length old.all.items ≤ length new.all.items → SitesStay old.all.items new.all.items → ((w : Bool) → IsWithin (of_kind old w) (of_kind new w)) → ((at : ℕ) → IsWithin (of_group old at) (of_group new at)) → IsAfter old new
stays_after old new longer stay kinds groups = record {
  longer = longer;
  stay = λ at w l e is. record { kind = in_after old.all.items new.all.items (of_kind old w) (of_kind new w) l e stay (kinds w) is.kind; group = in_after old.all.items new.all.items (of_group old at) (of_group new at) l e stay (groups at) is.group };
}

pub after_same : (sites : Sites) → IsAfter sites sites
after_same sites = record { longer = omega arith; stay = λ at w l e is. is }

pub after_then : (old mid new : Sites) → IsAfter old mid → IsAfter mid new → IsAfter old new
after_then old mid new one other = record {
  longer = (let a = one.longer in let b = other.longer in omega (arith, a, b));
  stay = λ at w l e is. other.stay at w l e (one.stay at w l e is);
}

-- what was noted of a group still is
pub noted_after : (old new : Sites) (at : ℕ) (w : Bool) (kept : List KeptAccess) → IsAfter old new → AreNoted old at w kept → AreNoted new at w kept
noted_after old new at w kept after are few a there = after.stay at w a.spot.location a.event (are (let longer = after.longer in omega (arith, few, longer)) a there)

-- one kept access more
pub noted_more : (sites : Sites) (at : ℕ) (w : Bool) (kept : List KeptAccess) (index : ℕ) (a : KeptAccess) → slice_get kept index ≡ Some a → AreNoted sites at w (take index kept) → (AreFew sites → IsNoted sites at w a.spot.location a.event) → AreNoted sites at w (take (index + 1) kept)
noted_more sites at w kept index a here are one few b there = elim (Contains-push_cases (take index kept) a b (subst (λ (l : List KeptAccess). Contains l b) more there)) [
  | inl before ↦ are few b before
  | inr same ↦ subst (λ (k : KeptAccess). IsNoted sites at w k.spot.location k.event) same (one few)
]
  where
    more : take (index + 1) kept ≡ take index kept ++ a ∷ []
    more = (let e : index + 1 ≡ suc index = omega arith in ap (λ (m : ℕ). take m kept) e) ∙ (take-suc kept index a (slice_get_within kept index a here) ∙ ap (λ (b : KeptAccess). take index kept ++ b ∷ []) (get_or_from_slice_get kept index a a here))

-- what the group at an index keeps is
pub one_noted : (sites : Sites) (groups : List Group) (i at : ℕ) (h g : Group) → slice_get groups i ≡ Some h → slice_get groups at ≡ Some g → at ≡ i → AreNoted sites i h.writes h.kept.items → AreNoted sites at g.writes g.kept.items
one_noted sites groups i at h g here there same are =
    let e = one_at groups i h g here (subst (λ (m : ℕ). slice_get groups m ≡ Some g) same there) in
    subst (λ (m : ℕ). AreNoted sites m g.writes g.kept.items) (sym same) (subst (λ (k : Group). AreNoted sites i k.writes k.kept.items) e are)

-- an access is noted
module _ (old mid new : Sites) (at number location event : ℕ) (writes : Bool) (sets : List Numbers) (has : HasSite old.all.items mid.all.items location event number) (sets_of : HasSetsOf old mid)
    (all : new.all.items ≡ mid.all.items) (kind : of_kind new writes ≡ fin.insert (of_kind mid writes) number) (other : of_kind new (not writes) ≡ of_kind mid (not writes))
    (space : HasSets mid.of_groups.items sets at) (own : Numbers) (own_is : own ≡ get_or sets at own) (groups : new.of_groups.items ≡ set sets at (fin.insert own number)) where
  kinds_mid : (w : Bool) → IsWithin (of_kind old w) (of_kind mid w)
  kinds_mid true = within_same old.writes mid.writes sets_of.writes
  kinds_mid false = within_same old.reads mid.reads sets_of.reads

  kinds_new : (v : Bool) → of_kind new v ≡ fin.insert (of_kind mid v) number → of_kind new (not v) ≡ of_kind mid (not v) → (w : Bool) → IsWithin (of_kind mid w) (of_kind new w)
  kinds_new true is not_is true = within_more mid.writes new.writes number is
  kinds_new true is not_is false = within_same mid.reads new.reads not_is
  kinds_new false is not_is true = within_same mid.writes new.writes not_is
  kinds_new false is not_is false = within_more mid.reads new.reads number is

  at_own : slice_index_or new.of_groups.items at fin.empty ≡ fin.insert own number
  at_own = ap (λ (l : List Numbers). slice_index_or l at fin.empty) groups ∙ get_or-set_same sets at (fin.insert own number) fin.empty space.room

  groups_new : (k : ℕ) → IsWithin (of_group old k) (of_group new k)
  groups_new k m there = elim (cases_eq k at) [
    | inl same ↦ ap (λ (i : ℕ). fin.contains (slice_index_or new.of_groups.items i fin.empty) m) same ∙ (ap (λ (s : Numbers). fin.contains s m) at_own
        ∙ has_more own number m (ap (λ (s : Numbers). fin.contains s m) (own_is ∙ get_or_default sets at own fin.empty space.room ∙ ap (λ (i : ℕ). slice_index_or sets i fin.empty) (sym same)) ∙ in_sets))
    | inr ne ↦ ap (λ (l : List Numbers). fin.contains (slice_index_or l k fin.empty) m) groups ∙ (ap (λ (s : Numbers). fin.contains s m) (get_or-set_other sets at k (fin.insert own number) fin.empty ne) ∙ in_sets)
  ]
    where
      in_sets : fin.contains (slice_index_or sets k fin.empty) m ≡ true
      in_sets = ap (λ (s : Numbers). fin.contains s m) (space.stay k ∙ ap (λ (l : List Numbers). slice_index_or l k fin.empty) sets_of.of_groups) ∙ there

  stay : SitesStay old.all.items new.all.items
  stay k s there = let now = has.stay k s there in (now.0, ap (λ (l : List Site). slice_get l k) all ∙ now.1, now.2, now.3)

  pub note_after : IsAfter old new
  note_after = stays_after old new (let longer = has.longer in let same = ap (λ (l : List Site). length l) all in omega (arith, longer, same)) stay (λ w k there. kinds_new writes kind other w k (kinds_mid w k there)) groups_new

  pub note_there : AreFew new → IsNoted new at writes location event
  note_there few = record {
    kind = found (of_kind new writes) (ap (λ (s : Numbers). fin.contains s number) kind ∙ has_own (of_kind mid writes) number);
    group = found (of_group new at) (ap (λ (s : Numbers). fin.contains s number) at_own ∙ has_own own number);
  }
    where
      found : (numbers : Numbers) → fin.contains numbers number ≡ true → IsIn new.all.items numbers location event
      found numbers among = let here = has.there (let same = ap (λ (l : List Site). length l) all in omega (arith, few, same)) in
          record { number = number; site = here.0; there = ap (λ (l : List Site). slice_get l number) all ∙ here.1; location_is = here.2; not_before = here.3; among = among }

-- a site is paired with one more
module _ (all : List Site) (at number first second : ℕ) (own : Site) (there : slice_get all at ≡ Some own) (at_second : IsSite all second at) (at_first : IsSite all first number) (paired : Numbers) (paired_is : paired ≡ fin.insert own.paired number) where
  abbrev with_pair : Site
  with_pair = record { location = own.location; newest = own.newest; again = own.again; paired = paired }

  own_within : at < length all
  own_within = slice_get_within all at own there

  pub pair_stay : SitesStay all (set all at with_pair)
  pair_stay k s here = elim (cases_eq k at) [
    | inl same ↦ (
        let e : s ≡ own = one_at all at s own (subst (λ (m : ℕ). slice_get all m ≡ Some s) same here) there in
        let n = ap (λ (t : Site). t.newest) e in
        (with_pair, subst (λ (m : ℕ). slice_get (set all at with_pair) m ≡ Some with_pair) (sym same) (at_set all at with_pair own_within), ap (λ (t : Site). t.location) (sym e), omega (arith, n)))
    | inr other ↦ (s, at_other all at k with_pair s other here, refl, omega arith)
  ]

  pub pair_long : length all ≤ length (set all at with_pair)
  pair_long = let long = length-set all at with_pair in omega (arith, long)

  pub pair_known : (by_variable : Bool) (x : ℕ) (entries : List PlaceEntry) → IsKnown entries (place_at by_variable x first second) → ArePaired by_variable x entries all → ArePaired by_variable x entries (set all at with_pair)
  pair_known by_variable x entries known are k t here m among = elim (set_cases all at k with_pair t own_within here) [
    | inl same ↦ (
        let of_own : t.location ≡ second = ap (λ (s : Site). s.location) same.1 ∙ (ap (λ (s : Site). s.location) (one_at all at own at_second.site there at_second.there) ∙ at_second.location_is) in
        elim (has_from own.paired number m (subst (λ (n : Numbers). fin.contains n m ≡ true) paired_is (subst (λ (s : Site). fin.contains s.paired m ≡ true) same.1 among))) [
          | inl is ↦ (
              let now = pair_stay number at_first.site at_first.there in
              (now.0, subst (λ (i : ℕ). slice_get (set all at with_pair) i ≡ Some now.0) (sym is) now.1, subst (λ (l : ℕ). IsKnown entries (place_at by_variable x l t.location)) (sym (now.2 ∙ at_first.location_is)) (subst (λ (l : ℕ). IsKnown entries (place_at by_variable x first l)) (sym of_own) known)))
          | inr was ↦ later m own (are at own there m was) (ap (λ (s : Site). s.location) same.1)
        ])
    | inr other ↦ later m t (are k t other.1 m among) refl
  ]
    where
      later : (i : ℕ) (s : Site) → (b : Site) × (slice_get all i ≡ Some b) × IsKnown entries (place_at by_variable x b.location s.location) → t.location ≡ s.location → (b : Site) × (slice_get (set all at with_pair) i ≡ Some b) × IsKnown entries (place_at by_variable x b.location t.location)
      later i s before same =
          let now = pair_stay i before.0 before.1 in
          (now.0, now.1, subst (λ (l : ℕ). IsKnown entries (place_at by_variable x l t.location)) (sym now.2) (subst (λ (l : ℕ). IsKnown entries (place_at by_variable x before.0.location l)) (sym same) before.2))

-- and nothing else changed
pub pair_after : (old new : Sites) → SitesStay old.all.items new.all.items → length old.all.items ≤ length new.all.items → new.writes ≡ old.writes → new.reads ≡ old.reads → new.of_groups.items ≡ old.of_groups.items → IsAfter old new
pair_after old new stay longer writes reads groups = stays_after old new longer stay kinds (λ k. within_same (of_group old k) (of_group new k) (ap (λ (l : List Numbers). slice_index_or l k fin.empty) groups))
  where
    kinds : (w : Bool) → IsWithin (of_kind old w) (of_kind new w)
    kinds true = within_same old.writes new.writes writes
    kinds false = within_same old.reads new.reads reads

-- the groups, where one is there for an access
pub sites_found : (by_variable : Bool) (x : ℕ) (entries : List PlaceEntry) (old mid : Groups) (t : ℕ) (w : Bool) (at : ℕ) → mid.sites ≡ old.sites → HasGroupAt old.each.items mid.each.items t w at → HaveSites by_variable x entries old → HaveSites by_variable x entries mid
sites_found by_variable x entries old mid t w at same found are = record {
  marked = λ sites is k g there few a among. elim (found.from k g there) [
    | inl was ↦ are.marked sites (sym same ∙ is) k g was few a among
    | inr none ↦ absurd (contains_none a (subst (λ (l : List KeptAccess). Contains l a) none among))
  ];
  paired = λ sites is. are.paired sites (sym same ∙ is);
}

-- the groups, where one keeps an access more
pub sites_kept : (by_variable : Bool) (x : ℕ) (entries : List PlaceEntry) (old new : Groups) (at : ℕ) (late : Late) (kept : KeptAccess) (was now : Group) → new.sites ≡ old.sites → new.each.items ≡ set old.each.items at now → slice_get old.each.items at ≡ Some was → was.writes ≡ late.writes
    → kept.event ≡ late.event → kept.spot.location ≡ late.location → HasKept kept was now → HasNoted old at late → HaveSites by_variable x entries old → HaveSites by_variable x entries new
sites_kept by_variable x entries old new at late kept was now same each there kind at_event at_location h noted are = record {
  marked = λ sites is k g here few a among. elim (set_cases old.each.items at k now g (slice_get_within old.each.items at was there) (subst (λ (l : List Group). slice_get l k ≡ Some g) each here)) [
    | inr other ↦ are.marked sites (sym same ∙ is) k g other.1 few a among
    | inl one ↦ (
        let kind_g : g.writes ≡ was.writes = ap (λ (i : Group). i.writes) one.1 ∙ h.own.writes_is in
        subst (λ (i : ℕ). IsNoted sites.value i g.writes a.spot.location a.event) (sym one.0) (subst (λ (w : Bool). IsNoted sites.value at w a.spot.location a.event) (sym kind_g)
        (elim (Contains-push_cases was.kept.items kept a (h.from a (subst (λ (i : Group). Contains i.kept.items a) one.1 among))) [
          | inl before ↦ are.marked sites (sym same ∙ is) at was there few a before
          | inr is_kept ↦ subst (λ (b : KeptAccess). IsNoted sites.value at was.writes b.spot.location b.event) is_kept
              (subst (λ (w : Bool). IsNoted sites.value at w kept.spot.location kept.event) (sym kind) (subst (λ (e : ℕ). IsNoted sites.value at late.writes kept.spot.location e) (sym at_event) (subst (λ (l : ℕ). IsNoted sites.value at late.writes l late.event) (sym at_location) (noted sites (sym same ∙ is) few))))
        ])))
  ];
  paired = λ sites is. are.paired sites (sym same ∙ is);
}

-- where there are no sites
pub no_sites : (by_variable : Bool) (x : ℕ) (entries : List PlaceEntry) (groups : Groups) → groups.sites ≡ None → HaveSites by_variable x entries groups
no_sites by_variable x entries groups none = record {
  marked = λ sites is. absurd (let s = sym none ∙ is in (let f : ⊥ = cc in f));
  paired = λ sites is. absurd (let s = sym none ∙ is in (let f : ⊥ = cc in f));
}

one_box : (a b : Box Sites Global) → Some a ≡ Some b → a ≡ b
one_box a b is = let e : a ≡ b = cc in e

-- the groups, where their sites changed so that what was noted still is
pub sites_changed : (by_variable : Bool) (x : ℕ) (entries : List PlaceEntry) (old new : Groups) (sites more : Box Sites Global) → old.sites ≡ Some sites → new.sites ≡ Some more → new.each.items ≡ old.each.items → IsAfter sites.value more.value
    → (ArePaired by_variable x entries sites.value.all.items → ArePaired by_variable x entries more.value.all.items) → HaveSites by_variable x entries old → HaveSites by_variable x entries new
sites_changed by_variable x entries old new sites more old_is new_is each after paired are = record {
  marked = λ now is at g there. subst (λ (b : Box Sites Global). AreNoted b.value at g.writes g.kept.items) (one_box more now (sym new_is ∙ is))
      (noted_after sites.value more.value at g.writes g.kept.items after (are.marked sites old_is at g (subst (λ (l : List Group). slice_get l at ≡ Some g) each there)));
  paired = λ now is. subst (λ (b : Box Sites Global). ArePaired by_variable x entries b.value.all.items) (one_box more now (sym new_is ∙ is)) (paired (are.paired sites old_is));
}

-- the groups, where sites were made
pub sites_made : (by_variable : Bool) (x : ℕ) (entries : List PlaceEntry) (new : Groups) (sites : Sites) (more : Box Sites Global) → new.sites ≡ Some more → AreAllNoted sites new.each.items → IsAfter sites more.value
    → ArePaired by_variable x entries more.value.all.items → HaveSites by_variable x entries new
sites_made by_variable x entries new sites more new_is noted after paired = record {
  marked = λ now is at g there. subst (λ (b : Box Sites Global). AreNoted b.value at g.writes g.kept.items) (one_box more now (sym new_is ∙ is)) (noted_after sites more.value at g.writes g.kept.items after (noted at g there));
  paired = λ now is. subst (λ (b : Box Sites Global). ArePaired by_variable x entries b.value.all.items) (one_box more now (sym new_is ∙ is)) paired;
}

-- where there is no site, none is paired
pub paired_none : (by_variable : Bool) (x : ℕ) (entries : List PlaceEntry) (all : List Site) → all ≡ [] → ArePaired by_variable x entries all
paired_none by_variable x entries all none k site there = absurd (let lt = slice_get_within all k site there in let e = ap (λ (l : List Site). length l) none in omega (arith, lt, e))

-- where places came
pub sites_longer : (by_variable : Bool) (x : ℕ) (old new : List PlaceEntry) (groups : Groups) → ((place : Place) → IsKnown old place → IsKnown new place) → HaveSites by_variable x old groups → HaveSites by_variable x new groups
sites_longer by_variable x old new groups stay are = record {
  marked = are.marked;
  paired = λ sites is k site there m among. (let known = are.paired sites is k site there m among in (known.0, known.1, stay (place_at by_variable x known.0.location site.location) known.2));
}

-- of each variable, where places came
pub sites_all : (by_variable : Bool) (old new : List PlaceEntry) (each : List Groups) → ((place : Place) → IsKnown old place → IsKnown new place) → HaveAllSites by_variable old each → HaveAllSites by_variable new each
sites_all by_variable old new each stay are at groups there = sites_longer by_variable groups.variable old new groups stay (are at groups there)

-- and where the groups at an index changed
pub sites_written : (by_variable : Bool) (entries : List PlaceEntry) (each : List Groups) (i : ℕ) (own : Groups) → i < length each → HaveAllSites by_variable entries each → HaveSites by_variable own.variable entries own → HaveAllSites by_variable entries (set each i own)
sites_written by_variable entries each i own low are here at groups there = elim (set_cases each i at own groups low there) [
  | inl same ↦ subst (λ (g : Groups). HaveSites by_variable g.variable entries g) (sym same.1) here
  | inr other ↦ are at groups other.1
]

-- and where groups came
pub sites_more : (by_variable : Bool) (entries : List PlaceEntry) (each : List Groups) (own : Groups) → HaveAllSites by_variable entries each → HaveSites by_variable own.variable entries own → HaveAllSites by_variable entries (each ++ own ∷ [])
sites_more by_variable entries each own are here at groups there = elim (longer_cases each own at groups there) [
  | inl was ↦ are at groups was
  | inr last ↦ subst (λ (g : Groups). HaveSites by_variable g.variable entries g) last.1 here
]

-- a pair of sites has a known place
pub settled_known : (by_variable : Bool) (x : ℕ) (entries : List PlaceEntry) (groups : Groups) (first second : ℕ) → HaveSites by_variable x entries groups → IsSettled groups first second → IsKnown entries (place_at by_variable x first second)
settled_known by_variable x entries groups first second are settled =
    let p = settled.pair in
    let all = settled.sites.value.all.items in
    let known = are.paired settled.sites settled.sites_are p.later p.site p.there p.earlier p.paired in
    let same = one_at all p.earlier known.0 p.earlier_is.site known.1 p.earlier_is.there in
    subst (λ (l : ℕ). IsKnown entries (place_at by_variable x l second)) (ap (λ (s : Site). s.location) same ∙ p.earlier_is.location_is) (subst (λ (l : ℕ). IsKnown entries (place_at by_variable x known.0.location l)) p.location_is known.2)
