use Rattle.std.proofs.Common.{◌+◌, ℕ, List, [], ◌∷◌, ◌++◌, ◌∙◌, ap, refl, subst, sym}
use Rattle.std.specs.Prelude.{All}
use Rattle.shb_nearest.proofs.Words.{ArePlaces, FoundAccess, HaveSites, IsKnown, PlaceEntry, offered_all, place_at}
use Rattle.shb_nearest.proofs.PlaceLemmas.{placed, placed_rivals, placed_stay, since_known}
use Rattle.shb_nearest.proofs.SiteLemmas.{sites_longer}
use Rattle.shb_nearest.proofs.tables.offer_races.Goals as goal

pub returns-clause-offered : goal.returns-clause-offered
returns-clause-offered c past e spots next groups run is_since are have =
    let trace = past ++ e ∷ [] in
    let by_variable = c.args.by_variable in
    let x = c.args.groups.now.variable in
    let access = c.args.next.access in
    let n = access.event in
    let since = c.args.next.since in
    let old = c.args.places.now.races.entries in
    let found = c.find.new.self.found.items in
    let offered = offered_all c.args.by_variable c.args.groups.now.variable c.args.next.access c.args.places.now.races.entries c.find.new.self.found.items in
    let rivals = c.in_ok-find.ensures past e spots x next have.marked groups run in
    let same = c.as_slice-found.ensures.value in
    let eq = c.in_ok-offer_all.ensures ∙ ap (λ (l : List FoundAccess). offered_all c.args.by_variable c.args.groups.now.variable c.args.next.access c.args.places.now.races.entries l) same in
    let early = since_known by_variable trace next.disciplined spots x n access refl next.own old are since is_since in
    let stay = placed_stay by_variable trace next.disciplined spots x n access refl next.own since old are early c.args.groups.now have found rivals in
    let known = placed_rivals by_variable trace next.disciplined spots x n access refl next.own since old are early c.args.groups.now have found rivals in
    let learned = c.in_ok-learn.ensures.sites by_variable x offered
    (subst (λ (l : List FoundAccess). All (λ (a : FoundAccess). IsKnown (offered_all c.args.by_variable c.args.groups.now.variable c.args.next.access c.args.places.now.races.entries c.find.new.self.found.items) (place_at c.args.by_variable c.args.groups.now.variable a.spot.location c.args.next.access.spot.location)) l) (sym same) known)
    (sites_longer by_variable x old offered c.args.groups.now stay have) in
    record {
      places = subst (λ (l : List PlaceEntry). ArePlaces c.args.by_variable (past ++ e ∷ []) spots (c.args.next.access.event + 1) l) (sym eq) (placed by_variable trace next.disciplined spots x n access refl next.own since old are early c.args.groups.now have found rivals);
      stay = λ p h. subst (λ (l : List PlaceEntry). IsKnown l p) (sym eq) (stay p h);
      sites = subst (λ (l : List PlaceEntry). HaveSites c.args.by_variable c.learn.new.self.variable l c.learn.new.self) (sym eq)
          (subst (λ (y : ℕ). HaveSites c.args.by_variable y (offered_all c.args.by_variable c.args.groups.now.variable c.args.next.access c.args.places.now.races.entries c.find.new.self.found.items) c.learn.new.self) (sym c.in_ok-learn.ensures.own) learned);
    }
