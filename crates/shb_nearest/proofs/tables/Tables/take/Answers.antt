use Rattle.std.proofs.Common.{◌≡◌, ◌+◌, ◌∷◌, ◌++◌, [], ℕ, List, ap, arith, length, refl, subst, sym, ◌≤◌, ◌∙◌}
use Rattle.shb_nearest.proofs.Words.{Accesses, AreAccesses, AreGroups, Entry, Group, Groups, HaveSites, IsAfterAll, IsBelowPredCount, IsNextAccess, IsRun, IsScreened, IsSince, Waiting, length-set, set, slice_get_read, slice_get_within}
use Rattle.shb_nearest.proofs.SiteLemmas.{sites_all, sites_written}
use Rattle.shb_nearest.proofs.TableLemmas.{beside_waiting, classes_later, places_later, stay_groups, taken_next, time_next, variables_grouped, variables_put, variables_space}
use Rattle.shb_nearest.proofs.Members.{at_set, one_there}
use Rattle.shb_nearest.proofs.RivalLemmas.{variable_is}
use Rattle.shb_nearest.proofs.tables.Tables.take.Goals as goal

pub returns-in-Waiting : goal.returns-in-Waiting
returns-in-Waiting c past e spots room next are =
    let trace = past ++ e ∷ [] in
    let x = c.args.variable in
    let access = c.args.access in
    let n = c.args.access.event in
    let groups = c.args.self.now.opened.each.items in
    let mid = c.make_space.new.variables.items in
    let space = c.in_ok-make_space.ensures in
    let few : length c.args.self.now.log.entries.items ≤ 4294967295 = (let short = are.short.0 in let end = next.event_is in omega (arith, short, end, room)) in
    let entries = c.make_room.new.self.entries.items in
    let all = variables_space trace spots n entries groups c.make_room.new.variables.items mid space.more (c.in_ok-make_room.ensures.variables trace spots n groups few are.variables) in
    let at = slice_get_read mid (length mid) x c.index_mut-known.result.now refl space.wide c.index_mut-known.ensures.value in
    let was = all.each x c.index_mut-known.result.now at in
    let at_end = next.event_is in
    let time = time_next trace next.disciplined access.thread n c.below_next.result c.saturating_add-time.result next.own.thread_is (omega (arith, room, at_end))
    (subst (λ (m : ℕ). IsBelowPredCount (past ++ e ∷ []) c.args.access.thread m c.below_next.result) (sym next.event_is) (c.below_next.ensures past e next.thread_is next.disciplined next.streamed)) c.saturating_add-time.ensures in
    let screened = taken_next past e spots x c.args.clocks.now access next (record { time = c.saturating_add-time.result; thread = access.thread }) refl time c.index_mut-known.result.now.latest (λ k. IsScreened (past ++ e ∷ []) c.args.variable (k + 1) c.screen-known.result) (c.screen-known.ensures.screened past e x next.disciplined next.streamed) was.screened in
    let after = taken_next past e spots x c.args.clocks.now access next (record { time = c.saturating_add-time.result; thread = access.thread }) refl time c.index_mut-known.result.now.latest (λ k. IsAfterAll (past ++ e ∷ []) c.args.variable k c.screen-known.result) (c.screen-known.ensures.after past e x next.disciplined next.streamed) was.screened in
    let long = c.in_ok-place.ensures.long in
    let less = c.in_ok-make_room.ensures.long in
    let short = are.short.0 in
    let fits : length c.put_off.new.self.entries.items ≤ 4294967295 = omega (arith, long, less, short, at_end, room) in
    let waiting = subst (λ (a : Accesses). AreAccesses (past ++ e ∷ []) spots c.args.variable c.args.access.event c.make_room.new.self.entries.items c.args.self.now.opened.each.items a) c.in-Waiting.is was.accesses in
    record {
      classes = classes_later trace spots n c.args.self.now.opened.classes.newest.entries are.classes;
      variables = variables_put trace spots n x access refl next.own mid (record { accesses = Waiting c.in_ok-place.place; run = c.after-known.result; latest = c.screen-known.result }) space.wide entries c.put_off.new.self.entries.items groups groups
          (beside_waiting trace spots n x entries c.put_off.new.self.entries.items groups (c.in_ok-place.ensures.others trace spots x waiting fits)) all (record {
            accesses = c.in_ok-place.ensures.own trace spots x waiting (record { own = next.own; time_is = time; after = λ all. after (c.is_after_all.ensures.write all) (c.is_after_all.ensures.read all) }) fits;
            run = c.after-known.ensures trace spots x next.own was.run;
            screened = screened;
          });
      short = (omega (arith, long, less, short), (let few = are.short.1 in omega (arith, few)));
      places = places_later trace spots n c.args.by_variable c.args.self.now.places.races.entries (λ i. (screened (sym c.may_race-open.ensures ∙ c.if-not-open.true)).free i n (omega arith) (variable_is trace spots x access next.own)) are.places;
      sites = are.sites;
    }

pub returns-in_default-get_mut : goal.returns-in_default-get_mut
returns-in_default-get_mut c past e spots room next are =
    let trace = past ++ e ∷ [] in
    let x = c.args.variable in
    let access = c.args.access in
    let n = c.args.access.event in
    let groups = c.args.self.now.opened.each.items in
    let mid = c.make_space.new.variables.items in
    let space = c.in_ok-make_space.ensures in
    let few : length c.args.self.now.log.entries.items ≤ 4294967295 = (let short = are.short.0 in let end = next.event_is in omega (arith, short, end, room)) in
    let entries = c.make_room.new.self.entries.items in
    let all = variables_space trace spots n entries groups c.make_room.new.variables.items mid space.more (c.in_ok-make_room.ensures.variables trace spots n groups few are.variables) in
    let at = slice_get_read mid (length mid) x c.index_mut-known.result.now refl space.wide c.index_mut-known.ensures.value in
    let was = all.each x c.index_mut-known.result.now at in
    let at_end = next.event_is in
    let time = time_next trace next.disciplined access.thread n c.below_next.result c.saturating_add-time.result next.own.thread_is (omega (arith, room, at_end))
    (subst (λ (m : ℕ). IsBelowPredCount (past ++ e ∷ []) c.args.access.thread m c.below_next.result) (sym next.event_is) (c.below_next.ensures past e next.thread_is next.disciplined next.streamed)) c.saturating_add-time.ensures in
    let after = taken_next past e spots x c.args.clocks.now access next (record { time = c.saturating_add-time.result; thread = access.thread }) refl time c.index_mut-known.result.now.latest (λ k. IsAfterAll (past ++ e ∷ []) c.args.variable k c.screen-known.result) (c.screen-known.ensures.after past e x next.disciplined next.streamed) was.screened in
    let opened = c.in_ok-at.ensures.groups trace spots n was.accesses (let more = c.in_ok-at.ensures.long in let few = are.short.1 in omega (arith, more, few, at_end, room)) in
    let have = c.in_ok-since.ensures.groups trace spots opened (record { own = next.own; time_is = time; after = λ all. after (c.is_after_all.ensures.write all) (c.is_after_all.ensures.read all) }) in
    let low = slice_get_within c.take.new.self.each.items c.in_ok-at.at have.groups have.there in
    let high = c.in_default-get_mut.ensures in
    absurd (omega (arith, low, high))

pub returns : goal.returns
returns c past e spots room next are =
    let trace = past ++ e ∷ [] in
    let x = c.args.variable in
    let access = c.args.access in
    let n = c.args.access.event in
    let groups = c.args.self.now.opened.each.items in
    let mid = c.make_space.new.variables.items in
    let space = c.in_ok-make_space.ensures in
    let few : length c.args.self.now.log.entries.items ≤ 4294967295 = (let short = are.short.0 in let end = next.event_is in omega (arith, short, end, room)) in
    let entries = c.make_room.new.self.entries.items in
    let all = variables_space trace spots n entries groups c.make_room.new.variables.items mid space.more (c.in_ok-make_room.ensures.variables trace spots n groups few are.variables) in
    let at = slice_get_read mid (length mid) x c.index_mut-known.result.now refl space.wide c.index_mut-known.ensures.value in
    let was = all.each x c.index_mut-known.result.now at in
    let at_end = next.event_is in
    let time = time_next trace next.disciplined access.thread n c.below_next.result c.saturating_add-time.result next.own.thread_is (omega (arith, room, at_end))
    (subst (λ (m : ℕ). IsBelowPredCount (past ++ e ∷ []) c.args.access.thread m c.below_next.result) (sym next.event_is) (c.below_next.ensures past e next.thread_is next.disciplined next.streamed)) c.saturating_add-time.ensures in
    let screened = taken_next past e spots x c.args.clocks.now access next (record { time = c.saturating_add-time.result; thread = access.thread }) refl time c.index_mut-known.result.now.latest (λ k. IsScreened (past ++ e ∷ []) c.args.variable (k + 1) c.screen-known.result) (c.screen-known.ensures.screened past e x next.disciplined next.streamed) was.screened in
    let after = taken_next past e spots x c.args.clocks.now access next (record { time = c.saturating_add-time.result; thread = access.thread }) refl time c.index_mut-known.result.now.latest (λ k. IsAfterAll (past ++ e ∷ []) c.args.variable k c.screen-known.result) (c.screen-known.ensures.after past e x next.disciplined next.streamed) was.screened in
    let opened = c.in_ok-at.ensures.groups trace spots n was.accesses (let more = c.in_ok-at.ensures.long in let few = are.short.1 in omega (arith, more, few, at_end, room)) in
    let classes = c.in_ok-at.ensures.classes trace spots n was.accesses are.classes in
    let have = c.in_ok-since.ensures.groups trace spots opened (record { own = next.own; time_is = time; after = λ all. after (c.is_after_all.ensures.write all) (c.is_after_all.ensures.read all) }) in
    let since = c.in_ok-since.ensures.since trace spots opened classes in
    let each = c.take.new.self.each.items in
    let one = one_there each c.in_ok-at.at have.groups c.in-Some.groups.now have.there c.in-Some.ensures.value in
    let own = subst (λ (g : Groups). g.variable ≡ c.args.variable) one have.own in
    let low = slice_get_within each c.in_ok-at.at have.groups have.there in
    let by_variable = c.args.by_variable in
    let old = c.args.self.now.places.races.entries in
    let sites = c.in_ok-since.ensures.sites trace spots by_variable old opened (c.in_ok-at.ensures.sites by_variable old are.sites) in
    let offered = c.in_ok-offer_races.ensures.offered past e spots
    (subst (λ (y : ℕ). IsNextAccess past e spots y c.args.clocks.now c.args.access) (sym own) next)
    (subst (λ (y : ℕ). AreGroups (past ++ e ∷ []) spots y (c.args.access.event + 1) (c.args.access.event + 1) c.in-Some.groups.now.each.items) (sym own) (subst (λ (g : Groups). AreGroups (past ++ e ∷ []) spots c.args.variable (c.args.access.event + 1) (c.args.access.event + 1) g.each.items) one have.are))
    (subst (λ (y : ℕ). IsRun (past ++ e ∷ []) y c.args.access.event c.index_mut-known.result.now.run) (sym own) was.run)
    (subst (λ (y : ℕ). IsSince (past ++ e ∷ []) spots y c.args.access c.in_ok-since.since) (sym own) since)
    are.places
    (subst (λ (g : Groups). HaveSites c.args.by_variable g.variable c.args.self.now.places.races.entries g) one (sites c.in_ok-at.at have.groups have.there)) in
    record {
      classes = c.in_ok-since.ensures.classes trace spots opened (record { own = next.own; time_is = time; after = λ all. after (c.is_after_all.ensures.write all) (c.is_after_all.ensures.read all) }) classes;
      variables = variables_grouped trace spots n x access refl next.own mid c.in_ok-at.at c.after-known.result c.screen-known.result space.wide entries c.open.new.log.entries.items c.in_ok-at.ensures.log
          groups c.open.new.self.each.items (set each c.in_ok-at.at c.offer_races.new.groups) c.in_ok-at.ensures.others (λ at g other there. stay_groups trace spots x (n + 1) each c.in_ok-at.at c.offer_races.new.groups have at g other (c.in_ok-since.ensures.others trace spots opened at g other there)) all
          (record {
            groups = c.offer_races.new.groups;
            there = at_set each c.in_ok-at.at c.offer_races.new.groups low;
            own = c.in_ok-offer_races.ensures.own ∙ own;
            are = subst (λ (l : List Group). AreGroups (past ++ e ∷ []) spots c.args.variable (c.args.access.event + 1) (c.args.access.event + 1) l) (sym c.in_ok-offer_races.ensures.each)
                (subst (λ (g : Groups). AreGroups (past ++ e ∷ []) spots c.args.variable (c.args.access.event + 1) (c.args.access.event + 1) g.each.items) one have.are);
          })
          (c.after-known.ensures trace spots x next.own was.run) screened;
      short = ((let kept = ap (λ (l : List Entry). length l) c.in_ok-at.ensures.log in let less = c.in_ok-make_room.ensures.long in let short = are.short.0 in omega (arith, kept, less, short)), (let same = c.in_ok-since.ensures.long in let more = c.in_ok-at.ensures.long in let few = are.short.1 in let long = length-set each c.in_ok-at.at c.offer_races.new.groups in omega (arith, same, more, few, long)));
      places = offered.places;
      sites = sites_written by_variable c.offer_races.new.places.races.entries each c.in_ok-at.at c.offer_races.new.groups low (sites_all by_variable old c.offer_races.new.places.races.entries each offered.stay sites) offered.sites;
    }
