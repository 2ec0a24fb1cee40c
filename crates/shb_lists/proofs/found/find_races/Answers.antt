use Rattle.std.proofs.Common.{◌≡◌, ◌++◌, ℕ, List, map, take, arith, false, subst, sym, ap, get_or, ◌∙◌}
use Rattle.std.proofs.lemmas.List.{take_more}
use Rattle.shb_stamps.specs.Listed.{ListedTrace}
use Rattle.shb_lines.specs.events.Reach.{is_race, numbers_where}
use Rattle.shb_lists.specs.Found.{races_of}
use Rattle.shb_lists.specs.Listed.{pair_in, race_of}
use Rattle.shb_lists.specs.declared.by_event.ListedAccess.{ListedAccess}
use Rattle.shb_lists.proofs.FoundLemmas.{races_next}
use Rattle.shb_lists.proofs.found.find_races.Goals as goal

pub loop-access-preserved : goal.loop-access-preserved
loop-access-preserved c =
    let trace = c.args.order.now.trace in
    let list = c.args.list.now in
    let k = c.loop-access.access-index in
    let d : ListedAccess = record { variable = 0; event = 0; thread = 0; location = 0; races = 0; writes = false } in
    let access = get_or list k d in
    let kept = c.loop-access.invariant in
    let found = subst (λ (o : ListedTrace). c.find_firsts.new.found.items ≡ numbers_where (λ i. is_race o.trace i access.event) access.event) kept.order c.in_ok-find_firsts.ensures.found in
    let more = c.in_ok-add_races.ensures ∙ ap (λ (ks : List ℕ). c.loop-access.races.items ++ map (λ i. race_of access.variable access.event i) ks) c.as_slice.ensures.value in
    record {
      order = c.in_ok-find_firsts.ensures.order ∙ kept.order;
      races = subst (λ (l : List ListedAccess). map pair_in c.add_races.new.races.items ≡ races_of trace l) (sym (take_more list k d (omega arith)))
          (races_next trace (take k list) access c.loop-access.races.items c.add_races.new.races.items c.find_firsts.new.found.items kept.races found more);
    }
