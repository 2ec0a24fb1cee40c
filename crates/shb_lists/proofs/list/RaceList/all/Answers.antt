use Rattle.std.proofs.Common.{◌∙◌, List, ap, refl, subst}
use Rattle.std.specs.Prelude.{IfSome}
use Rattle.shb_lists.specs.Found.{races_of}
use Rattle.shb_lists.specs.Given.{HasTurn, racing}
use Rattle.shb_lists.specs.declared.by_event.ListedAccess.{ListedAccess}
use Rattle.shb_lists.proofs.GivenLemmas.{all_known, all_listed, may_ask, races_of_list, variables_within}
use Rattle.shb_lists.proofs.list.RaceList.all.Goals as goal

pub returns : goal.returns
returns g c =
    let settled = c.args.settled.now in
    let trace = settled.disciplined.now in
    let events = trace.events.now in
    let counted = c.in_ok-races.field-0 in
    let known = c.in_ok-races.ensures.known in
    let by_event = c.in_ok-by_event.by_event.items in
    let list = c.in_ok-list.list.items in
    let are = c.in_ok-by_event.ensures events settled.flags.now known.0 trace.sizes.variables known.1 (c.as_slice.ensures.value ∙ known.2) (variables_within events trace.sizes trace.within) in
    let some = c.in_ok-list.ensures ∙ ap racing c.as_slice-2.ensures.value in
    let turn = c.whole_turn-turn.ensures events (may_ask events settled.flags.now known.0 trace.sizes.variables counted.accesses by_event c.as_slice-3.result.now counted.order known.1
    (variables_within events trace.sizes trace.within) are (c.as_slice-3.ensures.value ∙ some) c.in_ok-races.ensures.order) in
    let races = races_of events list in
    let lists = all_listed events trace.sizes settled.flags.now known.0 by_event list trace.within trace.numbered settled.settled are some in (
      races,
      lists,
      record {
        count = c.in_ok-races.ensures.races races lists;
        places = c.in_ok-races.ensures.places races lists;
        are_races = races_of_list events races lists;
        none_given = (
          all_known events settled.flags.now known.0 counted.accesses by_event list known.1 are.each some,
          refl,
          refl,
          subst (λ (l : List ListedAccess). IfSome c.whole_turn-turn.result (HasTurn events l 0)) c.as_slice-3.ensures.value turn,
        );
      },
    )
