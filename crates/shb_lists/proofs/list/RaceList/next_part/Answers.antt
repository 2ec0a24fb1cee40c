use Rattle.std.proofs.Common.{List, subst, sym, ap, map, arith, ◌∙◌}
use Rattle.std.specs.Prelude.{slice_range}
use Rattle.shb_lines.specs.declared.event.Event.{Event}
use Rattle.shb_lists.specs.Found.{races_of}
use Rattle.shb_lists.specs.Given.{AreKnown, HasGiven, HasTurn}
use Rattle.shb_lists.specs.Listed.{pair_in}
use Rattle.shb_lists.specs.declared.by_event.ListedAccess.{ListedAccess}
use Rattle.shb_lists.specs.declared.list.Rest.{Rest}
use Rattle.shb_lists.proofs.GivenLemmas.{part_given, turn_found}
use Rattle.shb_lists.proofs.list.RaceList.next_part.Goals as goal

pub turn_from-requires-clause-known : goal.turn_from-requires-clause-known
turn_from-requires-clause-known g c =
    let trace = c.args.settled.now.disciplined.now.events.now in
    let has = subst (λ (r : Rest). HasGiven trace c.requires.0 c.requires.1 r) (sym c.in-From.ensures.value) c.requires.2 in
    (c.in-From.known.accesses, subst (λ (l : List ListedAccess). AreKnown trace c.in-From.known.accesses l) (sym c.as_slice-list.ensures.value) has.0)

pub find_part-requires-after_bounds : goal.find_part-requires-after_bounds
find_part-requires-after_bounds g c κs within =
    let trace = c.args.settled.now.disciplined.now.events.now in
    let has = subst (λ (r : Rest). HasGiven trace c.requires.0 c.requires.1 r) (sym c.in-From.ensures.value) c.requires.2 in
    let known = subst (λ (l : List ListedAccess). AreKnown trace c.in-From.known.accesses l) (sym c.as_slice-list.ensures.value) has.0 in
    (known.flags, known.numbers, turn_found trace c.in-From.known.accesses c.as_slice-list.result.now c.in-From.next c.part_end-to.result c.in_ok-turn-in-From.turn c.part_end-to.ensures.within known c.in_ok-turn-in-From.ensures.turn)

pub returns-in_ok-races-in-From-clause-next : goal.returns-in_ok-races-in-From-clause-next
returns-in_ok-races-in-From-clause-next g c races given has =
    let trace = c.args.settled.now.disciplined.now.events.now in
    let next = c.in-From.next in
    let to = c.part_end-to.result in
    let turn = c.in_ok-turn-in-From.turn in
    let asked = c.in_ok-turn-in-From.ensures.turn in
    let forward = c.part_end-to.ensures.more in
    let found = c.in_ok-races-in-From.ensures
    ∙ (ap (λ (t : List Event). races_of t (slice_range c.as_slice-list.result.now next to)) asked.of_trace ∙ ap (λ (l : List ListedAccess). races_of trace (slice_range l next to)) c.as_slice-list.ensures.value) in
    part_given trace races given c.in-From.known c.in-From.turn turn next to (map pair_in c.in_ok-races-in-From.races.items) (omega (arith, forward)) (subst (λ (r : Rest). HasGiven trace races given r) (sym c.in-From.ensures.value) has)
    (subst (λ (l : List ListedAccess). HasTurn trace l next turn) c.as_slice-list.ensures.value asked) found
