use Rattle.std.proofs.Common.{List, ℕ, ◌<◌, arith, ap, length, map, subst, sym, ◌∙◌}
use Rattle.std.specs.Prelude.{sum}
use Rattle.shb_format.specs.Places.{counts_in, places_of_pairs}
use Rattle.shb_format.specs.Report.{pair_of}
use Rattle.shb_counts.proofs.CountedLemmas.{below_sums, by_numbers, few_below, places_counted, room_below, sum_few, sum_is}
use Rattle.shb_counts.proofs.RaceLists.{list_is_below}
use Rattle.shb_counts.proofs.RaceOrder.{pairs_below}
use Rattle.shb_counts.proofs.counted.counted_races.Goals as goal

pub total-races-requires : goal.total-races-requires
total-races-requires g c =
    let trace = c.args.settled.now.disciplined.now in
    let flags = c.args.settled.now.flags.now in
    let numbers = c.in_ok-numbered.numbered.numbers.items in
    let accesses = c.in_ok-accesses.accesses in
    let counted = c.in_ok-counted.counted in
    let known = by_numbers trace.events.now flags numbers c.as_slice.result.now c.as_slice-2.result.now accesses counted c.as_slice.ensures.value c.as_slice-2.ensures.value c.in_ok-accesses.ensures c.in_ok-counted.ensures.counted in
    subst (λ (ns : List ℕ). sum ns < 18446744073709551616) (sym c.as_slice-3.ensures.value)
    (sum_few trace.events.now trace.sizes flags numbers accesses counted trace.within c.args.settled.now.settled known.0 known.1 (omega (arith, trace.few)))

pub joined-requires : goal.joined-requires
joined-requires g c =
    let trace = c.args.settled.now.disciplined.now in
    let flags = c.args.settled.now.flags.now in
    let numbers = c.in_ok-numbered.numbered.numbers.items in
    let accesses = c.in_ok-accesses.accesses in
    let counted = c.in_ok-counted.counted in
    let known = by_numbers trace.events.now flags numbers c.as_slice.result.now c.as_slice-2.result.now accesses counted c.as_slice.ensures.value c.as_slice-2.ensures.value c.in_ok-accesses.ensures c.in_ok-counted.ensures.counted in (
      trace.events.now,
      numbers,
      pairs_below trace.events.now trace.sizes.variables,
      below_sums trace.events.now trace.sizes flags numbers accesses counted trace.within c.args.settled.now.settled known.0 known.1,
      room_below trace.events.now trace.sizes.variables (few_below trace.events.now trace.sizes flags numbers accesses counted trace.within c.args.settled.now.settled known.0 known.1 (omega (arith, trace.few))),
    )

pub returns-clause-known : goal.returns-clause-known
returns-clause-known g c =
    let trace = c.args.settled.now.disciplined.now in
    let flags = c.args.settled.now.flags.now in
    let numbers = c.in_ok-numbered.numbered.numbers.items in
    let accesses = c.in_ok-accesses.accesses in
    let counted = c.in_ok-counted.counted in
    let known = by_numbers trace.events.now flags numbers c.as_slice.result.now c.as_slice-2.result.now accesses counted c.as_slice.ensures.value c.as_slice-2.ensures.value c.in_ok-accesses.ensures c.in_ok-counted.ensures.counted in
    (numbers, known.0, known.1.races)

pub returns-clause-races : goal.returns-clause-races
returns-clause-races g c listed lists =
    let trace = c.args.settled.now.disciplined.now in
    let flags = c.args.settled.now.flags.now in
    let numbers = c.in_ok-numbered.numbered.numbers.items in
    let accesses = c.in_ok-accesses.accesses in
    let counted = c.in_ok-counted.counted in
    let known = by_numbers trace.events.now flags numbers c.as_slice.result.now c.as_slice-2.result.now accesses counted c.as_slice.ensures.value c.as_slice-2.ensures.value c.in_ok-accesses.ensures c.in_ok-counted.ensures.counted in
    c.total-races.ensures ∙ (ap sum c.as_slice-3.ensures.value ∙ (sum_is trace.events.now trace.sizes flags numbers accesses counted trace.within c.args.settled.now.settled known.0 known.1
    ∙ ap length (sym (list_is_below trace.events.now trace.sizes listed trace.within trace.numbered lists))))

pub returns-clause-places : goal.returns-clause-places
returns-clause-places g c listed lists =
    let trace = c.args.settled.now.disciplined.now in
    let flags = c.args.settled.now.flags.now in
    let numbers = c.in_ok-numbered.numbered.numbers.items in
    let accesses = c.in_ok-accesses.accesses in
    let counted = c.in_ok-counted.counted in
    let known = by_numbers trace.events.now flags numbers c.as_slice.result.now c.as_slice-2.result.now accesses counted c.as_slice.ensures.value c.as_slice-2.ensures.value c.in_ok-accesses.ensures c.in_ok-counted.ensures.counted in
    let found = c.in_ok-places.ensures trace.events.now numbers (pairs_below trace.events.now trace.sizes.variables) (below_sums trace.events.now trace.sizes flags numbers accesses counted trace.within c.args.settled.now.settled known.0 known.1) in
    places_counted trace.trace.now trace.events.now flags numbers c.in_ok-numbered.numbered.locations trace.sizes.variables c.in_ok-places.places trace.of_trace c.args.settled.now.settled c.in_ok-numbered.ensures c.are_different.ensures found
    ∙ ap (λ (l : List (ℕ × ℕ)). counts_in (places_of_pairs trace.trace.now (map pair_of l))) (sym (list_is_below trace.events.now trace.sizes listed trace.within trace.numbered lists))
