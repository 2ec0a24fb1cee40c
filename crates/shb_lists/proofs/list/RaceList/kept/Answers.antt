use Rattle.std.proofs.Common.{◌∙◌, ap, map}
use Rattle.shb_lines.specs.events.Race.{ends}
use Rattle.shb_lists.specs.Listed.{pair_in}
use Rattle.shb_lists.proofs.GivenLemmas.{pairs_of_trace}
use Rattle.shb_lists.proofs.list.RaceList.kept.Goals as goal

pub places_of-requires : goal.places_of-requires
places_of-requires g c =
    let trace = c.args.settled.now.disciplined.now in
    pairs_of_trace trace.trace.now trace.events.now c.deref-2.result.now (map pair_in c.args.races.items) trace.of_trace (ap (map ends) c.deref-2.ensures.value ∙ (c.in_ok-pairs.ensures.ends ∙ ap (map pair_in) c.deref.ensures.value)) c.requires
