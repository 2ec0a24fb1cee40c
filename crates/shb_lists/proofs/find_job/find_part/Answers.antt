use Rattle.std.proofs.Common.{Vec, Global, ap, flat_map, map, ◌∙◌}
use Rattle.std.proofs.lemmas.Result.{IfOk-weaker}
use Rattle.shb_lists.specs.Listed.{pair_in}
use Rattle.shb_lists.specs.declared.listed.ListedRace.{ListedRace}
use Rattle.shb_lists.proofs.FoundLemmas.{parts_found}
use Rattle.shb_lists.proofs.find_job.find_part.Goals as goal

pub returns : goal.returns
returns g c =
    let parts = c.in_ok-found.found.items in
    IfOk-weaker c.joined.result _ _
    (λ races is. is ∙ (ap (flat_map (λ (part : Vec ListedRace Global). map pair_in part.items)) c.as_slice.ensures.value
    ∙ parts_found c.new-job.result c.args.search.now.order.now.trace c.args.list.now parts c.new-job.ensures.trace c.new-job.ensures.list c.new-job.ensures.all c.in_ok-found.ensures))
    c.joined.ensures
