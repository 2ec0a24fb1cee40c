use Rattle.std.proofs.Common.{◌∙◌}
use Rattle.shb_lists.proofs.ByEventLemmas.{sorted_listed}
use Rattle.shb_lists.proofs.by_event.accesses_by_event.Goals as goal

pub returns : goal.returns
returns c trace flags numbers variables are known within =
    let made = c.in_ok-listed.listed.items in
    sorted_listed trace flags numbers variables c.args.accesses.now are within made c.sort_unstable.new.self.items c.args.races.now (c.in_ok-listed.ensures.accesses ∙ c.as_slice.ensures.value) c.in_ok-listed.ensures.races known c.sort_unstable.ensures.permutation c.sort_unstable.ensures.sorted
