use Rattle.std.proofs.Common.{◌<◌, length}
use Rattle.shb_stamps.proofs.ListedLemmas.{all_found}
use Rattle.shb_stamps.proofs.listed_rows.at_events.Goals as goal

pub listed_rows-requires-clause-of_trace : goal.listed_rows-requires-clause-of_trace
listed_rows-requires-clause-of_trace c = all_found (λ e. e < length c.args.linked.events.now) c.args.events.now c.in_ok-events.events.items c.as_slice.result.now c.as_slice.ensures.value (λ e. (c.in_ok-events.ensures.same e).0) c.requires
